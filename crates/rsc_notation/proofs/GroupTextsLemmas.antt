-- What the text of a list of patterns is read as.
use Rattle.std.proofs.Common.{rules, tests, Bor, ◌≡◌, ◌==◌, map, ℕ, zero, suc, ◌+◌, ◌<◌, ◌≤◌, length, true, List, [], ◌∷◌, ◌++◌, get_or, take, take_all, refl, sym, ap, ◌∙◌, arith}
use Rattle.std.specs.Prelude.{Option, Some, None}
use Rattle.std.specs.List.{list_all, slice_split}
use Rattle.std.specs.Option.{option_map}
use Rattle.std.specs.Str.{IsUtf8}
use Rattle.std.proofs.lemmas.Str.{IsUtf8-from_ascii}
use Rattle.std.proofs.lemmas.Bool.{and_parts}
use Rattle.std.proofs.lemmas.List.{map_more, map-append}
use Rattle.rsc_primitives.specs.Utf8.{is_word_byte}
use Rattle.rsc_notation.specs.GroupTexts.{all_there, group_of, groups_in_text, patterns_in_text}

word_byte_is_ascii : (b : ℕ) → is_word_byte b ≡ true → b < 128
word_byte_is_ascii b e = search (rules, tests)

word_bytes_are_ascii : (bs : List ℕ) → list_all is_word_byte bs ≡ true → (i : ℕ) → get_or bs i 0 < 128
word_bytes_are_ascii [] e i = omega arith
word_bytes_are_ascii (b ∷ bs) e zero = word_byte_is_ascii b (and_parts _ _ e).0
word_bytes_are_ascii (b ∷ bs) e (suc i) = word_bytes_are_ascii bs (and_parts _ _ e).1 i

-- a name is UTF-8
pub IsUtf8-from_word_bytes : (bs : List ℕ) → list_all is_word_byte bs ≡ true → IsUtf8 bs
IsUtf8-from_word_bytes bs e = IsUtf8-from_ascii bs (word_bytes_are_ascii bs e)

map_now : {X : Type 0} (f : List ℕ → X) (parts : List (Bor (List ℕ))) → map (λ part. f part.now) parts ≡ map f (map (λ part. part.now) parts)
map_now f [] = refl
map_now f (part ∷ parts) = ap (λ xs. f part.now ∷ xs) (map_now f parts)

module _ {X : Type 0} where
  none_after : (o : Option X) (xs : List (Option X)) → None ≡ all_there xs → None ≡ all_there (o ∷ xs)
  none_after None xs e = refl
  none_after (Some x) xs e = ap (option_map (λ ys. x ∷ ys)) e

  cons_and_snoc : (x y : X) (o : Option (List X)) → option_map (λ xs. x ∷ xs) (option_map (λ xs. xs ++ y ∷ []) o)
      ≡ option_map (λ xs. xs ++ y ∷ []) (option_map (λ xs. x ∷ xs) o)
  cons_and_snoc x y None = refl
  cons_and_snoc x y (Some xs) = refl

  all_there-append : (xs : List (Option X)) (y : X) → all_there (xs ++ Some y ∷ []) ≡ option_map (λ ys. ys ++ y ∷ []) (all_there xs)
  all_there-append [] y = refl
  all_there-append (None ∷ xs) y = refl
  all_there-append (Some x ∷ xs) y = ap (option_map (λ ys. x ∷ ys)) (all_there-append xs y) ∙ cons_and_snoc x y (all_there xs)

module _ {E X : Type 0} (f : E → Option X) where
  -- a text that can't be read
  pub all_there-none : (xs : List E) (k : ℕ) (d : E) → k < length xs → None ≡ f (get_or xs k d) → None ≡ all_there (map f xs)
  all_there-none [] k d l e = absurd (omega arith)
  all_there-none (x ∷ xs) zero d l e = ap (λ o. all_there (o ∷ map f xs)) e
  all_there-none (x ∷ xs) (suc k) d l e = none_after (f x) (map f xs) (all_there-none xs k d (omega arith) e)

module _ {E X Y : Type 0} (f : E → Option X) (v : Y → X) where
  -- one more text is read
  pub all_there-one : (xs : List E) (k : ℕ) (d : E) (ys : List Y) (y : Y) → k < length xs
      → all_there (map f (take k xs)) ≡ Some (map v ys) → Some (v y) ≡ f (get_or xs k d)
      → all_there (map f (take (k + 1) xs)) ≡ Some (map v (ys ++ y ∷ []))
  all_there-one xs k d ys y l e h =
      ap all_there (map_more f xs k d l ∙ ap (λ o. map f (take k xs) ++ o ∷ []) (sym h)) ∙ all_there-append (map f (take k xs)) (v y)
      ∙ ap (option_map (λ zs. zs ++ v y ∷ [])) e ∙ ap Some (sym (map-append v ys (y ∷ [])))

  -- all texts are read
  pub all_there-all : (xs : List E) (k : ℕ) (ys : List Y) → length xs ≤ k → all_there (map f (take k xs)) ≡ Some (map v ys)
      → Some (map v ys) ≡ all_there (map f xs)
  all_there-all xs k ys l e = sym e ∙ ap (λ zs. all_there (map f zs)) (take_all k xs l)

-- a text that isn't empty is cut at the commas
pub groups_in_text-some : (bytes : List ℕ) (parts : List (Bor (List ℕ))) → 0 < length bytes
    → map (λ part. part.now) parts ≡ slice_split (λ c. c == 44) bytes → all_there (map (λ part. group_of part.now) parts) ≡ groups_in_text bytes
groups_in_text-some [] parts l e = absurd (omega arith)
groups_in_text-some (b ∷ bytes) parts l e = ap all_there (map_now group_of parts ∙ ap (map group_of) e)

-- the text of a list of patterns is cut at the semicolons
pub patterns_in_text-parts : (text : List ℕ) (parts : List (Bor (List ℕ))) → map (λ part. part.now) parts ≡ slice_split (λ c. c == 59) text
    → all_there (map (λ part. groups_in_text part.now) parts) ≡ patterns_in_text text
patterns_in_text-parts text parts e = ap all_there (map_now groups_in_text parts ∙ ap (map groups_in_text) e)
