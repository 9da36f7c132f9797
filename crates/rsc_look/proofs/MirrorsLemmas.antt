-- An assertion at a position is the reversed one at the same position of the mirror.
use Rattle.std.proofs.Common.{◌≡◌, ◌↔◌, ℕ, zero, suc, ◌+◌, ◌-◌, ◌<◌, ◌≤◌, Bool, true, false, not, ◌&&◌, cond, List, [], ◌∷◌, length, take, get_or, map, reverse, Option, Some, None, is_none, refl, sym, ap, ◌∙◌, arith, ⊎_elim, true≢false, slice_get, IsTrue, option_map}
use mathlib.Core.List.{reverse_aux}
use lib.Utf8.{scalar}
use Rattle.std.specs.Str.{encode_utf8_all, all_scalars}
use Rattle.std.proofs.lemmas.Bool.Decides.{nat_tests}
use Rattle.std.proofs.lemmas.List.{get_or-reverse, length-reverse, take_all}
use Rattle.std.proofs.lemmas.Option.{slice_get-get_or, slice_get_past, slice_get-map}
use Rattle.std.proofs.Math.Bool.{and_comm}
use Rattle.std.proofs.lemmas.Bool.{and_parts, cases_lt}
use Rattle.rsc_look.proofs.Prelude.{EncodesAll-std, position, BeginsAt-position, EndsAt-position, Look, Start, StartCRLF, EndCRLF, WordAscii, WordAsciiNegate, WordUnicode, WordUnicodeNegate, Side, Absent, WordCharacter, Other, byte_before, byte_after, is_byte, is_word_neighbor, exactly_one, holds_at_bytes, holds_at_sides, is_invalid, is_word_side, IsBefore, IsAfter, Holds, is_unicode, reversed, is_crlf, exchanged, mirror, EndsFirst, IsTextMirrored}
use Rattle.rsc_look.proofs.HoldsLemmas.{Holds-bytes, Holds-sides, at_sides, side_is, side_is_after}

-- ---- neighbours in a list read from the other end

slice_get-reverse : (h : List ℕ) (k j : ℕ) → k + j + 1 ≡ length h → slice_get (reverse h) k ≡ slice_get h j
slice_get-reverse h k j e =
    let i : length h - 1 - k ≡ j = omega arith in
    slice_get-get_or (reverse h) k 0 (omega (arith, length-reverse h)) ∙ ap Some (get_or-reverse h k 0 (omega arith) ∙ ap (λ x. get_or h x 0) i)
    ∙ sym (slice_get-get_or h j 0 (omega arith))

pub before-reverse : (h : List ℕ) (i m : ℕ) → m + i ≡ length h → byte_before (reverse h) m ≡ byte_after h i
before-reverse h i zero e = sym (slice_get_past h i (omega arith))
before-reverse h i (suc m) e = slice_get-reverse h m i (omega arith)

pub after-reverse : (h : List ℕ) (i m : ℕ) → m + i ≡ length h → byte_after (reverse h) m ≡ byte_before h i
after-reverse h zero m e = slice_get_past (reverse h) m (let n = length-reverse h in omega arith)
after-reverse h (suc i) m e = slice_get-reverse h m i (omega arith)

before-map : (h : List ℕ) (m : ℕ) → byte_before (map exchanged h) m ≡ option_map exchanged (byte_before h m)
before-map h zero = refl
before-map h (suc m) = slice_get-map exchanged h m

-- ---- the tables

exactly_one_comm : (x y : Bool) → exactly_one x y ≡ exactly_one y x
exactly_one_comm true true = refl
exactly_one_comm false true = refl
exactly_one_comm _ _ = refl

is_none-map : (o : Option ℕ) → is_none (option_map exchanged o) ≡ is_none o
is_none-map None = refl
is_none-map (Some x) = refl

is_cr-map : (o : Option ℕ) → is_byte 13 (option_map exchanged o) ≡ is_byte 10 o
is_cr-map None = refl
is_cr-map (Some x) = grind (arith, nat_tests)

is_lf-map : (o : Option ℕ) → is_byte 10 (option_map exchanged o) ≡ is_byte 13 o
is_lf-map None = refl
is_lf-map (Some x) = grind (arith, nat_tests)

bytes_reversed : (l : Look) (t : ℕ) (p n : Option ℕ) → is_crlf l ≡ false → holds_at_bytes (reversed l) t n p ≡ holds_at_bytes l t p n
bytes_reversed StartCRLF t p n e = absurd (true≢false e)
bytes_reversed EndCRLF t p n e = absurd (true≢false e)
bytes_reversed WordAscii t p n e = exactly_one_comm (is_word_neighbor n) (is_word_neighbor p)
bytes_reversed WordAsciiNegate t p n e = ap not (exactly_one_comm (is_word_neighbor n) (is_word_neighbor p))
bytes_reversed _ t p n e = refl

crlf_reversed : (l : Look) (t : ℕ) (p n : Option ℕ) → is_crlf l ≡ true
    → holds_at_bytes (reversed l) t (option_map exchanged n) (option_map exchanged p) ≡ holds_at_bytes l t p n
crlf_reversed StartCRLF t p n e = let a = is_none-map p in let b = is_cr-map p in let d = is_lf-map p in let f = is_cr-map n in rw (a, b, d, f)
crlf_reversed EndCRLF t p n e = let a = is_none-map n in let b = is_cr-map n in let d = is_lf-map n in let f = is_lf-map p in rw (a, b, d, f)
crlf_reversed _ t p n e = absurd (true≢false (sym e))

is_unicode-reversed : (l : Look) → is_unicode (reversed l) ≡ is_unicode l
is_unicode-reversed Start = refl
is_unicode-reversed _ = refl

negate_comm : (x y u v : Bool) → (not x && not y && not (exactly_one u v)) ≡ (not y && not x && not (exactly_one v u))
negate_comm x y u v = rw (and_comm (not x) (not y), exactly_one_comm u v)

sides_reversed : (l : Look) (a b : Side) → holds_at_sides (reversed l) b a ≡ holds_at_sides l a b
sides_reversed WordUnicode a b = exactly_one_comm (is_word_side b) (is_word_side a)
sides_reversed WordUnicodeNegate a b = negate_comm (is_invalid b) (is_invalid a) (is_word_side b) (is_word_side a)
sides_reversed _ a b = refl

-- ---- the assertions on bytes

same_tests : (A B : Type 0) (x y : Bool) → A ↔ IsTrue x → B ↔ IsTrue y → x ≡ y → A ↔ B
same_tests A B x y f g e = ((λ a. g.1 (sym e ∙ f.0 a)), (λ b. f.1 (e ∙ g.0 b)))

bytes_mirrored : (l : Look) (t : ℕ) (h : List ℕ) (i : ℕ) → i ≤ length h
    → holds_at_bytes l t (byte_before h i) (byte_after h i) ≡ holds_at_bytes (reversed l) t (byte_before (mirror l h) (length h - i))
    (byte_after (mirror l h) (length h - i))
bytes_mirrored l t h i o = go (is_crlf l) refl
  where
    e : (length h - i) + i ≡ length h
    e = omega arith

    go : (x : Bool) → is_crlf l ≡ x → holds_at_bytes l t (byte_before h i) (byte_after h i) ≡ holds_at_bytes (reversed l) t
        (byte_before (cond x (map exchanged (reverse h)) (reverse h)) (length h - i))
        (byte_after (cond x (map exchanged (reverse h)) (reverse h)) (length h - i))
    go true c =
        let p = before-map (reverse h) (length h - i) ∙ ap (option_map exchanged) (before-reverse h i (length h - i) e) in
        let q = slice_get-map exchanged (reverse h) (length h - i) ∙ ap (option_map exchanged) (after-reverse h i (length h - i) e) in
        rw (p, q) (sym (crlf_reversed l t (byte_before h i) (byte_after h i) c))
    go false c =
        let p = before-reverse h i (length h - i) e in
        let q = after-reverse h i (length h - i) e in
        rw (p, q) (sym (bytes_reversed l t (byte_before h i) (byte_after h i) c))

pub Holds-mirror : (l : Look) (t : ℕ) (chars : ℕ → Bool) (h : List ℕ) (i : ℕ) → is_unicode l ≡ false → i ≤ length h → Holds l t chars h i
    ↔ Holds (reversed l) t chars (mirror l h) (length h - i)
Holds-mirror l t chars h i u o = same_tests _ _ _ _ (Holds-bytes l t chars h i u)
    (Holds-bytes (reversed l) t chars (mirror l h) (length h - i) (is_unicode-reversed l ∙ u)) (bytes_mirrored l t h i o)

-- ---- the assertions on characters, at the positions of a text

side_by : (ℕ → Bool) → Option ℕ → Side
side_by chars None = Absent
side_by chars (Some c) = cond (chars c) WordCharacter Other

before_position : (chars : ℕ → Bool) (cs : List ℕ) (k : ℕ) → all_scalars cs ≡ true → k ≤ length cs
    → IsBefore chars (encode_utf8_all cs) (position cs k) (side_by chars (byte_before cs k))
unfolding side_by
before_position chars cs zero s l = refl
before_position chars cs (suc k) s l = rw (slice_get-get_or cs k 0 l) (side_is chars (encode_utf8_all cs) (position cs (suc k)) _ (EndsAt-position cs k s l))

after_position : (chars : ℕ → Bool) (cs : List ℕ) (k : ℕ) → all_scalars cs ≡ true → k ≤ length cs
    → IsAfter chars (encode_utf8_all cs) (position cs k) (side_by chars (byte_after cs k))
unfolding side_by
after_position chars cs k s l =
    ⊎_elim
    (λ (i : k < length cs).
    rw (slice_get-get_or cs k 0 i) (side_is_after chars (encode_utf8_all cs) (position cs k) _ (BeginsAt-position cs k s i)))
    (λ (i : length cs ≤ k). rw (slice_get_past cs k i) (ap (λ (x : List ℕ). length (encode_utf8_all x)) (take_all k cs i)))
    (cases_lt k (length cs))

Holds-position : (l : Look) (t : ℕ) (chars : ℕ → Bool) (cs : List ℕ) (k : ℕ) → is_unicode l ≡ true → all_scalars cs ≡ true → k ≤ length cs
    → Holds l t chars (encode_utf8_all cs) (position cs k) ↔ IsTrue (holds_at_sides l (side_by chars (byte_before cs k)) (side_by chars (byte_after cs k)))
Holds-position l t chars cs k u s o =
    let h = Holds-sides l t chars (encode_utf8_all cs) (position cs k) u in
    let a = at_sides l chars (encode_utf8_all cs) (position cs k) _ _ (before_position chars cs k s o) (after_position chars cs k s o) in
    ((λ x. a.1 (h.0 x)), (λ x. h.1 (a.0 x)))

scalars_reversed : (xs ys : List ℕ) → all_scalars xs ≡ true → all_scalars ys ≡ true → all_scalars (reverse_aux xs ys) ≡ true
scalars_reversed [] ys p q = q
scalars_reversed (x ∷ xs) ys p q = let b = and_parts (scalar x) (all_scalars xs) p in let e = b.0 in scalars_reversed xs (x ∷ ys) b.1 (rw (e, q))

-- the answer of `matches`, and the mirrors
pub matches_mirror : (l : Look) (t : ℕ) (chars : ℕ → Bool) (h : List ℕ) (i : ℕ) (r : Bool) → i ≤ length h → IsTrue r ↔ Holds l t chars h i
    → is_unicode l ≡ false → IsTrue r ↔ Holds (reversed l) t chars (mirror l h) (length h - i)
matches_mirror l t chars h i r o e u = let m = Holds-mirror l t chars h i u o in ((λ x. m.0 (e.0 x)), (λ x. e.1 (m.1 x)))

pub Holds-text_mirror : (l : Look) (t : ℕ) (chars : ℕ → Bool) (cs : List ℕ) (k : ℕ) → is_unicode l ≡ true → all_scalars cs ≡ true
    → k ≤ length cs
    → Holds l t chars (encode_utf8_all cs) (position cs k)
    ↔ Holds (reversed l) t chars (encode_utf8_all (reverse cs)) (position (reverse cs) (length cs - k))
Holds-text_mirror l t chars cs k u s o =
    let r = scalars_reversed cs [] s refl in
    let n = length-reverse cs in
    let e : (length cs - k) + k ≡ length cs = omega arith in
    let p = before-reverse cs k (length cs - k) e in
    let q = after-reverse cs k (length cs - k) e in
    let i : length cs - k ≤ length (reverse cs) = omega arith in
    let m = Holds-position (reversed l) t chars (reverse cs) (length cs - k) (is_unicode-reversed l ∙ u) r i in
    same_tests _ _ _ _ (Holds-position l t chars cs k u s o) m
    (rw (p, q) (sym (sides_reversed l (side_by chars (byte_before cs k)) (side_by chars (byte_after cs k)))))

-- by the encodings
ends_first : (h : List ℕ) (i : ℕ) (cs : List ℕ) (k : ℕ) → EndsFirst h i cs k → (all_scalars cs ≡ true) × (h ≡ encode_utf8_all cs)
    × (i ≡ position cs k)
ends_first h i cs k e =
    let whole = (EncodesAll-std h cs).0 e.text in
    let front = (EncodesAll-std e.front (take k cs)).0 e.front_text in
    (whole.0, whole.1, e.front_length ∙ ap (λ (x : List ℕ). length x) front.1)

-- the answer of `matches` in the mirrored text
pub matches_text_mirror : (l : Look) (t : ℕ) (chars : ℕ → Bool) (h : List ℕ) (i : ℕ) (r : Bool) → IsTrue r ↔ Holds l t chars h i
    → is_unicode l ≡ true
    → IsTextMirrored l t chars h i (IsTrue r)
matches_text_mirror l t chars h i r e u cs k m j s o =
    let here = ends_first h i cs k s in
    let there = ends_first m j (reverse cs) (length cs - k) o in
    let d = rw (here.1, here.2) at e in
    let q = Holds-text_mirror l t chars cs k u here.0 s.within in
    rw (there.1, there.2) ((λ x. q.0 (d.0 x)), (λ x. d.1 (q.1 x)))
