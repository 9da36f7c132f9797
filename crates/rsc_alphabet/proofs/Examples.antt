-- The definitions, computed on examples.
use Rattle.std.proofs.Common.{◌≡◌, ℕ, Bool, true, false, List, [], ◌∷◌, map, refl, ◌∙◌, ◌&&◌, ◌||◌, ◌+◌, ◌-◌, not, nat_eq, filter, ap₂}
use Rattle.std.specs.List.{list_any, zip}
use Rattle.std.specs.FinSet as sets
use Rattle.std.specs.FinSet.{contains-from_list_nat}
use Rattle.std.specs.declared.ops.Bound.TheVariants.{Included, Excluded, Unbounded}
use Rattle.rsc_alphabet.specs.Bytes.{from_to, bytes}
use Rattle.rsc_alphabet.proofs.Prelude.{filter_same, Numbers, members, begins_run, ends_run, runs, class_of, boundaries_of_range, are_alike, has_boundary, byte, end_of_input, elements_of, symbols, representatives_of}

-- the range a-z, and the ranges 0-2 and 4-6
letters : List (ℕ × ℕ)
letters = (0x61, 0x7A) ∷ []

digits : List (ℕ × ℕ)
digits = (0, 2) ∷ (4, 6) ∷ []

classes_of_letters : map (class_of (has_boundary letters)) (0 ∷ 0x60 ∷ 0x61 ∷ 0x6D ∷ 0x7A ∷ 0x7B ∷ 255 ∷ []) ≡ 0 ∷ 0 ∷ 1 ∷ 1 ∷ 1
    ∷ 2 ∷
    2 ∷ []
unfolding letters from_to
classes_of_letters = refl

classes_of_digits : map (class_of (has_boundary digits)) (0 ∷ 2 ∷ 3 ∷ 4 ∷ 6 ∷ 7 ∷ 255 ∷ []) ≡ 0 ∷ 0 ∷ 1 ∷ 2 ∷ 2 ∷ 3 ∷ 3 ∷ []
unfolding digits from_to
classes_of_digits = refl

alike_in_letters : are_alike letters 0x61 0x7A ≡ true
unfolding letters from_to
alike_in_letters = refl

-- two bytes on either side of a range aren't alike for it
not_alike_across : are_alike letters 0x60 0x7B ≡ false
unfolding letters from_to
not_alike_across = refl

-- the first byte has no byte before it, and the last none after it
boundaries_of_all : (k : ℕ) → sets.contains (boundaries_of_range (0, 255)) k ≡ false
boundaries_of_all k = contains-from_list_nat [] k

boundaries_of_letters : (k : ℕ) → sets.contains (boundaries_of_range (0x61, 0x7A)) k ≡ list_any (λ e. nat_eq e k) (0x60 ∷ 0x7A ∷ [])
boundaries_of_letters k = contains-from_list_nat (0x60 ∷ 0x7A ∷ []) k

-- ---- the set of 0, 7F, 80 and FF, added in another order

some : Numbers
some = sets.from_list (0x80 ∷ 0xFF ∷ 0 ∷ 0x7F ∷ [])

is_some : ℕ → Bool
is_some b = list_any (λ k. nat_eq k b) (0x80 ∷ 0xFF ∷ 0 ∷ 0x7F ∷ [])

contains-some : (b : ℕ) → sets.contains some b ≡ is_some b
unfolding some is_some
contains-some b = contains-from_list_nat (0x80 ∷ 0xFF ∷ 0 ∷ 0x7F ∷ []) b

some_computed : filter is_some bytes ≡ 0 ∷ 0x7F ∷ 0x80 ∷ 0xFF ∷ []
unfolding is_some from_to
some_computed = refl

members_of_some : members some ≡ 0 ∷ 0x7F ∷ 0x80 ∷ 0xFF ∷ []
members_of_some = filter_same (sets.contains some) is_some 0 256 (λ k l h. contains-some k) ∙ some_computed

begin_in_some : ℕ → Bool
begin_in_some b = is_some b && (nat_eq b 0 || not (is_some (b - 1)))

end_in_some : ℕ → Bool
end_in_some b = is_some b && (nat_eq b 255 || not (is_some (b + 1)))

runs_computed : zip (filter begin_in_some bytes) (filter end_in_some bytes) ≡ (0, 0) ∷ (0x7F, 0x80) ∷ (0xFF, 0xFF) ∷ []
unfolding is_some begin_in_some end_in_some from_to
runs_computed = refl

runs_of_some : runs some ≡ (0, 0) ∷ (0x7F, 0x80) ∷ (0xFF, 0xFF) ∷ []
unfolding begin_in_some end_in_some
runs_of_some =
    ap₂ (λ t u. zip t u)
    (filter_same (begins_run some) begin_in_some 0 256 (λ k l h. rw (contains-some k, contains-some (k - 1)) refl))
    (filter_same (ends_run some) end_in_some 0 256 (λ k l h. rw (contains-some k, contains-some (k + 1)) refl)) ∙ runs_computed

-- ---- the iterators of the map that gives 0 the class 7, and every other byte the class 0

one_seven : List ℕ
one_seven = 7 ∷ map (λ b. 0) (from_to 1 256)

symbols_of_one_seven : symbols one_seven ≡ byte 0 ∷ end_of_input 1 ∷ []
unfolding one_seven from_to
symbols_of_one_seven = refl

elements_of_one_seven : elements_of one_seven (byte 7) ≡ byte 0 ∷ []
unfolding one_seven from_to
elements_of_one_seven = refl

elements_of_end : elements_of one_seven (end_of_input 5) ≡ end_of_input 256 ∷ []
elements_of_end = refl

representatives_of_one_seven : representatives_of one_seven Unbounded Unbounded ≡ byte 0 ∷ byte 1 ∷ end_of_input 1 ∷ []
unfolding one_seven from_to
representatives_of_one_seven = refl

-- a first byte is a representative, whatever its predecessor's class is
representatives_within : representatives_of one_seven (Included 3) (Excluded 9) ≡ byte 3 ∷ []
unfolding one_seven from_to
representatives_within = refl

no_representatives : representatives_of one_seven (Included 1) (Excluded 1) ≡ []
unfolding one_seven from_to
no_representatives = refl

end_alone : representatives_of one_seven (Excluded 255) Unbounded ≡ end_of_input 1 ∷ []
unfolding one_seven from_to
end_alone = refl
