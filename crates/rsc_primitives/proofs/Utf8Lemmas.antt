-- The character that begins a list, and the one that ends it, by the bytes at either end.
use Rattle.std.proofs.Common.{◌≡◌, ℕ, zero, suc, ◌+◌, ◌-◌, ◌<◌, ◌≤◌, ◌⊎◌, List, [], ◌∷◌, ◌++◌, length, get_or, take, drop, reverse, sym, ap, ◌∙◌, subst, arith, length-append, length-drop, inl, inr, refl, Some, slice_get, slice_range}
use Rattle.std.proofs.lemmas.Option.{slice_get_within, get_or_from_slice_get}
use Rattle.std.proofs.lemmas.List.{drop_at, reverse-append, reverse-reverse, take_all, take-append-drop}
use Rattle.rsc_primitives.specs.Utf8.{Encodes, BeginsAt, EndsAt}
use Rattle.rsc_primitives.specs.Utf8Layout.{from_back, EndsLongNumber, BeginsLong, EndsLong}
use Rattle.rsc_primitives.specs.Utf8Laws.{slice_from_start, slice_one}

-- ---- the front of a list

-- a character at the front is ASCII or of two to four bytes
pub first_of : (h : List ℕ) (c : ℕ) → BeginsAt h 0 c → (get_or h 0 0 ≤ 0x7F) ⊎ BeginsLong h c
first_of h c p = forms h p.0 c p.1.within (rw slice_from_start at p.1.encoded)
  where
    forms : (h : List ℕ) (j c : ℕ) → j ≤ length h → Encodes (take j h) c → (get_or h 0 0 ≤ 0x7F) ⊎ BeginsLong h c
    forms h zero c l e = absurd e
    forms (a ∷ r) (suc zero) c l e = inl e.0
    forms (a ∷ b ∷ r) (suc (suc zero)) c l e = inr (inl e)
    forms (a ∷ b ∷ x ∷ r) (suc (suc (suc zero))) c l e = inr (inr (inl e))
    forms (a ∷ b ∷ x ∷ y ∷ r) (suc (suc (suc (suc zero)))) c l e = inr (inr (inr e))
    forms (a ∷ b ∷ x ∷ y ∷ z ∷ r) (suc (suc (suc (suc (suc n))))) c l e = absurd e
    forms _ _ c l e = absurd (omega arith)

front : (h : List ℕ) (j c : ℕ) → j ≤ length h → Encodes (take j h) c → BeginsAt h 0 c
front h j c l e = (j, record { ordered = omega arith; within = l; encoded = rw slice_from_start e })

-- and such bytes are a character
pub begins_long : (h : List ℕ) (c : ℕ) → BeginsLong h c → BeginsAt h 0 c
begins_long (a ∷ b ∷ r) c (inl s) = front (a ∷ b ∷ r) 2 c (omega arith) s
begins_long (a ∷ b ∷ x ∷ r) c (inr (inl s)) = front (a ∷ b ∷ x ∷ r) 3 c (omega arith) s
begins_long (a ∷ b ∷ x ∷ y ∷ r) c (inr (inr s)) = front (a ∷ b ∷ x ∷ y ∷ r) 4 c (omega arith) s
begins_long _ c (inl s) = absurd (omega (arith, s.0, s.1))
begins_long _ c (inr (inl s)) = absurd (omega (arith, s.1))
begins_long _ c (inr (inr s)) = absurd (omega (arith, s.1, s.2))

-- ---- the back of a list: the front of the reversed list

last_forms : (e rest : List ℕ) (c : ℕ) → Encodes e c
    → (get_or (reverse e ++ rest) 0 0 ≤ 0x7F) ⊎ EndsLongNumber (get_or (reverse e ++ rest) 3 0) (get_or (reverse e ++ rest) 2 0)
    (get_or (reverse e ++ rest) 1 0) (get_or (reverse e ++ rest) 0 0) c
last_forms (a ∷ b ∷ x ∷ d ∷ []) rest c e = inr (inr (inr e))
last_forms _ rest c e = grind arith

-- the same at the back
pub last_of : (h : List ℕ) (c : ℕ) → EndsAt h (length h) c → (from_back h 0 ≤ 0x7F) ⊎ EndsLong h c
last_of h c p =
    let rest : slice_range h p.0 (length h) ≡ drop p.0 h = take_all (length h - p.0) (drop p.0 h) (simp length-drop (omega arith)) in
    let parts : reverse h ≡ reverse (drop p.0 h) ++ reverse (take p.0 h) = ap reverse (sym (take-append-drop p.0 h))
    ∙ reverse-append (take p.0 h) (drop p.0 h) in
    rw parts (last_forms (drop p.0 h) (reverse (take p.0 h)) c (subst (λ (x : List ℕ). Encodes x c) rest p.1.encoded))

-- an encoding after other bytes
back : (before e : List ℕ) (c : ℕ) → Encodes e c → EndsAt (before ++ e) (length (before ++ e)) c
back before e c p =
    let long : length (before ++ e) ≡ length before + length e = length-append before e in
    let slice : slice_range (before ++ e) (length before) (length (before ++ e)) ≡ e =
    ap (λ (t : List ℕ). take (length (before ++ e) - length before) t) (drop_at before e (length before) refl)
    ∙ take_all (length (before ++ e) - length before) e (omega (arith, long)) in
    (length before, record { ordered = omega (arith, long); within = omega arith; encoded = subst (λ (x : List ℕ). Encodes x c) (sym slice) p })

back_of : (last rest : List ℕ) (c : ℕ) → Encodes (reverse last) c → EndsAt (reverse (last ++ rest)) (length (reverse (last ++ rest))) c
back_of last rest c p = rw (reverse-append last rest) (back (reverse rest) (reverse last) c p)

long_back : (r : List ℕ) (c : ℕ) → EndsLongNumber (get_or r 3 0) (get_or r 2 0) (get_or r 1 0) (get_or r 0 0) c
    → EndsAt (reverse r) (length (reverse r)) c
long_back (d ∷ x ∷ r) c (inl s) = back_of (d ∷ x ∷ []) r c s
long_back (d ∷ x ∷ b ∷ r) c (inr (inl s)) = back_of (d ∷ x ∷ b ∷ []) r c s
long_back (d ∷ x ∷ b ∷ a ∷ r) c (inr (inr s)) = back_of (d ∷ x ∷ b ∷ a ∷ []) r c s
long_back _ c (inl s) = absurd (omega (arith, s.0))
long_back _ c (inr (inl s)) = absurd (grind (arith, s.0, s.1))
long_back _ c (inr (inr s)) = absurd (grind (arith, s.0, s.1, s.2))

-- a long encoding at the end of the bytes ends there
pub ends_long : (h : List ℕ) (c : ℕ) → EndsLong h c → EndsAt h (length h) c
ends_long h c s = subst (λ (x : List ℕ). EndsAt x (length x) c) (reverse-reverse h) (long_back (reverse h) c s)

-- a byte of ASCII at the end is the character that ends the list
pub EndsAt-ascii : (h : List ℕ) (b : ℕ) → slice_get h (length h - 1) ≡ Some b → b < 128 → EndsAt h (length h) b
EndsAt-ascii h b g low =
    let w : length h - 1 < length h = slice_get_within h (length h - 1) b g in
    let e : get_or h (length h - 1) 0 ≡ b = get_or_from_slice_get h (length h - 1) b 0 g in (
      length h - 1,
      record {
        ordered = omega arith;
        within = omega arith;
        encoded = rw (slice_one h (length h - 1) (length h) (omega arith) w, e) (omega arith, refl);
      },
    )
