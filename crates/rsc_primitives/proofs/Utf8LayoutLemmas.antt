-- The four bytes at either end of a list, where a byte that isn't there is 0.
use Rattle.std.proofs.Common.{◌≡◌, ℕ, suc, ◌+◌, ◌-◌, ◌≤◌, List, length, get_or, reverse, Option, MatchOption, sym, ap, ◌∙◌, subst, arith}
use Rattle.std.proofs.lemmas.List.{get_or-reverse, get_or_past, length-reverse}
use Rattle.rsc_primitives.specs.Utf8Layout.{from_back}

-- what an answer says of the number of a character
abbrev Says : Option ℕ → (ℕ → Type 0) → Type 0
Says r is = MatchOption r ((n : ℕ) → is n → ⊥) is

-- an answer about four bytes says the same of those of a list that they are
pub says_of : (r : Option ℕ) (P : ℕ → ℕ → ℕ → ℕ → ℕ → Type 0) {a b c d v w x y : ℕ} → v ≡ a → w ≡ b → x ≡ c → y ≡ d
    → Says r (P a b c d) → Says r (P v w x y)
says_of r P {a} {b} {c} {d} {v} {w} {x} {y} e f g h s =
    subst (λ t. Says r (P t w x y)) (sym e)
    (subst (λ t. Says r (P a t x y)) (sym f) (subst (λ t. Says r (P a b t y)) (sym g) (subst (λ t. Says r (P a b c t)) (sym h) s)))

-- byte k from the back is byte i
pub back_at : (h : List ℕ) (k i : ℕ) → i + suc k ≡ length h → from_back h k ≡ get_or h i 0
back_at h k i e =
    let position : length h - 1 - k ≡ i = omega (arith, e) in
    get_or-reverse h k 0 (omega (arith, e)) ∙ ap (λ j. get_or h j 0) position

-- before the first byte there is 0
pub back_past : (h : List ℕ) (k : ℕ) → length h ≤ k → from_back h k ≡ 0
back_past h k l = get_or_past (reverse h) k 0 (rw (length-reverse h) l)
