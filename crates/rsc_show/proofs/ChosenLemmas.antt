-- When an assertion tells a byte from the next one, and when a listed one does.
use Rattle.std.proofs.Common.{◌≡◌, ◌≢◌, ◌↔◌, ◌<◌, ◌≤◌, ◌+◌, ◌∷◌, [], ℕ, Bool, true, false, List, refl, sym, subst, ap, ◌∙◌, arith, ◌⊎◌, inl, inr, ⊎_elim, length, get_or, true≢false, slice_index, IsTrue, not}
use Rattle.std.proofs.Math.Bool.{beq}
use Rattle.std.proofs.lemmas.Bool.{cases_lt, cases_Bool}
use Rattle.std.proofs.lemmas.List.{get_or_default}
use Rattle.rsc_alphabet.specs.Partitions.{AreTogether, class_map}
use Rattle.rsc_look.specs.declared.assertion.Look.{Look}
use Rattle.rsc_look.specs.Keeping.{IsNeeded, Tells}

-- two tests differ exactly if one of what they decide holds and the other does not
pub differ_if : (x y : Bool) (P Q : Type 0) → (IsTrue x ↔ P) → (IsTrue y ↔ Q) → IsTrue (not (beq x y)) ↔ ((P × ¬ Q) ⊎ (¬ P × Q))
differ_if true true P Q p q = (λ h. cc, λ t. ⊎_elim (λ (l : P × ¬ Q). absurd (l.1 (q.0 refl))) (λ r. absurd (r.0 (p.0 refl))) t)
differ_if true false P Q p q = (λ h. inl (p.0 refl, λ n. true≢false (sym (q.1 n))), λ t. refl)
differ_if false true P Q p q = (λ h. inr (λ n. true≢false (sym (p.1 n)), q.0 refl), λ t. refl)
differ_if false false P Q p q =
    (λ h. cc, λ t. ⊎_elim (λ (l : P × ¬ Q). absurd (true≢false (sym (p.1 l.0)))) (λ r. absurd (true≢false (sym (q.1 r.1)))) t)

-- the first assertions of a list do not tell the byte
abbrev pub NoneTells : ℕ → ℕ → List Look → ℕ → (ℕ → Bool) → Type 0
NoneTells b n looks t chars =
    (k : ℕ) (d : Look) → k < n → k < length looks → (i : ℕ) → i ≤ 1 → ¬ (Tells (get_or looks k d) t chars (b ∷ []) ((b + 1) ∷ []) i)

-- and with one more
pub none_tells_more : (b n : ℕ) (looks : List Look) (e : Look) (t : ℕ) (chars : ℕ → Bool) → NoneTells b n looks t chars
    → ((i : ℕ) → i ≤ 1 → ¬ (Tells (get_or looks n e) t chars (b ∷ []) ((b + 1) ∷ []) i)) → NoneTells b (n + 1) looks t chars
none_tells_more b n looks e t chars before last = λ k d h inside i le told.
    ⊎_elim (λ (less : k < n). before k d less inside i le told)
    (λ more. let same : k ≡ n = omega (arith, more, h) in
    last i le (subst (λ l. Tells l t chars (b ∷ []) ((b + 1) ∷ []) i) (get_or_default looks k d e inside ∙ ap (λ j. get_or looks j e) same) told))
    (cases_lt k n)

-- if none of the list tells it, the byte needs no boundary
pub not_needed : (b n : ℕ) (looks : List Look) (t : ℕ) (chars : ℕ → Bool) → length looks ≤ n → NoneTells b n looks t chars
    → ¬ (IsNeeded b looks t chars)
not_needed b n looks t chars all none = λ needed.
    let at = needed.listed in
    let inside = at.1 in
    none at.0 needed.look (omega (arith, all, inside)) inside needed.position needed.at_an_end
    (subst (λ l. Tells l t chars (b ∷ []) ((b + 1) ∷ []) needed.position) (sym at.2) needed.tells)

-- between two classes of the map of a partition there is a boundary
pub boundary_between : (m : List ℕ) (p : ℕ → Bool) (b : ℕ)
    → ((p : ℕ → Bool) (b c : ℕ) → b < 256 → c < 256 → (slice_index (class_map p) b ≡ slice_index (class_map p) c) ↔ AreTogether p b c)
    → b < 255 → m ≡ class_map p → slice_index m b ≢ slice_index m (b + 1) → p b ≡ true
boundary_between m p b law small is differs =
    ⊎_elim (λ (e : p b ≡ true). e)
    (λ e. absurd (differs (subst (λ n. slice_index n b ≡ slice_index n (b + 1)) (sym is)
    ((law p b (b + 1) (omega (arith, small)) (omega (arith, small))).1 (alone e)))))
    (cases_Bool (p b))
  where
    alone : p b ≡ false → AreTogether p b (b + 1)
    alone e k low high there =
        let same : k ≡ b = omega (arith, low, high) in
        true≢false (sym there ∙ ap p same ∙ e)
