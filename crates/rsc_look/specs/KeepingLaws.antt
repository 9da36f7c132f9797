-- Partitions and haystacks of one byte, lists of one assertion, and the two word predicates.
use Rattle.std.proofs.Common.{[], ◌≡◌, ◌↔◌, ℕ, zero, suc, ◌+◌, ◌<◌, Bool, true, false, ◌∷◌, refl, sym, ap, ◌∙◌, arith, ◌⊎◌, ⊎_elim, true≢false, ltb}
use Rattle.std.specs.Prelude.{slice_index}
use Rattle.std.specs.List.{Contains}
use Rattle.std.proofs.lemmas.List.Elements.{All-cons, All-nil}
use Rattle.std.proofs.lemmas.Bool.Decides.{nat_tests}
use Rattle.rsc_alphabet.specs.Partitions.{AreTogether}
use Rattle.rsc_look.specs.declared.assertion.Look.{Look}
use Rattle.rsc_look.specs.Words.{is_unicode_word}
use Rattle.rsc_look.specs.Keeping.{IsHaystack, AreInterchanged, AgreesWithAscii}

one_byte_haystack : (b : ℕ) → b < 256 → IsHaystack (b ∷ [])
one_byte_haystack b h = All-cons (λ x. x < 256) b [] h (All-nil (λ x. x < 256))

-- where there is no boundary between two bytes they are together
pub next_together : (q : ℕ → Bool) (b : ℕ) → q b ≡ false → AreTogether q b (b + 1)
next_together q b e x low high is = let same : b ≡ x = omega arith in true≢false (sym is ∙ ap q (sym same) ∙ e)

-- and the haystacks of one of these bytes each are interchanged
pub alike_alone : (q : ℕ → Bool) (b : ℕ) → b < 255 → q b ≡ false → AreInterchanged q (b ∷ []) ((b + 1) ∷ [])
alike_alone q b h e = record {
  first = one_byte_haystack b (omega arith);
  second = one_byte_haystack (b + 1) (omega arith);
  same_length = refl;
  together = go;
}
  where
    go : (i : ℕ) → i < 1 → AreTogether q (slice_index (b ∷ []) i) (slice_index ((b + 1) ∷ []) i)
    go zero l = next_together q b e
    go (suc i) l = absurd (omega arith)

-- of two equivalent statements not exactly one holds
pub not_told : (A B : Type 0) → A ↔ B → (A × (B → ⊥)) ⊎ ((A → ⊥) × B) → ⊥
not_told A B e t = ⊎_elim (λ p. p.1 (e.0 p.0)) (λ p. p.0 (e.1 p.1)) t

-- a list of one assertion has no other member
pub same_as_only : (l m : Look) → Contains (l ∷ []) m → l ≡ m
same_as_only l m (zero, p, e) = e
same_as_only l m (suc k, p, e) = absurd (omega arith)

pub is_its_member : (l : Look) → Contains (l ∷ []) l
is_its_member l = (0, omega arith, refl)

below : (c : ℕ) → c < 128 → ltb c 128 ≡ true
below c l = grind (arith, nat_tests)

-- both word predicates agree with the word bytes below 128
pub is_unicode_word-AgreesWithAscii : AgreesWithAscii is_unicode_word
is_unicode_word-AgreesWithAscii c l = let e = below c l in rw e
