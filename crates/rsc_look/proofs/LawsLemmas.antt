-- Finer partitions keep what coarser ones do, and two lists together have the boundaries of both.
use Rattle.std.proofs.Common.{◌≡◌, ℕ, Bool, true, ◌||◌, List, ◌++◌, arith, ⊎_elim, Contains}
use Rattle.std.proofs.lemmas.Bool.{or_cases, or_right, or_left}
use Rattle.std.proofs.lemmas.List.Elements.{Contains-append_cases, Contains-append_left, Contains-append_right}
use Rattle.rsc_look.proofs.Prelude.{HasBoundariesOf, Look, AreInterchanged, Keeps, IsCoarsest}

AreInterchanged-coarser : (p q : ℕ → Bool) (h k : List ℕ) → HasBoundariesOf q p → AreInterchanged q h k → AreInterchanged p h k
AreInterchanged-coarser p q h k has s = record {
  first = s.first;
  second = s.second;
  same_length = s.same_length;
  together = λ i l j low high m.
      let b = s.first i 0 l in let c = s.second i 0 (omega (arith, s.same_length, l)) in
      s.together i l j low high (has j (omega (arith, high, b, c)) m);
}

-- a finer partition keeps what a coarser one does
pub Keeps-finer : (p q : ℕ → Bool) (looks : List Look) (t : ℕ) (chars : ℕ → Bool) → HasBoundariesOf q p → Keeps p looks t chars
    → Keeps q looks t chars
Keeps-finer p q looks t chars has keeps = record {
  at_bytes = λ l c e h k s. keeps.at_bytes l c e h k (AreInterchanged-coarser p q h k has s);
  at_characters = λ l c e h k s. keeps.at_characters l c e h k (AreInterchanged-coarser p q h k has s);
}

Keeps-part : (p : ℕ → Bool) (some all : List Look) (t : ℕ) (chars : ℕ → Bool) → ((l : Look) → Contains some l → Contains all l)
    → Keeps p all t chars
    → Keeps p some t chars
Keeps-part p some all t chars among keeps = record {
  at_bytes = λ l c. keeps.at_bytes l (among l c);
  at_characters = λ l c. keeps.at_characters l (among l c);
}

pub Keeps-both : (p : ℕ → Bool) (some others : List Look) (t : ℕ) (chars : ℕ → Bool) → Keeps p some t chars → Keeps p others t chars
    → Keeps p (some ++ others) t chars
Keeps-both p some others t chars one two = record {
  at_bytes = λ l listed plain. ⊎_elim (λ here. one.at_bytes l here plain) (λ here. two.at_bytes l here plain) (Contains-append_cases some others l listed);
  at_characters = λ l listed unicode. ⊎_elim (λ here. one.at_characters l here unicode) (λ here. two.at_characters l here unicode)
      (Contains-append_cases some others l listed);
}

-- the coarsest partition of two lists together has the boundaries of both
pub IsCoarsest-both : (p q : ℕ → Bool) (some others : List Look) (t : ℕ) (chars : ℕ → Bool) → IsCoarsest p some t chars
    → IsCoarsest q others t chars
    → IsCoarsest (λ b. p b || q b) (some ++ others) t chars
IsCoarsest-both p q some others t chars one two = record {
  keeps = Keeps-both (λ b. p b || q b) some others t chars
      (Keeps-finer p (λ b. p b || q b) some t chars (λ b l m. or_left (p b) (q b) m) one.keeps)
      (Keeps-finer q (λ b. p b || q b) others t chars (λ b l m. or_right (p b) (q b) m) two.keeps);
  least = λ r keeps b l m. ⊎_elim
      (λ (e : p b ≡ true). one.least r (Keeps-part r some (some ++ others) t chars (λ k c. Contains-append_left some others k c) keeps) b l e)
      (λ (e : q b ≡ true). two.least r (Keeps-part r others (some ++ others) t chars (λ k c. Contains-append_right some others k c) keeps) b l e)
      (or_cases (p b) (q b) m);
}
