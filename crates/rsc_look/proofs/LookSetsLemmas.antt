-- The members of sets of assertions that are made of others.
use Rattle.std.proofs.Common.{◌≡◌, ◌↔◌, ◌||◌, ◌&&◌, ◌⊎◌, Bool, true, false, not, refl, sym, ap, ◌∙◌, inl, inr, ⊎_elim, ◌≢◌}
use Rattle.std.specs.FinSet as sets
use Rattle.std.specs.FinSet.{contains-empty, contains-insert, contains-remove}
use Rattle.std.specs.Ordering.{eq_by_cmp}
use Rattle.std.proofs.lemmas.Bool.{cases_eq, eq-eqb, ne_eqb}
use Rattle.rsc_look.specs.LookSetLaws.{same_looks}
use Rattle.rsc_look.proofs.Prelude.{Look, repr_of, look_cmp, Looks, look_cmp_total, repr_of-injective, tied}

itself : (l : Look) → eq_by_cmp look_cmp l l ≡ true
itself l = tied l l ∙ eq-eqb (repr_of l) (repr_of l) refl

apart : (l m : Look) → l ≢ m → eq_by_cmp look_cmp l m ≡ false
apart l m ne = tied l m ∙ ne_eqb (repr_of l) (repr_of m) (λ e. ne (repr_of-injective l m e))

-- membership after an insertion and after a removal: of the member itself, and of the others
pub grown_by : (s : Looks) (l : Look) → sets.contains (sets.insert s l) l ≡ true
grown_by s l = contains-insert look_cmp_total s l l ∙ ap (λ b. b || sets.contains s l) (itself l)

-- an insertion changes no other member
pub grown_apart : (s : Looks) (l m : Look) → m ≢ l → sets.contains (sets.insert s l) m ≡ sets.contains s m
grown_apart s l m ne = contains-insert look_cmp_total s l m ∙ ap (λ b. b || sets.contains s m) (apart m l ne)

-- what is removed is no member
pub shrunk_by : (s : Looks) (l : Look) → sets.contains (sets.remove s l) l ≡ false
shrunk_by s l = contains-remove look_cmp_total s l l ∙ ap (λ b. not b && sets.contains s l) (itself l)

-- a removal changes no other member
pub shrunk_apart : (s : Looks) (l m : Look) → m ≢ l → sets.contains (sets.remove s l) m ≡ sets.contains s m
shrunk_apart s l m ne = contains-remove look_cmp_total s l m ∙ ap (λ b. not b && sets.contains s m) (apart m l ne)

-- what is left of a set without another is empty exactly if each member is one of the other
pub empty_rest : (s t rest : Looks) → ((l : Look) → sets.contains rest l ≡ (sets.contains s l && not (sets.contains t l)))
    → (rest ≡ sets.empty) ↔ ((l : Look) → sets.contains s l ≡ true → sets.contains t l ≡ true)
empty_rest s t rest members = (
  (λ none l has. in_both (sets.contains s l) (sets.contains t l) has (sym (members l) ∙ ap (λ u. sets.contains u l) none ∙ contains-empty look_cmp l)),
  (λ within. same_looks rest sets.empty
      (λ l. members l ∙ none_apart (sets.contains s l) (sets.contains t l) (within l) ∙ sym (contains-empty look_cmp l))),
)
  where
    in_both : (a b : Bool) → a ≡ true → (a && not b) ≡ false → b ≡ true
    in_both true true e f = refl
    in_both true false e f = sym f
    in_both false b e f = absurd (cc)

    none_apart : (a b : Bool) → (a ≡ true → b ≡ true) → (a && not b) ≡ false
    none_apart true b e = ap not (e refl)
    none_apart false b e = refl

-- after an insertion the members are the new one and those before
pub grown : (s : Looks) (l m : Look) → (sets.contains (sets.insert s l) m ≡ true) ↔ ((l ≡ m) ⊎ (sets.contains s m ≡ true))
grown s l m = ⊎_elim
    (λ (e : repr_of l ≡ repr_of m). let same : l ≡ m = repr_of-injective l m e in
    ((λ _. inl same), (λ _. ap (λ k. sets.contains (sets.insert s l) k) (sym same) ∙ grown_by s l)))
    (λ (ne : repr_of l ≢ repr_of m). let other : m ≢ l = λ e. ne (ap repr_of (sym e)) in
    ((λ has. inr (sym (grown_apart s l m other) ∙ has)), ⊎_elim (λ e. absurd (ne (ap repr_of e))) (λ has. grown_apart s l m other ∙ has)))
    (cases_eq (repr_of l) (repr_of m))
