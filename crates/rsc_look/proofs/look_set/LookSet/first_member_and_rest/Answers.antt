use Rattle.std.proofs.Common.{◌≡◌, ◌-◌, ℕ, ◌∷◌, Some, None, bit_and, refl, sym, ap, ◌∙◌, subst}
use Rattle.std.specs.FinSet as sets
use Rattle.rsc_look.proofs.Prelude.{members, looks_of}
use Rattle.rsc_look.proofs.LookSetLayoutLemmas.{first_none, first_some, looks_of_remove}
use Rattle.rsc_look.proofs.look_set.LookSet.first_member_and_rest.Goals as goal

pub returns-then-self-eq0 : goal.returns-then-self-eq0
returns-then-self-eq0 c = rw (← c.self.view_is) (first_none c.self.inside.bits c.if-self-eq0.true)

pub returns-in_err-look : goal.returns-in_err-look
returns-in_err-look c = rw (c.from_residual.ensures, ← c.self.view_is)
    (first_some c.self.inside.bits None c.if-self-eq0.false c.self.invariant c.in_err-look.ensures)

pub returns : goal.returns
returns c =
    let n = c.self.inside.bits in
    let l = c.in_ok-look.look in
    let without = subst (λ (b : ℕ). looks_of (bit_and n (4294967295 - b)) ≡ sets.remove (looks_of n) l) ((c.in_ok-look.ensures l).0 refl)
    (looks_of_remove n l) in
    rw (← c.self.view_is) (first_some n (Some l) c.if-self-eq0.false c.self.invariant c.in_ok-look.ensures ∙ ap (λ s. l ∷ members s) (sym without))
