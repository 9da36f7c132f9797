use Rattle.std.proofs.Common.{sym, ap, ◌∙◌, ⊎_elim}
use Rattle.rsc_look.proofs.Prelude.{boundaries_of_look, boundaries_of_range, union_none, union_assoc}
use Rattle.std.specs.FinSet as sets
use Rattle.rsc_look.proofs.boundaries.add_boundaries.Goals as goal

pub returns-in-Start : goal.returns-in-Start
returns-in-Start c = sym (union_none c.args.set.now) ∙ ap (sets.union c.args.set.now) (⊎_elim
    (λ e. ap (λ l. boundaries_of_look l c.args.line_terminator) (sym e)) (λ e. ap (λ l. boundaries_of_look l c.args.line_terminator) (sym e)) c.in-Start.is)

pub returns-in-StartCRLF : goal.returns-in-StartCRLF
returns-in-StartCRLF c =
    c.set_range-in-StartCRLF-2.ensures.value ∙ ap (λ s. sets.union s (boundaries_of_range (10, 10))) c.set_range-in-StartCRLF.ensures.value
    ∙ union_assoc c.args.set.now (boundaries_of_range (13, 13)) (boundaries_of_range (10, 10))
    ∙ ap (sets.union c.args.set.now) (⊎_elim (λ e. ap (λ l. boundaries_of_look l c.args.line_terminator) (sym e))
    (λ e. ap (λ l. boundaries_of_look l c.args.line_terminator) (sym e)) c.in-StartCRLF.is)
