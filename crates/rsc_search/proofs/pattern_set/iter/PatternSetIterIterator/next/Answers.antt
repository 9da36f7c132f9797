use Rattle.std.proofs.Common.{rules, sym, ◌∙◌, arith}
use Rattle.rsc_search.proofs.PatternSetLayoutLemmas.{front_some, front_fits, front_step, front_between}
use Rattle.rsc_search.proofs.pattern_set.iter.PatternSetIterIterator.next.Goals as goal

pub overflow_mul-p : goal.overflow_mul-p
overflow_mul-p c = omega (arith, front_fits c.self.invariant c.if-self-eq0.false c.first_from-index.ensures)

pub overflow_add-p : goal.overflow_add-p
overflow_add-p c = omega (arith, front_fits c.self.invariant c.if-self-eq0.false c.first_from-index.ensures)

pub without_lowest-self-inside-requires : goal.without_lowest-self-inside-requires
without_lowest-self-inside-requires c = front_some c.self.invariant c.if-self-eq0.false c.first_from-index.ensures

pub must-requires : goal.must-requires
must-requires c = front_fits c.self.invariant c.if-self-eq0.false c.first_from-index.ensures

pub invariant_of-self : goal.invariant_of-self
invariant_of-self c = front_between c.self.invariant c.if-self-eq0.false c.first_from-index.ensures c.without_lowest-self-inside.type_inv
    c.without_lowest-self-inside.ensures

pub returns : goal.returns
returns c =
    let step = sym c.self.view_is ∙ front_step c.self.invariant c.if-self-eq0.false c.first_from-index.ensures c.without_lowest-self-inside.type_inv
    c.without_lowest-self-inside.ensures in
    record { steps = rw c.must.ensures step; goes = rw step (search rules) }
