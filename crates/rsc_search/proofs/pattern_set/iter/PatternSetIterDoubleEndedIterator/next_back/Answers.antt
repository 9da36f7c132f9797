use Rattle.std.proofs.Common.{rules, sym, ◌∙◌, arith, length-append}
use Rattle.rsc_search.proofs.PatternSetLayoutLemmas.{back_some, back_fits, back_step, back_between}
use Rattle.rsc_search.proofs.pattern_set.iter.PatternSetIterDoubleEndedIterator.next_back.Goals as goal

pub overflow_mul-p : goal.overflow_mul-p
overflow_mul-p c = omega (arith, back_fits c.self.invariant c.if-self-eq0.false c.last_until-index.ensures)

pub highest-requires : goal.highest-requires
highest-requires c = back_some c.self.invariant c.if-self-eq0.false c.last_until-index.ensures

pub overflow_add-p : goal.overflow_add-p
overflow_add-p c = rw c.highest.ensures (omega (arith, back_fits c.self.invariant c.if-self-eq0.false c.last_until-index.ensures))

pub without_highest-self-inside-requires : goal.without_highest-self-inside-requires
without_highest-self-inside-requires c = back_some c.self.invariant c.if-self-eq0.false c.last_until-index.ensures

pub must-requires : goal.must-requires
must-requires c = rw c.highest.ensures (back_fits c.self.invariant c.if-self-eq0.false c.last_until-index.ensures)

pub invariant_of-self : goal.invariant_of-self
invariant_of-self c = back_between c.self.invariant c.if-self-eq0.false c.last_until-index.ensures c.without_highest-self-inside.type_inv
    c.without_highest-self-inside.ensures

pub returns : goal.returns
returns c =
    let step = sym c.self.view_is ∙ back_step c.self.invariant c.if-self-eq0.false c.last_until-index.ensures c.without_highest-self-inside.type_inv
    c.without_highest-self-inside.ensures in
    record { steps = rw (c.must.ensures, c.highest.ensures) step; goes = rw step (search (rules, length-append)) }
