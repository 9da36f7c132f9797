use Rattle.std.proofs.Common.{◌≡◌, ◌+◌, arith, get_or, subst, sym, take, ⊎_elim, Contains}
use Rattle.std.proofs.lemmas.List.{take_all, take_more}
use Rattle.std.proofs.lemmas.List.Elements.{Contains-push_cases}
use Rattle.rsc_show.specs.Ranges.{BoundsRange}
use Rattle.rsc_show.proofs.witness.range_at.Goals as goal

pub loop-start-preserved : goal.loop-start-preserved
loop-start-preserved c = λ x inside boundary.
    let ranges = c.args.ranges.now in
    let i = c.loop-start.start-index in
    let r = get_or ranges i (0, 0) in
    let byte = c.args.byte in
    ⊎_elim (λ (old : Contains (take i ranges) x). c.loop-start.invariant x old boundary)
    (λ (same : r ≡ x).
    ⊎_elim (λ (begins : byte + 1 ≡ r.0). omega (arith, begins, c.if-start-byte.false))
    (λ (ends : byte ≡ r.1). omega (arith, ends, c.if-end-byte.false))
    (subst (λ y. BoundsRange byte y) (sym same) boundary))
    (Contains-push_cases (take i ranges) r x (subst (λ xs. Contains xs x) (take_more ranges i (0, 0) c.loop-start-test.true) inside))

pub returns-clause-found : goal.returns-clause-found
returns-clause-found c = λ r inside boundary.
    absurd (c.loop-start.invariant r
    (subst (λ xs. Contains xs r) (sym (take_all c.loop-start.start-index c.args.ranges.now c.loop-start-test.false)) inside) boundary)
