use Rattle.std.proofs.Common.{◌<◌, ◌+◌, ◌∙◌, slice_index, refl, subst, sym, ap, arith, All, length-set, get_or-set_other}
use Rattle.std.proofs.lemmas.List.Elements.{All-contains}
use Rattle.rsc_alphabet.specs.Symbols.{number_of}
use Rattle.rsc_alphabet.specs.Iterators.{symbols}
use Rattle.rsc_uses.proofs.AlphabetLemmas.{one_filled, next_is_among, all_filled, unit_of_number}
use Rattle.rsc_uses.proofs.alphabet.fill_row.Goals as goal

pub loop-unit-preserved : goal.loop-unit-preserved
loop-unit-preserved c =
    let map = c.args.map.now in
    let row = c.loop-unit.row in
    let u = c.in-Some.unit in
    let i = c.as_usize.result in
    let is = c.as_usize.ensures in
    let awaits = c.loop-unit.invariant.3 in
    let long = c.loop-unit.invariant.2 in
    let small : number_of u < slice_index map 255 + 2 =
    All-contains (λ v. number_of v < slice_index map 255 + 2) (symbols map) u
    (subst (All (λ v. number_of v < slice_index map 255 + 2)) c.iter-unit-items.ensures.value c.iter-unit-items.ensures.within)
    (next_is_among awaits c.in-Some.ensures.steps) in (
      tt,
      tt,
      length-set row i 1 ∙ long,
      one_filled awaits c.in-Some.ensures.steps is refl (omega (arith, is, small, long, c.requires)) (λ v w _ _ _. refl),
      λ k le. get_or-set_other row i k 1 0 (λ e. omega (arith, e, le, is, small)) ∙ c.loop-unit.invariant.4 k le,
    )

pub returns-clause-marked : goal.returns-clause-marked
returns-clause-marked c = λ k small.
    let map = c.args.map.now in
    let u = unit_of_number map k (c.each_class_comes_once.ensures.index map) (c.each_class_comes_once.ensures.end map) small in
    sym (ap (slice_index c.loop-unit.row) u.1.1) ∙ all_filled c.loop-unit.invariant.3 c.in-None.ensures.steps.0 u.1.0
