use Rattle.std.proofs.Common.{◌≡◌, ◌∙◌, ap, arith, map, take, take_all, Option, Bor, List, ℕ, Vec, Global}
use Rattle.rsc_captures.specs.Groups.{groups_in, lists_in}
use Rattle.rsc_engine.specs.Parts.{groups_as_pattern}
use Rattle.rsc_engine.proofs.RefusalsLemmas.{names-refused}
use Rattle.rsc_engine.proofs.builder.names.info_of.Goals as goal

pub returns-in-Err-clause-refused : goal.returns-in-Err-clause-refused
returns-in-Err-clause-refused c =
    let names : take c.loop-names.names-index c.deref-names-items.result.now ≡ c.deref-names-items.result.now =
    take_all _ _ (omega (arith, c.loop-names-test.false)) in
    let parts : take c.loop-part.part-index c.args.patterns.now ≡ c.args.patterns.now = take_all _ _ (omega (arith, c.loop-part-test.false)) in
    let lists : lists_in c.as_slice-2.result.now ≡ map groups_as_pattern c.args.patterns.now =
    ap lists_in c.as_slice-2.ensures.value
    ∙ (c.loop-names.invariant
    ∙ (ap (map (λ (names : Vec (Option (Bor (List ℕ))) Global). groups_in names.items)) (names ∙ c.deref-names-items.ensures.value)
    ∙ (c.loop-part.invariant ∙ ap (map groups_as_pattern) parts))) in
    rw c.refusal_of.ensures (names-refused c.args.patterns.now _ c.requires (rw lists at c.in-Err.ensures.refused))
