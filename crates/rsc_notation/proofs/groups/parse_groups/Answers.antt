use Rattle.std.proofs.Common.{rules, tests, Bor, ℕ, List, [], ap, map, sym, ◌∙◌}
use Rattle.std.specs.Prelude.{Some}
use Rattle.std.specs.Option.{option_map}
use Rattle.rsc_notation.specs.GroupTexts.{group_of}
use Rattle.rsc_notation.proofs.GroupTextsLemmas.{all_there-one, all_there-none, all_there-all, groups_in_text-some}
use Rattle.rsc_notation.proofs.groups.parse_groups.Goals as goal

abbrev no_part : Bor (List ℕ)
no_part = record { ref_ptr = (0, 0); now = [] }

pub returns-in-None : goal.returns-in-None
returns-in-None g c =
    let read = groups_in_text-some c.args.pattern.now c.as_slice-part-items.result.now (search (rules, tests)) (search (rules, tests)) in
    all_there-none (λ part. group_of part.now) c.as_slice-part-items.result.now c.loop-part.part-index no_part c.loop-part-test.true
    (ap (option_map (option_map (λ (name : Bor (List ℕ)). name.now)))
    (sym c.in-None.is) ∙ c.parse_group.ensures) ∙ read

pub loop-part-preserved : goal.loop-part-preserved
loop-part-preserved g c =
    all_there-one (λ part. group_of part.now) (option_map (λ (name : Bor (List ℕ)). name.now))
    c.as_slice-part-items.result.now c.loop-part.part-index no_part c.loop-part.groups.items c.in-Some.name c.loop-part-test.true c.loop-part.invariant
    (ap (option_map (option_map (λ (name : Bor (List ℕ)). name.now))) (sym c.in-Some.is) ∙ c.parse_group.ensures)
    ∙ ap (λ xs. Some (map (option_map (λ (name : Bor (List ℕ)). name.now)) xs)) (sym c.in_ok-push-in-Some.ensures.items)

pub returns : goal.returns
returns g c =
    let read = groups_in_text-some c.args.pattern.now c.as_slice-part-items.result.now (search (rules, tests)) (search (rules, tests)) in
    all_there-all (λ part. group_of part.now) (option_map (λ (name : Bor (List ℕ)). name.now))
    c.as_slice-part-items.result.now c.loop-part.part-index c.loop-part.groups.items c.loop-part-test.false c.loop-part.invariant ∙ read
