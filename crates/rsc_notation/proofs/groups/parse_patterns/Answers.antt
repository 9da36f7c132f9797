use Rattle.std.proofs.Common.{rules, tests, Bor, ℕ, List, [], ap, map, sym, ◌∙◌}
use Rattle.std.specs.Prelude.{Some}
use Rattle.std.specs.Option.{option_map}
use Rattle.rsc_notation.specs.GroupTexts.{groups_in_text}
use Rattle.rsc_notation.proofs.GroupTextsLemmas.{all_there-one, all_there-none, all_there-all, patterns_in_text-parts}
use Rattle.rsc_notation.proofs.groups.parse_patterns.Goals as goal

abbrev no_part : Bor (List ℕ)
no_part = record { ref_ptr = (0, 0); now = [] }

pub returns-in-None : goal.returns-in-None
returns-in-None g c =
    let read = patterns_in_text-parts c.args.text.now c.as_slice-part-items.result.now (search (rules, tests)) in
    all_there-none (λ part. groups_in_text part.now) c.as_slice-part-items.result.now c.loop-part.part-index no_part c.loop-part-test.true
    (ap (option_map (λ groups. map (option_map (λ (name : Bor (List ℕ)). name.now)) groups.items))
    (sym c.in-None.is) ∙ c.in_ok-groups.ensures) ∙ read

pub loop-part-preserved : goal.loop-part-preserved
loop-part-preserved g c =
    all_there-one (λ part. groups_in_text part.now) (λ groups. map (option_map (λ (name : Bor (List ℕ)). name.now)) groups.items)
    c.as_slice-part-items.result.now c.loop-part.part-index no_part c.loop-part.patterns.items c.in-Some.groups c.loop-part-test.true c.loop-part.invariant
    (ap (option_map (λ groups. map (option_map (λ (name : Bor (List ℕ)). name.now)) groups.items)) (sym c.in-Some.is) ∙ c.in_ok-groups.ensures)
    ∙ ap (λ xs. Some (map (λ groups. map (option_map (λ (name : Bor (List ℕ)). name.now)) groups.items) xs)) (sym c.in_ok-push-in-Some.ensures.items)

pub returns : goal.returns
returns g c =
    let read = patterns_in_text-parts c.args.text.now c.as_slice-part-items.result.now (search (rules, tests)) in
    all_there-all (λ part. groups_in_text part.now) (λ groups. map (option_map (λ (name : Bor (List ℕ)). name.now)) groups.items)
    c.as_slice-part-items.result.now c.loop-part.part-index c.loop-part.patterns.items c.loop-part-test.false c.loop-part.invariant ∙ read
