use Rattle.std.proofs.Common.{◌≡◌, ℕ, List, ◌≤◌, ◌<◌, sym, ap, ap₂, ◌∙◌, ◌||◌, take, length, take_all, nat_cmp}
use Rattle.std.specs.FinSet as sets
use Rattle.rsc_alphabet.proofs.Prelude.{has_boundary, class_map, contains-joined, class_map_same}
use Rattle.rsc_alphabet.proofs.RangesLemmas.{boundary_if_unlike, has_boundary_more, same_class_is}
use Rattle.rsc_alphabet.proofs.byte_class_set.classes_of_ranges.Goals as goal

pub loop-start-preserved : goal.loop-start-preserved
loop-start-preserved c = λ k h.
    rw c.set_range.ensures.value (contains-joined c.loop-start.partition _ k
    ∙ ap₂ (λ x y. x || y) (c.loop-start.invariant k h) (boundary_if_unlike _ k (c.requires c.loop-start.start-index (0, 0) c.loop-start-test.true) h)
    ∙ sym (has_boundary_more c.args.ranges.now c.loop-start.start-index _ k c.loop-start-test.true))

counts : (p : sets.FinSet nat_cmp) (ranges : List (ℕ × ℕ)) (i : ℕ) → ((k : ℕ) → k < 255 → sets.contains p k ≡ has_boundary (take i ranges) k)
    → length ranges ≤ i → class_map (sets.contains p) ≡ class_map (has_boundary ranges)
counts p ranges i same all = class_map_same (sets.contains p) (has_boundary ranges) (λ k h. same k h ∙ ap (λ rs. has_boundary rs k) (take_all i ranges all))

pub returns-clause-value : goal.returns-clause-value
returns-clause-value c =
    c.byte_classes.ensures.value ∙ counts c.loop-start.partition c.args.ranges.now c.loop-start.start-index c.loop-start.invariant c.loop-start-test.false

pub returns-clause-alike : goal.returns-clause-alike
returns-clause-alike c = λ b c' l l'.
    same_class_is c.args.ranges.now c.byte_classes.result b c'
    (c.byte_classes.ensures.value ∙ counts c.loop-start.partition c.args.ranges.now c.loop-start.start-index c.loop-start.invariant c.loop-start-test.false)
    l l'
