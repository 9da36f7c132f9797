use Rattle.std.proofs.Common.{◌≡◌, ◌∙◌, ◌||◌, ◌&&◌, not, nat_eq, is_some, ap, sym, Bool}
use Rattle.rsc_engine.specs.Patterns.{Repeat, may_be_empty}
use Rattle.rsc_engine.specs.GroupNumbers.{group_count_in}
use Rattle.rsc_engine.specs.FirstEnds.{loops_take_bytes}
use Rattle.rsc_engine.specs.Trees.{pattern_in}
use Rattle.rsc_engine.specs.declared.builder.tree.Tree.{Tree}
use Rattle.rsc_engine.specs.declared.builder.tree.Times.{Times}
use Rattle.rsc_engine.specs.declared.builder.tree.Tree.TheVariants as variants
use Rattle.rsc_engine.proofs.TreesLemmas.{pattern-repeat}
use Rattle.rsc_engine.proofs.PartsLemmas.{repeat_empty, repeat_loops}
use Rattle.rsc_engine.proofs.builder.Builder.times.Goals as goal

pub invariant_of-result : goal.invariant_of-result
invariant_of-result c =
    let p = pattern_in c.args.part.tree in
    let times : Times =
    record { min = c.args.min; max = c.args.max; is_greedy = c.args.is_greedy } in
    let same : pattern_in (variants.Repeat times c.in_ok-new.field-0) ≡ Repeat c.args.min c.args.max c.args.is_greedy p =
    pattern-repeat times c.in_ok-new.field-0
    ∙ ap (λ (t : Tree). Repeat c.args.min c.args.max c.args.is_greedy (pattern_in t)) (c.in_ok-new.ensures.ok ∙ c.into_tree_and_names-tree.ensures.tree) in
    record {
      groups = c.into_tree_and_names-tree.ensures.groups
          ∙ (ap (λ (t : Tree). group_count_in (pattern_in t)) c.into_tree_and_names-tree.ensures.tree ∙ ap group_count_in (sym same));
      emptiness = ap (λ (b : Bool). nat_eq c.args.min 0 || b) c.args.part.emptiness
          ∙ (sym (repeat_empty c.args.min c.args.max c.args.is_greedy p) ∙ ap may_be_empty (sym same));
      loops = ap (λ (b : Bool). c.args.part.loops_take_bytes && (b || not c.args.part.may_be_empty)) c.is_some.ensures
          ∙ (ap (λ (b : Bool). b && (is_some c.args.max || not c.args.part.may_be_empty)) c.args.part.loops
          ∙ (ap (λ (b : Bool). loops_take_bytes p && (is_some c.args.max || not b)) c.args.part.emptiness
          ∙ (sym (repeat_loops c.args.min c.args.max c.args.is_greedy p) ∙ ap loops_take_bytes (sym same))));
    }
