use Rattle.std.proofs.Common.{◌≡◌, ◌∙◌, sym, ap, arith, map, take, take_all, List, refl, ◌+◌, ◌++◌, ◌∷◌, []}
use Rattle.rsc_engine.specs.Patterns.{Pattern, sequence, may_be_empty}
use Rattle.rsc_engine.specs.GroupNumbers.{group_count_in}
use Rattle.rsc_engine.specs.FirstEnds.{loops_take_bytes}
use Rattle.rsc_engine.specs.Parts.{pattern_of}
use Rattle.rsc_engine.specs.Trees.{pattern_in}
use Rattle.rsc_engine.specs.declared.builder.tree.Tree.TheVariants as variants
use Rattle.rsc_engine.proofs.TreesLemmas.{pattern-concat}
use Rattle.rsc_engine.proofs.PartsLemmas.{patterns_more, in_order_empty, in_order_loops}
use Rattle.rsc_engine.proofs.builder.Builder.concat.Goals as goal

pub loop-part-preserved : goal.loop-part-preserved
loop-part-preserved c =
    let done : List Pattern = map pattern_of (take c.loop-part.part-index c.deref-part-items.result.now) in
    let more : map pattern_of (take (c.loop-part.part-index + 1) c.deref-part-items.result.now) ≡ done ++ pattern_of c.part-item.result ∷ [] =
    patterns_more _ _ _ (omega (arith, c.loop-part-test.true)) c.part-item.is in
    rw (
      more,
      in_order_empty done (pattern_of c.part-item.result),
      in_order_loops done (pattern_of c.part-item.result),
      ← c.loop-part.invariant.0,
      ← c.loop-part.invariant.1,
      ← c.part-item.result.emptiness,
      ← c.part-item.result.loops,
    )
    (refl, refl)

pub invariant_of-result : goal.invariant_of-result
invariant_of-result c =
    let all : take c.loop-part.part-index c.deref-part-items.result.now ≡ c.args.parts.items =
    take_all _ _ (omega (arith, c.loop-part-test.false)) ∙ c.deref-part-items.ensures.value in
    let same : sequence (map pattern_of (take c.loop-part.part-index c.deref-part-items.result.now)) ≡ pattern_in (variants.Concat c.in_ok-trees.trees) =
    ap (λ parts. sequence (map pattern_of parts)) all ∙ (ap sequence (sym c.in_ok-trees.ensures.trees) ∙ sym (pattern-concat c.in_ok-trees.trees)) in
    record {
      groups = c.in_ok-trees.ensures.count
          ∙ (ap (λ (ps : List Pattern). group_count_in (sequence ps)) (sym c.in_ok-trees.ensures.trees)
          ∙ ap group_count_in (sym (pattern-concat c.in_ok-trees.trees)));
      emptiness = c.loop-part.invariant.0 ∙ ap may_be_empty same;
      loops = c.loop-part.invariant.1 ∙ ap loops_take_bytes same;
    }
