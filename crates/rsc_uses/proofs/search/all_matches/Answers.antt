use Rattle.std.proofs.Common.{ℕ, ◌++◌, [], ◌∷◌, inl, inr, rules, subst}
use Rattle.rsc_search.specs.Inputs.{whole}
use Rattle.rsc_engine.specs.NextMatches.{with_start}
use Rattle.rsc_uses.proofs.FoundLemmas.{AreFirstFound, found_more, found_all, goes_past, goes_on_at}
use Rattle.rsc_uses.proofs.search.all_matches.Goals as goal
use Rattle.rsc_uses.proofs.search.all_matches.Goals.{else-loop-input-test, then-loop-input-test+in_default}

pub loop-input-preserved-then-is_empty : goal.loop-input-preserved-then-is_empty
loop-input-preserved-then-is_empty g c = record {
  end = search rules;
  order = search rules;
  first = rw (c.set_start.ensures, c.in_ok-push.ensures.items, ← goes_past c.in-Some.span (search rules))
      (found_more (g.S.Search.Finds c.args.search.now) (whole c.args.haystack.now) c.loop-input.found.items c.loop-input.input c.in-Some.span
      c.loop-input.invariant.first (search rules) (rw c.in-Some.is at c.find.ensures.found));
  spans = search rules;
}

pub loop-input-preserved : goal.loop-input-preserved
loop-input-preserved g c =
    let finds = g.S.Search.Finds c.args.search.now in
    let found = c.loop-input.found.items in
    let more = found_more finds (whole c.args.haystack.now) found c.loop-input.input c.in-Some.span c.loop-input.invariant.first (search rules)
    (rw c.in-Some.is at c.find.ensures.found) in
    record {
      end = search rules;
      order = search rules;
      first = rw (c.set_start-else-is_empty.ensures, c.in_ok-push.ensures.items)
          (subst (λ (k : ℕ). AreFirstFound finds (whole c.args.haystack.now) (found ++ c.in-Some.span ∷ []) (with_start c.loop-input.input k))
          (goes_on_at c.in-Some.span (search rules)) more);
      spans = search rules;
    }

pub returns-clause-found : goal.returns-clause-found
returns-clause-found g c = elim c.loop-input-test.branch [
  | else-loop-input-test w ↦ found_all (g.S.Search.Finds c.args.search.now) (whole c.args.haystack.now) c.loop-input.found.items c.loop-input.input
      c.loop-input.invariant.first (inl (search rules))
  | then-loop-input-test+in_default w ↦ found_all (g.S.Search.Finds c.args.search.now) (whole c.args.haystack.now) c.loop-input.found.items
      c.loop-input.input c.loop-input.invariant.first (inr (search rules))
]
