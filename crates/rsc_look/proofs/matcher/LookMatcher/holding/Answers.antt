use Rattle.std.proofs.Common.{◌∙◌, ◌||◌, ap₂}
use Rattle.rsc_look.specs.Holds.{holds_at_bytes}
use Rattle.rsc_look.proofs.MatcherLemmas.{holds_by_tables}
use Rattle.rsc_look.proofs.matcher.LookMatcher.holding.Goals as goal

pub returns-clause-members : goal.returns-clause-members
returns-clause-members g c = λ look.
    rw (← c.self.view_is)
    (holds_by_tables look c.self.inside.line_terminator (g.W.WordClass.word_chars c.self.inside.word_class) c.args.haystack.now c.args.at
    c.near_side_before.result c.near_side_after.result _
    (rw (← c.self.view_is) at c.near_side_before.ensures) (rw (← c.self.view_is) at c.near_side_after.ensures)
    (c.union.ensures.members look
    ∙ ap₂ (λ x y. x || y)
    (c.holding_at_bytes-bytes.ensures look
    ∙ ap₂ (λ p n. holds_at_bytes look c.self.inside.line_terminator p n) c.byte_before.ensures c.byte_after.ensures)
    (c.holding_at_sides-characters.ensures look)))

pub returns-clause-subsets : goal.returns-clause-subsets
returns-clause-subsets g c = λ set. (
  (λ among look listed. (returns-clause-members g c look).0 (among look listed)),
  (λ each look listed. (returns-clause-members g c look).1 (each look listed)),
)
