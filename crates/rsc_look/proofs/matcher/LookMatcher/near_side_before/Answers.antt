use Rattle.std.proofs.Common.{◌∙◌, sym, arith}
use Rattle.rsc_look.proofs.MatcherLemmas.{EndsAt-ascii}
use Rattle.rsc_look.proofs.HoldsLemmas.{IsBefore-from_char}
use Rattle.rsc_look.proofs.matcher.LookMatcher.near_side_before.Goals as goal

pub returns-in-Some : goal.returns-in-Some
returns-in-Some g c =
    IsBefore-from_char (g.W.WordClass.word_chars c.args.self.now.1) c.args.haystack.now c.args.at c.in-Some.byte c.side_of.result
    (EndsAt-ascii c.args.haystack.now c.args.at c.in-Some.byte (sym c.byte_before.ensures ∙ c.in-Some.is) (omega (arith, c.if-byte-lt128.true)))
    (rw c.from.ensures at c.side_of.ensures)
