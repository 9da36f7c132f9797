use Rattle.std.proofs.Common.{◌∙◌, sym, arith}
use Rattle.rsc_look.proofs.MatcherLemmas.{BeginsAt-ascii}
use Rattle.rsc_look.proofs.HoldsLemmas.{IsAfter-from_char}
use Rattle.rsc_look.proofs.matcher.LookMatcher.near_side_after.Goals as goal

pub returns-in-Some : goal.returns-in-Some
returns-in-Some g c =
    IsAfter-from_char (g.W.WordClass.word_chars c.args.self.now.1) c.args.haystack.now c.args.at c.in-Some.byte c.side_of.result
    (BeginsAt-ascii c.args.haystack.now c.args.at c.in-Some.byte (sym c.byte_after.ensures ∙ c.in-Some.is) (omega (arith, c.if-byte-lt128.true)))
    (rw c.from.ensures at c.side_of.ensures)
