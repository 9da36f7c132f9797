use Rattle.std.proofs.Common.{rules, tests}
use Rattle.rsc_notation.proofs.GroupTextsLemmas.{IsUtf8-from_word_bytes}
use Rattle.rsc_notation.proofs.groups.parse_group.Goals as goal

pub returns-in-Err : goal.returns-in-Err
returns-in-Err c = absurd (c.in-Err.ensures.cases.0 (IsUtf8-from_word_bytes c.args.group.now (search (rules, tests))))
