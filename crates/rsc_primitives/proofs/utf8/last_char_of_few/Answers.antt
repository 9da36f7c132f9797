use Rattle.std.proofs.Common.{arith}
use Rattle.rsc_primitives.specs.Utf8Layout.{EndsLongNumber}
use Rattle.rsc_primitives.proofs.Utf8LayoutLemmas.{says_of, back_at, back_past}
use Rattle.rsc_primitives.proofs.utf8.last_char_of_few.Goals as goal

pub returns-in-len2 : goal.returns-in-len2
returns-in-len2 c =
    let h = c.args.bytes.now in
    let least = c.in-len2.len_at_least in
    let below = c.in-len2.len_below in
    says_of _ EndsLongNumber (back_past h 3 (omega arith)) (back_past h 2 (omega arith)) (back_at h 1 0 (omega arith))
    (back_at h 0 1 (omega arith)) c.char_ending.ensures

pub returns-in-len3 : goal.returns-in-len3
returns-in-len3 c =
    let least = c.in-len3.len_at_least in
    let below = c.in-len3.len_below in
    says_of _ EndsLongNumber (back_past c.args.bytes.now 3 (omega arith)) (back_at c.args.bytes.now 2 0 (omega arith))
    (back_at c.args.bytes.now 1 1 (omega arith)) (back_at c.args.bytes.now 0 2 (omega arith)) c.char_ending-in-len3.ensures
