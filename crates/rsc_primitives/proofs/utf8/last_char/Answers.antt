use Rattle.std.proofs.Common.{◌-◌, length, arith}
use Rattle.rsc_primitives.specs.Utf8Layout.{EndsLongNumber}
use Rattle.rsc_primitives.proofs.Utf8LayoutLemmas.{says_of, back_at}
use Rattle.rsc_primitives.proofs.utf8.last_char.Goals as goal

pub returns : goal.returns
returns c =
    let h = c.args.bytes.now in
    let four = c.in-len4-up.len_at_least in
    says_of _ EndsLongNumber (back_at h 3 (length h - 4) (omega arith)) (back_at h 2 (length h - 3) (omega arith))
    (back_at h 1 (length h - 2) (omega arith)) (back_at h 0 (length h - 1) (omega arith)) c.char_ending.ensures
