use Rattle.std.proofs.Common.{arith, refl}
use Rattle.std.proofs.lemmas.List.{get_or_past}
use Rattle.rsc_primitives.specs.Utf8Layout.{IsLongNumber}
use Rattle.rsc_primitives.proofs.Utf8LayoutLemmas.{says_of}
use Rattle.rsc_primitives.proofs.utf8.first_char_of_few.Goals as goal

pub returns-in-len2 : goal.returns-in-len2
returns-in-len2 c =
    let h = c.args.bytes.now in
    let two = c.in-len2.len_below in
    says_of _ IsLongNumber refl refl (get_or_past h 2 0 (omega arith)) (get_or_past h 3 0 (omega arith)) c.char_of.ensures

pub returns-in-len3 : goal.returns-in-len3
returns-in-len3 c =
    let three = c.in-len3.len_below in
    says_of _ IsLongNumber refl refl refl (get_or_past c.args.bytes.now 3 0 (omega arith)) c.char_of-in-len3.ensures
