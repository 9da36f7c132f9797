use Rattle.std.proofs.Common.{◌∙◌, true, sym, ap}
use Rattle.rsc_alphabet.proofs.Prelude.{members, elements_left}
use Rattle.rsc_alphabet.proofs.IteratorsLemmas.{elements_of-byte, elements_of-end, members_none, elements_have_class, length_elements}
use Rattle.rsc_alphabet.proofs.byte_classes.ByteClasses.elements.Goals as goal

pub returns-in-Some : goal.returns-in-Some
returns-in-Some c =
    let list = c.new.ensures ∙ elements_of-byte c.args.self.now c.args.class c.in-Some.class c.bytes_of.result (sym c.as_u8.ensures ∙ c.in-Some.is)
    c.bytes_of.ensures in
    record { value = list; class = elements_have_class _ _ _ list; most = rw list (length_elements c.args.self.now c.args.class) }

pub returns-in-None : goal.returns-in-None
returns-in-None c =
    let none = ap members c.empty.ensures.value ∙ members_none in
    let list = c.new-in-None.ensures ∙ ap (λ bytes. elements_left bytes true) none
    ∙ elements_of-end c.args.self.now c.args.class (sym c.as_u8.ensures ∙ c.in-None.is) in
    record { value = list; class = elements_have_class _ _ _ list; most = rw list (length_elements c.args.self.now c.args.class) }
