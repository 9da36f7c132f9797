use Rattle.std.proofs.Common.{List, ◌≡◌, ◌+◌, ◌-◌, [], ◌∷◌, sym, ◌∙◌, arith, rules, ℕ, slice_index}
use Rattle.rsc_alphabet.proofs.Prelude.{end_of_input, symbols_left}
use Rattle.rsc_alphabet.proofs.IteratorsLemmas.{symbols_left_more, symbols_left_end, symbols_left_none}
use Rattle.rsc_alphabet.proofs.byte_classes.iter.ByteClassIterIterator.next.Goals as goal

pub returns-then-self-end : goal.returns-then-self-end
returns-then-self-end c =
    let steps : c.args.self.now ≡ c.u8.result ∷ symbols_left c.self.inside.classes.now (c.self.inside.next_class + 1) =
    rw (← c.self.view_is, c.u8.ensures) (symbols_left_more c.self.inside.classes.now c.self.inside.next_class (omega arith)) in
    record { steps = steps; goes = search rules }

end_is : (classes : List ℕ) (next len end : ℕ) → len ≡ slice_index classes 255 + 2 → end ≡ len - 1 → next ≡ end
    → symbols_left classes next ≡ end_of_input end ∷ symbols_left classes (next + 1)
end_is classes next len end value is here =
    let last : next ≡ slice_index classes 255 + 1 = omega arith in
    let same : end ≡ slice_index classes 255 + 1 = omega arith in
    rw same (symbols_left_end classes next last)

pub returns-then-self-end-2 : goal.returns-then-self-end-2
returns-then-self-end-2 c =
    let steps : c.args.self.now ≡ c.eoi.result ∷ symbols_left c.self.inside.classes.now (c.self.inside.next_class + 1) =
    rw (← c.self.view_is, c.eoi.ensures) (end_is c.self.inside.classes.now c.self.inside.next_class c.alphabet_len-end.result (c.alphabet_len-end.result - 1)
    c.alphabet_len-end.ensures.value (omega arith) (omega arith)) in
    record { steps = steps; goes = search rules }

pub returns-clause-steps : goal.returns-clause-steps
returns-clause-steps c =
    let none : c.args.self.now ≡ [] = sym c.self.view_is ∙ symbols_left_none c.self.inside.classes.now c.self.inside.next_class (omega arith) in
    (none, none)
