use Rattle.std.proofs.Common.{◌≡◌, ◌∙◌, ◌||◌, ap, [], ◌∷◌, Bool, true, false, refl}
use Rattle.std.specs.List.{list_any}
use Rattle.rsc_engine.specs.Asks.{asks}
use Rattle.rsc_engine.specs.Parts.{pattern_of}
use Rattle.rsc_uses.proofs.parts.looks_of.Goals as goal

or_none : (a : Bool) → (a || false) ≡ a
or_none true = refl
or_none false = refl

pub returns-clause-asked : goal.returns-clause-asked
returns-clause-asked g c = λ look.
    let asked = rw c.new.ensures.patterns at c.in_ok-program.ensures.looks look in
    rw c.nfa.ensures at c.looks.ensures.members look ∙ (asked ∙ or_none (asks look (pattern_of c.args.part)))
