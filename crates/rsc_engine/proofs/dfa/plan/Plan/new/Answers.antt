use Rattle.std.proofs.Common.{◌≡◌, ◌<◌, ◌∙◌, length, subst, arith, ℕ}
use Rattle.rsc_nfa.specs.Classes.{has_unicode_assertion}
use Rattle.rsc_nfa.specs.StateFaults.{AreFaultless}
use Rattle.rsc_look.specs.Keeping.{AgreesWithAscii}
use Rattle.rsc_engine.proofs.LawfulLayoutLemmas.{parted}
use Rattle.rsc_engine.proofs.dfa.plan.Plan.new.Goals as goal

pub returns-clause-plan : goal.returns-clause-plan
returns-clause-plan g c =
    let p = c.args.program.now in
    let agreed : AgreesWithAscii (g.W.WordClass.word_chars p.automaton.matcher.1) = c.agrees_with_ascii.ensures p.automaton.matcher.1 in
    let looks : c.contains_word_unicode-unicode.result ≡ has_unicode_assertion p.automaton.states =
    rw c.nfa-nfa.ensures at (c.contains_word_unicode-unicode.ensures ∙ c.looks.ensures.unicode) in
    let faultless : AreFaultless p.automaton.groups p.automaton.states = rw c.nfa-nfa.ensures at c.states-states.ensures.faultless in
    record {
      groups = p.automaton.groups;
      faultless = faultless;
      there = subst (λ (s : ℕ). s < length p.automaton.states) c.start-start.ensures.value c.start-start.ensures.within;
      looks = looks;
      keeps = (rw c.nfa-nfa.ensures at c.classes_with-classes.ensures.keeps_runs) (λ _. agreed);
      agreed = agreed;
      parted = λ is. parted _ c.classes_with-classes.result c.classes_with-classes.ensures.value
          (c.classes_with-classes.ensures.parted 127 (omega arith) (c.past_ascii.ensures (looks ∙ is)));
      columns = c.alphabet_len-width.ensures.value;
      bounded = c.classes_with-classes.ensures.bounded;
    }
