use Rattle.std.proofs.Common.{◌++◌, [], ◌∷◌, subst, None}
use Rattle.rsc_engine.specs.Parts.{pattern_of, patterns_of}
use Rattle.rsc_uses.specs.Lexed.{AreLexed}
use Rattle.rsc_uses.specs.Texts.{text_of}
use Rattle.rsc_uses.proofs.LexedLemmas.{read_by, lexed}
use Rattle.rsc_uses.proofs.lexer.tokens_of.Goals as goal

pub returns-clause-tokens : goal.returns-clause-tokens
returns-clause-tokens g c =
    let chars = g.W.WordClass.word_chars in
    let program = c.in_ok-program.program in
    let patterns = patterns_of c.args.builder ++ pattern_of c.args.last ∷ [] in
    let matches = c.in_ok-program.ensures.matches in
    let none = c.requires in
    let lists = c.in_ok-program.ensures.groups in
    subst (λ groups. AreLexed (text_of c.args.text.now (chars c.args.word_class)) patterns groups 0 c.in_ok-tokens.tokens.items) lists
    (subst (λ matcher. AreLexed (read_by chars matcher c.args.text.now) patterns program.automaton.groups 0 c.in_ok-tokens.tokens.items)
    c.in_ok-program.ensures.matcher
    (lexed chars program patterns c.args.text.now 0 None c.in_ok-tokens.tokens.items
    (record {
      built = c.in_ok-program.ensures.answers;
      first_end = λ input last captures found p f its loops.
          c.a_match_ends_at_its_first_end.ensures.next program patterns input last captures found p c.in_ok-program.ensures.first_ends f its loops;
      start = λ input last captures found anchored f.
          c.anchored_matches_are_side_by_side.ensures.next program patterns input last captures found matches none anchored f;
      over = λ input last other over same m.
          c.anchored_matches_are_side_by_side.ensures.over program patterns input last other matches none over same m;
    })
    (rw (c.anchored-input.ensures, c.new.ensures) at c.in_ok-tokens.ensures.all)))
