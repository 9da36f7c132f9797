use Rattle.rsc_replace.proofs.ReplacementsLemmas.{same_all, same_text, same_first, same_first_text}
use Rattle.rsc_replace.proofs.laws.at_most_one_replaced_text.Goals as goal

pub returns-clause-all : goal.returns-clause-all
returns-clause-all g c =
    same_all g.W.WordClass.word_chars (record { next = c.at_most_one_match_with_captures.ensures.next; over = c.at_most_one_next_match.ensures.over })

pub returns-clause-replaced : goal.returns-clause-replaced
returns-clause-replaced g c =
    same_text g.W.WordClass.word_chars (record { next = c.at_most_one_match_with_captures.ensures.next; over = c.at_most_one_next_match.ensures.over })

pub returns-clause-first : goal.returns-clause-first
returns-clause-first g c =
    same_first g.W.WordClass.word_chars (record { next = c.at_most_one_match_with_captures.ensures.next; over = c.at_most_one_next_match.ensures.over })

pub returns-clause-up_to : goal.returns-clause-up_to
returns-clause-up_to g c =
    same_first_text g.W.WordClass.word_chars (record { next = c.at_most_one_match_with_captures.ensures.next; over = c.at_most_one_next_match.ensures.over })
