use Rattle.rsc_replace.proofs.PartReplacementsLemmas.{same_ways, same_part}
use Rattle.rsc_replace.proofs.laws.at_most_one_text_with_a_part_replaced.Goals as goal

pub returns-clause-all : goal.returns-clause-all
returns-clause-all c = same_ways (record { end = c.at_most_one_preferred_way.ensures.end; records = c.at_most_one_preferred_way.ensures.records })

pub returns-clause-replaced : goal.returns-clause-replaced
returns-clause-replaced c = same_part (record { end = c.at_most_one_preferred_way.ensures.end; records = c.at_most_one_preferred_way.ensures.records })
