use Rattle.rsc_engine.specs.Searches.{search_in}
use Rattle.rsc_engine.specs.Ends.{IsEarliestEnd}
use Rattle.rsc_engine.proofs.dfa.Dfa.is_match.Goals as goal

pub returns-in-Some-clause-found : goal.returns-in-Some-clause-found
returns-in-Some-clause-found g c = λ _ none.
    let x : IsEarliestEnd (search_in g.W.WordClass.word_chars c.args.self.now c.args.input.now) c.in-Some.field-0 =
    rw c.in-Some.is at c.in_ok-earliest_end.ensures.found in
    none x.ends.from x.ends.begins x.ends.run x.ends.is_match
