use Rattle.rsc_engine.specs.Searches.{search_in}
use Rattle.rsc_engine.proofs.ForwardLayoutLemmas.{each-on}
use Rattle.rsc_engine.proofs.dfa.pass_table.PassTable.step.Goals as goal

pub returns-clause-on : goal.returns-clause-on
returns-clause-on g c = rw c.found_with.ensures
    (each-on (search_in g.W.WordClass.word_chars c.args.plan.now.program.now c.args.input.now) c.args.plan.now.classes c.args.self.now.rows.items
    c.next_row.new.self.rows.items c.args.row c.args.at c.in_ok-next.next c.args.last c.in_ok-next.ensures.goes c.requires.on)
