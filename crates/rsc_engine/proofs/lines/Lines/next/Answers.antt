use Rattle.rsc_engine.proofs.lines.Lines.next.Goals.{in-Some, in-None}
use Rattle.rsc_engine.proofs.lines.Lines.next.Goals as goal

pub returns-clause-none : goal.returns-clause-none
returns-clause-none g c = elim c.match-found.branch [
  | in-Some w ↦ rw w.found-is tt
  | in-None w ↦ rw (w.found-is, ← c.self.view_is) c.in_ok-found.ensures.none
]
