use Rattle.std.proofs.Common.{arith}
use Rattle.std.specs.FinSet as sets
use Rattle.std.proofs.lemmas.List.Elements.{filter_passes}
use Rattle.std.proofs.lemmas.List.Sums.{length-filter, count_by-le-length}
use Rattle.rsc_look.specs.Looks.{every_look}
use Rattle.rsc_look.proofs.LookSetLayoutLemmas.{eighteen}
use Rattle.rsc_look.proofs.look_set.LookSet.iter.Goals as goal

pub returns-clause-contained : goal.returns-clause-contained
returns-clause-contained c = filter_passes (λ l. sets.contains c.args.self l) every_look

pub returns-clause-most : goal.returns-clause-most
returns-clause-most c =
    omega (arith, eighteen, length-filter (λ l. sets.contains c.args.self l) every_look, count_by-le-length (λ l. sets.contains c.args.self l) every_look)
