use Rattle.rsc_example.proofs.pieces.Pieces.print_until_last.Goals as goal

pub loop-found-smaller : goal.loop-found-smaller
loop-found-smaller g c =
    let on = rw c.in-Some.is at c.in_ok-found.ensures.advanced in
    let later = rw c.in-Some.is at c.in_ok-found.ensures.order in
    let within = rw c.in-Some.is at c.in_ok-found.ensures.within in
    rw on (c.an_iteration_ends.ensures c.loop-found.matches.input.span.end c.in-Some.found.span.end c.loop-found.matches.last later within.2)
