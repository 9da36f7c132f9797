use Rattle.rsc_calls.proofs.pairs.pairs.Goals as goal

pub loop-matches-smaller : goal.loop-matches-smaller
loop-matches-smaller c =
    let on = rw c.in-Some.is at c.in_ok-found.ensures.advanced in
    let later = rw c.in-Some.is at c.in_ok-found.ensures.order in
    let within = rw c.in-Some.is at c.in_ok-found.ensures.within in
    rw on (c.an_iteration_ends.ensures c.loop-matches.matches.input.span.end c.in-Some.found.span.end c.loop-matches.matches.last later within.2)
