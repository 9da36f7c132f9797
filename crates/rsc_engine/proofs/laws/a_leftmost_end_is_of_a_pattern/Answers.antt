use Rattle.std.proofs.Common.{arith}
use Rattle.rsc_nfa.specs.Steps.{place}
use Rattle.rsc_engine.specs.Searches.{search_in}
use Rattle.rsc_engine.specs.Ends.{IsMatchEnd}
use Rattle.rsc_engine.proofs.LawsLemmas.{end_is_in}
use Rattle.rsc_engine.proofs.laws.a_leftmost_end_is_of_a_pattern.Goals as goal

pub returns : goal.returns
returns g c = λ program patterns input end r f.
    let e = search_in g.W.WordClass.word_chars program input in
    let ends : IsMatchEnd e end = record {
      from = (place f.run 0).1;
      run = f.run;
      begins = f.is_first.begins;
      is_match = f.is_first.preferred.is_match;
      ends = f.ends;
    } in
    let x = end_is_in e patterns end (λ one. r.exactly input one) ends in (
      x.0,
      x.1,
      x.2,
      x.3,
      λ other l m.
          let s = (r.exactly input other).1 m in
          f.is_first.leftmost other.span.start m.start (omega (arith, l, x.4)) s.run s.is_match,
    )
