use Rattle.std.proofs.Common.{◌-◌, ◌<◌, ◌≤◌, ⊎_elim, length, slice_get, refl, sym}
use Rattle.std.proofs.lemmas.Bool.{cases_lt}
use Rattle.rsc_nfa.specs.Steps.{place}
use Rattle.rsc_search.specs.Modes.{only_pattern}
use Rattle.rsc_search.specs.Matches.{Matched}
use Rattle.rsc_engine.specs.Searches.{search_in}
use Rattle.rsc_engine.specs.Runs.{IsMatchOf}
use Rattle.rsc_engine.proofs.LawsLemmas.{accepted}
use Rattle.rsc_engine.proofs.PatternOrderLemmas.{is_least}
use Rattle.rsc_engine.proofs.laws.a_leftmost_end_is_of_the_least_pattern.Goals as goal

pub returns : goal.returns
returns g c = λ program patterns input end r lesser ends f.
    let e = search_in g.W.WordClass.word_chars program input in
    let q = accepted (only_pattern e.mode) (slice_get e.states (place f.run (length f.run - 1)).0) f.is_first.preferred.is_match.ends in
    let found : Matched = record { pattern = q.0; span = record { start = (place f.run 0).1; end = end } } in
    let makes : IsMatchOf e f.run found = record { pattern = q.1; start = refl; end = sym f.ends } in (
      found,
      (r.exactly input found).0 (record { run = f.run; is_match = f.is_first.preferred.is_match; makes = makes }),
      refl,
      λ other m. ⊎_elim
          (λ (l : other.span.start < (place f.run 0).1).
          let s = (r.exactly input other).1 m in absurd (f.is_first.leftmost other.span.start m.start l s.run s.is_match))
          (λ (le : (place f.run 0).1 ≤ other.span.start). le)
          (cases_lt other.span.start (place f.run 0).1),
      λ other m same. is_least e f.run found other (lesser.lesser input) f.is_first.preferred makes ((r.exactly input other).1 m) same,
      λ p its loops. ends.first input f.run found p f.is_first.preferred makes its loops,
    )
