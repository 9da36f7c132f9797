-- The leftmost-first match from a position on is a match of the whole search.
use Rattle.std.proofs.Common.{◌≡◌, ℕ, ◌+◌, ◌-◌, ◌<◌, ◌≤◌, List, length, get_or, sym, ap, subst, ◌∙◌, arith, slice_get, Option, Some}
use Rattle.std.proofs.lemmas.Option.{slice_get_within}
use Rattle.rsc_captures.specs.Captured.{Captured}
use Rattle.rsc_search.specs.Matches.{Matched}
use Rattle.rsc_nfa.specs.Steps.{place}
use Rattle.rsc_engine.specs.Searches.{Search}
use Rattle.rsc_engine.specs.Preferred.{IsFirstMatch, HasNoFirstMatch}
use Rattle.rsc_engine.specs.declared.dfa.pass_table.PassRow.{PassRow}
use Rattle.rsc_engine.specs.BackwardLayout.{IsBegun}
use Rattle.rsc_engine.specs.LogLayout.{IsLoggedAt, IsLogged}
use Rattle.rsc_engine.specs.AlongLayout.{GoesTo, IsRecorded}
use Rattle.rsc_engine.specs.AheadLayout.{start_at, IsNextBegin, IsMatchAt, HasNoBegin, IsRestOf}
use Rattle.rsc_engine.proofs.PreferredLemmas.{match_shift, preferred_shift}
use Rattle.rsc_engine.proofs.PassTableLayoutLemmas.{some_same}
use Rattle.rsc_engine.proofs.ForwardStepsLemmas.{run-rises}

-- the match from where the next one begins
pub ahead-first : (e : Search) (from at : ℕ) (captures : Captured) (found : Matched) → e.start ≤ from → IsNextBegin e from at
    → IsMatchAt e at captures found
    → IsFirstMatch (start_at e from) captures found
ahead-first e from at captures found low next m = record {
  run = m.recorded.goes.run;
  is_first = record {
    begins = rw here next.may;
    preferred = rw here
        (preferred_shift e e.start from (e.start_state, at) m.recorded.goes.run (omega (arith, low, next.may.start)) next.may.start m.recorded.goes.preferred);
    leftmost = λ k above l other match. next.none k above (omega (arith, l, here))
        (record { run = other; is_match = match_shift e from e.start (e.start_state, k) other (omega (arith, low, above)) match });
  };
  is_of = record {
    ends = record { pattern = m.recorded.goes.pattern; start = m.start ∙ sym here; end = sym m.recorded.goes.end };
    pattern = m.pattern;
    records = m.recorded.records;
  };
}
  where
    here : (place m.recorded.goes.run 0).1 ≡ at
    here = ap (λ (q : ℕ × ℕ). q.1) m.recorded.goes.preferred.is_match.begins

-- it ends where it begins, or later
pub ahead-order : (e : Search) (at p j : ℕ) → GoesTo e at p j → at ≤ j
ahead-order e at p j x = omega (
  arith,
  ap (λ (q : ℕ × ℕ). q.1) x.preferred.is_match.begins,
  run-rises e x.run (length x.run - 1) x.preferred.is_match.is_run (omega (arith, x.preferred.is_match.some)),
  x.end,
)

pub ahead-none : (e : Search) (from : ℕ) → e.start ≤ from → HasNoBegin e from → HasNoFirstMatch (start_at e from)
ahead-none e from low none at may other match =
    none at may (record { run = other; is_match = match_shift e from e.start (e.start_state, at) other (omega (arith, low, may.start)) match })

-- ---- the rest of a search

pub rest-later : (whole rest : Search) (i : ℕ) → rest.start ≤ i → IsRestOf whole rest → IsRestOf whole (start_at rest i)
rest-later whole rest i le r = (omega (arith, r.0, le), ap (λ (e : Search). start_at e i) r.1)

-- ---- whether a match begins

-- what the entry for a position says
module _ (e : Search) (i end : ℕ) (rows : List PassRow) (log : List ℕ) (is_end : end ≡ e.end) (low : e.start ≤ i) (high : i ≤ e.end)
    (logged : IsLogged e e.start rows log) where
  at : IsLoggedAt e rows log i
  at = logged i low (omega (arith, high))

  same : e.end + 1 - i ≡ end + 1 - i
  same = omega (arith, is_end)

  pub begins-within : end + 1 - i < length log
  begins-within = omega (arith, at.within, is_end)

  there : slice_get rows (get_or log (end + 1 - i) 0) ≡ Some at.row
  there = rw same at at.there

  pub begins-row : get_or log (end + 1 - i) 0 < length rows
  begins-row = slice_get_within rows (get_or log (end + 1 - i) 0) at.row there

  pub begins-as : (row : PassRow) → slice_get rows (get_or log (end + 1 - i) 0) ≡ Some row → IsBegun e i row.begins
  begins-as row is = subst (λ (x : PassRow). IsBegun e i x.begins) (some_same at.row row (sym there ∙ is)) at.begun

-- ---- what is recorded

pub match-at : (e : Search) (at p j : ℕ) (slots : List (Option ℕ)) (captures : Captured) (found : Matched) → IsRecorded e at p j slots
    → captures.offsets ≡ slots → captures.pattern ≡ Some p → found.pattern ≡ p → found.span.start ≡ at → found.span.end ≡ j
    → IsMatchAt e at captures found
match-at e at p j slots captures found r is_slots is_set is_pattern is_start is_end = record {
  start = is_start;
  pattern = rw is_pattern is_set;
  recorded = rw (is_pattern, is_end, is_slots) r;
}
