-- The log of the backward pass, from row to row.
use Rattle.std.proofs.Common.{◌≡◌, ℕ, ◌+◌, ◌-◌, ◌<◌, ◌≤◌, ⊎_elim, List, [], ◌∷◌, ◌++◌, length, get_or, refl, ap, ◌∙◌, arith, length-append, slice_get, Some}
use Rattle.std.proofs.lemmas.Bool.{cases_lt}
use Rattle.std.proofs.lemmas.List.{get_or_append_left, get_or-append_right}
use Rattle.std.proofs.lemmas.Option.{slice_get_within}
use Rattle.rsc_engine.specs.declared.dfa.pass_table.PassRow.{PassRow}
use Rattle.rsc_engine.specs.Searches.{Search}
use Rattle.rsc_nfa.specs.Steps.{place}
use Rattle.rsc_engine.specs.OrderedLayout.{IsEndOf}
use Rattle.rsc_engine.specs.ForwardLayout.{search_up_to}
use Rattle.rsc_engine.specs.ArrivalsLayout.{ArrivesOver}
use Rattle.rsc_engine.specs.BackwardLayout.{IsStartOf, Lists, StandsBackward, GoesBackward, least_with, begins_in}
use Rattle.rsc_engine.specs.PassTableLayout.{IsPassGrown}
use Rattle.rsc_engine.specs.LogLayout.{IsLoggedAt, IsLogged, IsLoggedFirst, IsLogOf, IsBackAt}
use Rattle.rsc_engine.proofs.BackwardLemmas.{first-down, end-high}

module _ (e : Search) (classes : List ℕ) (rows : List PassRow) where
  -- the row that stands before b is the log's last
  logged-here : (k b m least : ℕ) (log : List ℕ) → m ≡ b → e.end + 1 - m < length log → get_or log (e.end + 1 - m) 0 ≡ k
      → StandsBackward e classes rows k b least → IsLoggedAt e rows log m
  logged-here k b m least log same within is on = record {
    within = within;
    row = on.row;
    there = ap (λ (n : ℕ). slice_get rows n) is ∙ on.there;
    before = rw same on.before;
    begun = rw same on.begun;
  }

  pub logged-first : (k least : ℕ) (log : List ℕ) → log ≡ k ∷ [] → StandsBackward e classes rows k (e.end + 1) least
      → IsLogOf e (e.end + 1) rows log
  logged-first k least log is on = rw is (record { count = omega arith; each = each })
    where
      each : (b : ℕ) → e.end + 1 ≤ b → b ≤ e.end + 1 → IsLoggedAt e rows (k ∷ []) b
      each b from to =
          let none : e.end + 1 - b ≡ 0 = omega (arith, from, to) in
          logged-here k (e.end + 1) b least (k ∷ []) (omega (arith, from, to)) (omega (arith, none)) (ap (λ (n : ℕ). get_or (k ∷ []) n 0) none) on

  -- the row of the position before
  pub logged-more : (i next least : ℕ) (log more : List ℕ) → more ≡ log ++ next ∷ [] → StandsBackward e classes rows next i least
      → IsLogOf e (i + 1) rows log → IsLogOf e i rows more
  logged-more i next least log more is on l = rw is (record { count = omega (arith, l.count, length-append log (next ∷ [])); each = each })
    where
      each : (b : ℕ) → i ≤ b → b ≤ e.end + 1 → IsLoggedAt e rows (log ++ next ∷ []) b
      each b from to = ⊎_elim
          (λ (before : i < b).
          let at = l.each b (omega (arith, before)) to in
          record {
            within = omega (arith, at.within, length-append log (next ∷ []));
            row = at.row;
            there = ap (λ (n : ℕ). slice_get rows n) (get_or_append_left log (next ∷ []) 0 (e.end + 1 - b) at.within) ∙ at.there;
            before = at.before;
            begun = at.begun;
          })
          (λ (here : b ≤ i).
          let last : e.end + 1 - b ≡ length log = omega (arith, l.count, here, from) in
          let none : length log - length log ≡ 0 = omega arith in
          logged-here next i b least (log ++ next ∷ []) (omega (arith, here, from)) (omega (arith, last, length-append log (next ∷ [])))
          (ap (λ (n : ℕ). get_or (log ++ next ∷ []) n 0) last
          ∙ get_or-append_right log (next ∷ []) (length log) (length log) 0 refl (omega arith) ∙ ap (λ (n : ℕ). get_or (next ∷ []) n 0) none) on)
          (cases_lt i b)

pub logged-grown : (e : Search) (b : ℕ) (old new : List PassRow) (log : List ℕ) → IsPassGrown old new → IsLogOf e b old log → IsLogOf e b new log
logged-grown e b old new log g l = record {
  count = l.count;
  each = λ m from to.
      let at = l.each m from to in
      record { within = at.within; row = at.row; there = g.kept (get_or log (e.end + 1 - m) 0) at.row at.there; before = at.before; begun = at.begun };
}

-- from a later position on
pub logged-from : (e : Search) (b from : ℕ) (rows : List PassRow) (log : List ℕ) → b ≤ from → IsLogOf e b rows log → IsLogged e from rows log
logged-from e b from rows log le l = λ m low high. l.each m (omega (arith, le, low)) high

-- a step back along a known entry
pub back-more : (e : Search) (classes : List ℕ) (rows : List PassRow) (k next i least found : ℕ) (log more : List ℕ) → 0 < i
    → found ≡ least_with (begins_in (slice_get rows next)) i least → more ≡ log ++ next ∷ [] → GoesBackward e classes rows rows k i next
    → IsBackAt e classes rows k i least log → IsBackAt e classes rows next (i - 1) found more
back-more e classes rows k next i least found log more some is_found is_more goes b = record {
  stands = rw (on, is_found) now;
  logged = rw on (logged-more e classes rows i next (least_with (begins_in (slice_get rows next)) i least) log more is_more now b.logged);
}
  where
    on : i - 1 + 1 ≡ i
    on = omega (arith, some)

    now : StandsBackward e classes rows next i (least_with (begins_in (slice_get rows next)) i least)
    now = goes least b.stands

-- from where the pass stands it goes on to the row of the position before, and so does the log
pub log-on : (e : Search) (classes : List ℕ) (old new : List PassRow) (next i least : ℕ) (log more : List ℕ) → more ≡ log ++ next ∷ []
    → IsPassGrown old new → StandsBackward e classes new next i least → IsLogOf e (i + 1) old log → IsLogOf e i new more
log-on e classes old new next i least log more is_more grown on l =
    logged-more e classes new i next least log more is_more on (logged-grown e (i + 1) old new log grown l)

pub back-on : (e : Search) (classes : List ℕ) (rows : List PassRow) (next i least : ℕ) (log : List ℕ) → 0 < i
    → StandsBackward e classes rows next i least
    → IsLogOf e i rows log → IsBackAt e classes rows next (i - 1) least log
back-on e classes rows next i least log some on l = record { stands = rw back on; logged = rw back l }
  where
    back : i - 1 + 1 ≡ i
    back = omega (arith, some)

-- where the leftmost-first match begins, by a log of the part of the span up to its end
pub first-start : (e : Search) (p j at : ℕ) (rows : List PassRow) (log : List ℕ) → IsEndOf e p j → IsLoggedFirst (search_up_to e j) at rows log
    → IsStartOf e p j at × IsLogged (search_up_to e j) at rows log
first-start e p j at rows log x first = (
  record {
    run = x.run;
    is_first = x.is_first;
    begins = x.is_first.preferred.is_match.begins ∙ ap (λ (n : ℕ). (e.start_state, n)) logged.0;
    pattern = x.pattern;
    end = x.end;
  },
  logged.1,
)
  where
    logged : ((place x.run 0).1 ≡ at) × IsLogged (search_up_to e j) at rows log
    logged = first x.run (first-down e j x.run (omega (arith, x.end)) (end-high e p j x) x.is_first) x.end

-- ---- along the log

module _ (e : Search) (from i end : ℕ) (rows : List PassRow) (log : List ℕ) where
  same_index : end ≡ e.end → e.end + 1 - (i + 1) ≡ end - i
  same_index is = omega (arith, is)

  -- the entry for a position is there
  pub logged-at : from ≤ i → i ≤ e.end → end ≡ e.end → IsLogged e from rows log → (end - i < length log) × (get_or log (end - i) 0 < length rows)
  logged-at low high is logged =
      let at = logged (i + 1) (omega (arith, low)) (omega (arith, high)) in (
        omega (arith, at.within, is),
        slice_get_within rows (get_or log (end - i) 0) at.row (rw (same_index is) at at.there),
      )

  -- its list has the states that arrive over the byte there
  pub logged-lists : (list : List ℕ) → e.start ≤ from → from ≤ i → i ≤ e.end → end ≡ e.end → IsLogged e from rows log
      → ((row : PassRow) → slice_get rows (get_or log (end - i) 0) ≡ Some row → list ≡ row.list.items) → Lists (λ s. ArrivesOver e s i) list
  logged-lists list start low high is logged read =
      let at = logged (i + 1) (omega (arith, low)) (omega (arith, high)) in
      rw (read at.row (rw (same_index is) at at.there)) (at.before i refl (omega (arith, start, low)))
