-- What a pass finds is the end of the leftmost-first match.
use Rattle.std.proofs.Common.{◌≡◌, ℕ, ◌+◌, ◌<◌, ◌≤◌, ◌⊎◌, inl, inr, Bool, false, List, [], ◌∷◌, refl, sym, ap, subst, arith, Option, Some, None}
use Rattle.rsc_nfa.specs.Steps.{place}
use Rattle.rsc_search.specs.declared.anchored.Anchored.TheVariants.{No}
use Rattle.rsc_engine.specs.Searches.{Search}
use Rattle.rsc_engine.specs.Preferred.{MayBegin}
use Rattle.rsc_engine.specs.DecidesLayout.{unseen, Decides, IsLastPlace}
use Rattle.rsc_engine.specs.PassesLayout.{Scans, done, again, fork, single, stuck, over, matched, Status, Open, Closed, later, answer_of, Opens, IsFound, IsLeftOver, IsDue}
use Rattle.rsc_engine.specs.RowsLayout.{AddsOne}
use Rattle.rsc_engine.proofs.DecidesLayoutLemmas.{decides-unseen, decides-append, decides-rest, decides-seen, decides-fork, decides-single, decides-none, decides-over, decides-match, hopeless-of, decides-start}

-- what is so after a look
abbrev pub After : (ℕ × ℕ → Type 0) → Type 0 → Option (ℕ × ℕ) → Type 0
After claim rest None = rest
After claim rest (Some q) = claim q

-- one more at the end of a list, which decides with the list that is left
adds : (e : Search) (i : ℕ) (claim : ℕ × ℕ → Type 0) (rest other : Type 0) (next : List ℕ) (t : ℕ) (new : List ℕ) → AddsOne next t new
    → Decides e i unseen claim rest next → (rest → Decides e i unseen claim other (t ∷ [])) → Decides e i unseen claim other new
adds e i claim rest other next t new (inl is) d f =
    subst (λ (l : List ℕ). Decides e i unseen claim other l) (sym is)
    (decides-append e i claim unseen other next (t ∷ [])
    (decides-rest e i claim unseen rest (Decides e i unseen claim other (t ∷ [])) next d (λ all r. f r)))
adds e i claim rest other next t new (inr is) d f =
    subst (λ (l : List ℕ). Decides e i unseen claim other l) (sym is.0)
    (decides-rest e i claim unseen rest other next d (λ all r. (f r).1 (hopeless-of e i claim unseen next t all is.1)))

looks : (e : Search) (i : ℕ) (claim : ℕ × ℕ → Type 0) (rest : Type 0) (seen : ℕ → Bool) (list next out : List ℕ) (found : Option (ℕ × ℕ))
    → Scans e i seen list next out found → Decides e (i + 1) unseen claim (Decides e i seen claim rest list) next
    → Decides e (i + 1) unseen claim (After claim rest found) out
looks e i claim rest seen list next out found (done _ _) d = d
looks e i claim rest seen list next out found (again _ s more _ _ _ is l) d =
    looks e i claim rest seen more next out found l
    (decides-rest e (i + 1) claim unseen (Decides e i seen claim rest (s ∷ more)) (Decides e i seen claim rest more) next d
    (λ all r. decides-seen e i claim seen s rest more is r))
looks e i claim rest seen list next out found (fork _ after s a b more _ _ _ g fresh there is l) d =
    looks e i claim rest after (a ∷ b ∷ more) next out found l
    (decides-rest e (i + 1) claim unseen (Decides e i seen claim rest (s ∷ more)) (Decides e i after claim rest (a ∷ b ∷ more)) next d
    (λ all r. decides-fork e i claim seen after s a b rest more g fresh there is r))
looks e i claim rest seen list next out found (single _ after s t more _ _ _ g fresh there rejected no_fork leads only l) d =
    looks e i claim rest after (t ∷ more) next out found l
    (decides-rest e (i + 1) claim unseen (Decides e i seen claim rest (s ∷ more)) (Decides e i after claim rest (t ∷ more)) next d
    (λ all r. decides-single e i claim seen after s t rest more g fresh there rejected no_fork leads only r))
looks e i claim rest seen list next out found (stuck _ after s more _ _ _ g rejected none l) d =
    looks e i claim rest after more next out found l
    (decides-rest e (i + 1) claim unseen (Decides e i seen claim rest (s ∷ more)) (Decides e i after claim rest more) next d
    (λ all r. decides-none e i claim seen after s rest more g rejected none r))
looks e i claim rest seen list next out found (over _ after s t more _ new _ _ g fresh there rejected no_fork leads only is l) d =
    looks e i claim rest after more new out found l
    (adds e (i + 1) claim (Decides e i seen claim rest (s ∷ more)) (Decides e i after claim rest more) next t new is d
    (λ r. decides-over e i claim seen after s t rest more g fresh there rejected no_fork leads only r))
looks e i claim rest seen list next out found (matched _ s more _ fresh there accepted) d =
    decides-rest e (i + 1) claim unseen (Decides e i seen claim rest (s ∷ more)) (claim (s, i)) next d
    (λ all r. decides-match e i claim seen s rest more fresh there accepted r)

-- after the end of the span nothing decides
pub beyond : (e : Search) (j : ℕ) (claim : ℕ × ℕ → Type 0) (rest : Type 0) (list : List ℕ) → e.end < j → Decides e j unseen claim rest list
    → rest
beyond e j claim rest [] past d = d
beyond e j claim rest (t ∷ list) past d = beyond e j claim rest list past (d.1 (λ run m.
    let within : (place run 0).1 ≤ e.end = (m.is_match.is_run.places 0 m.is_match.some).2 in
    omega (arith, within, past, ap (λ (q : ℕ × ℕ). q.1) m.is_match.begins)))

-- what is so if a pass finds no more
pub settled : (e : Search) (i : ℕ) (status : Status) → e.mode ≡ No ⊎ (¬ (status ≡ Open)) → e.end ≤ i → IsLeftOver e i status
    → IsFound e (answer_of status)
settled e i (Closed last) free past r = r
settled e i Open (inr apart) past r = absurd (apart refl)
settled e i Open (inl free) past r = λ at may. r at may.start (omega (arith, may.end, past))

-- a scan of a list that is due
pub looked : (e : Search) (i : ℕ) (status : Status) (list out : List ℕ) (found : Option (ℕ × ℕ)) (seen : ℕ → Bool)
    → ((s : ℕ) → seen s ≡ false)
    → Scans e i seen list [] out found → IsDue e i status list → Decides e (i + 1) unseen (IsLastPlace e) (IsLeftOver e i (later status found)) out
looked e i status list out found seen none l d = go found
    (looks e i (IsLastPlace e) (IsLeftOver e i status) seen list [] out found l (decides-unseen e i (IsLastPlace e) seen (IsLeftOver e i status) list none d))
  where
    go : (found : Option (ℕ × ℕ)) → Decides e (i + 1) unseen (IsLastPlace e) (After (IsLastPlace e) (IsLeftOver e i status) found) out
        → Decides e (i + 1) unseen (IsLastPlace e) (IsLeftOver e i (later status found)) out
    go None d = d
    go (Some q) d = d

pub next_due : (e : Search) (i : ℕ) (status : Status) (out next : List ℕ) → (status ≡ Open → MayBegin e (i + 1)) → Opens e status out next
    → Decides e (i + 1) unseen (IsLastPlace e) (IsLeftOver e i status) out → IsDue e (i + 1) status next
next_due e i (Closed last) out next may is d = subst (λ (l : List ℕ). Decides e (i + 1) unseen (IsLastPlace e) (IsFound e last) l) (sym is) d
next_due e i Open out next may is d =
    adds e (i + 1) (IsLastPlace e) (IsLeftOver e i Open) (IsLeftOver e (i + 1) Open) out e.start_state next is d (λ r. decides-start e (i + 1) (may refl) r)
