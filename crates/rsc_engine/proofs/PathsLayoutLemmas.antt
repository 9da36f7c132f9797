-- Runs of a program as paths of states: a preferred run is the first path, and goes its pattern's preferred way.
use Rattle.std.proofs.Common.{◌≡◌, ℕ, zero, suc, ◌<◌, ◌≤◌, ◌⊎◌, inl, inr, ⊎_elim, List, [], ◌∷◌, length, slice_get, refl, sym, ap, ◌∙◌, subst, arith, Option, Some, None, MatchOption, ◌-◌, Bool, true}
use Rattle.std.specs.List.{Contains}
use Rattle.rsc_nfa.specs.declared.state.State.{State}
use Rattle.rsc_nfa.specs.declared.state.State.TheVariants.{ByteRange, Assert, Fork, Capture, Accept}
use Rattle.rsc_nfa.specs.Steps.{StepsTo, place, recorded}
use Rattle.rsc_engine.specs.Preferred.{HasNoPlaceTwice, IsPreferred}
use Rattle.rsc_engine.specs.Patterns.{Subject, Pattern, subject_of}
use Rattle.rsc_engine.specs.LinksLayout.{StepsLead}
use Rattle.rsc_engine.specs.StepsLayout.{AreSteps, last_place}
use Rattle.rsc_engine.specs.WaysLayout.{StepsBefore, finish, recorded_by}
use Rattle.rsc_engine.specs.Courses.{Stand, chosen, IsUnmade, fresh, IsFirstOnce}
use Rattle.rsc_engine.specs.PreferredWays.{IsPreferredWay}
use Rattle.rsc_engine.specs.PathsLayout.{by_state, PathLeads, IsPath, Before, Least, arrive, places, IsPathOf}
use Rattle.rsc_engine.proofs.CoursesLayoutLemmas.{path_within}
use Rattle.rsc_engine.proofs.RenamedLayoutLemmas.{front, at_front}
use Rattle.rsc_engine.proofs.StepsLayoutLemmas.{IsAmong, AreDistinct, steps_of, is_run_of, last_is}
use Rattle.std.proofs.lemmas.Option.{slice_get_within}
use Rattle.rsc_search.specs.Matches.{Matched}
use Rattle.rsc_captures.specs.Groups.{GroupLists, slot_number}
use Rattle.rsc_engine.specs.Searches.{Search, Compiled, search_in}
use Rattle.rsc_engine.specs.Runs.{accepts, IsMatchRun, IsMatchOf}
use Rattle.rsc_engine.specs.PatternOrder.{RecordsPreferredWays}
use Rattle.rsc_engine.specs.Ways.{last_in}
use Rattle.rsc_engine.specs.GroupNumbers.{as_whole}
use Rattle.rsc_engine.specs.FirstsLayout.{OrdersSome}
use Rattle.rsc_engine.proofs.PreferredLemmas.{forks_once}
use Rattle.rsc_engine.proofs.PatternOrderLemmas.{before_is, same_accepts, recorded_all, or_none}

-- ---- from a path to steps

leads_step : (o : Option State) (x : Subject) (end f : ℕ) (s : Stand) (g : ℕ) → PathLeads o x end f s g
    → MatchOption o ⊥ (λ (y : State). StepsTo y x.terminator x.word_chars x.haystack end s.at (g, (by_state o f s).at))
leads_step None x end f s g leads = absurd leads
leads_step (Some (ByteRange a b next)) x end f s g leads = (leads.0, leads.1, leads.2, refl)
leads_step (Some (Assert look next)) x end f s g leads = (leads.0, leads.1, refl)
leads_step (Some (Fork a b)) x end f s g leads = (leads.1, refl)
leads_step (Some (Capture slot next)) x end f s g leads = (leads, refl)
leads_step (Some (Accept q)) x end f s g leads = absurd leads

pub path_steps : (states : List State) (x : Subject) (end m f : ℕ) (s : Stand) (rest : List ℕ) → IsPath states x end m f s rest
    → AreSteps states x end (f, s.at) (places states f s rest)
path_steps states x end m f s [] p = tt
path_steps states x end m f s (g ∷ rest) p =
    (leads_step (slice_get states f) x end f s g p.0, path_steps states x end m g (by_state (slice_get states f) f s) rest p.1)

pub path_last : (states : List State) (f : ℕ) (s : Stand) (rest : List ℕ)
    → last_place (f, s.at) (places states f s rest) ≡ ((arrive states f s rest).0, (arrive states f s rest).1.at)
path_last states f s [] = refl
path_last states f s (g ∷ rest) = path_last states g (by_state (slice_get states f) f s) rest

pub path_accepts : (states : List State) (x : Subject) (end m f : ℕ) (s : Stand) (rest : List ℕ) → IsPath states x end m f s rest
    → slice_get states (arrive states f s rest).0 ≡ Some (Accept m)
path_accepts states x end m f s [] p = p.0
path_accepts states x end m f s (g ∷ rest) p = path_accepts states x end m g (by_state (slice_get states f) f s) rest p.1

pub path_ends : (states : List State) (x : Subject) (end m f : ℕ) (s : Stand) (rest : List ℕ) → IsPath states x end m f s rest
    → StepsLead states (record { subject = x; end = end; pattern = m; position = (arrive states f s rest).1.at }) (length rest) f s.at
path_ends states x end m f s [] p = (p.0, refl, p.1)
path_ends states x end m f s (g ∷ rest) p = (
  path_within states x end m f s (g ∷ rest) p,
  g,
  (by_state (slice_get states f) f s).at,
  leads_step (slice_get states f) x end f s g p.0,
  path_ends states x end m g (by_state (slice_get states f) f s) rest p.1,
)

-- what it records
recorded_alike : (o : Option State) (f : ℕ) (s : Stand) → recorded_by o s.at s.records ≡ (by_state o f s).records
recorded_alike None f s = refl
recorded_alike (Some (ByteRange a b next)) f s = refl
recorded_alike (Some (Assert look next)) f s = refl
recorded_alike (Some (Fork a b)) f s = refl
recorded_alike (Some (Capture slot next)) f s = refl
recorded_alike (Some (Accept q)) f s = refl

pub path_records : (states : List State) (f : ℕ) (s : Stand) (rest : List ℕ)
    → (finish states (f, s.at) (places states f s rest) s.records).1 ≡ (arrive states f s rest).1.records
path_records states f s [] = refl
path_records states f s (g ∷ rest) =
    let next : Stand = by_state (slice_get states f) f s in
    ap (λ (r : List (ℕ × ℕ)). (finish states (g, next.at) (places states g next rest) r).1) (recorded_alike (slice_get states f) f s)
    ∙ path_records states g next rest

pub before_places : (states : List State) (f : ℕ) (s : Stand) (one other : List ℕ) → Before states f one other
    → StepsBefore states (f, s.at) (places states f s one) (places states f s other)
before_places states f s [] other b = absurd b
before_places states f s (g ∷ one) [] b = absurd b
before_places states f s (g ∷ one) (h ∷ other) (inl b) = inl (b.0, b.1, b.2, b.3, b.4)
before_places states f s (g ∷ one) (h ∷ other) (inr b) =
    let next : Stand = by_state (slice_get states f) f s in
    inr (
      ap (λ (k : ℕ). (k, next.at)) b.0,
      subst (λ (k : ℕ). StepsBefore states (g, next.at) (places states g next one) (places states k next other)) b.0
          (before_places states g next one other b.1),
    )

-- ---- a path comes to no fork twice at one position

-- a step stays at the position, and then what was made stays made; or it takes a byte
stays_made : (o : Option State) (x : Subject) (end f w g : ℕ) (s : Stand) → PathLeads o x end f s g
    → (((by_state o f s).at ≡ s.at) × (Contains s.made w → Contains (by_state o f s).made w)) ⊎ (s.at < (by_state o f s).at)
stays_made None x end f w g s leads = absurd leads
stays_made (Some (ByteRange a b next)) x end f w g s leads = inr (omega arith)
stays_made (Some (Assert look next)) x end f w g s leads = inl (refl, λ c. c)
stays_made (Some (Fork a b)) x end f w g s leads = inl (refl, λ c. at_front f w s.made (inr c))
stays_made (Some (Capture slot next)) x end f w g s leads = inl (refl, λ c. c)
stays_made (Some (Accept q)) x end f w g s leads = absurd leads

later_places : (states : List State) (x : Subject) (end m f : ℕ) (s : Stand) (rest : List ℕ) → IsPath states x end m f s rest → (k : ℕ)
    → k < length ((f, s.at) ∷ places states f s rest) → s.at ≤ (place ((f, s.at) ∷ places states f s rest) k).1
later_places states x end m f s rest p zero l = omega arith
later_places states x end m f s [] p (suc k) l = absurd (omega (arith, l))
later_places states x end m f s (g ∷ rest) p (suc k) l =
    let next : Stand = by_state (slice_get states f) f s in
    let later = later_places states x end m g next rest p.1 k (omega (arith, l)) in
    ⊎_elim
    (λ (z : (next.at ≡ s.at) × (Contains s.made f → Contains next.made f)). let same = z.0 in omega (arith, later, same))
    (λ (z : s.at < next.at). omega (arith, later, z))
    (stays_made (slice_get states f) x end f f g s p.0)

-- a choice that was made at this position isn't made again
not_again : (states : List State) (x : Subject) (end m f w a b : ℕ) (s : Stand) (rest : List ℕ) → slice_get states w ≡ Some (Fork a b)
    → IsPath states x end m f s rest → Contains s.made w → (k : ℕ) → k < length ((f, s.at) ∷ places states f s rest)
    → place ((f, s.at) ∷ places states f s rest) k ≡ (w, s.at) → ⊥
not_again states x end m f w a b s [] is p made zero l e =
    no_fork (sym is ∙ (ap (λ (z : ℕ × ℕ). slice_get states z.0) (sym e) ∙ p.0))
  where
    no_fork : Some (Fork a b) ≡ Some (Accept m) → ⊥
    no_fork q = absurd (cc)
not_again states x end m f w a b s (g ∷ rest) is p made zero l e =
    let same : f ≡ w = ap (λ (z : ℕ × ℕ). z.0) e in
    let leads : PathLeads (Some (Fork a b)) x end f s g =
    subst (λ (o : Option State). PathLeads o x end f s g) (ap (λ (k : ℕ). slice_get states k) same ∙ is) p.0 in
    leads.0 (subst (λ (k : ℕ). Contains s.made k) (sym same) made)
not_again states x end m f w a b s [] is p made (suc k) l e = absurd (omega (arith, l))
not_again states x end m f w a b s (g ∷ rest) is p made (suc k) l e =
    let next : Stand = by_state (slice_get states f) f s in
    ⊎_elim
    (λ (z : (next.at ≡ s.at) × (Contains s.made w → Contains next.made w)).
    not_again states x end m g w a b next rest is p.1 (z.1 made) k (omega (arith, l)) (e ∙ ap (λ (i : ℕ). (w, i)) (sym z.0)))
    (λ (z : s.at < next.at).
    let later = later_places states x end m g next rest p.1 k (omega (arith, l)) in
    let here = ap (λ (q : ℕ × ℕ). q.1) e in
    absurd (omega (arith, z, later, here)))
    (stays_made (slice_get states f) x end f w g s p.0)

pub path_forks : (states : List State) (x : Subject) (end m f : ℕ) (s : Stand) (rest : List ℕ) → IsPath states x end m f s rest → (j k a b : ℕ)
    → j < k
    → k < length ((f, s.at) ∷ places states f s rest)
    → slice_get states (place ((f, s.at) ∷ places states f s rest) j).0 ≡ Some (Fork a b)
    → place ((f, s.at) ∷ places states f s rest) j ≡ place ((f, s.at) ∷ places states f s rest) k → ⊥
path_forks states x end m f s rest p j zero a b before l is same = absurd (omega (arith, before))
path_forks states x end m f s [] p j (suc k) a b before l is same = absurd (omega (arith, l))
path_forks states x end m f s (g ∷ rest) p (suc j) (suc k) a b before l is same =
    path_forks states x end m g (by_state (slice_get states f) f s) rest p.1 j k a b (omega (arith, before)) (omega (arith, l)) is same
path_forks states x end m f s (g ∷ rest) p zero (suc k) a b before l is same =
    let path : IsPath states x end m g (chosen f s) rest = subst (λ (o : Option State). IsPath states x end m g (by_state o f s) rest) is p.1 in
    not_again states x end m g f a b (chosen f s) rest is path (at_front f f s.made (inl refl)) k
    (subst (λ (o : Option State). k < length ((g, (by_state o f s).at) ∷ places states g (by_state o f s) rest)) is (omega (arith, l)))
    (subst (λ (o : Option State). place ((g, (by_state o f s).at) ∷ places states g (by_state o f s) rest) k ≡ (f, s.at)) is (sym same))

-- ---- from steps to a path

-- a step from a state, if its choice is new
leads_of : (o : Option State) (x : Subject) (end f : ℕ) (s : Stand) (q : ℕ × ℕ) → IsUnmade f s
    → MatchOption o ⊥ (λ (y : State). StepsTo y x.terminator x.word_chars x.haystack end s.at q)
    → PathLeads o x end f s q.0 × (q.1 ≡ (by_state o f s).at)
leads_of None x end f s q new step = absurd step
leads_of (Some (ByteRange a b next)) x end f s q new step = ((step.0, step.1, step.2), step.3)
leads_of (Some (Assert look next)) x end f s q new step = ((step.0, step.1), step.2)
leads_of (Some (Fork a b)) x end f s q new step = ((new, step.0), step.1)
leads_of (Some (Capture slot next)) x end f s q new step = (step.0, step.1)
leads_of (Some (Accept r)) x end f s q new step = absurd step

-- what was made was made at places that were seen
seen_then : (o : Option State) (x : Subject) (end f g : ℕ) (s : Stand) (seen : List (ℕ × ℕ)) → PathLeads o x end f s g
    → ((w : ℕ) → Contains s.made w → IsAmong (w, s.at) seen)
    → (w : ℕ) → Contains (by_state o f s).made w → IsAmong (w, (by_state o f s).at) ((f, s.at) ∷ seen)
seen_then None x end f g s seen leads h w c = absurd leads
seen_then (Some (ByteRange a b next)) x end f g s seen leads h w c = absurd (omega (arith, c.1))
seen_then (Some (Assert look next)) x end f g s seen leads h w c = inr (h w c)
seen_then (Some (Fork a b)) x end f g s seen leads h w c =
    ⊎_elim (λ (e : f ≡ w). inl (ap (λ (k : ℕ). (k, s.at)) (sym e))) (λ (m : Contains s.made w). inr (h w m)) (front f w s.made c)
seen_then (Some (Capture slot next)) x end f g s seen leads h w c = inr (h w c)
seen_then (Some (Accept r)) x end f g s seen leads h w c = absurd leads

pub path_of : (states : List State) (x : Subject) (end m f : ℕ) (s : Stand) (rest seen : List (ℕ × ℕ))
    → ((w : ℕ) → Contains s.made w → IsAmong (w, s.at) seen)
    → ((p : ℕ × ℕ) → IsAmong p seen → IsAmong p ((f, s.at) ∷ rest) → ⊥) → AreDistinct ((f, s.at) ∷ rest)
    → AreSteps states x end (f, s.at) rest
    → slice_get states (last_place (f, s.at) rest).0 ≡ Some (Accept m) → (last_place (f, s.at) rest).1 ≤ end → IsPathOf states x end m f s rest
path_of states x end m f s [] seen made apart once steps accepted within = record { rest = []; path = (accepted, within); its = refl }
path_of states x end m f s (q ∷ rest) seen made apart once steps accepted within =
    let new : IsUnmade f s = λ c. apart (f, s.at) (made f c) (inl refl) in
    let leads = leads_of (slice_get states f) x end f s q new steps.0 in
    let next : Stand = by_state (slice_get states f) f s in
    let here : q ≡ (q.0, next.at) = ap (λ (i : ℕ). (q.0, i)) leads.1 in
    let on = path_of states x end m q.0 next rest ((f, s.at) ∷ seen)
    (seen_then (slice_get states f) x end f q.0 s seen leads.0 made)
    (λ p among there. ⊎_elim
    (λ (e : p ≡ (f, s.at)). once.0
    (subst (λ (z : ℕ × ℕ). IsAmong z (q ∷ rest)) e (subst (λ (z : ℕ × ℕ). IsAmong p (z ∷ rest)) (sym here) there)))
    (λ (h : IsAmong p seen). apart p h (inr (subst (λ (z : ℕ × ℕ). IsAmong p (z ∷ rest)) (sym here) there)))
    among)
    (subst (λ (z : ℕ × ℕ). AreDistinct (z ∷ rest)) here once.1)
    (subst (λ (z : ℕ × ℕ). AreSteps states x end z rest) here steps.1)
    (subst (λ (z : ℕ × ℕ). slice_get states (last_place z rest).0 ≡ Some (Accept m)) here accepted)
    (subst (λ (z : ℕ × ℕ). (last_place z rest).1 ≤ end) here within) in
    record {
      rest = q.0 ∷ on.rest;
      path = (leads.0, on.path);
      its = ap (λ (l : List (ℕ × ℕ)). (q.0, next.at) ∷ l) on.its ∙ ap (λ (z : ℕ × ℕ). z ∷ rest) (sym here);
    }

-- places of a run that comes to none twice
among_at : (p : ℕ × ℕ) (rest : List (ℕ × ℕ)) → IsAmong p rest → (k : ℕ) × (k < length rest) × (place rest k ≡ p)
among_at p [] h = absurd h
among_at p (q ∷ rest) (inl e) = (0, omega arith, sym e)
among_at p (q ∷ rest) (inr h) = let r = among_at p rest h in (suc r.0, omega (arith, r.1), r.2)

pub distinct_of : (run : List (ℕ × ℕ)) → HasNoPlaceTwice run → AreDistinct run
distinct_of [] once = tt
distinct_of (p ∷ rest) once = (
  λ h. let r = among_at p rest h in once 0 (suc r.0) (omega arith) (omega (arith, r.1)) (sym r.2),
  distinct_of rest (λ j k l m e. once (suc j) (suc k) (omega (arith, l)) (omega (arith, m)) e),
)

-- ---- a preferred run is the first path

-- the path of a preferred run, and that no other is before it
record IsFirstPath (e : Search) (m i : ℕ) (steps : List (ℕ × ℕ)) : Type 0 where
  rest : List ℕ
  least : Least e.states (subject_of e) e.end m e.start_state (fresh i) rest
  its : places e.states e.start_state (fresh i) rest ≡ steps

first_path : (e : Search) (m i : ℕ) (rest : List (ℕ × ℕ)) → IsPreferred e (e.start_state, i) ((e.start_state, i) ∷ rest)
    → slice_get e.states (last_place (e.start_state, i) rest).0 ≡ Some (Accept m) → (last_place (e.start_state, i) rest).1 ≤ e.end
    → IsFirstPath e m i rest
first_path e m i rest preferred accepted within = record { rest = its.rest; least = record { path = its.path; least = first }; its = its.its }
  where
    its : IsPathOf e.states (subject_of e) e.end m e.start_state (fresh i) rest
    its = path_of e.states (subject_of e) e.end m e.start_state (fresh i) rest [] (λ w c. absurd (omega (arith, c.1))) (λ p h y. h)
        (distinct_of ((e.start_state, i) ∷ rest) preferred.once) (steps_of e (e.start_state, i) rest preferred.is_match.is_run) accepted within

    run_of : List ℕ → List (ℕ × ℕ)
    run_of other = (e.start_state, i) ∷ places e.states e.start_state (fresh i) other

    match_of : (other : List ℕ) → IsPath e.states (subject_of e) e.end m e.start_state (fresh i) other → IsMatchRun e (e.start_state, i) (run_of other)
    match_of other p =
        let steps : List (ℕ × ℕ) = places e.states e.start_state (fresh i) other in
        let there : slice_get e.states (last_place (e.start_state, i) steps).0 ≡ Some (Accept m) =
        ap (λ (z : ℕ × ℕ). slice_get e.states z.0) (path_last e.states e.start_state (fresh i) other)
        ∙ path_accepts e.states (subject_of e) e.end m e.start_state (fresh i) other p in
        record {
          is_run = is_run_of e (e.start_state, i) steps (slice_get_within e.states (last_place (e.start_state, i) steps).0 (Accept m) there)
              ((preferred.is_match.is_run.places 0 preferred.is_match.some).1) ((preferred.is_match.is_run.places 0 preferred.is_match.some).2)
              (path_steps e.states (subject_of e) e.end m e.start_state (fresh i) other p);
          some = omega arith;
          begins = refl;
          ends = subst (λ (z : ℕ × ℕ). accepts e z ≡ true) (sym (last_is (e.start_state, i) steps))
              (same_accepts e (last_place (e.start_state, i) rest) (last_place (e.start_state, i) steps) m accepted there
              (subst (λ (z : ℕ × ℕ). accepts e z ≡ true) (last_is (e.start_state, i) rest) preferred.is_match.ends));
        }

    first : (other : List ℕ) → IsPath e.states (subject_of e) e.end m e.start_state (fresh i) other → Before e.states e.start_state other its.rest → ⊥
    first other p b =
        preferred.first (run_of other) (match_of other p)
        (forks_once e (e.start_state, i) (run_of other) (match_of other p)
        (λ j k c d before l is same. path_forks e.states (subject_of e) e.end m e.start_state (fresh i) other p j k c d before l is same))
        (before_is e (e.start_state, i) (places e.states e.start_state (fresh i) other) rest
        (subst (λ (steps : List (ℕ × ℕ)). StepsBefore e.states (e.start_state, i) (places e.states e.start_state (fresh i) other) steps) its.its
        (before_places e.states e.start_state (fresh i) other its.rest b)))

-- ---- its way

abbrev GoesPreferredWay : Search → GroupLists → List (ℕ × ℕ) → Matched → Pattern → Type 0
GoesPreferredWay e lists run found p =
    (records : List (ℕ × ℕ))
    × IsPreferredWay (subject_of e) (as_whole lists found.pattern p) (λ j. j ≤ e.end) found.span.start found.span.end records
    × ((slot : ℕ) → recorded e.states run slot ≡ last_in records slot)

preferred_way : (e : Search) (lists : GroupLists) (patterns : List Pattern) (run : List (ℕ × ℕ)) (found : Matched) (p : Pattern)
    → OrdersSome e.states (slot_number lists) (length e.states) e.start_state 0 patterns
    → IsPreferred e (e.start_state, (place run 0).1) run → IsMatchOf e run found → slice_get patterns found.pattern ≡ Some p
    → GoesPreferredWay e lists run found p
preferred_way e lists patterns [] found p all preferred makes its = let none = preferred.is_match.some in absurd (omega (arith, none))
preferred_way e lists patterns (q ∷ rest) found p all preferred makes its =
    let o = all found.pattern p (omega arith) its in
    let from : ℕ × ℕ = (e.start_state, q.1) in
    let here : q ≡ from = preferred.is_match.begins in
    let ended : last_place from rest ≡ place (q ∷ rest) (length (q ∷ rest) - 1) =
    ap (λ (z : ℕ × ℕ). last_place z rest) (sym here) ∙ sym (last_is q rest) in
    let accepted : slice_get e.states (last_place from rest).0 ≡ Some (Accept found.pattern) =
    ap (λ (z : ℕ × ℕ). slice_get e.states z.0) ended ∙ makes.pattern in
    let within : (last_place from rest).1 ≤ e.end =
    subst (λ (z : ℕ × ℕ). z.1 ≤ e.end) (sym ended) ((preferred.is_match.is_run.places (length (q ∷ rest) - 1) (omega arith)).2) in
    let f = first_path e found.pattern q.1 rest (subst (λ (z : ℕ × ℕ). IsPreferred e from (z ∷ rest)) here preferred) accepted within in
    let t = o.takes (subject_of e) e.end (fresh q.1) f.rest f.least in (
      t.0.records,
      (
        o.course,
        t.0,
        subst (λ (i : ℕ). IsFirstOnce (subject_of e) o.course.course (λ s. s.at ≤ e.end) (fresh i) t.0) (sym makes.start) t.1,
        t.2
            ∙ (ap (λ (z : ℕ × ℕ). z.1) (sym (path_last e.states e.start_state (fresh q.1) f.rest))
            ∙ (ap (λ (steps : List (ℕ × ℕ)). (last_place from steps).1) f.its ∙ (ap (λ (z : ℕ × ℕ). z.1) ended ∙ sym makes.end))),
        refl,
      ),
      λ slot. ap (λ (z : ℕ × ℕ). recorded e.states (z ∷ rest) slot) here
          ∙ (sym (or_none (recorded e.states (from ∷ rest) slot))
          ∙ (recorded_all e.states from rest [] slot
          ∙ (ap (λ (steps : List (ℕ × ℕ)). last_in (finish e.states from steps []).1 slot) (sym f.its)
          ∙ (ap (λ (r : List (ℕ × ℕ)). last_in r slot) (path_records e.states e.start_state (fresh q.1) f.rest)
          ∙ ap (λ (r : List (ℕ × ℕ)). last_in r slot) (sym t.3))))),
    )

pub RecordsPreferredWays-built : {W : Type 0} (chars : W → ℕ → Bool) (program : Compiled W) (patterns : List Pattern)
    → OrdersSome program.automaton.states (slot_number program.automaton.groups) (length program.automaton.states) program.start 0 patterns
    → RecordsPreferredWays chars program patterns
RecordsPreferredWays-built chars program patterns all = record {
  preferred = λ input run found p preferred makes its.
      preferred_way (search_in chars program input) program.automaton.groups patterns run found p all preferred makes its;
}
