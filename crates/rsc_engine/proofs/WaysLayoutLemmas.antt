-- Ways to a match, and their first steps.
use Rattle.std.proofs.Common.{◌≡◌, ℕ, zero, suc, ◌+◌, ◌≤◌, ◌⊎◌, inl, inr, ⊎_elim, false, true≢false, List, [], ◌∷◌, length, slice_get, refl, sym, ap, ◌∙◌, subst, arith, Option, Some, MatchOption}
use Rattle.rsc_nfa.specs.declared.state.State.{State}
use Rattle.rsc_nfa.specs.declared.state.State.TheVariants.{Fork, Accept}
use Rattle.rsc_nfa.specs.Steps.{StepsTo}
use Rattle.rsc_engine.specs.Patterns.{Pattern, Subject}
use Rattle.rsc_engine.specs.Ways.{Point, GoesWith}
use Rattle.rsc_engine.specs.StepsLayout.{AreSteps, last_place}
use Rattle.rsc_engine.specs.WaysLayout.{AreStepsTo, finish, recorded_by}
use Rattle.rsc_engine.specs.ByWaysLayout.{GoesOnWith}
use Rattle.rsc_engine.specs.LinksLayout.{Aim, StepsLead}
use Rattle.rsc_engine.proofs.StepsLayoutLemmas.{leads_end}
use Rattle.rsc_engine.proofs.LinksLayoutLemmas.{may_accept}

-- ---- from steps to a way to a match, and back

abbrev pub aim_at : Subject → ℕ → ℕ → ℕ × ℕ → Aim
aim_at x end m p = record { subject = x; end = end; pattern = m; position = p.1 }

pub way_of : (states : List State) (x : Subject) (end m : ℕ) (p : ℕ × ℕ) (rest : List (ℕ × ℕ)) → p.1 ≤ end → AreSteps states x end p rest
    → slice_get states (last_place p rest).0 ≡ Some (Accept m) → StepsLead states (aim_at x end m (last_place p rest)) (length rest) p.0 p.1
way_of states x end m p [] l steps at = (at, refl, l)
way_of states x end m p (q ∷ rest) l steps at =
    (l, q.0, q.1, steps.0, way_of states x end m q rest (leads_end states x end p q steps.0 l) steps.1 at)

-- the steps of such a way
pub record Steps (states : List State) (a : Aim) (s i : ℕ) : Type 0 where
  pub rest : List (ℕ × ℕ)
  pub way : AreStepsTo states a.subject a.end a.pattern (s, i) rest
  pub ends : (last_place (s, i) rest).1 ≡ a.position

pub steps_from : (states : List State) (a : Aim) (n s i : ℕ) → StepsLead states a n s i → Steps states a s i
steps_from states a zero s i e = record { rest = []; way = record { within = e.2; steps = tt; accepts = e.0 }; ends = e.1 }
steps_from states a (suc n) s i e =
    let w = steps_from states a n e.1 e.2 e.4 in
    record { rest = (e.1, e.2) ∷ w.rest; way = record { within = e.0; steps = (e.3, w.way.steps); accepts = w.way.accepts }; ends = w.ends }

pub finish_last : (states : List State) (p : ℕ × ℕ) (rest earlier : List (ℕ × ℕ)) → (finish states p rest earlier).0 ≡ last_place p rest
finish_last states p [] earlier = refl
finish_last states p (q ∷ rest) earlier = finish_last states q rest (recorded_by (slice_get states p.0) p.1 earlier)

-- ---- the first step

pub record Step (states : List State) (x : Subject) (end m : ℕ) (state : State) (from : Point) (most : ℕ)
    (last : (ℕ × ℕ) × List (ℕ × ℕ)) : Type 0 where
  pub to : ℕ
  pub position : ℕ
  pub rest : List (ℕ × ℕ)
  pub step : StepsTo state x.terminator x.word_chars x.haystack end from.0 (to, position)
  pub way : AreStepsTo states x end m (to, position) rest
  pub ends : finish states (to, position) rest (recorded_by (Some state) from.0 from.1) ≡ last
  pub fewer : length rest + 1 ≡ most

pub step_on : (states : List State) (x : Subject) (end m s : ℕ) (from : Point) (state : State) (rest : List (ℕ × ℕ))
    → slice_get states s ≡ Some state
    → may_accept (Some state) ≡ false → AreStepsTo states x end m (s, from.0) rest
    → Step states x end m state from (length rest) (finish states (s, from.0) rest from.1)
step_on states x end m s from state [] is stays w = absurd (true≢false (sym (ap may_accept w.accepts) ∙ (ap may_accept is ∙ stays)))
step_on states x end m s from state (q ∷ rest) is stays w = record {
  to = q.0;
  position = q.1;
  rest = rest;
  step = subst (λ (o : Option State). MatchOption o ⊥ (λ (y : State). StepsTo y x.terminator x.word_chars x.haystack end from.0 q)) is w.steps.0;
  way = record { within = leads_end states x end (s, from.0) q w.steps.0 w.within; steps = w.steps.1; accepts = w.accepts };
  ends = ap (λ (o : Option State). finish states q rest (recorded_by o from.0 from.1)) (sym is);
  fewer = omega arith;
}

-- one step leads to the next state, and records nothing
pub arrives_with : (states : List State) (x : Subject) (end m next : ℕ) (p : Pattern) (state : State) (from : Point) (most : ℕ)
    (last : (ℕ × ℕ) × List (ℕ × ℕ)) (o : Step states x end m state from most last) → o.to ≡ next
    → recorded_by (Some state) from.0 from.1 ≡ from.1
    → GoesWith x p from (o.position, from.1) → GoesOnWith states x end m next p from most last
arrives_with states x end m next p state from most last o same silent goes = record {
  to = (o.position, from.1);
  rest = o.rest;
  goes = goes;
  way = subst (λ (s : ℕ). AreStepsTo states x end m (s, o.position) o.rest) same o.way;
  ends = ap (λ (s : ℕ). finish states (s, o.position) o.rest from.1) (sym same)
      ∙ (ap (λ (r : List (ℕ × ℕ)). finish states (o.to, o.position) o.rest r) (sym silent) ∙ o.ends);
  fewer = omega (arith, o.fewer);
}

-- a way from a state, which ends at a place with these records
pub record Rest (states : List State) (x : Subject) (end m s : ℕ) (from : Point) (most : ℕ) (last : (ℕ × ℕ) × List (ℕ × ℕ)) : Type 0 where
  pub rest : List (ℕ × ℕ)
  pub way : AreStepsTo states x end m (s, from.0) rest
  pub ends : finish states (s, from.0) rest from.1 ≡ last
  pub fewer : length rest + 1 ≡ most

-- from a fork a way goes the one way or the other
pub either_way : (states : List State) (x : Subject) (end m s a b : ℕ) (from : Point) (rest : List (ℕ × ℕ)) → slice_get states s ≡ Some (Fork a b)
    → AreStepsTo states x end m (s, from.0) rest
    → Rest states x end m a from (length rest) (finish states (s, from.0) rest from.1)
    ⊎ Rest states x end m b from (length rest) (finish states (s, from.0) rest from.1)
either_way states x end m s a b from rest is w = ⊎_elim (λ (e : o.to ≡ a). inl (there a e)) (λ (e : o.to ≡ b). inr (there b e)) o.step.0
  where
    o : Step states x end m (Fork a b) from (length rest) (finish states (s, from.0) rest from.1)
    o = step_on states x end m s from (Fork a b) rest is refl w

    there : (t : ℕ) → o.to ≡ t → Rest states x end m t from (length rest) (finish states (s, from.0) rest from.1)
    there t e = record {
      rest = o.rest;
      way = subst (λ (k : ℕ). AreStepsTo states x end m (t, k) o.rest) o.step.1
          (subst (λ (u : ℕ). AreStepsTo states x end m (u, o.position) o.rest) e o.way);
      ends = ap (λ (u : ℕ). finish states (u, from.0) o.rest from.1) (sym e)
          ∙ (ap (λ (k : ℕ). finish states (o.to, k) o.rest from.1) (sym o.step.1) ∙ o.ends);
      fewer = o.fewer;
    }
