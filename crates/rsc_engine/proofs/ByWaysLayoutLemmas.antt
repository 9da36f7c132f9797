-- Steps to a match go by the ways of patterns.
use Rattle.std.proofs.Common.{◌≡◌, ℕ, zero, suc, ◌+◌, ◌<◌, ◌⊎◌, inl, inr, ⊎_elim, Bool, true, false, true≢false, List, [], ◌∷◌, length, slice_get, refl, sym, ap, ◌∙◌, subst, arith, Some, None}
use Rattle.rsc_look.specs.declared.assertion.Look.{Look}
use Rattle.rsc_nfa.specs.declared.state.State.{State}
use Rattle.rsc_nfa.specs.declared.state.State.TheVariants.{ByteRange, Assert, Fork, Capture}
use Rattle.rsc_nfa.specs.Steps.{is_between}
use Rattle.rsc_engine.specs.Patterns.{Pattern, Empty, Never, Class, Assertion, Then, Either, Repeat, Group, Subject}
use Rattle.rsc_engine.specs.Ways.{Point, with_record}
use Rattle.rsc_engine.specs.WaysLayout.{AreStepsTo, finish}
use Rattle.rsc_engine.specs.ByWaysLayout.{GoesOnWith, ByWays}
use Rattle.rsc_engine.specs.LinksLayout.{IsChoice, choice_of, optional}
use Rattle.rsc_engine.proofs.FirstWaysLemmas.{HasWays, plus-ways}
use Rattle.rsc_engine.proofs.StepsLayoutLemmas.{step_of, leads_end}
use Rattle.rsc_engine.proofs.LinksLayoutLemmas.{may_accept, one_is_one, is_choice}
use Rattle.rsc_engine.proofs.WaysLayoutLemmas.{step_on, arrives_with, Rest, either_way}

-- ---- parts that lead on by a state

pub ByWays-empty : (states : List State) (next : ℕ) → ByWays states next next Empty
ByWays-empty states next = record {
  through = λ x end m from rest w. record { to = from; rest = rest; goes = refl; way = w; ends = refl; fewer = omega arith };
}

pub ByWays-assert : (states : List State) (s next : ℕ) (look : Look) → slice_get states s ≡ Some (Assert look next)
    → ByWays states s next (Assertion look)
ByWays-assert states s next look is = record {
  through = λ x end m from rest w.
      let o = step_on states x end m s from (Assert look next) rest is refl w in
      arrives_with states x end m next (Assertion look) (Assert look next) from (length rest) (finish states (s, from.0) rest from.1) o o.step.1 refl
      ((o.step.0, sym o.step.2), refl);
}

-- from a fork to itself no way leads to a match
never_ends : (states : List State) (x : Subject) (end m s : ℕ) (p : ℕ × ℕ) (rest : List (ℕ × ℕ)) → p.0 ≡ s
    → slice_get states s ≡ Some (Fork s s)
    → AreStepsTo states x end m p rest → ⊥
never_ends states x end m s p [] same is w =
    true≢false (sym (ap may_accept w.accepts) ∙ (ap (λ (t : ℕ). may_accept (slice_get states t)) same ∙ ap may_accept is))
never_ends states x end m s p (q ∷ rest) same is w =
    let step = step_of states x end s p q (Fork s s) same is w.steps.0 in
    never_ends states x end m s q rest (⊎_elim (λ (h : q.0 ≡ s). h) (λ (h : q.0 ≡ s). h) step.0) is
    (record { within = leads_end states x end p q w.steps.0 w.within; steps = w.steps.1; accepts = w.accepts })

pub ByWays-never : (states : List State) (s next : ℕ) → slice_get states s ≡ Some (Fork s s) → ByWays states s next Never
ByWays-never states s next is = record {
  through = λ x end m from rest w. absurd (never_ends states x end m s (s, from.0) rest refl is w);
}

pub ByWays-range : (states : List State) (s a b next : ℕ) → slice_get states s ≡ Some (ByteRange a b next)
    → ByWays states s next (Class ((a, b) ∷ []))
ByWays-range states s a b next is = record {
  through = λ x end m from rest w.
      let o = step_on states x end m s from (ByteRange a b next) rest is refl w in
      arrives_with states x end m next (Class ((a, b) ∷ [])) (ByteRange a b next) from (length rest) (finish states (s, from.0) rest from.1) o o.step.2 refl
      ((one_is_one (is_between a b (slice_get x.haystack from.0)) o.step.1, o.step.3), refl);
}

-- ---- parts made of parts

pub ByWays-is : (states : List State) (first next : ℕ) (p q : Pattern) → HasWays p q
    → ByWays states first next p → ByWays states first next q
ByWays-is states first next p q is o = record {
  through = λ x end m from rest w.
      let g = o.through x end m from rest w in
      record { to = g.to; rest = g.rest; goes = is x from g.to g.goes; way = g.way; ends = g.ends; fewer = g.fewer };
}

pub ByWays-then : (states : List State) (first middle next : ℕ) (p q : Pattern) → ByWays states middle next q → ByWays states first middle p
    → ByWays states first next (Then p q)
ByWays-then states first middle next p q oq op = record {
  through = λ x end m from rest w.
      let g = op.through x end m from rest w in
      let f = oq.through x end m g.to g.rest g.way in
      record {
        to = f.to;
        rest = f.rest;
        goes = (g.to, g.goes, f.goes);
        way = f.way;
        ends = f.ends ∙ g.ends;
        fewer = omega (arith, f.fewer, g.fewer);
      };
}

-- a part between two records
pub ByWays-group : (states : List State) (first body after next slot : ℕ) (p : Pattern) → slice_get states first ≡ Some (Capture slot body)
    → slice_get states after ≡ Some (Capture (slot + 1) next) → ByWays states body after p → ByWays states first next (Group slot p)
ByWays-group states first body after next slot p begins closes op = record {
  through = λ x end m from rest w.
      let o = step_on states x end m first from (Capture slot body) rest begins refl w in
      let at_body : AreStepsTo states x end m (body, from.0) o.rest =
      subst (λ (k : ℕ). AreStepsTo states x end m (body, k) o.rest) o.step.1 (subst (λ (s : ℕ). AreStepsTo states x end m
      (s, o.position) o.rest) o.step.0 o.way) in
      let g = op.through x end m (with_record slot from) o.rest at_body in
      let c = step_on states x end m after g.to (Capture (slot + 1) next) g.rest closes refl g.way in
      record {
        to = with_record (slot + 1) g.to;
        rest = c.rest;
        goes = (g.to, g.goes, refl);
        way = subst (λ (k : ℕ). AreStepsTo states x end m (next, k) c.rest) c.step.1
            (subst (λ (s : ℕ). AreStepsTo states x end m (s, c.position) c.rest) c.step.0 c.way);
        ends = ap (λ (s : ℕ). finish states (s, g.to.0) c.rest ((slot + 1, g.to.0) ∷ g.to.1)) (sym c.step.0)
            ∙ (ap (λ (k : ℕ). finish states (c.to, k) c.rest ((slot + 1, g.to.0) ∷ g.to.1)) (sym c.step.1)
            ∙ (c.ends
            ∙ (g.ends
            ∙ (ap (λ (s : ℕ). finish states (s, from.0) o.rest ((slot, from.0) ∷ from.1)) (sym o.step.0)
            ∙ (ap (λ (k : ℕ). finish states (o.to, k) o.rest ((slot, from.0) ∷ from.1)) (sym o.step.1) ∙ o.ends)))));
        fewer = omega (arith, c.fewer, g.fewer, o.fewer);
      };
}

pub ByWays-either : (states : List State) (s one other next : ℕ) (p q : Pattern) → slice_get states s ≡ Some (Fork one other)
    → ByWays states one next p → ByWays states other next q → ByWays states s next (Either p q)
ByWays-either states s one other next p q is op oq = record {
  through = λ x end m from rest w. ⊎_elim
      (λ (v : Rest states x end m one from (length rest) (finish states (s, from.0) rest from.1)).
      let g = op.through x end m from v.rest v.way in
      record { to = g.to; rest = g.rest; goes = inl g.goes; way = g.way; ends = g.ends ∙ v.ends; fewer = omega (arith, g.fewer, v.fewer) })
      (λ (v : Rest states x end m other from (length rest) (finish states (s, from.0) rest from.1)).
      let g = oq.through x end m from v.rest v.way in
      record { to = g.to; rest = g.rest; goes = inr g.goes; way = g.way; ends = g.ends ∙ v.ends; fewer = omega (arith, g.fewer, v.fewer) })
      (either_way states x end m s one other from rest is w);
}

pub ByWays-choice : (states : List State) (s first next : ℕ) (greedy : Bool) (p : Pattern) → slice_get states s ≡ Some (choice_of greedy first next)
    → ByWays states first next p → ByWays states s next (optional greedy p)
ByWays-choice states s first next true p is o = ByWays-either states s first next next p Empty is o (ByWays-empty states next)
ByWays-choice states s first next false p is o = ByWays-either states s next first next Empty p is (ByWays-empty states next) o

-- ---- loops

-- a choice leads to the part or to what comes next
choice_way : (states : List State) (x : Subject) (end m s first next : ℕ) (from : Point) (rest : List (ℕ × ℕ)) → IsChoice states s first next
    → AreStepsTo states x end m (s, from.0) rest
    → Rest states x end m first from (length rest) (finish states (s, from.0) rest from.1)
    ⊎ Rest states x end m next from (length rest) (finish states (s, from.0) rest from.1)
choice_way states x end m s first next from rest c w = ⊎_elim
    (λ (is : slice_get states s ≡ Some (Fork first next)). either_way states x end m s first next from rest is w)
    (λ (is : slice_get states s ≡ Some (Fork next first)). ⊎_elim
    (λ (v : Rest states x end m next from (length rest) (finish states (s, from.0) rest from.1)). inr v)
    (λ (v : Rest states x end m first from (length rest) (finish states (s, from.0) rest from.1)). inl v)
    (either_way states x end m s next first from rest is w))
    c

around_with : (states : List State) (x : Subject) (end m s first next fuel : ℕ) (from : Point) (greedy : Bool) (p : Pattern) (rest : List (ℕ × ℕ))
    → IsChoice states s first next → ByWays states first s p → length rest < fuel → AreStepsTo states x end m (s, from.0) rest
    → GoesOnWith states x end m next (Repeat 0 None greedy p) from (length rest) (finish states (s, from.0) rest from.1)
around_with states x end m s first next zero from greedy p rest c o l w = absurd (omega (arith, l))
around_with states x end m s first next (suc fuel) from greedy p rest c o l w = ⊎_elim
    (λ (v : Rest states x end m first from (length rest) (finish states (s, from.0) rest from.1)).
    let g = o.through x end m from v.rest v.way in
    let f = around_with states x end m s first next fuel g.to greedy p g.rest c o (omega (arith, g.fewer, v.fewer, l)) g.way in
    record {
      to = f.to;
      rest = f.rest;
      goes = (suc f.goes.0, omega arith, tt, (g.to, g.goes, f.goes.3));
      way = f.way;
      ends = f.ends ∙ (g.ends ∙ v.ends);
      fewer = omega (arith, f.fewer, g.fewer, v.fewer);
    })
    (λ (v : Rest states x end m next from (length rest) (finish states (s, from.0) rest from.1)).
    record { to = from; rest = v.rest; goes = (0, omega arith, tt, refl); way = v.way; ends = v.ends; fewer = omega (arith, v.fewer) })
    (choice_way states x end m s first next from rest c w)

-- the part any number of times, from the state after each time
pub ByWays-star : (states : List State) (s first next : ℕ) (greedy : Bool) (p : Pattern) → slice_get states s ≡ Some (choice_of greedy first next)
    → ByWays states first s p → ByWays states s next (Repeat 0 None greedy p)
ByWays-star states s first next greedy p is o = record {
  through = λ x end m from rest w.
      around_with states x end m s first next (suc (length rest)) from greedy p rest (is_choice states s first next greedy is) o (omega arith) w;
}

-- and from its own state once or more
pub ByWays-plus : (states : List State) (s first next : ℕ) (greedy : Bool) (p : Pattern) → slice_get states s ≡ Some (choice_of greedy first next)
    → ByWays states first s p → ByWays states first next (Repeat 1 None greedy p)
ByWays-plus states s first next greedy p is o =
    ByWays-is states first next (Then p (Repeat 0 None greedy p)) (Repeat 1 None greedy p) (plus-ways greedy p)
    (ByWays-then states first s next p (Repeat 0 None greedy p) (ByWays-star states s first next greedy p is o) o)
