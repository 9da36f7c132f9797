-- How single states lead on, and what follows for parts made of parts.
use Rattle.std.proofs.Common.{◌≡◌, ℕ, zero, suc, ◌≤◌, inl, inr, ⊎_elim, Bool, true, false, ◌||◌, List, [], ◌∷◌, slice_get, refl, sym, subst, arith, Option, Some, None, MatchOption}
use Rattle.rsc_look.specs.declared.assertion.Look.{Look}
use Rattle.rsc_nfa.specs.declared.state.State.{State}
use Rattle.rsc_nfa.specs.declared.state.State.TheVariants.{ByteRange, Assert, Fork, Capture, Accept}
use Rattle.rsc_nfa.specs.Steps.{StepsTo, is_between}
use Rattle.rsc_engine.specs.Patterns.{Pattern, Empty, Never, Class, Assertion, Then, Either, Repeat, Subject, Times, Goes}
use Rattle.rsc_engine.proofs.PatternsLemmas.{between-back}
use Rattle.rsc_engine.specs.LinksLayout.{Aim, StepsLead, HasEnd, Realizes, choice_of, optional, IsChoice}

-- ---- steps of one state

abbrev Leads : Aim → State → ℕ → ℕ × ℕ → Type 0
Leads a state i to = StepsTo state a.subject.terminator a.subject.word_chars a.subject.haystack a.end i to

abbrev pub may_accept : Option State → Bool
may_accept (Some (Accept q)) = true
may_accept _ = false

pub end_within : (states : List State) (a : Aim) (n s i : ℕ) → StepsLead states a n s i → i ≤ a.end
end_within states a zero s i e = e.2
end_within states a (suc n) s i e = e.0

-- a way to a match begins with a step
step_more : (states : List State) (a : Aim) (s i t k : ℕ) (state : State) → slice_get states s ≡ Some state → i ≤ a.end → Leads a state i (t, k)
    → HasEnd states a t k → HasEnd states a s i
step_more states a s i t k state is within step h = record {
  steps = suc h.steps;
  ends = (within, t, k, subst (λ (o : Option State). MatchOption o ⊥ (λ (x : State). Leads a x i (t, k))) (sym is) step, h.ends);
}

moved : (states : List State) (a : Aim) (s i j : ℕ) → i ≡ j → HasEnd states a s j → HasEnd states a s i
moved states a s i j e h = subst (λ (k : ℕ). HasEnd states a s k) (sym e) h

-- ---- parts that lead on by a state

pub Realizes-empty : (states : List State) (next : ℕ) → Realizes states next next Empty
Realizes-empty states next = record {
  complete = λ a i k g h. moved states a next i k g h;
}

pub Realizes-capture : (states : List State) (s slot next : ℕ) → slice_get states s ≡ Some (Capture slot next) → Realizes states s next Empty
Realizes-capture states s slot next is = record {
  complete = λ a i k g h.
      let m = moved states a next i k g h in
      step_more states a s i next i (Capture slot next) is (end_within states a m.steps next i m.ends) (refl, refl) m;
}

pub Realizes-assert : (states : List State) (s next : ℕ) (look : Look) → slice_get states s ≡ Some (Assert look next)
    → Realizes states s next (Assertion look)
Realizes-assert states s next look is = record {
  complete = λ a i k g h.
      let m = moved states a next i k g.1 h in
      step_more states a s i next i (Assert look next) is (end_within states a m.steps next i m.ends) (g.0, refl, refl) m;
}

pub Realizes-never : (states : List State) (s next : ℕ) → slice_get states s ≡ Some (Fork s s) → Realizes states s next Never
Realizes-never states s next is = record {
  complete = λ a i k g h. absurd g;
}

pub one_of_one : (b : Bool) → (b || false) ≡ true → b ≡ true
one_of_one true h = refl
one_of_one false h = h

pub one_is_one : (b : Bool) → b ≡ true → (b || false) ≡ true
one_is_one true h = refl
one_is_one false h = h

pub Realizes-range : (states : List State) (s x y next : ℕ) → slice_get states s ≡ Some (ByteRange x y next)
    → Realizes states s next (Class ((x, y) ∷ []))
Realizes-range states s x y next is = record {
  complete = λ a i k g h.
      let within = end_within states a h.steps next k h.ends in
      step_more states a s i next k (ByteRange x y next) is (omega (arith, within, g.1))
      (omega (arith, within, g.1), one_of_one (is_between x y (slice_get a.subject.haystack i)) g.0, refl, g.1) h;
}

-- ---- parts made of parts

-- a part is what goes where it goes
pub Realizes-is : (states : List State) (first next : ℕ) (p q : Pattern) → ((x : Subject) (i j : ℕ) → Goes x q i j → Goes x p i j)
    → Realizes states first next p → Realizes states first next q
Realizes-is states first next p q back r = record {
  complete = λ a i k g h. r.complete a i k (back a.subject i k g) h;
}

pub Realizes-then : (states : List State) (first middle next : ℕ) (p q : Pattern) → Realizes states middle next q → Realizes states first middle p
    → Realizes states first next (Then p q)
Realizes-then states first middle next p q rq rp = record {
  complete = λ a i k g h. rp.complete a i g.0 g.1 (rq.complete a g.0 k g.2 h);
}

-- a part between two states that stay where they are
pub Realizes-between : (states : List State) (first body after next : ℕ) (p : Pattern) → Realizes states after next Empty → Realizes states body after p
    → Realizes states first body Empty → Realizes states first next p
Realizes-between states first body after next p x r y =
    Realizes-is states first next (Then Empty (Then p Empty)) p (between-back p)
    (Realizes-then states first body next Empty (Then p Empty) (Realizes-then states body after next p Empty x r) y)

pub Realizes-either : (states : List State) (s one other next : ℕ) (p q : Pattern) → slice_get states s ≡ Some (Fork one other)
    → Realizes states one next p → Realizes states other next q → Realizes states s next (Either p q)
Realizes-either states s one other next p q is rp rq = record {
  complete = λ a i k g h. ⊎_elim
      (λ (x : Goes a.subject p i k).
      let m = rp.complete a i k x h in
      step_more states a s i one i (Fork one other) is (end_within states a m.steps one i m.ends) (inl refl, refl) m)
      (λ (x : Goes a.subject q i k).
      let m = rq.complete a i k x h in
      step_more states a s i other i (Fork one other) is (end_within states a m.steps other i m.ends) (inr refl, refl) m)
      g;
}

-- the part, or nothing
pub Realizes-choice : (states : List State) (s first next : ℕ) (greedy : Bool) (p : Pattern) → slice_get states s ≡ Some (choice_of greedy first next)
    → Realizes states first next p → Realizes states s next (optional greedy p)
Realizes-choice states s first next true p is r = Realizes-either states s first next next p Empty is r (Realizes-empty states next)
Realizes-choice states s first next false p is r = Realizes-either states s next first next Empty p is (Realizes-empty states next) r

pub is_choice : (states : List State) (s first next : ℕ) (greedy : Bool) → slice_get states s ≡ Some (choice_of greedy first next)
    → IsChoice states s first next
is_choice states s first next true is = inl is
is_choice states s first next false is = inr is

-- ---- loops

pub choice_first : (states : List State) (a : Aim) (s i first next : ℕ) → IsChoice states s first next → HasEnd states a first i → HasEnd states a s i
choice_first states a s i first next c h =
    let within = end_within states a h.steps first i h.ends in
    ⊎_elim
    (λ (is : slice_get states s ≡ Some (Fork first next)). step_more states a s i first i (Fork first next) is within (inl refl, refl) h)
    (λ (is : slice_get states s ≡ Some (Fork next first)). step_more states a s i first i (Fork next first) is within (inr refl, refl) h)
    c

pub choice_next : (states : List State) (a : Aim) (s i first next : ℕ) → IsChoice states s first next → HasEnd states a next i → HasEnd states a s i
choice_next states a s i first next c h =
    let within = end_within states a h.steps next i h.ends in
    ⊎_elim
    (λ (is : slice_get states s ≡ Some (Fork first next)). step_more states a s i next i (Fork first next) is within (inr refl, refl) h)
    (λ (is : slice_get states s ≡ Some (Fork next first)). step_more states a s i next i (Fork next first) is within (inl refl, refl) h)
    c

-- the part any number of times, from the state after each time
pub Realizes-star : (states : List State) (s first next : ℕ) (greedy : Bool) (p : Pattern) → IsChoice states s first next → Realizes states first s p
    → Realizes states s next (Repeat 0 None greedy p)
Realizes-star states s first next greedy p c r = record {
  complete = λ a i k g h. back a g.0 i k g.3 h;
}
  where
    back : (a : Aim) (n i k : ℕ) → Times (Goes a.subject p) n i k → HasEnd states a next k → HasEnd states a s i
    back a zero i k t h = choice_next states a s i first next c (moved states a next i k t h)
    back a (suc n) i k t h = choice_first states a s i first next c (r.complete a i t.0 t.1 (back a n t.0 k t.2 h))

-- and from its own state once or more
pub Realizes-plus : (states : List State) (s first next : ℕ) (greedy : Bool) (p : Pattern) → IsChoice states s first next → Realizes states first s p
    → Realizes states first next (Repeat 1 None greedy p)
Realizes-plus states s first next greedy p c r = Realizes-is states first next (Then p (Repeat 0 None greedy p)) (Repeat 1 None greedy p)
    (λ x i j g. back x i j g.0 g.1 g.3)
    (Realizes-then states first s next p (Repeat 0 None greedy p) (Realizes-star states s first next greedy p c r) r)
  where
    back : (x : Subject) (i j n : ℕ) → 1 ≤ n → Times (Goes x p) n i j → Goes x (Then p (Repeat 0 None greedy p)) i j
    back x i j zero l t = absurd (omega (arith, l))
    back x i j (suc n) l t = (t.0, t.1, (n, omega arith, tt, t.2))
