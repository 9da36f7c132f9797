-- Steps to a pattern's match go by its ways, and the first path by the first way of a course of it.
use Rattle.std.proofs.Common.{◌≡◌, ℕ, ◌+◌, ◌*◌, ◌<◌, ◌≤◌, ⊎_elim, List, [], ◌∷◌, length, slice_get, slice_index_or, refl, sym, ap, ◌∙◌, subst, arith, Option, Some, MatchOption}
use Rattle.std.proofs.lemmas.Bool.{cases_lt, cases_eq}
use Rattle.std.proofs.lemmas.Option.{slice_get_within}
use Rattle.rsc_nfa.specs.declared.state.State.{State}
use Rattle.rsc_nfa.specs.declared.state.State.TheVariants.{Fork, Accept}
use Rattle.rsc_nfa.specs.Steps.{StepsTo}
use Rattle.rsc_engine.specs.Patterns.{Pattern, Group, Subject}
use Rattle.rsc_engine.specs.LinksLayout.{Aim, StepsLead}
use Rattle.rsc_engine.specs.BeginsLayout.{Begins, IsOfOne, IsOfSome}
use Rattle.rsc_engine.specs.FirstsLayout.{OrdersOne, OrdersSome, TakesFirst, point_of}
use Rattle.rsc_engine.specs.Ways.{Point, GoesWith}
use Rattle.rsc_engine.specs.GroupNumbers.{numbered}
use Rattle.rsc_engine.specs.StepsLayout.{AreSteps, last_place}
use Rattle.rsc_engine.specs.WaysLayout.{finish}
use Rattle.rsc_engine.specs.ByWaysLayout.{ByWays}
use Rattle.rsc_engine.proofs.WaysLayoutLemmas.{Rest, either_way, aim_at, way_of}
use Rattle.rsc_engine.proofs.ByWaysLayoutLemmas.{ByWays-group}
use Rattle.rsc_engine.specs.BeginsLayout.{IsPatternStates}
use Rattle.rsc_engine.specs.Courses.{Course, Within, Stand, chosen}
use Rattle.rsc_engine.specs.PreferredWays.{choices}
use Rattle.rsc_engine.specs.PathsLayout.{PathLeads, IsPath, HasPath, arrive}
use Rattle.rsc_engine.specs.CoursesLayout.{Follows}
use Rattle.rsc_engine.specs.TakesLayout.{TakesCourse}
use Rattle.rsc_engine.proofs.CoursesLemmas.{new-alike}
use Rattle.rsc_engine.proofs.CoursesLayoutLemmas as paths
use Rattle.rsc_engine.proofs.CoursesLayoutLemmas.{path_within, Follows-within}
use Rattle.rsc_engine.proofs.RenamedLayoutLemmas.{AreBoth, IsItself, without}
use Rattle.rsc_engine.proofs.PathsLayoutLemmas.{path_ends}

-- ---- one pattern

stays_there : (states : List State) (x : Subject) (end s i q : ℕ) (rest earlier : List (ℕ × ℕ)) → slice_get states s ≡ Some (Accept q)
    → AreSteps states x end (s, i) rest → finish states (s, i) rest earlier ≡ ((s, i), earlier)
stays_there states x end s i q [] earlier is steps = refl
stays_there states x end s i q (r ∷ rest) earlier is steps =
    absurd (subst (λ (o : Option State). MatchOption o ⊥ (λ (y : State). StepsTo y x.terminator x.word_chars x.haystack end i r)) is steps.0)

-- where a pattern is accepted a path ends
path_stays : (states : List State) (x : Subject) (end m f q : ℕ) (s : Stand) (rest : List ℕ) → slice_get states f ≡ Some (Accept q)
    → IsPath states x end m f s rest → arrive states f s rest ≡ (f, s)
path_stays states x end m f q s [] is p = refl
path_stays states x end m f q s (g ∷ rest) is p = absurd (subst (λ (o : Option State). PathLeads o x end f s g) is p.0)

pub OrdersOne-is : (states : List State) (slot_of : ℕ → ℕ) (number low high top accept after body first : ℕ) (p : Pattern)
    → IsPatternStates states number low high accept after body first → ByWays states body after (numbered slot_of 1 p)
    → TakesCourse low high body after (numbered slot_of 1 p) states → high ≤ top → OrdersOne states slot_of top first number p
OrdersOne-is states slot_of number low high top accept after body first p w o t l = record {
  through = λ x end from rest v.
      let g = order.through x end number from rest v in
      let there = sym (stays_there states x end accept g.to.0 number g.rest g.to.1 w.accepting g.way.steps) ∙ g.ends in
      subst (λ (k : Point). GoesWith x (Group (2 * number) (numbered slot_of 1 p)) from k) (ap point_of there) g.goes;
  course = record { course = course; is = (t.course, refl, t.is); apart = t.numbers.apart };
  below = λ k d m. let its = t.numbers.within k d m in omega (arith, its.1, l);
  takes = λ x end s rest least.
      let g = follows.goes x end number s rest least in
      let there : (accept, g.to) ≡ arrive states first s rest =
      sym (path_stays states x end number accept number g.to g.rest w.accepting g.least.path) ∙ g.ends in (
        g.to,
        new-alike x course (HasPath states x end number accept) (λ k. k.at ≤ end) s g.to
            (λ k v. path_within states x end number accept k v.0 v.1) (λ k within. ([], (w.accepting, within))) g.first,
        ap (λ (z : ℕ × Stand). z.1.at) there,
        ap (λ (z : ℕ × Stand). z.1.records) there,
      );
}
  where
    course : Course
    course = Within (2 * number) t.course

    follows : Follows states first accept course
    follows = Follows-within states first body after accept (2 * number) t.course w.starting w.ending t.follows

    order : ByWays states first accept (Group (2 * number) (numbered slot_of 1 p))
    order = ByWays-group states first body after accept (2 * number) (numbered slot_of 1 p) w.starting w.ending o

-- ---- several patterns

same_some : (p q : Pattern) → Some p ≡ Some q → p ≡ q
same_some p q e = cc

pub OrdersSome-last : (states : List State) (slot_of : ℕ → ℕ → ℕ) (high first n : ℕ) (p : Pattern) (patterns : List Pattern)
    → slice_get patterns n ≡ Some p → n + 1 ≡ length patterns → OrdersOne states (slot_of n) high first n p
    → OrdersSome states slot_of high first n patterns
OrdersSome-last states slot_of high first n p patterns at last o m q from its =
    let there = slice_get_within patterns m q its in
    let same : m ≡ n = omega (arith, there, last, from) in
    let pattern : p ≡ q = same_some p q (sym at ∙ (ap (λ (k : ℕ). slice_get patterns k) (sym same) ∙ its)) in
    subst (λ (k : ℕ). OrdersOne states (slot_of k) high first k q) (sym same)
    (subst (λ (r : Pattern). OrdersOne states (slot_of n) high first n r) pattern o)

up_to_end : (end : ℕ) (R : ℕ → ℕ → Type 0) → AreBoth R (λ k. k.at ≤ end) (λ k. k.at ≤ end)
up_to_end end R = (λ s u a l. let same = a.at in omega (arith, l, same), λ s u a l. let same = a.at in omega (arith, l, same))

-- after a fork that is none of a course's choices
after_fork : (states : List State) (x : Subject) (end m f g high : ℕ) (c : Course) (s : Stand) (most : ℕ) (last : ℕ × Stand) → high ≤ f
    → ((k d : ℕ) → k < length (choices c) → slice_index_or (choices c) k d < high) → (w : paths.Way states x end m f g s most last)
    → TakesFirst x c end (chosen f s) (arrive states g (chosen f s) w.rest).1 → TakesFirst x c end s last.1
after_fork states x end m f g high c s most last l below w g_takes =
    let u = without x c (λ k. k.at ≤ end) f high s g_takes.0 l below (up_to_end end (IsItself (λ v. v < high))) g_takes.1 in (
      u.0,
      u.1,
      sym u.2.at ∙ (g_takes.2 ∙ ap (λ (z : ℕ × Stand). z.1.at) w.ends),
      sym u.2.records ∙ (g_takes.3 ∙ ap (λ (z : ℕ × Stand). z.1.records) w.ends),
    )

-- at a fork, of a pattern that the one way leads to, and the other doesn't
OrdersOne-first : (states : List State) (slot_of : ℕ → ℕ) (high top s one other m : ℕ) (p : Pattern) → slice_get states s ≡ Some (Fork one other)
    → high ≤ s → high ≤ top → OrdersOne states slot_of high one m p
    → ((a : Aim) (n i : ℕ) → a.pattern ≡ m → StepsLead states a n other i → ⊥)
    → OrdersOne states slot_of top s m p
OrdersOne-first states slot_of high top s one other m p is above l o none = record {
  through = λ x end from rest w. ⊎_elim
      (λ (v : Rest states x end m one from (length rest) (finish states (s, from.0) rest from.1)).
      subst (λ (k : (ℕ × ℕ) × List (ℕ × ℕ)). GoesWith x (Group (2 * m) (numbered slot_of 1 p)) from (point_of k)) v.ends
      (o.through x end from v.rest v.way))
      (λ (v : Rest states x end m other from (length rest) (finish states (s, from.0) rest from.1)).
      absurd (none (aim_at x end m (last_place (other, from.0) v.rest)) (length v.rest) from.0 refl
      (way_of states x end m (other, from.0) v.rest v.way.within v.way.steps v.way.accepts)))
      (either_way states x end m s one other from rest is w);
  course = o.course;
  below = λ k d b. let its = o.below k d b in omega (arith, its, l);
  takes = λ x end st rest least. ⊎_elim
      (λ (w : paths.Way states x end m s one st (length rest) (arrive states s st rest)).
      after_fork states x end m s one high o.course.course st (length rest) (arrive states s st rest) above o.below w
      (o.takes x end (chosen s st) w.rest w.least))
      (λ (w : (HasPath states x end m one (chosen s st) → ⊥) × paths.Way states x end m s other st (length rest) (arrive states s st rest)).
      absurd (none (record { subject = x; end = end; pattern = m; position = (arrive states other (chosen s st) w.1.rest).1.at }) (length w.1.rest) st.at refl
      (path_ends states x end m other (chosen s st) w.1.rest w.1.least.path)))
      ((paths.from_fork states x end m s one other st rest is least).1);
}

OrdersOne-next : (states : List State) (slot_of : ℕ → ℕ) (high top s one other m : ℕ) (p : Pattern) → slice_get states s ≡ Some (Fork one other)
    → high ≤ s → high ≤ top → OrdersOne states slot_of high other m p
    → ((a : Aim) (n i : ℕ) → a.pattern ≡ m → StepsLead states a n one i → ⊥)
    → OrdersOne states slot_of top s m p
OrdersOne-next states slot_of high top s one other m p is above l o none = record {
  through = λ x end from rest w. ⊎_elim
      (λ (v : Rest states x end m one from (length rest) (finish states (s, from.0) rest from.1)).
      absurd (none (aim_at x end m (last_place (one, from.0) v.rest)) (length v.rest) from.0 refl
      (way_of states x end m (one, from.0) v.rest v.way.within v.way.steps v.way.accepts)))
      (λ (v : Rest states x end m other from (length rest) (finish states (s, from.0) rest from.1)).
      subst (λ (k : (ℕ × ℕ) × List (ℕ × ℕ)). GoesWith x (Group (2 * m) (numbered slot_of 1 p)) from (point_of k)) v.ends
      (o.through x end from v.rest v.way))
      (either_way states x end m s one other from rest is w);
  course = o.course;
  below = λ k d b. let its = o.below k d b in omega (arith, its, l);
  takes = λ x end st rest least. ⊎_elim
      (λ (w : paths.Way states x end m s one st (length rest) (arrive states s st rest)).
      absurd (none (record { subject = x; end = end; pattern = m; position = (arrive states one (chosen s st) w.rest).1.at }) (length w.rest) st.at refl
      (path_ends states x end m one (chosen s st) w.rest w.least.path)))
      (λ (w : (HasPath states x end m one (chosen s st) → ⊥) × paths.Way states x end m s other st (length rest) (arrive states s st rest)).
      after_fork states x end m s other high o.course.course st (length rest) (arrive states s st rest) above o.below w.1
      (o.takes x end (chosen s st) w.1.rest w.1.least))
      ((paths.from_fork states x end m s one other st rest is least).1);
}

pub OrdersSome-more : (states : List State) (slot_of : ℕ → ℕ → ℕ) (low high top s one other n : ℕ) (p : Pattern) (patterns : List Pattern)
    → slice_get patterns n ≡ Some p → slice_get states s ≡ Some (Fork one other) → low ≤ high → high ≤ s → high ≤ top
    → Begins states one (IsOfOne n p)
    → Begins states other (IsOfSome (n + 1) patterns) → OrdersOne states (slot_of n) high one n p
    → OrdersSome states slot_of low other (n + 1) patterns → OrdersSome states slot_of top s n patterns
OrdersSome-more states slot_of low high top s one other n p patterns at is lh hs ht b c o all m q from its = ⊎_elim
    (λ (same : m ≡ n).
    let pattern : p ≡ q = same_some p q (sym at ∙ (ap (λ (k : ℕ). slice_get patterns k) (sym same) ∙ its)) in
    subst (λ (k : ℕ). OrdersOne states (slot_of k) top s k q) (sym same) (subst (λ (r : Pattern). OrdersOne states (slot_of n) top s n r) pattern
    (OrdersOne-first states (slot_of n) high top s one other n p is hs ht o (λ a k i e way. let sound = c.sound a k i way in omega (arith, e, sound.0)))))
    (λ (apart : (m ≡ n) → ⊥).
    OrdersOne-next states (slot_of m) low top s one other m q is (omega (arith, lh, hs)) (omega (arith, lh, ht)) (all m q (later m from apart) its)
    (λ a k i e way. let sound = b.sound a k i way in apart (omega (arith, e, sound.0))))
    (cases_eq m n)
  where
    later : (m : ℕ) → n ≤ m → ((m ≡ n) → ⊥) → n + 1 ≤ m
    later m le apart = ⊎_elim (λ (l : n < m). omega (arith, l)) (λ (l : m ≤ n). absurd (apart (omega (arith, l, le)))) (cases_lt n m)
