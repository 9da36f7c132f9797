-- If loops take bytes, a course makes no choice twice at one position whatever way it goes; so its first way is that of its pattern.
use Rattle.std.proofs.Common.{◌≡◌, ℕ, zero, suc, ◌+◌, ◌≤◌, ◌⊎◌, inl, inr, ⊎_elim, Bool, true, false, ◌||◌, ◌&&◌, true≢false, List, [], ◌∷◌, ◌++◌, length, slice_get, refl, sym, ap, ◌∙◌, subst, arith, length-append, None}
use Rattle.std.proofs.lemmas.List.{get_or_append_left, get_or-append-add}
use Rattle.std.proofs.lemmas.List.Elements.{Contains-append_left, Contains-append_right}
use Rattle.std.specs.List.{AllPairs, Contains}
use Rattle.rsc_nfa.specs.Steps.{is_between}
use Rattle.rsc_engine.specs.Patterns.{Then, Subject, Times, SomeTimes, Goes, may_be_empty}
use Rattle.rsc_engine.specs.FirstEnds.{loops_take_bytes, HasEndIn}
use Rattle.rsc_engine.specs.Ways.{Point}
use Rattle.rsc_engine.specs.FirstWays.{AreFirstRounds, IsFirstWay}
use Rattle.rsc_engine.specs.Courses.{Course, Skip, Dead, Byte, Here, After, Choose, Turn, Again, Within, Stand, further, chosen, noted, IsUnmade, Turns, SomeTurns, GoesOnce, Reaches, FirstTurns, IsFirstOnce}
use Rattle.rsc_engine.specs.PreferredWays.{choices}
use Rattle.rsc_engine.specs.WrittenLayout.{written}
use Rattle.rsc_engine.specs.HeadsLayout.{Makes, MakesFirst, AreApart, AreNew, Leaves, IsFreshBefore}
use Rattle.rsc_engine.proofs.FirstEndsLemmas.{both_are, part-loops, loop-takes}
use Rattle.rsc_engine.proofs.PatternsLemmas.{or_one, or_other, neither_one, neither_other}
use Rattle.rsc_engine.proofs.PreferredWaysLemmas.{new-goes}
use Rattle.rsc_engine.proofs.RenamedLayoutLemmas.{front}

-- ---- choices

made : (c : Course) (v : ℕ) → MakesFirst c v → Makes c v
made Skip v m = m
made Dead v m = m
made (Byte a b) v m = m
made (Here look) v m = m
made (After c d) v m = ⊎_elim (λ (a : MakesFirst c v). inl (made c v a)) (λ (b : (may_be_empty (written c) ≡ true)
    × MakesFirst d v). inr (made d v b.1)) m
made (Choose w c d) v m = ⊎_elim
    (λ (e : w ≡ v). inl e)
    (λ (o : MakesFirst c v ⊎ MakesFirst d v).
    ⊎_elim (λ (a : MakesFirst c v). inr (inl (made c v a))) (λ (b : MakesFirst d v). inr (inr (made d v b))) o)
    m
made (Turn w greedy c) v m = ⊎_elim (λ (e : w ≡ v). inl e) (λ (a : MakesFirst c v). inr (made c v a)) m
made (Again w greedy c) v m = inr (made c v m)
made (Within slot c) v m = made c v m

behind : (w v : ℕ) (xs : List ℕ) → (w ≡ v) ⊎ Contains xs v → Contains (w ∷ xs) v
behind w v xs (inl e) = (0, omega arith, e)
behind w v xs (inr c) = (suc c.0, omega (arith, c.1), c.2)

listed : (c : Course) (v : ℕ) → Makes c v → Contains (choices c) v
listed Skip v m = absurd m
listed Dead v m = absurd m
listed (Byte a b) v m = absurd m
listed (Here look) v m = absurd m
listed (After c d) v m = ⊎_elim
    (λ (a : Makes c v). Contains-append_left (choices c) (choices d) v (listed c v a))
    (λ (b : Makes d v). Contains-append_right (choices c) (choices d) v (listed d v b))
    m
listed (Choose w c d) v m = behind w v (choices c ++ choices d) (⊎_elim
    (λ (e : w ≡ v). inl e)
    (λ (o : Makes c v ⊎ Makes d v). inr (⊎_elim
    (λ (a : Makes c v). Contains-append_left (choices c) (choices d) v (listed c v a))
    (λ (b : Makes d v). Contains-append_right (choices c) (choices d) v (listed d v b))
    o))
    m)
listed (Turn w greedy c) v m = behind w v (choices c) (⊎_elim (λ (e : w ≡ v). inl e) (λ (a : Makes c v). inr (listed c v a)) m)
listed (Again w greedy c) v m = behind w v (choices c) (⊎_elim (λ (e : w ≡ v). inl e) (λ (a : Makes c v). inr (listed c v a)) m)
listed (Within slot c) v m = listed c v m

abbrev Distinct : List ℕ → Type 0
Distinct xs = AllPairs (λ v w. (v ≡ w) → ⊥) xs

left_of : (xs ys : List ℕ) → Distinct (xs ++ ys) → Distinct xs
left_of xs ys h i j d l m e =
    h i j d l (omega (arith, m, length-append xs ys))
    (get_or_append_left xs ys d i (omega (arith, l, m)) ∙ (e ∙ sym (get_or_append_left xs ys d j m)))

right_of : (xs ys : List ℕ) → Distinct (xs ++ ys) → Distinct ys
right_of xs ys h i j d l m e =
    h (length xs + i) (length xs + j) d (omega (arith, l)) (omega (arith, m, length-append xs ys))
    (get_or-append-add xs ys i d ∙ (e ∙ sym (get_or-append-add xs ys j d)))

across : (xs ys : List ℕ) → Distinct (xs ++ ys) → (v : ℕ) → Contains xs v → Contains ys v → ⊥
across xs ys h v a b =
    h a.0 (length xs + b.0) v (omega (arith, a.1)) (omega (arith, b.1, length-append xs ys))
    (get_or_append_left xs ys v a.0 a.1 ∙ (a.2 ∙ (sym b.2 ∙ sym (get_or-append-add xs ys b.0 v))))

behind_first : (w : ℕ) (xs : List ℕ) → Distinct (w ∷ xs) → Distinct xs
behind_first w xs h i j d l m e = h (suc i) (suc j) d (omega (arith, l)) (omega (arith, m)) e

not_again : (w : ℕ) (xs : List ℕ) → Distinct (w ∷ xs) → Contains xs w → ⊥
not_again w xs h c = h 0 (suc c.0) w (omega arith) (omega (arith, c.1)) (sym c.2)

pub apart-of : (c : Course) → AllPairs (λ v w. (v ≡ w) → ⊥) (choices c) → AreApart c
apart-of Skip h = tt
apart-of Dead h = tt
apart-of (Byte a b) h = tt
apart-of (Here look) h = tt
apart-of (After c d) h = (
  apart-of c (left_of (choices c) (choices d) h),
  apart-of d (right_of (choices c) (choices d) h),
  λ v a b. across (choices c) (choices d) h v (listed c v a) (listed d v b),
)
apart-of (Choose w c d) h =
    let rest = behind_first w (choices c ++ choices d) h in (
      apart-of c (left_of (choices c) (choices d) rest),
      apart-of d (right_of (choices c) (choices d) rest),
      λ v a b. across (choices c) (choices d) rest v (listed c v a) (listed d v b),
      λ a. not_again w (choices c ++ choices d) h (listed (After c d) w (inl a)),
      λ b. not_again w (choices c ++ choices d) h (listed (After c d) w (inr b)),
    )
apart-of (Turn w greedy c) h = (apart-of c (behind_first w (choices c) h), λ a. not_again w (choices c) h (listed c w a))
apart-of (Again w greedy c) h = (apart-of c (behind_first w (choices c) h), λ a. not_again w (choices c) h (listed c w a))
apart-of (Within slot c) h = apart-of c h

single : (b : Bool) → (b || false) ≡ true → b ≡ true
single true e = refl
single false e = absurd (true≢false (sym e))

-- ---- what a course leaves

-- each part that it repeats without a limit takes a byte
abbrev Takes : Course → Type 0
Takes c = loops_take_bytes (written c) ≡ true

abbrev LeavesBy : Subject → Course → Type 0
LeavesBy x c = (s t : Stand) → AreNew c s → GoesOnce x c s t → Leaves c s t

-- a round leads to where another may begin
round-before : (w : ℕ) (c : Course) (Given : ℕ → Type 0) (s t : Stand) → may_be_empty (written c) ≡ false → (Makes c w → ⊥)
    → ((v : ℕ) → Makes c v → Given v) → Leaves c s t → IsFreshBefore w c Given t
round-before w c Given s t takes apart given l v m = ⊎_elim
    (λ (a : Makes c v). (given v a, λ e. apart (subst (λ (z : ℕ). Makes c z) (sym e) a), l.fresh takes v m))
    (λ (b : (may_be_empty (written c) ≡ true) × Contains s.made v). absurd (true≢false (sym b.0 ∙ takes)))
    (l.from v m)

-- after the choice that ends the rounds of a loop
turn-leaves : (w : ℕ) (greedy : Bool) (c : Course) (s k : Stand) → IsFreshBefore w c (λ v. Makes c v ⊎ Contains s.made v) k
    → Leaves (Turn w greedy c) s (chosen w k)
turn-leaves w greedy c s k b = record {
  from = λ v m. ⊎_elim
      (λ (e : w ≡ v). inl (inl e))
      (λ (a : Contains k.made v).
      ⊎_elim (λ (y : Makes c v). inl (inr y)) (λ (z : Contains s.made v). inr (refl, z)) ((b v a).0))
      (front w v k.made m);
  fresh = λ e v m. absurd (true≢false e);
}

again-leaves : (w : ℕ) (greedy : Bool) (c : Course) (s k : Stand) → (Makes c w → ⊥) → IsFreshBefore w c (Makes c) k
    → Leaves (Again w greedy c) s (chosen w k)
again-leaves w greedy c s k apart b = record {
  from = λ v m. ⊎_elim (λ (e : w ≡ v). inl (inl e)) (λ (a : Contains k.made v). inl (inr ((b v a).0))) (front w v k.made m);
  fresh = λ e v m f. ⊎_elim
      (λ (e : w ≡ v). apart (subst (λ (z : ℕ). Makes c z) (sym e) (made c v f)))
      (λ (a : Contains k.made v). (b v a).2 f)
      (front w v k.made m);
}

-- the first round of a loop
first-before : (w : ℕ) (greedy : Bool) (c : Course) (s : Stand) → AreNew (Turn w greedy c) s → IsFreshBefore w c (λ v. Makes c v ⊎ Contains s.made v) s
first-before w greedy c s opens v m = (inr m, λ e. opens v (inl e) m, λ f. opens v (inr f) m)

-- where nothing of a course was made it may begin
opens-left : (c d : Course) (s : Stand) → AreNew (After c d) s → AreNew c s
opens-left c d s opens v m = opens v (inl m)

opens-right : (c d : Course) (s k : Stand) → ((v : ℕ) → Makes c v → Makes d v → ⊥) → AreNew (After c d) s → Leaves c s k → AreNew d k
opens-right c d s k apart opens l v m there = ⊎_elim
    (λ (a : Makes c v). apart v a (made d v m))
    (λ (b : (may_be_empty (written c) ≡ true) × Contains s.made v). opens v (inr (b.0, m)) b.1)
    (l.from v there)

-- after a choice
opens-chosen : (w : ℕ) (c : Course) (s : Stand) → (Makes c w → ⊥) → AreNew c s → AreNew c (chosen w s)
opens-chosen w c s apart opens v m there = ⊎_elim
    (λ (e : w ≡ v). apart (subst (λ (z : ℕ). Makes c z) (sym e) (made c v m)))
    (λ (a : Contains s.made v). opens v m a)
    (front w v s.made there)

opens-first : (w : ℕ) (c d : Course) (s : Stand) → (Makes c w → ⊥) → AreNew (Choose w c d) s → AreNew c (chosen w s)
opens-first w c d s apart opens = opens-chosen w c s apart (λ v m. opens v (inr (inl m)))

opens-other : (w : ℕ) (c d : Course) (s : Stand) → (Makes d w → ⊥) → AreNew (Choose w c d) s → AreNew d (chosen w s)
opens-other w c d s apart opens = opens-chosen w d s apart (λ v m. opens v (inr (inr m)))

before-chosen : (w : ℕ) (c : Course) (Given : ℕ → Type 0) (s : Stand) → (Makes c w → ⊥) → IsFreshBefore w c Given s → AreNew c (chosen w s)
before-chosen w c Given s apart b = opens-chosen w c s apart (λ v m there. (b v there).2 m)

before-new : (w : ℕ) (c : Course) (Given : ℕ → Type 0) (s : Stand) → IsFreshBefore w c Given s → Contains s.made w → ⊥
before-new w c Given s b m = (b w m).1 refl

-- rounds end by their choice
turns-before : (x : Subject) (w : ℕ) (c : Course) (Given : ℕ → Type 0) → may_be_empty (written c) ≡ false → (Makes c w → ⊥)
    → ((v : ℕ) → Makes c v → Given v) → LeavesBy x c → (n : ℕ) (s t : Stand) → IsFreshBefore w c Given s → Turns (GoesOnce x c) w n s t
    → (k : Stand) × (t ≡ chosen w k) × IsFreshBefore w c Given k
turns-before x w c Given takes apart given leave zero s t b g = (s, g.1, b)
turns-before x w c Given takes apart given leave (suc n) s t b g =
    let l = leave (chosen w s) g.1 (before-chosen w c Given s apart b) g.2 in
    turns-before x w c Given takes apart given leave n g.1 t (round-before w c Given (chosen w s) g.1 takes apart given l) g.3

only_one : (a b : Bool) → (a && b) ≡ false → b ≡ true → a ≡ false
only_one true b e f = absurd (true≢false (sym f ∙ e))
only_one false b e f = refl

only_other : (a b : Bool) → (a && b) ≡ false → a ≡ true → b ≡ false
only_other true b e f = e
only_other false b e f = absurd (true≢false (sym f))

-- after one part and then the other
after-leaves : (c d : Course) (s k t : Stand) → ((v : ℕ) → Makes c v → Makes d v → ⊥) → Leaves c s k → Leaves d k t → Leaves (After c d) s t
after-leaves c d s k t apart l r = record { from = whence; fresh = new }
  where
    whence : (v : ℕ) → Contains t.made v → (Makes c v ⊎ Makes d v) ⊎ ((may_be_empty (Then (written c) (written d)) ≡ true) × Contains s.made v)
    whence v m = ⊎_elim
        (λ (b : Makes d v). inl (inr b))
        (λ (e : (may_be_empty (written d) ≡ true) × Contains k.made v). ⊎_elim
        (λ (a : Makes c v). inl (inl a))
        (λ (f : (may_be_empty (written c) ≡ true) × Contains s.made v). inr (rw (f.0, e.0) refl, f.1))
        (l.from v e.1))
        (r.from v m)

    -- of the one part's choices
    before : (v : ℕ) → Contains t.made v → MakesFirst c v → may_be_empty (Then (written c) (written d)) ≡ false → ⊥
    before v m f e = ⊎_elim
        (λ (b : Makes d v). apart v (made c v f) b)
        (λ (g : (may_be_empty (written d) ≡ true)
        × Contains k.made v). l.fresh (only_one (may_be_empty (written c)) (may_be_empty (written d)) e g.0) v g.1 f)
        (r.from v m)

    new : may_be_empty (Then (written c) (written d)) ≡ false → (v : ℕ) → Contains t.made v
        → MakesFirst c v ⊎ ((may_be_empty (written c) ≡ true) × MakesFirst d v) → ⊥
    new e v m f = ⊎_elim
        (λ (a : MakesFirst c v). before v m a e)
        (λ (b : (may_be_empty (written c) ≡ true) × MakesFirst d v).
        r.fresh (only_other (may_be_empty (written c)) (may_be_empty (written d)) e b.0) v m b.1)
        f

-- after a choice and one of its ways
chosen-from : (w : ℕ) (c : Course) (s t : Stand) → Leaves c (chosen w s) t → (v : ℕ) → Contains t.made v
    → (w ≡ v) ⊎ (Makes c v ⊎ ((may_be_empty (written c) ≡ true) × Contains s.made v))
chosen-from w c s t l v m = ⊎_elim
    (λ (a : Makes c v). inr (inl a))
    (λ (e : (may_be_empty (written c) ≡ true) × Contains (w ∷ s.made) v). ⊎_elim
    (λ (z : w ≡ v). inl z)
    (λ (z : Contains s.made v). inr (inr (e.0, z)))
    (front w v s.made e.1))
    (l.from v m)

chosen-fresh : (w : ℕ) (c d : Course) (s t : Stand) → (Makes c w → ⊥) → ((v : ℕ) → Makes c v → Makes d v → ⊥) → Leaves c (chosen w s) t
    → may_be_empty (written c) ≡ false → (v : ℕ) → Contains t.made v → (w ≡ v) ⊎ (MakesFirst c v ⊎ MakesFirst d v) → ⊥
chosen-fresh w c d s t other apart l takes v m f = ⊎_elim
    (λ (a : Makes c v). ⊎_elim
    (λ (e : w ≡ v). other (subst (λ (z : ℕ). Makes c z) (sym e) a))
    (λ (o : MakesFirst c v ⊎ MakesFirst d v). ⊎_elim
    (λ (y : MakesFirst c v). l.fresh takes v m y)
    (λ (z : MakesFirst d v). apart v a (made d v z))
    o)
    f)
    (λ (e : (may_be_empty (written c) ≡ true) × Contains (w ∷ s.made) v). absurd (true≢false (sym e.0 ∙ takes)))
    (l.from v m)

one-leaves : (w : ℕ) (c d : Course) (s t : Stand) → (Makes c w → ⊥) → ((v : ℕ) → Makes c v → Makes d v → ⊥) → Leaves c (chosen w s) t
    → Leaves (Choose w c d) s t
one-leaves w c d s t none apart l = record {
  from = λ v m. ⊎_elim
      (λ (e : w ≡ v). inl (inl e))
      (λ (o : Makes c v ⊎ ((may_be_empty (written c) ≡ true) × Contains s.made v)). ⊎_elim
      (λ (a : Makes c v). inl (inr (inl a)))
      (λ (b : (may_be_empty (written c) ≡ true) × Contains s.made v). inr (or_one (may_be_empty (written c)) (may_be_empty (written d)) b.0, b.1))
      o)
      (chosen-from w c s t l v m);
  fresh = λ e v m f. chosen-fresh w c d s t none apart l (neither_one (may_be_empty (written c)) (may_be_empty (written d)) e) v m f;
}

other-leaves : (w : ℕ) (c d : Course) (s t : Stand) → (Makes d w → ⊥) → ((v : ℕ) → Makes c v → Makes d v → ⊥) → Leaves d (chosen w s) t
    → Leaves (Choose w c d) s t
other-leaves w c d s t none apart l = record {
  from = λ v m. ⊎_elim
      (λ (e : w ≡ v). inl (inl e))
      (λ (o : Makes d v ⊎ ((may_be_empty (written d) ≡ true) × Contains s.made v)). ⊎_elim
      (λ (a : Makes d v). inl (inr (inr a)))
      (λ (b : (may_be_empty (written d) ≡ true) × Contains s.made v). inr (or_other (may_be_empty (written c)) (may_be_empty (written d)) b.0, b.1))
      o)
      (chosen-from w d s t l v m);
  fresh = λ e v m f.
      chosen-fresh w d c s t none (λ u a b. apart u b a) l (neither_other (may_be_empty (written c)) (may_be_empty (written d)) e) v m (swapped v f);
}
  where
    swapped : (v : ℕ) → (w ≡ v) ⊎ (MakesFirst c v ⊎ MakesFirst d v) → (w ≡ v) ⊎ (MakesFirst d v ⊎ MakesFirst c v)
    swapped v (inl e) = inl e
    swapped v (inr (inl a)) = inr (inr a)
    swapped v (inr (inr b)) = inr (inl b)

pub leaves : (x : Subject) (c : Course) → Takes c → AreApart c → LeavesBy x c
leaves x Skip h apart s t opens g = record {
  from = λ v m. inr (refl, subst (λ (k : Stand). Contains k.made v) (sym g) m);
  fresh = λ e v m. absurd (true≢false e);
}
leaves x Dead h apart s t opens g = absurd g
leaves x (Byte a b) h apart s t opens g = record { from = λ v m. absurd (none v m); fresh = λ e v m. absurd (none v m) }
  where
    none : (v : ℕ) → Contains t.made v → ⊥
    none v m = let n : Contains [] v = subst (λ (k : Stand). Contains k.made v) g.1 m in absurd (omega (arith, n.1))
leaves x (Here look) h apart s t opens g = record {
  from = λ v m. inr (refl, subst (λ (k : Stand). Contains k.made v) (sym g.1) m);
  fresh = λ e v m. absurd (true≢false e);
}
leaves x (After c d) h apart s t opens g =
    let loops = both_are (loops_take_bytes (written c)) (loops_take_bytes (written d)) h in
    let one = leaves x c loops.0 apart.0 s g.0 (opens-left c d s opens) g.1 in
    after-leaves c d s g.0 t apart.2 one (leaves x d loops.1 apart.1 g.0 t (opens-right c d s g.0 apart.2 opens one) g.2)
leaves x (Choose w c d) h apart s t opens g =
    let loops = both_are (loops_take_bytes (written c)) (loops_take_bytes (written d)) h in
    ⊎_elim
    (λ (y : GoesOnce x c (chosen w s) t).
    one-leaves w c d s t apart.3 apart.2 (leaves x c loops.0 apart.0 (chosen w s) t (opens-first w c d s apart.3 opens) y))
    (λ (y : GoesOnce x d (chosen w s) t).
    other-leaves w c d s t apart.4 apart.2 (leaves x d loops.1 apart.1 (chosen w s) t (opens-other w c d s apart.4 opens) y))
    g.1
leaves x (Turn w greedy c) h apart s t opens g =
    let k = turns-before x w c (λ v. Makes c v ⊎ Contains s.made v) (loop-takes 0 greedy (written c) h) apart.1 (λ v a. inl a)
    (leaves x c (part-loops 0 None greedy (written c) h) apart.0) g.0 s t (first-before w greedy c s opens) g.1 in
    subst (λ (z : Stand). Leaves (Turn w greedy c) s z) (sym k.1) (turn-leaves w greedy c s k.0 k.2)
leaves x (Again w greedy c) h apart s t opens g =
    let takes = loop-takes 1 greedy (written c) h in
    let by = leaves x c (part-loops 1 None greedy (written c) h) apart.0 in
    let k = turns-before x w c (Makes c) takes apart.1 (λ v a. a) by g.2.0 g.0 t
    (round-before w c (Makes c) s g.0 takes apart.1 (λ v a. a) (by s g.0 opens g.1)) g.2.1 in
    subst (λ (z : Stand). Leaves (Again w greedy c) s z) (sym k.1) (again-leaves w greedy c s k.0 apart.1 k.2)
leaves x (Within slot c) h apart s t opens g =
    let l = leaves x c h apart (noted slot s) g.0 opens g.1 in
    subst (λ (z : Stand). Leaves (Within slot c) s z) (sym g.2) (record { from = l.from; fresh = l.fresh })

-- ---- where a course goes its pattern goes, and back

turns-go : (R : Stand → Stand → Type 0) (S : ℕ → ℕ → Type 0) (w : ℕ) → ((s t : Stand) → R s t → S s.at t.at) → (n : ℕ) (s t : Stand)
    → Turns R w n s t
    → Times S n s.at t.at
turns-go R S w on zero s t g = ap (λ (k : Stand). k.at) (sym g.1)
turns-go R S w on (suc n) s t g = (g.1.at, on (chosen w s) g.1 g.2, turns-go R S w on n g.1 t g.3)

goes : (x : Subject) (c : Course) (s t : Stand) → GoesOnce x c s t → Goes x (written c) s.at t.at
goes x Skip s t g = ap (λ (k : Stand). k.at) g
goes x Dead s t g = g
goes x (Byte a b) s t g = (or_one (is_between a b (slice_get x.haystack s.at)) false g.0, ap (λ (k : Stand). k.at) g.1)
goes x (Here look) s t g = (g.0, ap (λ (k : Stand). k.at) g.1)
goes x (After c d) s t g = (g.0.at, goes x c s g.0 g.1, goes x d g.0 t g.2)
goes x (Choose w c d) s t g = ⊎_elim
    (λ (y : GoesOnce x c (chosen w s) t). inl (goes x c (chosen w s) t y))
    (λ (y : GoesOnce x d (chosen w s) t). inr (goes x d (chosen w s) t y))
    g.1
goes x (Turn w greedy c) s t g = (g.0, omega arith, tt, turns-go (GoesOnce x c) (Goes x (written c)) w (goes x c) g.0 s t g.1)
goes x (Again w greedy c) s t g =
    (suc g.2.0, omega arith, tt, (g.0.at, goes x c s g.0 g.1, turns-go (GoesOnce x c) (Goes x (written c)) w (goes x c) g.2.0 g.0 t g.2.1))
goes x (Within slot c) s t g = subst (λ (k : Stand). Goes x (written c) s.at k.at) (sym g.2) (goes x c (noted slot s) g.0 g.1)

-- from a stand the course goes to one at the position
abbrev HasGoing : Subject → Course → Stand → ℕ → Type 0
HasGoing x c s j = (t : Stand) × GoesOnce x c s t × (t.at ≡ j)

abbrev GoesBack : Subject → Course → Type 0
GoesBack x c = (s : Stand) (j : ℕ) → AreNew c s → Goes x (written c) s.at j → HasGoing x c s j

turns-back : (x : Subject) (w : ℕ) (c : Course) (Given : ℕ → Type 0) → may_be_empty (written c) ≡ false → (Makes c w → ⊥)
    → ((v : ℕ) → Makes c v → Given v) → LeavesBy x c → GoesBack x c → (n : ℕ) (s : Stand) (j : ℕ) → IsFreshBefore w c Given s
    → Times (Goes x (written c)) n s.at j → (t : Stand) × Turns (GoesOnce x c) w n s t × (t.at ≡ j)
turns-back x w c Given takes apart given leave back zero s j b g = (chosen w s, (before-new w c Given s b, refl), g)
turns-back x w c Given takes apart given leave back (suc n) s j b g =
    let opens = before-chosen w c Given s apart b in
    let one = back (chosen w s) g.0 opens g.1 in
    let next = round-before w c Given (chosen w s) one.0 takes apart given (leave (chosen w s) one.0 opens one.1) in
    let rest = turns-back x w c Given takes apart given leave back n one.0 j next (subst (λ (i : ℕ). Times (Goes x (written c)) n i j) (sym one.2) g.2) in
    (rest.0, (before-new w c Given s b, one.0, one.1, rest.1), rest.2)

again-back : (x : Subject) (w : ℕ) (greedy : Bool) (c : Course) → may_be_empty (written c) ≡ false → (Makes c w → ⊥) → LeavesBy x c
    → GoesBack x c
    → (s : Stand) (j : ℕ) → AreNew c s → (n : ℕ) → 1 ≤ n → Times (Goes x (written c)) n s.at j → HasGoing x (Again w greedy c) s j
again-back x w greedy c takes apart leave by s j opens zero l t = absurd (omega (arith, l))
again-back x w greedy c takes apart leave by s j opens (suc n) l t =
    let one = by s t.0 opens t.1 in
    let next = round-before w c (Makes c) s one.0 takes apart (λ v a. a) (leave s one.0 opens one.1) in
    let r = turns-back x w c (Makes c) takes apart (λ v a. a) leave by n one.0 j next
    (subst (λ (i : ℕ). Times (Goes x (written c)) n i j) (sym one.2) t.2) in
    (r.0, (one.0, one.1, (n, r.1)), r.2)

back : (x : Subject) (c : Course) → Takes c → AreApart c → GoesBack x c
back x Skip h apart s j opens g = (s, refl, g)
back x Dead h apart s j opens g = absurd g
back x (Byte a b) h apart s j opens g = (further s, (single (is_between a b (slice_get x.haystack s.at)) g.0, refl), sym g.1)
back x (Here look) h apart s j opens g = (s, (g.0, refl), g.1)
back x (After c d) h apart s j opens g =
    let loops = both_are (loops_take_bytes (written c)) (loops_take_bytes (written d)) h in
    let one = back x c loops.0 apart.0 s g.0 (opens-left c d s opens) g.1 in
    let next = opens-right c d s one.0 apart.2 opens (leaves x c loops.0 apart.0 s one.0 (opens-left c d s opens) one.1) in
    let other = back x d loops.1 apart.1 one.0 j next (subst (λ (i : ℕ). Goes x (written d) i j) (sym one.2) g.2) in
    (other.0, (one.0, one.1, other.1), other.2)
back x (Choose w c d) h apart s j opens g =
    let loops = both_are (loops_take_bytes (written c)) (loops_take_bytes (written d)) h in
    let new : IsUnmade w s = λ m. opens w (inl refl) m in
    ⊎_elim
    (λ (y : Goes x (written c) s.at j).
    let r = back x c loops.0 apart.0 (chosen w s) j (opens-first w c d s apart.3 opens) y in (r.0, (new, inl r.1), r.2))
    (λ (y : Goes x (written d) s.at j).
    let r = back x d loops.1 apart.1 (chosen w s) j (opens-other w c d s apart.4 opens) y in (r.0, (new, inr r.1), r.2))
    g
back x (Turn w greedy c) h apart s j opens g =
    let part = part-loops 0 None greedy (written c) h in
    let r = turns-back x w c (λ v. Makes c v ⊎ Contains s.made v) (loop-takes 0 greedy (written c) h) apart.1 (λ v a. inl a) (leaves x c part apart.0)
    (back x c part apart.0) g.0 s j (first-before w greedy c s opens) g.3 in
    (r.0, (g.0, r.1), r.2)
back x (Again w greedy c) h apart s j opens g =
    let part = part-loops 1 None greedy (written c) h in
    again-back x w greedy c (loop-takes 1 greedy (written c) h) apart.1 (leaves x c part apart.0) (back x c part apart.0) s j opens g.0 g.1 g.3
back x (Within slot c) h apart s j opens g =
    let r = back x c h apart (noted slot s) j opens g in (noted (slot + 1) r.0, (r.0, r.1, refl), r.2)

-- ---- the first way

abbrev mark : Stand → Point
mark s = (s.at, s.records)

-- of a stand after the course and its position the same is wanted
abbrev Agrees : Course → Stand → (Stand → Type 0) → (ℕ → Type 0) → Type 0
Agrees c s Wanted Plain = (u : Stand) → Leaves c s u → (Wanted u → Plain u.at) × (Plain u.at → Wanted u)

-- a first way of the course is one of its pattern
abbrev IsPlain : Subject → Course → Type 1
IsPlain x c = (Wanted : Stand → Type 0) (Plain : ℕ → Type 0) (s t : Stand) → AreNew c s → Agrees c s Wanted Plain → IsFirstOnce x c Wanted s t
    → IsFirstWay x (written c) Plain (mark s) (mark t)

-- what is known of a loop's part
record Round (x : Subject) (w : ℕ) (c : Course) (Given : ℕ → Type 0) : Type 1 where
  takes : may_be_empty (written c) ≡ false
  apart : Makes c w → ⊥
  given : (v : ℕ) → Makes c v → Given v
  leave : LeavesBy x c
  back : GoesBack x c
  plain : IsPlain x c

-- after the rounds the same is wanted of a stand and of its position
abbrev AgreesAfter : ℕ → Course → (ℕ → Type 0) → (Stand → Type 0) → (ℕ → Type 0) → Type 0
AgreesAfter w c Given Wanted Plain = (k : Stand) → IsFreshBefore w c Given k → (Wanted (chosen w k) → Plain k.at) × (Plain k.at → Wanted (chosen w k))

module _ (x : Subject) (w : ℕ) (greedy : Bool) (c : Course) (Given : ℕ → Type 0) (r : Round x w c Given) (Wanted : Stand → Type 0)
    (Plain : ℕ → Type 0)
    (agree : AgreesAfter w c Given Wanted Plain) where
  -- more rounds lead to where something is wanted
  rounds-plain : (s : Stand) → IsFreshBefore w c Given s → Reaches Wanted (SomeTurns (GoesOnce x c) w) s
      → HasEndIn Plain (SomeTimes (Goes x (written c)) 0 None) s.at
  rounds-plain s b e =
      let k = turns-before x w c Given r.takes r.apart r.given r.leave e.1.0 s e.0 b e.1.1 in (
        e.0.at,
        (e.1.0, omega arith, tt, turns-go (GoesOnce x c) (Goes x (written c)) w (goes x c) e.1.0 s e.0 e.1.1),
        subst (λ (z : Stand). Plain z.at) (sym k.1) ((agree k.0 k.2).0 (subst Wanted k.1 e.2)),
      )

  rounds-new : (s : Stand) (i : ℕ) → s.at ≡ i → IsFreshBefore w c Given s → HasEndIn Plain (SomeTimes (Goes x (written c)) 0 None) i
      → Reaches Wanted (SomeTurns (GoesOnce x c) w) s
  rounds-new s i at b e =
      let t = turns-back x w c Given r.takes r.apart r.given r.leave r.back e.1.0 s e.0 b
      (subst (λ (z : ℕ). Times (Goes x (written c)) e.1.0 z e.0) (sym at) e.1.3) in
      let k = turns-before x w c Given r.takes r.apart r.given r.leave e.1.0 s t.0 b t.1 in (
        t.0,
        (e.1.0, t.1),
        subst Wanted (sym k.1) ((agree k.0 k.2).1 (subst Plain (sym t.2 ∙ ap (λ (z : Stand). z.at) k.1) e.2)),
      )

  rounds-agree : (s : Stand) → Agrees c (chosen w s) (Reaches Wanted (SomeTurns (GoesOnce x c) w)) (HasEndIn Plain (SomeTimes (Goes x (written c)) 0 None))
  rounds-agree s u l =
      let b = round-before w c Given (chosen w s) u r.takes r.apart r.given l in
      (λ e. rounds-plain u b e, λ e. rounds-new u u.at refl b e)

  turns-plain : (n : ℕ) (s t : Stand) → IsFreshBefore w c Given s
      → FirstTurns (λ Such k l. IsFirstOnce x c Such k l) (GoesOnce x c) w greedy n Wanted s t
      → AreFirstRounds (λ Such k l. IsFirstWay x (written c) Such k l) (Goes x (written c)) greedy n 0 None Plain (mark s) (mark t)
  turns-plain zero s t b f = (
    refl,
    ap mark (sym f.1),
    subst (λ (z : Stand). Plain z.at) (sym f.1) ((agree s b).0 (subst Wanted f.1 f.2)),
    λ e again.
        let opens = before-chosen w c Given s r.apart b in
        let one = r.back (chosen w s) again.1.0 opens again.1.1 in
        let next = round-before w c Given (chosen w s) one.0 r.takes r.apart r.given (r.leave (chosen w s) one.0 opens one.1) in
        f.3 e (one.0, one.1, rounds-new one.0 again.1.0 one.2 next again.1.2),
  )
  turns-plain (suc n) s t b f =
      let opens = before-chosen w c Given s r.apart b in
      let g = new-goes x c (Reaches Wanted (SomeTurns (GoesOnce x c) w)) (chosen w s) f.2 f.3 in
      let next = round-before w c Given (chosen w s) f.2 r.takes r.apart r.given (r.leave (chosen w s) f.2 opens g.0) in (
        tt,
        λ e none p. f.1 e ((agree s b).1 p),
        mark f.2,
        r.plain (Reaches Wanted (SomeTurns (GoesOnce x c) w)) (HasEndIn Plain (SomeTimes (Goes x (written c)) 0 None)) (chosen w s) f.2 opens
            (rounds-agree s) f.3,
        turns-plain n f.2 t next f.4,
      )

module _ (x : Subject) (w : ℕ) (greedy : Bool) (c : Course) (takes : may_be_empty (written c) ≡ false) (apart : Makes c w → ⊥) (leave : LeavesBy x c)
    (by : GoesBack x c) (part : IsPlain x c) where
  turn-plain : IsPlain x (Turn w greedy c)
  turn-plain Wanted Plain s t opens agree f = (
    f.0,
    turns-plain x w greedy c (λ v. Makes c v ⊎ Contains s.made v)
        (record { takes = takes; apart = apart; given = λ v a. inl a; leave = leave; back = by; plain = part }) Wanted Plain
        (λ k b. agree (chosen w k) (turn-leaves w greedy c s k b)) f.0 s t (first-before w greedy c s opens) f.1,
  )

  round : Round x w c (Makes c)
  round = record { takes = takes; apart = apart; given = λ v a. a; leave = leave; back = by; plain = part }

  again-plain : IsPlain x (Again w greedy c)
  again-plain Wanted Plain s t opens agree f = (
    suc f.2,
    (
      tt,
      λ e none. absurd (omega (arith, none)),
      mark f.0,
      part (Reaches Wanted (SomeTurns (GoesOnce x c) w)) (HasEndIn Plain (SomeTimes (Goes x (written c)) 0 None)) s f.0 opens both f.1,
      turns-plain x w greedy c (Makes c) round Wanted Plain after f.2 f.0 t (before f.0 here) f.3,
    ),
  )
    where
      after : AgreesAfter w c (Makes c) Wanted Plain
      after k b = agree (chosen w k) (again-leaves w greedy c s k apart b)

      before : (u : Stand) → Leaves c s u → IsFreshBefore w c (Makes c) u
      before u l = round-before w c (Makes c) s u takes apart (λ v a. a) l

      here : Leaves c s f.0
      here = leave s f.0 opens ((new-goes x c (Reaches Wanted (SomeTurns (GoesOnce x c) w)) s f.0 f.1).0)

      both : Agrees c s (Reaches Wanted (SomeTurns (GoesOnce x c) w)) (HasEndIn Plain (SomeTimes (Goes x (written c)) 0 None))
      both u l = (
        λ e. rounds-plain x w greedy c (Makes c) round Wanted Plain after u (before u l) e,
        λ e. rounds-new x w greedy c (Makes c) round Wanted Plain after u u.at refl (before u l) e,
      )

pub plain : (x : Subject) (c : Course) → Takes c → AreApart c → IsPlain x c
plain x Skip h apart Wanted Plain s t opens agree f = (ap mark f.0, (agree t (leaves x Skip h apart s t opens f.0)).0 f.1)
plain x Dead h apart Wanted Plain s t opens agree f = absurd f
plain x (Byte a b) h apart Wanted Plain s t opens agree f = (
  goes x (Byte a b) s t f.0,
  ap (λ (k : Stand). k.records) (sym f.0.1),
  (agree t (leaves x (Byte a b) h apart s t opens f.0)).0 f.1,
)
plain x (Here look) h apart Wanted Plain s t opens agree f = (
  goes x (Here look) s t f.0,
  ap (λ (k : Stand). k.records) f.0.1,
  (agree t (leaves x (Here look) h apart s t opens f.0)).0 f.1,
)
plain x (After c d) h apart Wanted Plain s t opens agree f = (
  mark f.0,
  plain x c loops.0 apart.0 (Reaches Wanted (GoesOnce x d)) (HasEndIn Plain (Goes x (written d))) s f.0 (opens-left c d s opens) both f.1,
  plain x d loops.1 apart.1 Wanted Plain f.0 t (opens-right c d s f.0 apart.2 opens here)
      (λ u l. agree u (after-leaves c d s f.0 u apart.2 here l)) f.2,
)
  where
    loops : (loops_take_bytes (written c) ≡ true) × (loops_take_bytes (written d) ≡ true)
    loops = both_are (loops_take_bytes (written c)) (loops_take_bytes (written d)) h

    here : Leaves c s f.0
    here = leaves x c loops.0 apart.0 s f.0 (opens-left c d s opens) ((new-goes x c (Reaches Wanted (GoesOnce x d)) s f.0 f.1).0)

    both : Agrees c s (Reaches Wanted (GoesOnce x d)) (HasEndIn Plain (Goes x (written d)))
    both u l =
        let on = opens-right c d s u apart.2 opens l in (
          λ e. (e.0.at, goes x d u e.0 e.1, (agree e.0 (after-leaves c d s u e.0 apart.2 l (leaves x d loops.1 apart.1 u e.0 on e.1))).0 e.2),
          λ e.
              let r = back x d loops.1 apart.1 u e.0 on e.1 in (
                r.0,
                r.1,
                (agree r.0 (after-leaves c d s u r.0 apart.2 l (leaves x d loops.1 apart.1 u r.0 on r.1))).1 (subst Plain (sym r.2) e.2),
              ),
        )
plain x (Choose w c d) h apart Wanted Plain s t opens agree f = ⊎_elim
    (λ (y : IsFirstOnce x c Wanted (chosen w s) t). inl (plain x c loops.0 apart.0 Wanted Plain (chosen w s) t one-opens one y))
    (λ (y : (Reaches Wanted (GoesOnce x c) (chosen w s) → ⊥) × IsFirstOnce x d Wanted (chosen w s) t).
    inr (λ e. y.0 (reached e), plain x d loops.1 apart.1 Wanted Plain (chosen w s) t other-opens other y.1))
    f.1
  where
    loops : (loops_take_bytes (written c) ≡ true) × (loops_take_bytes (written d) ≡ true)
    loops = both_are (loops_take_bytes (written c)) (loops_take_bytes (written d)) h

    one-opens : AreNew c (chosen w s)
    one-opens = opens-first w c d s apart.3 opens

    other-opens : AreNew d (chosen w s)
    other-opens = opens-other w c d s apart.4 opens

    one : Agrees c (chosen w s) Wanted Plain
    one u l = agree u (one-leaves w c d s u apart.3 apart.2 l)

    other : Agrees d (chosen w s) Wanted Plain
    other u l = agree u (other-leaves w c d s u apart.4 apart.2 l)

    reached : HasEndIn Plain (Goes x (written c)) s.at → Reaches Wanted (GoesOnce x c) (chosen w s)
    reached e =
        let r = back x c loops.0 apart.0 (chosen w s) e.0 one-opens e.1 in
        (r.0, r.1, (one r.0 (leaves x c loops.0 apart.0 (chosen w s) r.0 one-opens r.1)).1 (subst Plain (sym r.2) e.2))
plain x (Turn w greedy c) h apart Wanted Plain s t opens agree f =
    let part = part-loops 0 None greedy (written c) h in
    turn-plain x w greedy c (loop-takes 0 greedy (written c) h) apart.1 (leaves x c part apart.0) (back x c part apart.0) (plain x c part apart.0) Wanted Plain
    s t opens agree f
plain x (Again w greedy c) h apart Wanted Plain s t opens agree f =
    let part = part-loops 1 None greedy (written c) h in
    again-plain x w greedy c (loop-takes 1 greedy (written c) h) apart.1 (leaves x c part apart.0) (back x c part apart.0) (plain x c part apart.0) Wanted Plain
    s t opens agree f
plain x (Within slot c) h apart Wanted Plain s t opens agree f = (
  mark f.0,
  plain x c h apart (λ l. Wanted (noted (slot + 1) l)) Plain (noted slot s) f.0 opens
      (λ u l. agree (noted (slot + 1) u) (record { from = l.from; fresh = l.fresh })) f.1,
  ap mark f.2,
)
