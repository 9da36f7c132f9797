-- What the slots of a group hold after a way of a pattern: where its part was last gone through.
use Rattle.std.proofs.Common.{◌≡◌, ℕ, zero, suc, ◌+◌, ◌-◌, ◌*◌, ◌<◌, ◌≤◌, ◌⊎◌, inl, inr, ⊎_elim, nat_eq, cond, Bool, true, false, List, [], ◌∷◌, length, slice_index_or, option_and_then, refl, sym, ap, ◌∙◌, subst, arith, Option, Some, None}
use Rattle.std.specs.Option.{option_map}
use Rattle.std.proofs.lemmas.Bool.{ne_eqb, eq-eqb, lt-ltb, cases_lt}
use Rattle.std.proofs.lemmas.Bool.Decides.{nat_tests}
use Rattle.std.proofs.lemmas.List.{get_or_past}
use Rattle.std.proofs.lemmas.Option.{same_Some}
use Rattle.rsc_captures.specs.Groups.{GroupLists, group_count, slot_number, slot_of, explicit_before}
use Rattle.rsc_captures.specs.Captured.{Captured, span_at, first_slot, group_span}
use Rattle.rsc_search.specs.declared.span.Span.{Span}
use Rattle.rsc_engine.proofs.RefusalsLemmas.{pattern_there}
use Rattle.rsc_engine.specs.Patterns.{Pattern, Empty, Never, Class, Literal, Assertion, Then, Either, Repeat, Group, Subject, Times, Goes}
use Rattle.rsc_engine.specs.Ways.{Point, last_in, with_record, TimesWith, GoesWith}
use Rattle.rsc_engine.specs.GroupNumbers.{group_count_in, numbered, as_whole, IsGroupOf}
use Rattle.rsc_engine.proofs.GroupNumbersLemmas.{numbered-goes}

-- ---- a way goes where the pattern goes

times-goes : (R : Point → Point → Type 0) (S : ℕ → ℕ → Type 0) → ((m n : Point) → R m n → S m.0 n.0) → (t : ℕ) (m n : Point)
    → TimesWith R t m n
    → Times S t m.0 n.0
times-goes R S goes zero m n g = ap (λ (k : Point). k.0) g
times-goes R S goes (suc t) m n g = (g.0.0, goes m g.0 g.1, times-goes R S goes t g.0 n g.2)

pub with-goes : (x : Subject) (p : Pattern) (m n : Point) → GoesWith x p m n → Goes x p m.0 n.0
with-goes x Empty m n g = ap (λ (k : Point). k.0) g
with-goes x Never m n g = absurd g
with-goes x (Class ranges) m n g = g.0
with-goes x (Literal bytes) m n g = g.0
with-goes x (Assertion look) m n g = g.0
with-goes x (Then a b) m n g = (g.0.0, with-goes x a m g.0 g.1, with-goes x b g.0 n g.2)
with-goes x (Either a b) m n g = ⊎_elim
    (λ (h : GoesWith x a m n). inl (with-goes x a m n h))
    (λ (h : GoesWith x b m n). inr (with-goes x b m n h))
    g
with-goes x (Repeat min max greedy a) m n g = (g.0, g.1, g.2, times-goes (GoesWith x a) (Goes x a) (with-goes x a) g.0 m n g.3)
with-goes x (Group slot a) m n g = subst (λ (k : Point). Goes x a m.0 k.0) (sym g.2) (with-goes x a (with_record slot m) g.0 g.1)

-- ---- what was recorded stays recorded

record-grows : (s i slot j : ℕ) (r : List (ℕ × ℕ)) → last_in r slot ≡ Some j → (k : ℕ) × (last_in ((s, i) ∷ r) slot ≡ Some k)
record-grows s i slot j r h = decide (nat_eq s slot) refl
  where
    decide : (t : Bool) → nat_eq s slot ≡ t → (k : ℕ) × (cond t (Some i) (last_in r slot) ≡ Some k)
    decide true e = (i, refl)
    decide false e = (j, h)

times-grows : (R : Point → Point → Type 0) (slot : ℕ)
    → ((m n : Point) (i : ℕ) → R m n → last_in m.1 slot ≡ Some i → (j : ℕ) × (last_in n.1 slot ≡ Some j))
    → (t : ℕ) (m n : Point) (i : ℕ) → TimesWith R t m n → last_in m.1 slot ≡ Some i → (j : ℕ) × (last_in n.1 slot ≡ Some j)
times-grows R slot grows zero m n i g h = (i, subst (λ (k : Point). last_in k.1 slot ≡ Some i) g h)
times-grows R slot grows (suc t) m n i g h =
    let first = grows m g.0 i g.1 h in times-grows R slot grows t g.0 n first.0 g.2 first.1

pub stays_recorded : (x : Subject) (p : Pattern) (slot : ℕ) (m n : Point) (i : ℕ) → GoesWith x p m n → last_in m.1 slot ≡ Some i
    → (j : ℕ) × (last_in n.1 slot ≡ Some j)
stays_recorded x Empty slot m n i g h = (i, subst (λ (k : Point). last_in k.1 slot ≡ Some i) g h)
stays_recorded x Never slot m n i g h = absurd g
stays_recorded x (Class ranges) slot m n i g h = (i, subst (λ (r : List (ℕ × ℕ)). last_in r slot ≡ Some i) g.1 h)
stays_recorded x (Literal bytes) slot m n i g h = (i, subst (λ (r : List (ℕ × ℕ)). last_in r slot ≡ Some i) g.1 h)
stays_recorded x (Assertion look) slot m n i g h = (i, subst (λ (r : List (ℕ × ℕ)). last_in r slot ≡ Some i) g.1 h)
stays_recorded x (Then a b) slot m n i g h =
    let first = stays_recorded x a slot m g.0 i g.1 h in stays_recorded x b slot g.0 n first.0 g.2 first.1
stays_recorded x (Either a b) slot m n i g h = ⊎_elim
    (λ (k : GoesWith x a m n). stays_recorded x a slot m n i k h)
    (λ (k : GoesWith x b m n). stays_recorded x b slot m n i k h)
    g
stays_recorded x (Repeat min max greedy a) slot m n i g h = times-grows (GoesWith x a) slot (stays_recorded x a slot) g.0 m n i g.3 h
stays_recorded x (Group s a) slot m n i g h =
    let first = record-grows s m.0 slot i m.1 h in
    let then = stays_recorded x a slot (with_record s m) g.0 first.0 g.1 first.1 in
    let last = record-grows (s + 1) g.0.0 slot then.0 g.0.1 then.1 in
    (last.0, subst (λ (k : Point). last_in k.1 slot ≡ Some last.0) (sym g.2) last.1)

-- ---- a record in a slot

pub same_slot : (s i : ℕ) (r : List (ℕ × ℕ)) → last_in ((s, i) ∷ r) s ≡ Some i
same_slot s i r = ap (λ (b : Bool). cond b (Some i) (last_in r s)) (eq-eqb s s refl)

pub other_slot : (slot s i : ℕ) (r : List (ℕ × ℕ)) → (slot ≡ s → ⊥) → last_in ((slot, i) ∷ r) s ≡ last_in r s
other_slot slot s i r apart = ap (λ (b : Bool). cond b (Some i) (last_in r s)) (ne_eqb slot s apart)

-- the slots of two groups are apart
abbrev pub AreApart : (ℕ → ℕ) → Type 0
AreApart f = (g h : ℕ) → (g ≡ h → ⊥) → ((f g ≡ f h) → ⊥) × ((f g ≡ f h + 1) → ⊥)

-- both slots of group h hold what they held
abbrev Keeps : (ℕ → ℕ) → ℕ → Point → Point → Type 0
Keeps f h m n = (last_in n.1 (f h) ≡ last_in m.1 (f h)) × (last_in n.1 (f h + 1) ≡ last_in m.1 (f h + 1))

keeps-same : (f : ℕ → ℕ) (h : ℕ) (m n : Point) → m.1 ≡ n.1 → Keeps f h m n
keeps-same f h m n e = (ap (λ (r : List (ℕ × ℕ)). last_in r (f h)) (sym e), ap (λ (r : List (ℕ × ℕ)). last_in r (f h + 1)) (sym e))

keeps-then : (f : ℕ → ℕ) (h : ℕ) (m k n : Point) → Keeps f h m k → Keeps f h k n → Keeps f h m n
keeps-then f h m k n a b = (b.0 ∙ a.0, b.1 ∙ a.1)

keeps-start : (f : ℕ → ℕ) → AreApart f → (g h : ℕ) → (g ≡ h → ⊥) → (m : Point) → Keeps f h m (with_record (f g) m)
keeps-start f apart g h other m = (
  other_slot (f g) (f h) m.0 m.1 ((apart g h other).0),
  other_slot (f g) (f h + 1) m.0 m.1 ((apart g h other).1),
)

keeps-end : (f : ℕ → ℕ) → AreApart f → (g h : ℕ) → (g ≡ h → ⊥) → (m : Point) → Keeps f h m (with_record (f g + 1) m)
keeps-end f apart g h other m = (
  other_slot (f g + 1) (f h) m.0 m.1 (λ e. (apart h g (λ s. other (sym s))).1 (sym e)),
  other_slot (f g + 1) (f h + 1) m.0 m.1 (λ e. (apart g h other).0 (omega (arith, e))),
)

-- ---- groups of other numbers

times-slot : (s : ℕ) (R : Point → Point → Type 0) → ((m n : Point) → R m n → last_in n.1 s ≡ last_in m.1 s) → (t : ℕ) (m n : Point)
    → TimesWith R t m n
    → last_in n.1 s ≡ last_in m.1 s
times-slot s R keeps zero m n g = ap (λ (k : Point). last_in k.1 s) (sym g)
times-slot s R keeps (suc t) m n g = times-slot s R keeps t g.0 n g.2 ∙ keeps m g.0 g.1

-- a slot of none of the pattern's groups holds what it held
keeps-slot : (f : ℕ → ℕ) (s : ℕ) (x : Subject) (p : Pattern) (n : ℕ)
    → ((g : ℕ) → n ≤ g → g < n + group_count_in p → ((f g ≡ s) → ⊥) × ((f g + 1 ≡ s) → ⊥)) → (m k : Point)
    → GoesWith x (numbered f n p) m k
    → last_in k.1 s ≡ last_in m.1 s
keeps-slot f s x Empty n off m k g = ap (λ (z : Point). last_in z.1 s) (sym g)
keeps-slot f s x Never n off m k g = absurd g
keeps-slot f s x (Class ranges) n off m k g = ap (λ (r : List (ℕ × ℕ)). last_in r s) (sym g.1)
keeps-slot f s x (Literal bytes) n off m k g = ap (λ (r : List (ℕ × ℕ)). last_in r s) (sym g.1)
keeps-slot f s x (Assertion look) n off m k g = ap (λ (r : List (ℕ × ℕ)). last_in r s) (sym g.1)
keeps-slot f s x (Then a b) n off m k g =
    keeps-slot f s x b (n + group_count_in a) (λ h low high. off h (omega (arith, low)) (omega (arith, high))) g.0 k g.2
    ∙ keeps-slot f s x a n (λ h low high. off h low (omega (arith, high))) m g.0 g.1
keeps-slot f s x (Either a b) n off m k g = ⊎_elim
    (λ (w : GoesWith x (numbered f n a) m k). keeps-slot f s x a n (λ h low high. off h low (omega (arith, high))) m k w)
    (λ (w : GoesWith x (numbered f (n + group_count_in a) b) m k).
    keeps-slot f s x b (n + group_count_in a) (λ h low high. off h (omega (arith, low)) (omega (arith, high))) m k w)
    g
keeps-slot f s x (Repeat min max greedy a) n off m k g = times-slot s (GoesWith x (numbered f n a)) (keeps-slot f s x a n off) g.0 m k g.3
keeps-slot f s x (Group slot a) n off m k g =
    subst (λ (z : Point). last_in z.1 s ≡ last_in m.1 s) (sym g.2)
    (other_slot (f n + 1) s g.0.0 g.0.1 (off n (omega arith) (omega arith)).1
    ∙ (keeps-slot f s x a (n + 1) (λ h low high. off h (omega (arith, low)) (omega (arith, high))) (with_record (f n) m) g.0 g.1
    ∙ other_slot (f n) s m.0 m.1 (off n (omega arith) (omega arith)).0))

-- the number isn't one of the pattern's groups
abbrev IsOutside : ℕ → ℕ → ℕ → Type 0
IsOutside n count h = (h < n) ⊎ (n + count ≤ h)

keeps-others : (f : ℕ → ℕ) → AreApart f → (x : Subject) (p : Pattern) (n h : ℕ) → IsOutside n (group_count_in p) h → (m k : Point)
    → GoesWith x (numbered f n p) m k → Keeps f h m k
keeps-others f apart x p n h out m k g = (
  keeps-slot f (f h) x p n (λ i low high. ((apart i h (other i low high)).0, λ e. (apart h i (λ s. other i low high (sym s))).1 (sym e))) m k g,
  keeps-slot f (f h + 1) x p n (λ i low high. ((apart i h (other i low high)).1, λ e. (apart i h (other i low high)).0 (omega (arith, e)))) m k g,
)
  where
    other : (i : ℕ) → n ≤ i → i < n + group_count_in p → i ≡ h → ⊥
    other i low high same = ⊎_elim
        (λ (l : h < n). absurd (omega (arith, l, low, same)))
        (λ (l : n + group_count_in p ≤ h). absurd (omega (arith, l, high, same)))
        out

-- ---- a group of the pattern

-- the slots of group h hold positions between which the part goes
abbrev IsSetBy : Subject → (ℕ → ℕ) → ℕ → Pattern → Point → Type 0
IsSetBy x f h a n = (i : ℕ) × (j : ℕ) × (last_in n.1 (f h) ≡ Some i) × (last_in n.1 (f h + 1) ≡ Some j) × Goes x a i j

set-kept : (x : Subject) (f : ℕ → ℕ) (h : ℕ) (a : Pattern) (m n : Point) → IsSetBy x f h a m → Keeps f h m n → IsSetBy x f h a n
set-kept x f h a m n s k = (s.0, s.1, k.0 ∙ s.2, k.1 ∙ s.3, s.4)

abbrev MaySet : Subject → (ℕ → ℕ) → ℕ → Pattern → Point → Point → Type 0
MaySet x f h a m n = Keeps f h m n ⊎ IsSetBy x f h a n

may-before : (x : Subject) (f : ℕ → ℕ) (h : ℕ) (a : Pattern) (m k n : Point) → Keeps f h m k → MaySet x f h a k n → MaySet x f h a m n
may-before x f h a m k n keeps s = ⊎_elim
    (λ (c : Keeps f h k n). inl (keeps-then f h m k n keeps c))
    (λ (c : IsSetBy x f h a n). inr c)
    s

may-after : (x : Subject) (f : ℕ → ℕ) (h : ℕ) (a : Pattern) (m k n : Point) → MaySet x f h a m k → Keeps f h k n → MaySet x f h a m n
may-after x f h a m k n s keeps = ⊎_elim
    (λ (c : Keeps f h m k). inl (keeps-then f h m k n c keeps))
    (λ (c : IsSetBy x f h a k). inr (set-kept x f h a k n c keeps))
    s

may-times : (x : Subject) (f : ℕ → ℕ) (h : ℕ) (a : Pattern) (R : Point → Point → Type 0) → ((m n : Point) → R m n → MaySet x f h a m n)
    → (t : ℕ) (m n : Point)
    → TimesWith R t m n → MaySet x f h a m n
may-times x f h a R may zero m n g = inl (keeps-same f h m n (ap (λ (k : Point). k.1) g))
may-times x f h a R may (suc t) m n g = ⊎_elim
    (λ (c : Keeps f h g.0 n). may-after x f h a m g.0 n (may m g.0 g.1) c)
    (λ (c : IsSetBy x f h a n). inr c)
    (may-times x f h a R may t g.0 n g.2)

group-within : (g : ℕ) (a p : Pattern) → IsGroupOf g a p → g < group_count_in p
group-within g a Empty is = absurd is
group-within g a Never is = absurd is
group-within g a (Class ranges) is = absurd is
group-within g a (Literal bytes) is = absurd is
group-within g a (Assertion look) is = absurd is
group-within g a (Then b c) is = ⊎_elim
    (λ (i : IsGroupOf g a b). let l = group-within g a b i in omega (arith, l))
    (λ (i : (k : ℕ) × (g ≡ group_count_in b + k) × IsGroupOf k a c). let l = group-within i.0 a c i.2 in omega (arith, l, i.1))
    is
group-within g a (Either b c) is = ⊎_elim
    (λ (i : IsGroupOf g a b). let l = group-within g a b i in omega (arith, l))
    (λ (i : (k : ℕ) × (g ≡ group_count_in b + k) × IsGroupOf k a c). let l = group-within i.0 a c i.2 in omega (arith, l, i.1))
    is
group-within g a (Repeat min max greedy b) is = group-within g a b is
group-within zero a (Group slot b) is = omega arith
group-within (suc g) a (Group slot b) is = let l = group-within g a b is in omega (arith, l)

may-set : (f : ℕ → ℕ) → AreApart f → (x : Subject) (p a : Pattern) (n g h : ℕ) → h ≡ n + g → IsGroupOf g a p → (m k : Point)
    → GoesWith x (numbered f n p) m k → MaySet x f h a m k
may-set f apart x Empty a n g h e is m k w = absurd is
may-set f apart x Never a n g h e is m k w = absurd is
may-set f apart x (Class ranges) a n g h e is m k w = absurd is
may-set f apart x (Literal bytes) a n g h e is m k w = absurd is
may-set f apart x (Assertion look) a n g h e is m k w = absurd is
may-set f apart x (Then b c) a n g h e is m k w = ⊎_elim
    (λ (i : IsGroupOf g a b).
    let l = group-within g a b i in
    may-after x f h a m w.0 k (may-set f apart x b a n g h e i m w.0 w.1)
    (keeps-others f apart x c (n + group_count_in b) h (inl (omega (arith, e, l))) w.0 k w.2))
    (λ (i : (j : ℕ) × (g ≡ group_count_in b + j) × IsGroupOf j a c).
    may-before x f h a m w.0 k (keeps-others f apart x b n h (inr (omega (arith, e, i.1))) m w.0 w.1)
    (may-set f apart x c a (n + group_count_in b) i.0 h (omega (arith, e, i.1)) i.2 w.0 k w.2))
    is
may-set f apart x (Either b c) a n g h e is m k w = ⊎_elim
    (λ (i : IsGroupOf g a b).
    let l = group-within g a b i in
    ⊎_elim
    (λ (v : GoesWith x (numbered f n b) m k). may-set f apart x b a n g h e i m k v)
    (λ (v : GoesWith x (numbered f (n + group_count_in b) c) m k). inl (keeps-others f apart x c (n + group_count_in b) h (inl (omega (arith, e, l))) m k v))
    w)
    (λ (i : (j : ℕ) × (g ≡ group_count_in b + j) × IsGroupOf j a c). ⊎_elim
    (λ (v : GoesWith x (numbered f n b) m k). inl (keeps-others f apart x b n h (inr (omega (arith, e, i.1))) m k v))
    (λ (v : GoesWith x (numbered f (n + group_count_in b) c) m k).
    may-set f apart x c a (n + group_count_in b) i.0 h (omega (arith, e, i.1)) i.2 m k v)
    w)
    is
may-set f apart x (Repeat min max greedy b) a n g h e is m k w =
    may-times x f h a (GoesWith x (numbered f n b)) (may-set f apart x b a n g h e is) w.0 m k w.3
may-set f apart x (Group slot b) a n zero h e is m k w =
    let same : n ≡ h = omega (arith, e) in
    let keeps = keeps-others f apart x b (n + 1) n (inl (omega arith)) (with_record (f n) m) w.0 w.1 in
    let goes : Goes x b m.0 w.0.0 =
    subst (λ (R : ℕ → ℕ → Type 0). R m.0 w.0.0) (numbered-goes x f (n + 1) b) (with-goes x (numbered f (n + 1) b) (with_record (f n) m) w.0 w.1) in
    let set : IsSetBy x f n a (with_record (f n + 1) w.0) = (
      m.0,
      w.0.0,
      other_slot (f n + 1) (f n) w.0.0 w.0.1 (λ s. absurd (omega (arith, s))) ∙ (keeps.0 ∙ same_slot (f n) m.0 m.1),
      same_slot (f n + 1) w.0.0 w.0.1,
      subst (λ (q : Pattern). Goes x q m.0 w.0.0) is goes,
    ) in
    inr (subst (λ (l : ℕ). IsSetBy x f l a k) same (subst (λ (z : Point). IsSetBy x f n a z) (sym w.2) set))
may-set f apart x (Group slot b) a n (suc g) h e is m k w =
    subst (λ (z : Point). MaySet x f h a m z) (sym w.2)
    (may-after x f h a m w.0 (with_record (f n + 1) w.0)
    (may-before x f h a m (with_record (f n) m) w.0 (keeps-start f apart n h other m)
    (may-set f apart x b a (n + 1) g h (omega (arith, e)) is (with_record (f n) m) w.0 w.1))
    (keeps-end f apart n h other w.0))
  where
    other : n ≡ h → ⊥
    other s = absurd (omega (arith, s, e))

-- ---- of a pattern with its slots

pub slot_later : (lists : GroupLists) (m g : ℕ) → slot_number lists m (suc g) ≡ 2 * length lists + 2 * explicit_before lists m + 2 * g
slot_later lists m g =
    let one : suc g - 1 ≡ g = omega arith in
    ap (λ (b : Bool). cond b (2 * m) (2 * length lists + 2 * explicit_before lists m + 2 * (suc g - 1))) (ne_eqb (suc g) 0 (λ e. absurd (omega (arith, e))))
    ∙ ap (λ (k : ℕ). 2 * length lists + 2 * explicit_before lists m + 2 * k) one

slots-apart : (lists : GroupLists) (m : ℕ) → m < length lists → AreApart (slot_number lists m)
slots-apart lists m there zero zero other = absurd (other refl)
slots-apart lists m there zero (suc h) other =
    let later = slot_later lists m h in
    (λ e. absurd (omega (arith, e, later, there)), λ e. absurd (omega (arith, e, later, there)))
slots-apart lists m there (suc g) zero other =
    let later = slot_later lists m g in
    (λ e. absurd (omega (arith, e, later, there)), λ e. absurd (omega (arith, e, later, there)))
slots-apart lists m there (suc g) (suc h) other =
    let one = slot_later lists m g in
    let two = slot_later lists m h in
    (λ e. other (omega (arith, e, one, two)), λ e. absurd (omega (arith, e, one, two)))

-- where the way sets the first slot of a group it sets the second, and the group's part goes from the one position to the other
pub group-goes : (x : Subject) (lists : GroupLists) (m : ℕ) (p a : Pattern) (g i start end : ℕ) (records : List (ℕ × ℕ)) → m < length lists
    → IsGroupOf g a (Group 0 p) → GoesWith x (as_whole lists m p) (start, []) (end, records) → last_in records (slot_number lists m g) ≡ Some i
    → (j : ℕ) × (last_in records (slot_number lists m g + 1) ≡ Some j) × Goes x a i j
group-goes x lists m p a g i start end records there is way at = ⊎_elim
    (λ (c : Keeps (slot_number lists m) g (start, []) (end, records)). absurd (none_there i (sym c.0 ∙ at)))
    (λ (c : IsSetBy x (slot_number lists m) g a (end, records)).
    let same : c.0 ≡ i = same_Some c.0 i (sym c.2 ∙ at) in
    (c.1, c.3, subst (λ (k : ℕ). Goes x a k c.1) same c.4))
    (may-set (slot_number lists m) (slots-apart lists m there) x (Group 0 p) a 0 g g (omega arith) is (start, []) (end, records) way)
  where
    none_there : (i : ℕ) → None ≡ Some i → ⊥
    none_there i h = absurd (cc)

-- the slots of the whole pattern hold its ends
pub whole-records : (x : Subject) (lists : GroupLists) (m : ℕ) (p : Pattern) (start end : ℕ) (records : List (ℕ × ℕ)) → m < length lists
    → GoesWith x (as_whole lists m p) (start, []) (end, records) → (last_in records (2 * m) ≡ Some start) × (last_in records (2 * m + 1) ≡ Some end)
whole-records x lists m p start end records there w =
    let keeps = keeps-others (slot_number lists m) (slots-apart lists m there) x p 1 0 (inl (omega arith)) (with_record (2 * m) (start, [])) w.0 w.1 in (
      subst (λ (z : Point). last_in z.1 (2 * m) ≡ Some start) (sym w.2)
          (other_slot (2 * m + 1) (2 * m) w.0.0 w.0.1 (λ e. absurd (omega (arith, e))) ∙ (keeps.0 ∙ same_slot (2 * m) start [])),
      subst (λ (z : Point). last_in z.1 (2 * m + 1) ≡ Some z.0) (sym w.2) (same_slot (2 * m + 1) w.0.0 w.0.1),
    )

-- and those of other whole patterns hold nothing
pub whole-others : (x : Subject) (lists : GroupLists) (m : ℕ) (p : Pattern) (start end s : ℕ) (records : List (ℕ × ℕ)) → s < 2 * length lists
    → (s ≡ 2 * m → ⊥) → (s ≡ 2 * m + 1 → ⊥) → GoesWith x (as_whole lists m p) (start, []) (end, records) → last_in records s ≡ None
whole-others x lists m p start end s records l first second w = keeps-slot (slot_number lists m) s x (Group 0 p) 0 off (start, []) (end, records) w
  where
    off : (g : ℕ) → 0 ≤ g → g < 0 + group_count_in (Group 0 p) → ((slot_number lists m g ≡ s) → ⊥) × ((slot_number lists m g + 1 ≡ s) → ⊥)
    off zero low high = (λ e. first (sym e), λ e. second (sym e))
    off (suc g) low high =
        let later = slot_later lists m g in (λ e. absurd (omega (arith, e, later, l)), λ e. absurd (omega (arith, e, later, l)))

-- ---- the span of a group

first_slot-number : (lists : GroupLists) (m g : ℕ) → g < group_count lists m → first_slot lists m g ≡ Some (slot_number lists m g)
first_slot-number lists m g l = go (nat_eq (length lists) 1) refl
  where
    there : m < length lists
    there = pattern_there lists m g l

    go : (b : Bool) → nat_eq (length lists) 1 ≡ b → cond b (Some (2 * g)) (slot_of lists m g) ≡ Some (slot_number lists m g)
    go true e = ap (λ (s : ℕ). Some s) (sym (number g))
      where
        one : length lists ≡ 1
        one = grind (arith, nat_tests, e)

        none : m ≡ 0
        none = omega (arith, one, there)

        before : explicit_before lists m ≡ 0
        before = ap (λ (n : ℕ). explicit_before lists n) none

        number : (g : ℕ) → slot_number lists m g ≡ 2 * g
        number zero = omega (arith, none)
        number (suc g) = let later = slot_later lists m g in omega (arith, later, one, before)
    go false e = rw (lt-ltb g (group_count lists m) l) refl

-- where the two offsets of a span are
span_parts : (offsets : List (Option ℕ)) (s : ℕ) (span : Span) → span_at offsets s ≡ Some span
    → (slice_index_or offsets s None ≡ Some span.start) × (slice_index_or offsets (s + 1) None ≡ Some span.end)
span_parts offsets s span e = at_start (slice_index_or offsets s None) refl e
  where
    at_end : (i : ℕ) → slice_index_or offsets s None ≡ Some i → (o : Option ℕ) → slice_index_or offsets (s + 1) None ≡ o
        → option_map (λ (to : ℕ). record { start = i; end = to }) o ≡ Some span
        → (slice_index_or offsets s None ≡ Some span.start) × (slice_index_or offsets (s + 1) None ≡ Some span.end)
    at_end i from None to f = absurd (cc)
    at_end i from (Some j) to f =
        let same : record { start = i; end = j } ≡ span = same_Some (record { start = i; end = j }) span f in
        (from ∙ ap (λ (z : Span). Some z.start) same, to ∙ ap (λ (z : Span). Some z.end) same)

    at_start : (o : Option ℕ) → slice_index_or offsets s None ≡ o
        → option_and_then (λ (from : ℕ). option_map (λ (to : ℕ). record { start = from; end = to }) (slice_index_or offsets (s + 1) None)) o
        ≡ Some span
        → (slice_index_or offsets s None ≡ Some span.start) × (slice_index_or offsets (s + 1) None ≡ Some span.end)
    at_start None from f = absurd (cc)
    at_start (Some i) from f = at_end i from (slice_index_or offsets (s + 1) None) refl f

-- the span of a group is in its slots
pub span_there : (lists : GroupLists) (m g : ℕ) (c : Captured) → g < group_count lists m → c.groups ≡ lists → c.pattern ≡ Some m
    → group_span c g ≡ span_at c.offsets (slot_number lists m g)
span_there lists m g c l groups pattern =
    ap (λ (o : Option ℕ). option_and_then (λ (q : ℕ). option_and_then (λ (s : ℕ). span_at c.offsets s) (first_slot c.groups q g)) o) pattern
    ∙ (ap (λ (these : GroupLists). option_and_then (λ (s : ℕ). span_at c.offsets s) (first_slot these m g)) groups
    ∙ ap (λ (o : Option ℕ). option_and_then (λ (s : ℕ). span_at c.offsets s) o) (first_slot-number lists m g l))

pub span-goes : (x : Subject) (lists : GroupLists) (m : ℕ) (p a : Pattern) (g start end : ℕ) (records : List (ℕ × ℕ)) (c : Captured) (span : Span)
    → g < group_count lists m → c.groups ≡ lists → c.pattern ≡ Some m → IsGroupOf g a (Group 0 p)
    → GoesWith x (as_whole lists m p) (start, []) (end, records)
    → ((slot : ℕ) → slot < length c.offsets → slice_index_or c.offsets slot None ≡ last_in records slot) → group_span c g ≡ Some span
    → Goes x a span.start span.end
span-goes x lists m p a g start end records c span l groups pattern is way holds at =
    subst (λ (k : ℕ). Goes x a span.start k) same goes.2
  where
    slot : ℕ
    slot = slot_number lists m g

    path : group_span c g ≡ span_at c.offsets (slot_number lists m g)
    path = span_there lists m g c l groups pattern

    two : (slice_index_or c.offsets (slot_number lists m g) None ≡ Some span.start)
        × (slice_index_or c.offsets (slot_number lists m g + 1) None ≡ Some span.end)
    two = span_parts c.offsets (slot_number lists m g) span (sym path ∙ at)

    none_there : None ≡ Some span.end → ⊥
    none_there h = absurd (cc)

    room : slot_number lists m g + 1 < length c.offsets
    room = ⊎_elim (λ (h : slot_number lists m g + 1 < length c.offsets). h)
        (λ (h : length c.offsets ≤ slot_number lists m g + 1).
        absurd (none_there (sym (get_or_past c.offsets (slot_number lists m g + 1) None h) ∙ two.1)))
        (cases_lt (slot_number lists m g + 1) (length c.offsets))

    goes : (j : ℕ) × (last_in records (slot_number lists m g + 1) ≡ Some j) × Goes x a span.start j
    goes = group-goes x lists m p a g span.start start end records (pattern_there lists m g l) is way
        (sym (holds (slot_number lists m g) (omega (arith, room))) ∙ two.0)

    same : goes.0 ≡ span.end
    same = same_Some goes.0 span.end (sym goes.1 ∙ (sym (holds (slot_number lists m g + 1) room) ∙ two.1))
