-- What follows from the laws of steps: the bytes on both sides, or others of their classes, stand for a position.
use Rattle.std.proofs.Common.{⊎_elim, ◌≡◌, ◌↔◌, ℕ, zero, suc, ◌+◌, ◌-◌, ◌<◌, ◌≤◌, Bool, true, false, true≢false, List, [], ◌∷◌, length, slice_index, refl, sym, ap, ◌∙◌, subst, arith, slice_get, Option, Some, None, MatchOption, MatchBool, IsTrue, IfSome}
use Rattle.std.proofs.lemmas.List.Elements.{All-nil, All-cons}
use Rattle.std.proofs.lemmas.Bool.{cases_lt}
use Rattle.std.proofs.lemmas.Option.{slice_get_within}
use Rattle.rsc_alphabet.specs.Partitions.{class_map}
use Rattle.rsc_alphabet.specs.PartitionsLaws.{class_map-together}
use Rattle.rsc_look.specs.declared.assertion.Look.{Look}
use Rattle.rsc_look.specs.declared.assertion.Look.TheVariants.{Start, End, StartLF, EndLF, StartCRLF, EndCRLF, WordAscii, WordAsciiNegate, WordUnicode, WordUnicodeNegate, WordStartAscii, WordEndAscii, WordStartUnicode, WordEndUnicode, WordStartHalfAscii, WordEndHalfAscii, WordStartHalfUnicode, WordEndHalfUnicode}
use Rattle.rsc_look.specs.Looks.{is_unicode, ascii_counterpart}
use Rattle.rsc_look.specs.LookSets.{Looks}
use Rattle.rsc_look.specs.Holds.{Holds, HoldsAtSides, holds_at_bytes, byte_before, byte_after}
use Rattle.rsc_nfa.specs.declared.state.State.{State}
use Rattle.rsc_nfa.specs.declared.state.State.TheVariants.{ByteRange, Assert, Fork, Capture, Accept}
use Rattle.rsc_nfa.specs.Classes.{has_unicode_assertion, AreInterchangedBy}
use Rattle.rsc_nfa.specs.Steps.{IsStep, StepsTo}
use Rattle.rsc_engine.specs.Searches.{Search}
use Rattle.rsc_engine.specs.LawfulLayout.{Lawful}
use Rattle.rsc_engine.specs.RowsLayout.{Machine, machine_of, around, middle, Stays, Moves, IsNear, Alike, IsPlainUnit, IsPlan}
use Rattle.rsc_engine.specs.PassTableLayout.{AreHolding}

-- ---- the small haystack

around-before : (p n : Option ℕ) → byte_before (around p n) (middle p) ≡ p
around-before None None = refl
around-before None (Some n) = refl
around-before (Some p) None = refl
around-before (Some p) (Some n) = refl

around-after : (p n : Option ℕ) → byte_after (around p n) (middle p) ≡ n
around-after None None = refl
around-after None (Some n) = refl
around-after (Some p) None = refl
around-after (Some p) (Some n) = refl

around-room : (p : Option ℕ) (n : ℕ) → middle p < length (around p (Some n))
around-room None n = omega arith
around-room (Some p) n = omega arith

pub around-least : (p n : Option ℕ) → middle p ≤ length (around p n)
around-least None None = omega arith
around-least None (Some n) = omega arith
around-least (Some p) None = omega arith
around-least (Some p) (Some n) = omega arith

around-ascii : (p n : Option ℕ) → IfSome p (λ b. b < 128) → IfSome n (λ b. b < 128) → (i : ℕ) → i < length (around p n)
    → slice_index (around p n) i < 128
around-ascii None None a b i l = absurd (omega (arith, l))
around-ascii None (Some n) a b zero l = b
around-ascii None (Some n) a b (suc i) l = absurd (omega (arith, l))
around-ascii (Some p) None a b zero l = a
around-ascii (Some p) None a b (suc i) l = absurd (omega (arith, l))
around-ascii (Some p) (Some n) a b zero l = a
around-ascii (Some p) (Some n) a b (suc zero) l = b
around-ascii (Some p) (Some n) a b (suc (suc i)) l = absurd (omega (arith, l))

-- ---- bytes of one class

pub Alike-sym : (classes : List ℕ) (p q : Option ℕ) → Alike classes p q → Alike classes q p
Alike-sym classes None None a = a
Alike-sym classes (Some p) (Some q) a = (a.1, a.0, sym a.2)
Alike-sym classes None (Some q) a = absurd a
Alike-sym classes (Some p) None a = absurd a

pub Alike-self : (classes : List ℕ) (p q : Option ℕ) → q ≡ p → IfSome q (λ b. b < 256) → Alike classes p q
Alike-self classes None None e x = tt
Alike-self classes None (Some q) e x = absurd (cc)
Alike-self classes (Some p) None e x = absurd (cc)
Alike-self classes (Some p) (Some q) e x = let same : q ≡ p = cc in (subst (λ (y : ℕ). y < 256) same x, x, ap (slice_index classes) (sym same))

pub Alike-trans : (classes : List ℕ) (p q r : Option ℕ) → Alike classes p q → Alike classes q r → Alike classes p r
Alike-trans classes None None None a b = tt
Alike-trans classes (Some p) (Some q) (Some r) a b = (a.0, b.1, a.2 ∙ b.2)
Alike-trans classes None (Some q) r a b = absurd a
Alike-trans classes (Some p) None r a b = absurd a
Alike-trans classes None None (Some r) a b = absurd b
Alike-trans classes (Some p) (Some q) None a b = absurd b

Alike-middle : (classes : List ℕ) (p q : Option ℕ) → Alike classes p q → middle p ≡ middle q
Alike-middle classes None None a = refl
Alike-middle classes (Some p) (Some q) a = refl
Alike-middle classes None (Some q) a = absurd a
Alike-middle classes (Some p) None a = absurd a

one : (classes : List ℕ) (n o : ℕ) → slice_index classes n ≡ slice_index classes o → (i : ℕ) → i < 1
    → slice_index classes (slice_index (n ∷ []) i) ≡ slice_index classes (slice_index (o ∷ []) i)
one classes n o e zero l = e
one classes n o e (suc i) l = absurd (omega (arith, l))

two : (classes : List ℕ) (p q n o : ℕ) → slice_index classes p ≡ slice_index classes q → slice_index classes n ≡ slice_index classes o
    → (i : ℕ) → i < 2 → slice_index classes (slice_index (p ∷ n ∷ []) i) ≡ slice_index classes (slice_index (q ∷ o ∷ []) i)
two classes p q n o d e zero l = d
two classes p q n o d e (suc zero) l = e
two classes p q n o d e (suc (suc i)) l = absurd (omega (arith, l))

interchanged : (classes : List ℕ) (p q n o : Option ℕ) → Alike classes p q → Alike classes n o
    → AreInterchangedBy classes false (around p n) (around q o)
interchanged classes None None None None a b = record {
  first = All-nil (λ x. x < 256);
  second = All-nil (λ x. x < 256);
  same_length = refl;
  same_class = λ i l. absurd (omega (arith, l));
  in_ascii = λ is. absurd (true≢false (sym is));
}
interchanged classes None None (Some n) (Some o) a b = record {
  first = All-cons (λ x. x < 256) n [] b.0 (All-nil (λ x. x < 256));
  second = All-cons (λ x. x < 256) o [] b.1 (All-nil (λ x. x < 256));
  same_length = refl;
  same_class = one classes n o b.2;
  in_ascii = λ is. absurd (true≢false (sym is));
}
interchanged classes (Some p) (Some q) None None a b = record {
  first = All-cons (λ x. x < 256) p [] a.0 (All-nil (λ x. x < 256));
  second = All-cons (λ x. x < 256) q [] a.1 (All-nil (λ x. x < 256));
  same_length = refl;
  same_class = one classes p q a.2;
  in_ascii = λ is. absurd (true≢false (sym is));
}
interchanged classes (Some p) (Some q) (Some n) (Some o) a b = record {
  first = All-cons (λ x. x < 256) p (n ∷ []) a.0 (All-cons (λ x. x < 256) n [] b.0 (All-nil (λ x. x < 256)));
  second = All-cons (λ x. x < 256) q (o ∷ []) a.1 (All-cons (λ x. x < 256) o [] b.1 (All-nil (λ x. x < 256)));
  same_length = refl;
  same_class = two classes p q n o a.2 b.2;
  in_ascii = λ is. absurd (true≢false (sym is));
}
interchanged classes None (Some q) n o a b = absurd a
interchanged classes (Some p) None n o a b = absurd a
interchanged classes None None None (Some o) a b = absurd b
interchanged classes None None (Some n) None a b = absurd b
interchanged classes (Some p) (Some q) None (Some o) a b = absurd b
interchanged classes (Some p) (Some q) (Some n) None a b = absurd b

-- ---- an assertion goes by the two neighbours

with_false : (b : Bool) (A B C D : Type 0) → b ≡ false → (B → D) → MatchBool b A B → MatchBool b C D
with_false true A B C D e f x = absurd (true≢false e)
with_false false A B C D e f x = f x

Holds-plain : (l : Look) (t : ℕ) (chars : ℕ → Bool) (h k : List ℕ) (i j : ℕ) → is_unicode l ≡ false → byte_before h i ≡ byte_before k j
    → byte_after h i ≡ byte_after k j → Holds l t chars h i → Holds l t chars k j
Holds-plain l t chars h k i j plain before after x =
    with_false (is_unicode l) (HoldsAtSides l chars h i) (IsTrue (holds_at_bytes l t (byte_before h i) (byte_after h i)))
    (HoldsAtSides l chars k j) (IsTrue (holds_at_bytes l t (byte_before k j) (byte_after k j))) plain
    (λ (y : IsTrue (holds_at_bytes l t (byte_before h i) (byte_after h i))).
    subst (λ (p : Option ℕ). IsTrue (holds_at_bytes l t p (byte_after k j))) before
    (subst (λ (n : Option ℕ). IsTrue (holds_at_bytes l t (byte_before h i) n)) after y)) x

ascii_counterpart-bytes : (l : Look) → is_unicode (ascii_counterpart l) ≡ false
ascii_counterpart-bytes Start = refl
ascii_counterpart-bytes End = refl
ascii_counterpart-bytes StartLF = refl
ascii_counterpart-bytes EndLF = refl
ascii_counterpart-bytes StartCRLF = refl
ascii_counterpart-bytes EndCRLF = refl
ascii_counterpart-bytes WordAscii = refl
ascii_counterpart-bytes WordAsciiNegate = refl
ascii_counterpart-bytes WordUnicode = refl
ascii_counterpart-bytes WordUnicodeNegate = refl
ascii_counterpart-bytes WordStartAscii = refl
ascii_counterpart-bytes WordEndAscii = refl
ascii_counterpart-bytes WordStartUnicode = refl
ascii_counterpart-bytes WordEndUnicode = refl
ascii_counterpart-bytes WordStartHalfAscii = refl
ascii_counterpart-bytes WordEndHalfAscii = refl
ascii_counterpart-bytes WordStartHalfUnicode = refl
ascii_counterpart-bytes WordEndHalfUnicode = refl

-- with no byte, between two haystacks in which an assertion that holds in the first holds in the second
StepsTo-stay : (state : State) (t : ℕ) (chars : ℕ → Bool) (h k : List ℕ) (end last i j u : ℕ)
    → ((l : Look) → Holds l t chars h i → Holds l t chars k j)
    → StepsTo state t chars h end i (u, i) → StepsTo state t chars k last j (u, j)
StepsTo-stay (ByteRange a b next) t chars h k end last i j u holds x = absurd (omega (arith, x.3))
StepsTo-stay (Assert l next) t chars h k end last i j u holds x = (holds l x.0, x.1, refl)
StepsTo-stay (Fork a b) t chars h k end last i j u holds x = (x.0, refl)
StepsTo-stay (Capture slot next) t chars h k end last i j u holds x = (x.0, refl)
StepsTo-stay (Accept p) t chars h k end last i j u holds x = x

IsStep-stay : (states : List State) (t : ℕ) (chars : ℕ → Bool) (h k : List ℕ) (end last i j s u : ℕ)
    → ((l : Look) → Holds l t chars h i → Holds l t chars k j)
    → IsStep states t chars h end (s, i) (u, i) → IsStep states t chars k last (s, j) (u, j)
IsStep-stay states t chars h k end last i j s u holds x = go (slice_get states s) x
  where
    go : (o : Option State) → MatchOption o ⊥ (λ state. StepsTo state t chars h end i (u, i))
        → MatchOption o ⊥ (λ state. StepsTo state t chars k last j (u, j))
    go None y = y
    go (Some state) y = StepsTo-stay state t chars h k end last i j u holds y

-- ---- a step goes by the two neighbours, and by their classes

module _ (w : Lawful) (classes : List ℕ) (m : Machine) (width : ℕ) (unicode : Bool) (plan : IsPlan m classes width unicode) where
  stays : (h k : List ℕ) (end last i j s u : ℕ) → i ≤ length h → j ≤ length k → byte_before h i ≡ byte_before k j
      → byte_after h i ≡ byte_after k j
      → IsPlainUnit m (byte_before h i) → IsPlainUnit m (byte_after h i)
      → IsStep m.states m.terminator m.word_chars h end (s, i) (u, i) → IsStep m.states m.terminator m.word_chars k last (s, j) (u, j)
  stays h k end last i j s u low within before after a b x = go (has_unicode_assertion m.states) refl
    where
      go : (c : Bool) → has_unicode_assertion m.states ≡ c → IsStep m.states m.terminator m.word_chars k last (s, j) (u, j)
      go false q = w.stays m.states m.terminator m.word_chars h k end last i j s u q before after x
      go true q = IsStep-stay m.states m.terminator m.word_chars h k end last i j s u (λ l holds.
          (w.ascii l m.terminator m.word_chars k j within plan.agreed (subst (λ (o : Option ℕ). IfSome o (λ b. b < 128)) before (a q))
          (subst (λ (o : Option ℕ). IfSome o (λ b. b < 128)) after (b q))).1
          (Holds-plain (ascii_counterpart l) m.terminator m.word_chars h k i j (ascii_counterpart-bytes l) before after
          ((w.ascii l m.terminator m.word_chars h i low plan.agreed (a q) (b q)).0 holds))) x

  alike : (p q n o : Option ℕ) → Alike classes p q → Alike classes n o → IsPlainUnit m p → IsPlainUnit m q → IsPlainUnit m n → IsPlainUnit m o
      → AreInterchangedBy classes (has_unicode_assertion m.states) (around p n) (around q o)
  alike p q n o a b pp pq pn po =
      let same = interchanged classes p q n o a b in record {
        first = same.first;
        second = same.second;
        same_length = same.same_length;
        same_class = same.same_class;
        in_ascii = λ is i l apart.
            (around-ascii p n (pp is) (pn is) i l, around-ascii q o (pq is) (po is) i (subst (λ (x : ℕ). i < x) same.same_length l));
      }

  -- a step on the one is a step on the other
  step_alike : (p q n o : Option ℕ) (s u i : ℕ) → Alike classes p q → Alike classes n o → IsPlainUnit m p → IsPlainUnit m q → IsPlainUnit m n
      → IsPlainUnit m o → IsStep m.states m.terminator m.word_chars (around p n) (length (around p n)) (s, middle p) (u, i)
      → IsStep m.states m.terminator m.word_chars (around q o) (length (around q o)) (s, middle p) (u, i)
  step_alike p q n o s u i a b pp pq pn po x =
      let same = alike p q n o a b pp pq pn po in
      subst (λ (end : ℕ). IsStep m.states m.terminator m.word_chars (around q o) end (s, middle p) (u, i)) same.same_length
      ((w.kept classes m.states m.terminator m.word_chars (around p n) (around q o) (length (around p n)) (s, middle p) (u, i) plan.keeps same
      (omega arith) (around-least p n)
      (w.to plan.groups m.states m.terminator m.word_chars (around p n) (length (around p n)) (s, middle p) (u, i) plan.faultless x)).0 x)

  follows_alike : (p q n o : Option ℕ) (s u : ℕ) → Alike classes p q → Alike classes n o → IsPlainUnit m p → IsPlainUnit m q → IsPlainUnit m n
      → IsPlainUnit m o → Stays m (around p n) (middle p) s u → Stays m (around q o) (middle q) s u
  follows_alike p q n o s u a b pp pq pn po x =
      subst (λ (at : ℕ). IsStep m.states m.terminator m.word_chars (around q o) (length (around q o)) (s, at) (u, at)) (Alike-middle classes p q a)
      (step_alike p q n o s u (middle p) a b pp pq pn po x)

  moves_alike : (p q n o : Option ℕ) (s u : ℕ) → Alike classes p q → Alike classes n o → IsPlainUnit m p → IsPlainUnit m q → IsPlainUnit m n
      → IsPlainUnit m o → Moves m (around p n) (middle p) s u → Moves m (around q o) (middle q) s u
  moves_alike p q n o s u a b pp pq pn po x =
      subst (λ (at : ℕ). IsStep m.states m.terminator m.word_chars (around q o) (length (around q o)) (s, at) (u, at + 1)) (Alike-middle classes p q a)
      (step_alike p q n o s u (middle p + 1) a b pp pq pn po x)

-- ---- bytes of the neighbours' classes stand for a position

room_after : (h : List ℕ) (i : ℕ) (p : Option ℕ) → i < length h → middle p < length (around p (byte_after h i))
room_after [] i p l = absurd (omega (arith, l))
room_after (x ∷ h) zero p l = around-room p x
room_after (x ∷ h) (suc i) p l = room_after h i p (omega (arith, l))

pub IsNear-from : Lawful → (classes : List ℕ) (e : Search) (width : ℕ) (unicode : Bool) (i : ℕ) (q o : Option ℕ)
    → IsPlan (machine_of e) classes width unicode
    → e.end ≤ length e.haystack → i ≤ e.end → Alike classes (byte_before e.haystack i) q → Alike classes (byte_after e.haystack i) o
    → IsPlainUnit (machine_of e) (byte_before e.haystack i) → IsPlainUnit (machine_of e) (byte_after e.haystack i)
    → IsPlainUnit (machine_of e) q → IsPlainUnit (machine_of e) o → IsNear e i (around q o) (middle q)
IsNear-from w classes e width unicode i q o plan within low a b pp pn pq po = record { follows = follows; moves = moves }
  where
    m : Machine
    m = machine_of e

    h : List ℕ
    h = e.haystack

    p : Option ℕ
    p = byte_before e.haystack i

    n : Option ℕ
    n = byte_after e.haystack i

    follows : (s u : ℕ) → IsStep e.states e.terminator e.word_chars e.haystack e.end (s, i) (u, i) ↔ Stays (machine_of e) (around q o) (middle q) s u
    follows s u = (
      λ x. follows_alike w classes m width unicode plan p q n o s u a b pp pq pn po
          (stays w classes m width unicode plan h (around p n) e.end (length (around p n)) i (middle p) s u (omega (arith, low, within))
          (around-least p n) (sym (around-before p n)) (sym (around-after p n)) pp pn x),
      λ x. stays w classes m width unicode plan (around p n) h (length (around p n)) e.end (middle p) i s u (around-least p n)
          (omega (arith, low, within)) (around-before p n) (around-after p n)
          (subst (λ (y : Option ℕ). IsPlainUnit m y) (sym (around-before p n)) pp)
          (subst (λ (y : Option ℕ). IsPlainUnit m y) (sym (around-after p n)) pn)
          (follows_alike w classes m width unicode plan q p o n s u (Alike-sym classes p q a) (Alike-sym classes n o b) pq pp po pn x),
    )

    moves : (s u : ℕ) → i < e.end → IsStep e.states e.terminator e.word_chars e.haystack e.end (s, i) (u, i + 1)
        ↔ Moves (machine_of e) (around q o) (middle q) s u
    moves s u l = (
      λ x. moves_alike w classes m width unicode plan p q n o s u a b pp pq pn po
          (w.advances m.states m.terminator m.word_chars h (around p n) e.end (length (around p n)) i (middle p) s u
          (sym (around-after p n)) (λ _. room_after h i p (omega (arith, l, within))) x),
      λ x. w.advances m.states m.terminator m.word_chars (around p n) h (length (around p n)) e.end (middle p) i s u
          (around-after p n) (λ _. l)
          (moves_alike w classes m width unicode plan q p o n s u (Alike-sym classes p q a) (Alike-sym classes n o b) pq pp po pn x),
    )

-- ---- a byte goes by its class alone

around-first : (q : ℕ) (o : Option ℕ) → byte_after (around (Some q) o) 0 ≡ Some q
around-first q None = refl
around-first q (Some n) = refl

around-some : (q : ℕ) (o : Option ℕ) → 0 < length (around (Some q) o)
around-some q None = omega arith
around-some q (Some n) = omega arith

-- where a byte is there is one of its class
some_at : (classes h : List ℕ) (i : ℕ) → i < length h → ¬ (Alike classes (byte_after h i) None)
some_at classes [] i l a = omega (arith, l)
some_at classes (x ∷ h) zero l a = a
some_at classes (x ∷ h) (suc i) l a = some_at classes h i (omega (arith, l)) a

moves_kept : Lawful → (classes : List ℕ) (m : Machine) (width : ℕ) (unicode : Bool) → IsPlan m classes width unicode
    → (h k : List ℕ) (x y s u : ℕ)
    → x < length h → y < length k → Alike classes (byte_after h x) (byte_after k y) → IsPlainUnit m (byte_after h x) → IsPlainUnit m (byte_after k y)
    → Moves m h x s u → Moves m k y s u
moves_kept w classes m width unicode plan h k x y s u in_h in_k a pn po step =
    w.advances m.states m.terminator m.word_chars (around None (byte_after k y)) k (length (around None (byte_after k y))) (length k) 0 y s u
    (around-after None (byte_after k y)) (λ _. in_k)
    (moves_alike w classes m width unicode plan None None (byte_after h x) (byte_after k y) s u tt a (λ _. tt) (λ _. tt) pn po
    (w.advances m.states m.terminator m.word_chars h (around None (byte_after h x)) (length h) (length (around None (byte_after h x))) x 0 s u
    (sym (around-after None (byte_after h x))) (λ _. room_after h x None in_h) step))

-- the byte before a position of a small haystack stands for that before another position
pub record SameBefore (e : Search) (i : ℕ) (near : List ℕ) (at : ℕ) : Type 0 where
  pub some : (0 < i) ↔ (0 < at)
  pub moves : (s u : ℕ) → 0 < i → Moves (machine_of e) e.haystack (i - 1) s u ↔ Moves (machine_of e) near (at - 1) s u

pub SameBefore-from : Lawful → (classes : List ℕ) (e : Search) (width : ℕ) (unicode : Bool) (i : ℕ) (q o : Option ℕ)
    → IsPlan (machine_of e) classes width unicode → e.end ≤ length e.haystack → i ≤ e.end → Alike classes (byte_before e.haystack i) q
    → IsPlainUnit (machine_of e) (byte_before e.haystack i) → IsPlainUnit (machine_of e) q → SameBefore e i (around q o) (middle q)
SameBefore-from w classes e width unicode zero None o plan within low a pp pq = record {
  some = (λ l. absurd (omega (arith, l)), λ l. absurd (omega (arith, l)));
  moves = λ s u l. absurd (omega (arith, l));
}
SameBefore-from w classes e width unicode zero (Some q) o plan within low a pp pq = absurd a
SameBefore-from w classes e width unicode (suc i) None o plan within low a pp pq =
    absurd (some_at classes e.haystack i (omega (arith, low, within)) a)
SameBefore-from w classes e width unicode (suc i) (Some q) o plan within low a pp pq = record {
  some = (λ l. omega arith, λ l. omega arith);
  moves = λ s u l. subst (λ (k : ℕ). Moves (machine_of e) e.haystack k s u ↔ Moves (machine_of e) (around (Some q) o) 0 s u) same (
    λ x. moves_kept w classes (machine_of e) width unicode plan e.haystack (around (Some q) o) i 0 s u below (around-some q o) there pp first x,
    λ x. moves_kept w classes (machine_of e) width unicode plan (around (Some q) o) e.haystack 0 i s u (around-some q o) below
        (Alike-sym classes (byte_after e.haystack i) (byte_after (around (Some q) o) 0) there) first pp x,
  );
}
  where
    same : i ≡ suc i - 1
    same = omega arith

    below : i < length e.haystack
    below = omega (arith, low, within)

    there : Alike classes (byte_after e.haystack i) (byte_after (around (Some q) o) 0)
    there = subst (λ (b : Option ℕ). Alike classes (byte_after e.haystack i) b) (sym (around-first q o)) a

    first : IsPlainUnit (machine_of e) (byte_after (around (Some q) o) 0)
    first = subst (IsPlainUnit (machine_of e)) (sym (around-first q o)) pq

-- ---- a position with the same byte and the same assertions stands for another

holds-same : (m : Machine) (h k : List ℕ) (i j : ℕ) (looks : Looks) → AreHolding m h i looks → AreHolding m k j looks
    → (l : Look) → Holds l m.terminator m.word_chars h i → Holds l m.terminator m.word_chars k j
holds-same m h k i j looks a b l x = (b l).0 ((a l).1 x)

pub follows-holding : (e : Search) (i : ℕ) (near : List ℕ) (at : ℕ) (looks : Looks) → AreHolding (machine_of e) e.haystack i looks
    → AreHolding (machine_of e) near at looks
    → (s u : ℕ) → IsStep e.states e.terminator e.word_chars e.haystack e.end (s, i) (u, i) ↔ Stays (machine_of e) near at s u
follows-holding e i near at looks a b s u = (
  λ x. IsStep-stay e.states e.terminator e.word_chars e.haystack near e.end (length near) i at s u
      (holds-same (machine_of e) e.haystack near i at looks a b) x,
  λ x. IsStep-stay e.states e.terminator e.word_chars near e.haystack (length near) e.end at i s u
      (holds-same (machine_of e) near e.haystack at i looks b a) x,
)

in-both : (h k : List ℕ) (i j : ℕ) → byte_after h i ≡ byte_after k j → i < length h → j < length k
in-both [] k i j e l = absurd (omega (arith, l))
in-both (x ∷ h) k zero j e l = slice_get_within k j x (sym e)
in-both (x ∷ h) k (suc i) j e l = in-both h k i j e (omega (arith, l))

pub IsNear-holding : Lawful → (e : Search) (i : ℕ) (near : List ℕ) (at : ℕ) (looks : Looks) → e.end ≤ length e.haystack
    → byte_after e.haystack i ≡ byte_after near at → AreHolding (machine_of e) e.haystack i looks → AreHolding (machine_of e) near at looks
    → IsNear e i near at
IsNear-holding w e i near at looks within same a b = record {
  follows = follows-holding e i near at looks a b;
  moves = λ s u l. (
    λ x. w.advances e.states e.terminator e.word_chars e.haystack near e.end (length near) i at s u same
        (λ _. in-both e.haystack near i at same (omega (arith, l, within))) x,
    λ x. w.advances e.states e.terminator e.word_chars near e.haystack (length near) e.end at i s u (sym same) (λ _. l) x,
  );
}

pub SameBefore-same : Lawful → (e : Search) (i : ℕ) (near : List ℕ) (at : ℕ) → i ≤ length e.haystack → at ≤ length near
    → byte_before e.haystack i ≡ byte_before near at → SameBefore e i near at
SameBefore-same w e zero near zero low high same = record {
  some = (λ l. absurd (omega (arith, l)), λ l. absurd (omega (arith, l)));
  moves = λ s u l. absurd (omega (arith, l));
}
SameBefore-same w e zero near (suc at) low high same =
    absurd (some_at [] near at (omega (arith, high)) (subst (λ (b : Option ℕ). Alike [] b None) same tt))
SameBefore-same w e (suc i) near zero low high same =
    absurd (some_at [] e.haystack i (omega (arith, low)) (subst (λ (b : Option ℕ). Alike [] b None) (sym same) tt))
SameBefore-same w e (suc i) near (suc at) low high same = record {
  some = (λ l. omega arith, λ l. omega arith);
  moves = λ s u l.
      let here : i ≡ suc i - 1 = omega arith in
      let there : at ≡ suc at - 1 = omega arith in
      subst (λ (k : ℕ). Moves (machine_of e) e.haystack k s u ↔ Moves (machine_of e) near (suc at - 1) s u) here
      (subst (λ (k : ℕ). Moves (machine_of e) e.haystack i s u ↔ Moves (machine_of e) near k s u) there (
        λ x. w.advances e.states e.terminator e.word_chars e.haystack near (length e.haystack) (length near) i at s u same
            (λ _. omega (arith, high)) x,
        λ x. w.advances e.states e.terminator e.word_chars near e.haystack (length near) (length e.haystack) at i s u (sym same)
            (λ _. omega (arith, low)) x,
      ));
}

-- ---- the classes of a plan

-- no class has bytes on both sides of 128, if 127 and 128 have two
pub parted : (p : ℕ → Bool) (classes : List ℕ) → classes ≡ class_map p → ¬ (slice_index classes 127 ≡ slice_index classes 128)
    → (b c : ℕ) → b < 128 → c < 256 → slice_index classes b ≡ slice_index classes c → c < 128
parted p classes is apart b c low high same = ⊎_elim
    (λ (l : c < 128). l)
    (λ (l : 128 ≤ c). absurd (apart (rw is ((class_map-together p 127 128 (omega arith) (omega arith)).1 (λ k from to.
    (class_map-together p b c (omega (arith, low)) high).0 (rw is at same) k (omega (arith, low, l, from)) (omega (arith, low, l, to)))))))
    (cases_lt c 128)
