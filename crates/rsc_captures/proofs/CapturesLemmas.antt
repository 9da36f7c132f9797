-- A span that is written into a group's slots is that group's, and leaves the others' as they were.
use Rattle.std.proofs.Common.{◌≡◌, ◌≢◌, ℕ, ◌+◌, ◌*◌, ◌<◌, ◌↔◌, nat_lt, nat_eq, cond, Bool, true, false, true≢false, List, length, Option, Some, None, refl, sym, ap, ◌∙◌, subst, arith, option_and_then, option_map, IsTrue, is_some, set, get_or-set_same, get_or-set_other, length-set}
use Rattle.std.specs.Option.{ForSome}
use Rattle.std.proofs.lemmas.Bool.Decides.{nat_tests}
use Rattle.rsc_search.specs.declared.span.Span.{Span}
use Rattle.rsc_captures.specs.Groups.{GroupLists, slot_of}
use Rattle.rsc_captures.specs.Captured.{Captured, span_at, with_span, first_slot, slot_present, group_span}
use Rattle.rsc_captures.proofs.SlotOwnersLemmas.{one_start, start_no_end}

-- ---- two slots

both : (span : Option Span)
    → option_and_then (λ from. option_map (λ to. let s : Span = record { start = from; end = to } in s) (option_map (λ s. s.end) span))
    (option_map (λ s. s.start) span) ≡ span
both None = refl
both (Some s) = refl

-- the span that is written is there
span_written : (offsets : List (Option ℕ)) (slot : ℕ) (span : Option Span) → slot + 1 < length offsets
    → span_at (with_span offsets slot span) slot ≡ span
span_written offsets slot span l =
    let first : List (Option ℕ) = set offsets slot (option_map (λ s. s.start) span) in
    let apart : slot ≢ slot + 1 = omega arith in
    let room : slot + 1 < length first = omega (arith, l, length-set offsets slot (option_map (λ s. s.start) span)) in
    rw (
      get_or-set_other first (slot + 1) slot (option_map (λ s. s.end) span) None apart,
      get_or-set_same offsets slot (option_map (λ s. s.start) span) None (omega (arith, l)),
      get_or-set_same first (slot + 1) (option_map (λ s. s.end) span) None room,
    ) (both span)

-- and two slots that are apart from those stay
span_kept : (offsets : List (Option ℕ)) (slot other : ℕ) (span : Option Span) → other ≢ slot → other ≢ slot + 1 → slot ≢ other + 1
    → span_at (with_span offsets slot span) other ≡ span_at offsets other
span_kept offsets slot other span p q r =
    let a = option_map (λ (s : Span). s.start) span in let b = option_map (λ (s : Span). s.end) span in
    let u : other + 1 ≢ slot = λ e. r (sym e) in let v : other + 1 ≢ slot + 1 = λ e. p (omega (arith, e)) in
    rw (
      get_or-set_other (set offsets slot a) (slot + 1) other b None q,
      get_or-set_other (set offsets slot a) (slot + 1) (other + 1) b None v,
      get_or-set_other offsets slot other a None p,
      get_or-set_other offsets slot (other + 1) a None u,
    ) refl

-- ---- the slots of a group

-- the slots of two groups of a pattern are apart
record AreApart (slot other : ℕ) : Type 0 where
  same : other ≢ slot
  after : other ≢ slot + 1
  before : slot ≢ other + 1

slots_apart : (groups : GroupLists) (q i j slot other : ℕ) → j ≢ i → first_slot groups q i ≡ Some slot → first_slot groups q j ≡ Some other
    → AreApart slot other
slots_apart groups q i j slot other differ = go (nat_eq (length groups) 1)
  where
    go : (b : Bool) → cond b (Some (2 * i)) (slot_of groups q i) ≡ Some slot → cond b (Some (2 * j)) (slot_of groups q j) ≡ Some other
        → AreApart slot other
    go true e f =
        let a : 2 * i ≡ slot = cc in let b : 2 * j ≡ other = cc in record {
          same = λ s. differ (omega (arith, a, b, s));
          after = λ s. omega (arith, a, b, s);
          before = λ s. omega (arith, a, b, s);
        }
    go false e f = record {
      same = λ s. differ (one_start groups q j q i other f (subst (λ x. slot_of groups q i ≡ Some x) (sym s) e)).1;
      after = start_no_end groups q j q i other slot f e;
      before = start_no_end groups q i q j slot other e f;
    }

-- where the slots of a group are here, a pattern matched that has them
record IsHere (c : Captured) (i slot : ℕ) : Type 0 where
  pattern : ℕ
  is : c.pattern ≡ Some pattern
  first : first_slot c.groups pattern i ≡ Some slot
  room : slot + 1 < length c.offsets

within : (n : ℕ) (o : Option ℕ) (slot : ℕ) → option_and_then (λ s. cond (nat_lt (s + 1) n) (Some s) None) o ≡ Some slot
    → (o ≡ Some slot) × (slot + 1 < n)
within n None slot e = absurd (cc)
within n (Some s) slot e = go (nat_lt (s + 1) n) refl e
  where
    go : (b : Bool) → nat_lt (s + 1) n ≡ b → cond b (Some s) None ≡ Some slot → (Some s ≡ Some slot) × (slot + 1 < n)
    go true f g = let same : s ≡ slot = cc in let l : s + 1 < n = grind (arith, nat_tests) in (g, subst (λ x. x + 1 < n) same l)
    go false f g = absurd (cc)

is_here : (c : Captured) (i slot : ℕ) → slot_present c i ≡ Some slot → IsHere c i slot
is_here c i slot e = go c.pattern refl e
  where
    go : (o : Option ℕ) → c.pattern ≡ o
        → option_and_then (λ q. option_and_then (λ s. cond (nat_lt (s + 1) (length c.offsets)) (Some s) None) (first_slot c.groups q i)) o ≡ Some slot
        → IsHere c i slot
    go None f g = absurd (cc)
    go (Some q) f g = let r = within (length c.offsets) (first_slot c.groups q i) slot g in
        record { pattern = q; is = f; first = r.0; room = r.1 }

-- the captures with a span in two of the slots
abbrev pub Rewritten : Captured → ℕ → Option Span → Captured
Rewritten c slot span = record c { offsets = with_span c.offsets slot span }

-- the group's span is the one that is written
pub group_written : (c new : Captured) (i slot : ℕ) (span : Option Span) → slot_present c i ≡ Some slot → new ≡ Rewritten c slot span
    → group_span new i ≡ span
group_written c new i slot span e is =
    let h = is_here c i slot e in
    ap (λ d. group_span d i) is
    ∙ ap (λ o. option_and_then (λ q. option_and_then (span_at (with_span c.offsets slot span)) (first_slot c.groups q i)) o) h.is
    ∙ ap (λ o. option_and_then (span_at (with_span c.offsets slot span)) o) h.first ∙ span_written c.offsets slot span h.room

-- and every other group's is as before
pub group_kept : (c new : Captured) (i slot j : ℕ) (span : Option Span) → slot_present c i ≡ Some slot → new ≡ Rewritten c slot span → j ≢ i
    → group_span new j ≡ group_span c j
group_kept c new i slot j span e is differ =
    let h = is_here c i slot e in
    ap (λ d. group_span d j) is
    ∙ ap (λ o. option_and_then (λ q. option_and_then (span_at (with_span c.offsets slot span)) (first_slot c.groups q j)) o) h.is
    ∙ go h (first_slot c.groups h.pattern j) refl
    ∙ sym (ap (λ o. option_and_then (λ q. option_and_then (span_at c.offsets) (first_slot c.groups q j)) o) h.is)
  where
    go : (h : IsHere c i slot) (o : Option ℕ) → first_slot c.groups h.pattern j ≡ o
        → option_and_then (span_at (with_span c.offsets slot span)) o ≡ option_and_then (span_at c.offsets) o
    go h None f = refl
    go h (Some other) f =
        let a = slots_apart c.groups h.pattern i j slot other differ h.first f in span_kept c.offsets slot other span a.same a.after a.before

-- ---- what a call that writes or refuses leaves

module _ (c new : Captured) (i : ℕ) (span : Option Span) (done : Bool) (P : Type 0)
    (decides : IsTrue done ↔ (IsTrue (is_some (slot_present c i)) × P))
    (written : IsTrue done → ForSome (slot_present c i) (λ slot. new ≡ Rewritten c slot span)) where
  to_slot : (R : Type 0) → IsTrue done → ((slot : ℕ) → slot_present c i ≡ Some slot → new ≡ Rewritten c slot span → R) → R
  to_slot R d given = go (slot_present c i) refl (decides.0 d).0
    where
      go : (o : Option ℕ) → slot_present c i ≡ o → IsTrue (is_some o) → R
      go None e some = absurd (true≢false (sym some))
      go (Some slot) e some = given slot e (written d slot e)

  -- the group has the span
  pub set_span : IsTrue done → group_span new i ≡ span
  set_span d = to_slot (group_span new i ≡ span) d (λ slot e w. group_written c new i slot span e w)

  -- and every other group has its own
  pub set_others : (¬ (IsTrue done) → new ≡ c) → (j : ℕ) → ¬ (j ≡ i) → group_span new j ≡ group_span c j
  set_others refused j differ = go done refl
    where
      go : (b : Bool) → done ≡ b → group_span new j ≡ group_span c j
      go true e = to_slot (group_span new j ≡ group_span c j) e (λ slot f w. group_kept c new i slot j span f w differ)
      go false e = ap (λ d. group_span d j) (refused (λ d. true≢false (sym d ∙ e)))
