-- The backward pass along the rows of a table.
use Rattle.std.proofs.Common.{◌≡◌, ℕ, zero, suc, ◌+◌, ◌-◌, ◌<◌, ◌≤◌, Bool, true, false, List, [], refl, sym, ap, subst, ◌∙◌, arith, slice_get, Option, None}
use Rattle.rsc_look.specs.Holds.{byte_before, byte_after}
use Rattle.rsc_search.specs.declared.anchored.Anchored.{Anchored}
use Rattle.rsc_engine.specs.declared.dfa.pass_table.PassRow.{PassRow}
use Rattle.rsc_engine.specs.Searches.{Search}
use Rattle.rsc_engine.specs.RowsLayout.{machine_of, Alike, IsNear, around, middle}
use Rattle.rsc_engine.specs.BackwardLayout.{IsRetreated, least_with, IsBegun, AreBefore, IsLeastFrom, begins_in, StandsBackward, GoesBackward}
use Rattle.rsc_engine.specs.PassTableLayout.{IsPassRow, IsPassStep, IsPassTo, IsPassStepAt, unit_at, IsBeyondAt}
use Rattle.rsc_engine.proofs.LawfulLayoutLemmas.{IsNear-from, Alike-self, Alike-trans, SameBefore-from, around-least, follows-holding, SameBefore-same}
use Rattle.rsc_engine.proofs.PassTableLayoutLemmas.{some_same, plain_alike, IsSearched}
use Rattle.rsc_engine.proofs.BackwardLemmas.{begun-back, before-back, least-back, retreated-near, before-end, begun-end, least-end}

pub before-after : (h : List ℕ) (i : ℕ) → 0 < i → byte_before h i ≡ byte_after h (i - 1)
before-after h zero l = absurd (omega (arith, l))
before-after h (suc i) l = let same : i ≡ suc i - 1 = omega arith in ap (byte_after h) same

module _ (e : Search) (classes : List ℕ) where
  -- a pass begins at the span's end
  pub stands-back-first : (rows : List PassRow) (k : ℕ) (after : Option ℕ) → e.start ≤ e.end → after ≡ byte_after e.haystack e.end
      → IsPassRow classes rows k true e.mode false None after [] → StandsBackward e classes rows k (e.end + 1) e.end
  stands-back-first rows k after within is r = record {
    row = r.to;
    there = r.there;
    backward = r.same_pass;
    same_mode = r.same_mode;
    alike = λ i on.
        let same : e.end ≡ i = omega (arith, on) in
        subst (λ (b : Option ℕ). Alike classes b r.to.read) (is ∙ ap (byte_after e.haystack) same) r.alike;
    low = omega (arith, within);
    high = omega arith;
    before = before-end e r.to.list.items r.is_list;
    begun = begun-end e r.to.begins r.same_begins;
    is_least = least-end e;
  }

  -- the row that is next stands for the position before
  stands : (new : List PassRow) (next i least : ℕ) (found : Option ℕ) (begins : Bool) (list : List ℕ) (other : Option ℕ) → e.start ≤ i
      → i ≤ e.end
      → Alike classes (byte_before e.haystack i) other → IsPassRow classes new next true e.mode begins found other list
      → AreBefore e i list → IsBegun e i begins → IsLeastFrom e i (least_with begins i least)
      → StandsBackward e classes new next i (least_with (begins_in (slice_get new next)) i least)
  stands new next i least found begins list other low high near r before begun is_least = record {
    row = r.to;
    there = r.there;
    backward = r.same_pass;
    same_mode = r.same_mode;
    alike = λ k on.
        let same : i ≡ suc k = omega (arith, on) in
        Alike-trans classes (byte_after e.haystack k) other r.to.read (subst (λ (n : ℕ). Alike classes (byte_before e.haystack n) other) same near) r.alike;
    low = low;
    high = omega (arith, high);
    before = rw r.is_list before;
    begun = rw r.same_begins begun;
    is_least = rw (r.there, r.same_begins) is_least;
  }

  module _ (width : ℕ) (unicode : Bool) (s : IsSearched e classes width unicode) where
    next-stands : (new : List PassRow) (next i least : ℕ) (row : PassRow) (found : Option ℕ) (begins : Bool) (list : List ℕ) (other : Option ℕ)
        → e.start ≤ i → i ≤ e.end → AreBefore e (i + 1) row.list.items → IsLeastFrom e (i + 1) least
        → Alike classes (byte_before e.haystack i) other
        → IsPassRow classes new next true e.mode begins found other list → IsRetreated e i row.list.items begins list
        → StandsBackward e classes new next i (least_with (begins_in (slice_get new next)) i least)
    next-stands new next i least row found begins list other low high was least_was near r a =
        stands new next i least found begins list other low high near r
        (before-back e i least row.list.items begins list s.laws s.within low high was a)
        (begun-back e i least row.list.items begins list s.laws s.within low high was a)
        (least-back e i least row.list.items begins list s.laws s.within low high was a least_was)

    -- made at a position with this byte and these assertions
    pub goes-back-beyond : (old new : List PassRow) (k i next : ℕ) → e.start ≤ i → i ≤ e.end
        → IsBeyondAt (machine_of e) classes old new k e.haystack i next → GoesBackward e classes old new k i next
    goes-back-beyond old new k i next low high x = λ least on.
        let a = x.to in
        let same : on.row ≡ a.from = some_same on.row a.from (sym on.there ∙ a.there) in
        let back : a.from.backward ≡ true = subst (λ (r : PassRow). r.backward ≡ true) same on.backward in
        let mode : a.from.mode ≡ e.mode = subst (λ (r : PassRow). r.mode ≡ e.mode) same on.same_mode in
        let read : byte_before e.haystack i ≡ x.unit = subst (λ (b : Bool). unit_at b e.haystack i ≡ x.unit) back x.read in
        let other : byte_before a.haystack a.at ≡ x.unit = subst (λ (b : Bool). unit_at b a.haystack a.at ≡ x.unit) back a.read in
        let before = SameBefore-same s.laws e i a.haystack a.at (omega (arith, high, s.within)) a.within (read ∙ sym other) in
        next-stands new next i least a.from a.found a.after a.list x.unit low high
        (subst (λ (r : PassRow). AreBefore e (i + 1) r.list.items) same on.before) on.is_least
        (Alike-self classes (byte_before e.haystack i) x.unit (sym read) a.byte)
        (subst (λ (m : Anchored). IsPassRow classes new next true m a.after a.found x.unit a.list) mode
        (subst (λ (b : Bool). IsPassRow classes new next b a.from.mode a.after a.found x.unit a.list) back a.is_row))
        (retreated-near e i a.from.mode a.haystack a.at (follows-holding e i a.haystack a.at x.looks x.holding a.holding) low high a.within
        a.from.list.items a.after a.list mode before.some before.moves
        (subst (λ (b : Bool). IsPassStepAt (machine_of e) a.from.mode b a.haystack a.at a.from.begins a.from.list.items a.found a.after a.list) back a.step))

    -- made beside two bytes of these classes
    pub goes-backward : (old new : List PassRow) (k i next : ℕ) → e.start ≤ i → i ≤ e.end
        → IsPassTo (machine_of e) classes old new k (byte_before e.haystack i) next → GoesBackward e classes old new k i next
    goes-backward old new k i next low high a = λ least on.
        let same : on.row ≡ a.from = some_same on.row a.from (sym on.there ∙ a.there) in
        let back : a.from.backward ≡ true = subst (λ (x : PassRow). x.backward ≡ true) same on.backward in
        let mode : a.from.mode ≡ e.mode = subst (λ (x : PassRow). x.mode ≡ e.mode) same on.same_mode in
        let after : Alike classes (byte_after e.haystack i) a.from.read =
        subst (λ (x : PassRow). Alike classes (byte_after e.haystack i) x.read) same (on.alike i refl) in
        let before_plain = plain_alike (machine_of e) classes width unicode (byte_before e.haystack i) a.other s.plan a.alike a.plain in
        let near : IsNear e i (around a.other a.from.read) (middle a.other) =
        IsNear-from s.laws classes e width unicode i a.other a.from.read s.plan s.within high a.alike after before_plain
        (plain_alike (machine_of e) classes width unicode (byte_after e.haystack i) a.from.read s.plan after a.plain_read)
        a.plain a.plain_read in
        let before = SameBefore-from s.laws classes e width unicode i a.other a.from.read s.plan s.within high a.alike before_plain a.plain in
        next-stands new next i least a.from a.leads.found a.leads.after a.leads.list a.other low high
        (subst (λ (x : PassRow). AreBefore e (i + 1) x.list.items) same on.before) on.is_least a.alike
        (subst (λ (m : Anchored). IsPassRow classes new next true m a.leads.after a.leads.found a.other a.leads.list) mode
        (subst (λ (b : Bool). IsPassRow classes new next b a.from.mode a.leads.after a.leads.found a.other a.leads.list) back a.leads.is_row))
        (retreated-near e i a.from.mode (around a.other a.from.read) (middle a.other) near.follows low high (around-least a.other a.from.read)
        a.from.list.items a.leads.after a.leads.list mode before.some before.moves
        (subst (λ (b : Bool). IsPassStep (machine_of e) a.from.mode b a.from.read a.from.begins a.from.list.items a.other a.leads.found a.leads.after
        a.leads.list) back a.leads.step))
