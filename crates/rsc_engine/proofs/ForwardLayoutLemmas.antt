-- The forward pass along the rows of a table.
use Rattle.std.proofs.Common.{◌≡◌, ℕ, suc, ◌+◌, ◌≤◌, Bool, true, false, List, [], ◌∷◌, length, sym, ◌∙◌, subst, arith, slice_get, Option, None, Result, Ok, Err, IfOk}
use Rattle.rsc_look.specs.Holds.{byte_before, byte_after}
use Rattle.rsc_search.specs.declared.anchored.Anchored.{Anchored}
use Rattle.rsc_search.specs.declared.anchored.Anchored.TheVariants.{No}
use Rattle.rsc_engine.specs.declared.dfa.pass_table.PassRow.{PassRow}
use Rattle.rsc_engine.specs.Searches.{Search}
use Rattle.rsc_engine.specs.RowsLayout.{machine_of, Alike, IsNear, around, middle}
use Rattle.rsc_engine.specs.ForwardLayout.{beside, IsAdvanced, last_with, IsGoing, found_in, StandsForward, StandsInEach, GoesForward, GoesInEach, search_up_to}
use Rattle.rsc_engine.specs.LawfulLayout.{Lawful}
use Rattle.rsc_engine.specs.PassTableLayout.{IsPassRow, IsPassStep, IsPassTo, IsPassStepAt, unit_at, IsBeyondAt}
use Rattle.rsc_engine.proofs.LawfulLayoutLemmas.{IsNear-from, IsNear-holding, Alike-self, Alike-trans}
use Rattle.rsc_engine.proofs.PassTableLayoutLemmas.{some_same, plain_alike, IsSearched}
use Rattle.rsc_engine.proofs.ForwardLemmas.{going-near, going-first}

module _ (e : Search) (classes : List ℕ) where
  -- the row that is next stands for the next position
  stands : (old new : List PassRow) (next i : ℕ) (last : Option (ℕ × ℕ)) (found : Option ℕ) (after : Bool) (list : List ℕ) (other : Option ℕ)
      → Alike classes (byte_after e.haystack i) other → IsPassRow classes new next false e.mode after found other list
      → IsGoing e (i + 1) after (last_with found i last) list
      → StandsForward e classes new next (i + 1) (last_with (found_in (slice_get new next)) i last)
  stands old new next i last found after list other near r going =
      let same : suc i ≡ i + 1 = omega arith in
      record {
        row = r.to;
        there = r.there;
        forward = r.same_pass;
        same_mode = r.same_mode;
        alike = Alike-trans classes (byte_before e.haystack (i + 1)) other r.to.read
            (subst (λ (j : ℕ). Alike classes (byte_before e.haystack j) other) same near) r.alike;
        going = rw (r.there, r.same_found, r.same_begins, r.is_list) going;
      }

  module _ (width : ℕ) (unicode : Bool) (s : IsSearched e classes width unicode) where
    -- made beside two bytes of these classes
    pub goes-forward : (old new : List PassRow) (k i next : ℕ) → i ≤ e.end
        → IsPassTo (machine_of e) classes old new k (byte_after e.haystack i) next → GoesForward e classes old new k i next
    goes-forward old new k i next high a = λ last on.
        let same : on.row ≡ a.from = some_same on.row a.from (sym on.there ∙ a.there) in
        let at : StandsForward e classes old k i last = on in
        let back : a.from.backward ≡ false = subst (λ (x : PassRow). x.backward ≡ false) same on.forward in
        let before : Alike classes (byte_before e.haystack i) a.from.read =
        subst (λ (x : PassRow). Alike classes (byte_before e.haystack i) x.read) same on.alike in
        let mode : a.from.mode ≡ e.mode = subst (λ (x : PassRow). x.mode ≡ e.mode) same on.same_mode in
        let near : IsNear e i (around a.from.read a.other) (middle a.from.read) =
        IsNear-from s.laws classes e width unicode i a.from.read a.other s.plan s.within high before a.alike
        (plain_alike (machine_of e) classes width unicode (byte_before e.haystack i) a.from.read s.plan before a.plain_read)
        (plain_alike (machine_of e) classes width unicode (byte_after e.haystack i) a.other s.plan a.alike a.plain)
        a.plain_read a.plain in
        stands old new next i last a.leads.found a.leads.after a.leads.list a.other a.alike
        (subst (λ (m : Anchored). IsPassRow classes new next false m a.leads.after a.leads.found a.other a.leads.list) mode
        (subst (λ (b : Bool). IsPassRow classes new next b a.from.mode a.leads.after a.leads.found a.other a.leads.list) back a.leads.is_row))
        (going-near e i (around a.from.read a.other) (middle a.from.read) a.from.begins last a.from.list.items a.leads.found a.leads.after a.leads.list near
        (subst (λ (x : PassRow). IsGoing e i x.begins last x.list.items) same on.going) high
        (subst (λ (m : Anchored). IsAdvanced (beside (machine_of e) m (around a.from.read a.other)) (middle a.from.read) a.from.begins a.from.list.items
        a.leads.found a.leads.after a.leads.list) mode
        (subst (λ (b : Bool). IsPassStep (machine_of e) a.from.mode b a.from.read a.from.begins a.from.list.items a.other a.leads.found a.leads.after
        a.leads.list) back a.leads.step)))

  stands-first : (rows : List PassRow) (k i : ℕ) (begins : Bool) (before : Option ℕ) (list : List ℕ) → before ≡ byte_before e.haystack i
      → IsPassRow classes rows k false e.mode begins None before list → IsGoing e i begins None list → StandsForward e classes rows k i None
  stands-first rows k i begins before list is r going = record {
    row = r.to;
    there = r.there;
    forward = r.same_pass;
    same_mode = r.same_mode;
    alike = subst (λ (b : Option ℕ). Alike classes b r.to.read) is r.alike;
    going = rw (r.same_begins, r.is_list) going;
  }

-- ---- in the search up to each end

module _ (e : Search) (classes : List ℕ) where
  -- made at a position with this byte and these assertions
  pub each-beyond : Lawful → (old new : List PassRow) (k i next : ℕ) → e.end ≤ length e.haystack
      → IsBeyondAt (machine_of e) classes old new k e.haystack i next → GoesInEach e classes old new k i next
  each-beyond w old new k i next within x = λ t low high last on.
      let a = x.to in
      let same : on.row ≡ a.from = some_same on.row a.from (sym on.there ∙ a.there) in
      let back : a.from.backward ≡ false = subst (λ (r : PassRow). r.backward ≡ false) same on.forward in
      let mode : a.from.mode ≡ e.mode = subst (λ (r : PassRow). r.mode ≡ e.mode) same on.same_mode in
      let read : byte_after e.haystack i ≡ x.unit = subst (λ (b : Bool). unit_at b e.haystack i ≡ x.unit) back x.read in
      let other : byte_after a.haystack a.at ≡ x.unit = subst (λ (b : Bool). unit_at b a.haystack a.at ≡ x.unit) back a.read in
      let near : IsNear (search_up_to e t) i a.haystack a.at =
      IsNear-holding w (search_up_to e t) i a.haystack a.at x.looks (omega (arith, high, within)) (read ∙ sym other) x.holding a.holding in
      stands (search_up_to e t) classes old new next i last a.found a.after a.list x.unit
      (Alike-self classes (byte_after e.haystack i) x.unit (sym read) a.byte)
      (subst (λ (m : Anchored). IsPassRow classes new next false m a.after a.found x.unit a.list) mode
      (subst (λ (b : Bool). IsPassRow classes new next b a.from.mode a.after a.found x.unit a.list) back a.is_row))
      (going-near (search_up_to e t) i a.haystack a.at a.from.begins last a.from.list.items a.found a.after a.list near
      (subst (λ (r : PassRow). IsGoing (search_up_to e t) i r.begins last r.list.items) same on.going) low
      (subst (λ (m : Anchored). IsAdvanced (beside (machine_of e) m a.haystack) a.at a.from.begins a.from.list.items a.found a.after a.list) mode
      (subst (λ (b : Bool). IsPassStepAt (machine_of e) a.from.mode b a.haystack a.at a.from.begins a.from.list.items a.found a.after a.list) back a.step)))

  -- made beside two bytes of these classes
  pub each-forward : (width : ℕ) (unicode : Bool) → IsSearched e classes width unicode → (old new : List PassRow) (k i next : ℕ)
      → IsPassTo (machine_of e) classes old new k (byte_after e.haystack i) next → GoesInEach e classes old new k i next
  each-forward width unicode s old new k i next a = λ t low high.
      goes-forward (search_up_to e t) classes width unicode (record { laws = s.laws; plan = s.plan; within = omega (arith, high, s.within) })
      old new k i next low a

  -- from where a pass stands it goes on
  pub each-on : (old new : List PassRow) (k i next : ℕ) (last : Option (ℕ × ℕ)) → GoesInEach e classes old new k i next
      → StandsInEach e classes old k i last → StandsInEach e classes new next (i + 1) (last_with (found_in (slice_get new next)) i last)
  each-on old new k i next last goes on = λ t past high. goes t (omega (arith, past)) high last (on t (omega (arith, past)) high)

  pub each-first : (rows : List PassRow) (k : ℕ) (begins : Bool) (before : Option ℕ) (list : List ℕ) → before ≡ byte_before e.haystack e.start
      → IsPassRow classes rows k false e.mode begins None before list
      → (begins ≡ true → e.mode ≡ No) → (begins ≡ false → ¬ (e.mode ≡ No)) → list ≡ e.start_state ∷ []
      → StandsInEach e classes rows k e.start None
  each-first rows k begins before list is r free anchored one = λ t past high.
      stands-first (search_up_to e t) classes rows k e.start begins before list is r (going-first (search_up_to e t) begins list free anchored one)

-- what is so of each result, if there is one
pub map_ok : {X E : Type 0} → (r : Result X E) (P Q : X → Type 0) → ((x : X) → P x → Q x) → IfOk r P → IfOk r Q
map_ok (Ok x) P Q f p = f x p
map_ok (Err e) P Q f p = tt
