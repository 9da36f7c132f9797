-- The loop of a pass, from position to position.
use Rattle.std.proofs.Common.{◌≡◌, ◌↔◌, IsTrue, not, ℕ, ◌+◌, ◌<◌, ◌≤◌, ◌⊎◌, inl, inr, ⊎_elim, Bool, true, false, true≢false, List, [], ◌∷◌, ◌++◌, refl, sym, ap, subst, ◌∙◌, arith, Option, Some, None}
use Rattle.std.proofs.lemmas.Bool.{cases_lt}
use Rattle.rsc_search.specs.declared.anchored.Anchored.{Anchored}
use Rattle.rsc_search.specs.declared.anchored.Anchored.TheVariants.{No, Yes, Pattern}
use Rattle.rsc_engine.specs.Searches.{Search}
use Rattle.rsc_engine.specs.Runs.{HasNoMatchFrom}
use Rattle.rsc_engine.specs.Preferred.{HasNoFirstMatch, MayBegin}
use Rattle.rsc_engine.specs.Ends.{IsLeftmostEnd}
use Rattle.rsc_engine.specs.DecidesLayout.{unseen, Decides, IsLastPlace}
use Rattle.rsc_engine.specs.PassesLayout.{Scans, Status, Open, Closed, later, Opens, IsLeftOver, IsDue, placed}
use Rattle.rsc_engine.specs.RowsLayout.{AddsOne, machine_of, IsNear}
use Rattle.rsc_engine.specs.OrderedLayout.{IsScanned, IsOfPattern, IsEndOf}
use Rattle.rsc_engine.specs.ForwardLayout.{beside, Continues, IsAdvanced, last_with, IsHeld, IsGoing}
use Rattle.rsc_engine.proofs.OrderedLayoutLemmas.{scans-near, scans-end}
use Rattle.rsc_engine.proofs.DecidesLayoutLemmas.{decides-start}
use Rattle.rsc_engine.proofs.PassesLayoutLemmas.{looked, beyond, settled, next_due}

free_of : (e : Search) (status : Status) (begins : Bool) (last : Option (ℕ × ℕ)) → IsHeld e status begins last → (e.mode ≡ No)
    ⊎ (¬ (status ≡ Open))
free_of e Open begins last h = inl h.2
free_of e (Closed None) begins last h = inr (λ same. absurd (cc))
free_of e (Closed (Some q)) begins last h = inr (λ same. absurd (cc))

-- a position more
more : (e : Search) (k : ℕ) (status after : Status) (list out next : List ℕ) (found : Option (ℕ × ℕ)) (seen : ℕ → Bool) (begins : Bool)
    (last : Option (ℕ × ℕ)) → e.start ≤ k → k ≤ e.end → after ≡ later status found → ((s : ℕ) → seen s ≡ false)
    → Scans e k seen list [] out found
    → IsDue e k status list → IsHeld e after begins last → Opens e after out next → IsGoing e (k + 1) begins last next
more e k status after list out next found seen begins last low high same none looks due held opens = record {
  status = after;
  held = held;
  low = omega (arith, low);
  due = λ within. next_due e k after out next (may within) opens now;
  over = λ past. settled e k after (free_of e after begins last held) (omega (arith, past))
      (beyond e (k + 1) (IsLastPlace e) (IsLeftOver e k after) out past now);
}
  where
    now : Decides e (k + 1) unseen (IsLastPlace e) (IsLeftOver e k after) out
    now = subst (λ (s : Status). Decides e (k + 1) unseen (IsLastPlace e) (IsLeftOver e k s) out) (sym same)
        (looked e k status list out found seen none looks due)

    may : k + 1 ≤ e.end → after ≡ Open → MayBegin e (k + 1)
    may within is = record {
      start = omega (arith, low);
      end = within;
      anchored = λ anchored. absurd (⊎_elim
          (λ (h : e.mode ≡ No). anchored h)
          (λ (h : ¬ (after ≡ Open)). h is)
          (free_of e after begins last held));
    }

going-match : (e : Search) (k : ℕ) (begins : Bool) (last : Option (ℕ × ℕ)) (list : List ℕ) (p : ℕ) (out : List ℕ)
    → IsGoing e k begins last list → k ≤ e.end
    → IsScanned e k list (Some p) out → IsGoing e (k + 1) false (Some (p, k)) out
going-match e k begins last list p out g high l = go l.found l.scans l.of_pattern
  where
    go : (found : Option (ℕ × ℕ)) → Scans e k l.seen list [] out found → IsOfPattern e k found (Some p) → IsGoing e (k + 1) false (Some (p, k)) out
    go None looks of = absurd of
    go (Some q) looks of =
        more e k g.status (Closed (Some q)) list out out (Some q) l.seen false (Some (p, k)) g.low high refl l.none_seen looks (g.due high)
        (refl, (p, ap (λ (n : ℕ). Some (p, n)) (sym of.1), of.0)) refl

going-closed : (e : Search) (k : ℕ) (begins : Bool) (last : Option (ℕ × ℕ)) (list out : List ℕ) → IsGoing e k begins last list → k ≤ e.end
    → begins ≡ false → IsScanned e k list None out → IsGoing e (k + 1) begins last out
going-closed e k begins last list out g high shut l = go l.found l.scans l.of_pattern g.status g.held (g.due high)
  where
    go : (found : Option (ℕ × ℕ)) → Scans e k l.seen list [] out found → IsOfPattern e k found None → (status : Status)
        → IsHeld e status begins last
        → IsDue e k status list → IsGoing e (k + 1) begins last out
    go (Some q) looks of status held due = absurd of
    go None looks of Open held due = absurd (true≢false (sym held.0 ∙ shut))
    go None looks of (Closed None) held due =
        more e k (Closed None) (Closed None) list out out None l.seen begins last g.low high refl l.none_seen looks due held refl
    go None looks of (Closed (Some q)) held due =
        more e k (Closed (Some q)) (Closed (Some q)) list out out None l.seen begins last g.low high refl l.none_seen looks due held refl

going-open : (e : Search) (k : ℕ) (begins : Bool) (last : Option (ℕ × ℕ)) (list out next : List ℕ) → IsGoing e k begins last list → k ≤ e.end
    → begins ≡ true → IsScanned e k list None out → AddsOne out e.start_state next → IsGoing e (k + 1) begins last next
going-open e k begins last list out next g high free l adds = go l.found l.scans l.of_pattern g.status g.held (g.due high)
  where
    go : (found : Option (ℕ × ℕ)) → Scans e k l.seen list [] out found → IsOfPattern e k found None → (status : Status)
        → IsHeld e status begins last
        → IsDue e k status list → IsGoing e (k + 1) begins last next
    go (Some q) looks of status held due = absurd of
    go None looks of Open held due =
        more e k Open Open list out next None l.seen begins last g.low high refl l.none_seen looks due held adds
    go None looks of (Closed None) held due = absurd (true≢false (sym free ∙ held.0))
    go None looks of (Closed (Some q)) held due = absurd (true≢false (sym free ∙ held.0))

-- ---- a scan, and the list of the next position

pub going-advanced : (e : Search) (k : ℕ) (begins : Bool) (last : Option (ℕ × ℕ)) (list : List ℕ) (found : Option ℕ) (after : Bool) (next : List ℕ)
    → IsGoing e k begins last list → k ≤ e.end → IsAdvanced e k begins list found after next → IsGoing e (k + 1) after (last_with found k last) next
going-advanced e k begins last list found after next g high a = go found begins g a.scanned a.continues
  where
    go : (found : Option ℕ) (begins : Bool) → IsGoing e k begins last list → IsScanned e k list found a.out
        → Continues e.start_state begins found a.out after next → IsGoing e (k + 1) after (last_with found k last) next
    go (Some p) begins g l c = rw (c.0, c.1) (going-match e k begins last list p a.out g high l)
    go None true g l c = rw c.0 (going-open e k true last list a.out next g high refl l c.1)
    go None false g l c = rw (c.0, c.1) (going-closed e k false last list a.out g high refl l)

-- beyond the end of the span no list matters
going-past : (e : Search) (k : ℕ) (begins : Bool) (last : Option (ℕ × ℕ)) (list other : List ℕ) → IsGoing e k begins last list → e.end < k
    → IsGoing e k begins last other
going-past e k begins last list other g past = record {
  status = g.status;
  held = g.held;
  low = g.low;
  due = λ within. absurd (omega (arith, within, past));
  over = g.over;
}

-- what was found beside a small haystack is found at the position
of_placed : (e : Search) (near : List ℕ) (k at : ℕ) (found : Option (ℕ × ℕ)) (pattern : Option ℕ)
    → IsOfPattern (beside (machine_of e) e.mode near) at found pattern → IsOfPattern e k (placed k found) pattern
of_placed e near k at None None h = tt
of_placed e near k at (Some q) (Some p) h = (h.0, refl)
of_placed e near k at None (Some p) h = absurd h
of_placed e near k at (Some q) None h = absurd h

-- a list like the one that continues after the one scan, after another scan that found the same
next_like : (first : ℕ) (begins : Bool) (found : Option ℕ) (out : List ℕ) (after : Bool) (next other : List ℕ)
    → Continues first begins found out after next
    → (like : List ℕ) × Continues first begins found other after like
next_like first begins (Some p) out after next other c = (other, (c.0, refl))
next_like first true None out after next other c = (other ++ first ∷ [], (c.0, inl refl))
next_like first false None out after next other c = (other, (c.0, refl))

-- the same where the scan is beside a small haystack that stands for the position
pub going-near : (e : Search) (k : ℕ) (near : List ℕ) (at : ℕ) (begins : Bool) (last : Option (ℕ × ℕ)) (list : List ℕ) (found : Option ℕ)
    (after : Bool)
    (next : List ℕ) → IsNear e k near at → IsGoing e k begins last list → k ≤ e.end
    → IsAdvanced (beside (machine_of e) e.mode near) at begins list found after next → IsGoing e (k + 1) after (last_with found k last) next
going-near e k near at begins last list found after next n g high a = ⊎_elim within at_end (cases_lt k e.end)
  where
    within : k < e.end → IsGoing e (k + 1) after (last_with found k last) next
    within l = going-advanced e k begins last list found after next g high (record {
      out = a.out;
      scanned = record {
        seen = a.scanned.seen;
        none_seen = a.scanned.none_seen;
        found = placed k a.scanned.found;
        scans = scans-near e k near at n g.low l a.scanned.seen list [] a.out a.scanned.found a.scanned.scans;
        of_pattern = of_placed e near k at a.scanned.found found a.scanned.of_pattern;
      };
      continues = a.continues;
    })

    at_end : e.end ≤ k → IsGoing e (k + 1) after (last_with found k last) next
    at_end l =
        let scans = scans-end e k near at n g.low (omega (arith, l, high)) a.scanned.seen list [] a.out a.scanned.found a.scanned.scans [] in
        let like = next_like e.start_state begins found a.out after next scans.0 a.continues in
        going-past e (k + 1) after (last_with found k last) like.0 next
        (going-advanced e k begins last list found after like.0 g high (record {
          out = scans.0;
          scanned = record {
            seen = a.scanned.seen;
            none_seen = a.scanned.none_seen;
            found = placed k a.scanned.found;
            scans = scans.1;
            of_pattern = of_placed e near k at a.scanned.found found a.scanned.of_pattern;
          };
          continues = like.1;
        })) (omega (arith, l))

-- ---- before the first position

pub going-first : (e : Search) (begins : Bool) (list : List ℕ) → (begins ≡ true → e.mode ≡ No) → (begins ≡ false → ¬ (e.mode ≡ No))
    → list ≡ e.start_state ∷ [] → IsGoing e e.start begins None list
going-first e begins list free anchored is = go begins refl
  where
    -- in an empty span no match begins
    none : e.end < e.start → HasNoFirstMatch e
    none past at may = absurd (omega (arith, may.start, may.end, past))

    first : e.start ≤ e.end
        → Decides e e.start unseen (IsLastPlace e) ((at : ℕ) → e.start ≤ at → at < e.start + 1 → HasNoMatchFrom e at) (e.start_state ∷ [])
    first within = decides-start e e.start (record { start = omega arith; end = within; anchored = λ _. refl }) (λ at low l. absurd (omega (arith, low, l)))

    go : (b : Bool) → begins ≡ b → IsGoing e e.start begins None list
    go true same = record {
      status = Open;
      held = (same, refl, free same);
      low = omega arith;
      due = λ within. subst (λ (l : List ℕ). IsDue e e.start Open l) (sym is) (first within);
      over = none;
    }
    go false same = record {
      status = Closed None;
      held = (same, refl);
      low = omega arith;
      due = λ within. subst (λ (l : List ℕ). IsDue e e.start (Closed None) l) (sym is) (
        (first within).0,
        λ hopeless at may run m.
            (first within).1 hopeless at may.start (omega (arith, may.anchored (anchored same))) run m,
      );
      over = none;
    }

is_no : (mode : Anchored) → (mode ≡ No) ⊎ (¬ (mode ≡ No))
is_no No = inl refl
is_no Yes = inr (λ e. absurd (cc))
is_no (Pattern p) = inr (λ e. absurd (cc))

-- whether matches may begin later
pub free_if : (r : Bool) (m mode : Anchored) → IsTrue r ↔ (¬ (m ≡ No)) → m ≡ mode → not r ≡ true → mode ≡ No
free_if true m mode both same h = absurd (true≢false (sym h))
free_if false m mode both same h = ⊎_elim
    (λ (is : m ≡ No). sym same ∙ is)
    (λ (apart : ¬ (m ≡ No)). absurd (true≢false (sym (both.1 apart))))
    (is_no m)

pub anchored_if : (r : Bool) (m mode : Anchored) → IsTrue r ↔ (¬ (m ≡ No)) → m ≡ mode → not r ≡ false → ¬ (mode ≡ No)
anchored_if false m mode both same h = absurd (true≢false h)
anchored_if true m mode both same h = λ is. both.0 refl (same ∙ is)

pub leftmost-end : (e : Search) (p i : ℕ) → IsEndOf e p i → IsLeftmostEnd e i
leftmost-end e p i x = record { run = x.run; is_first = x.is_first; ends = x.end }
