-- Tables that are filled unit by unit.
use Rattle.std.proofs.Common.{◌≡◌, ◌≢◌, ◌⊎◌, inl, inr, ⊎_elim, ℕ, zero, suc, ◌+◌, ◌<◌, ◌≤◌, Some, List, [], ◌∷◌, length, slice_index, slice_set, refl, sym, subst, ap, ◌∙◌, arith, slice_get, Contains, get_or-set_same, get_or-set_other}
use Rattle.std.proofs.lemmas.Bool.{cases_eq, cases_lt}
use Rattle.std.proofs.lemmas.Option.{slice_get_within, get_or_from_slice_get}
use Rattle.rsc_alphabet.specs.Symbols.{Symbol, byte, number_of}
use Rattle.rsc_uses.specs.Leads.{lead_of, lead_in}
use Rattle.rsc_alphabet.specs.Iterators.{class_at, end_symbol, symbols}

-- each unit is still to come, or its entry has its value
pub record Awaits (entry value : Symbol → ℕ) (row : List ℕ) (left all : List Symbol) : Type 0 where
  pub among : (u : Symbol) → Contains left u → Contains all u
  pub filled : (u : Symbol) → Contains all u → Contains left u ⊎ (slice_index row (entry u) ≡ value u)

later : (x : Symbol) (xs : List Symbol) (q : Symbol) → Contains xs q → Contains (x ∷ xs) q
later x xs q (k, l, e) = (suc k, omega (arith, l), e)

cases : (x : Symbol) (xs : List Symbol) (q : Symbol) → Contains (x ∷ xs) q → (x ≡ q) ⊎ Contains xs q
cases x xs q (zero, l, e) = inl e
cases x xs q (suc k, l, e) = inr (k, omega (arith, l), e)

module _ {entry value : Symbol → ℕ} {row : List ℕ} {left all : List Symbol} (a : Awaits entry value row left all) where
  -- the unit that comes next is one of all
  pub next_is_among : {u : Symbol} {rest : List Symbol} → left ≡ u ∷ rest → Contains all u
  next_is_among {u} e = a.among u (subst (λ xs. Contains xs u) (sym e) (0, omega arith, refl))

  -- units with one entry have one value, so an entry that is filled stays right
  pub one_filled : {u : Symbol} {rest : List Symbol} {at n : ℕ} → left ≡ u ∷ rest → at ≡ entry u → n ≡ value u → at < length row
      → ((v w : Symbol) → Contains all v → Contains all w → entry v ≡ entry w → value v ≡ value w)
      → Awaits entry value (slice_set row at n) rest all
  one_filled {u} {rest} {at} {n} e is_entry is_value within one = record {
    among = λ v c. a.among v (subst (λ xs. Contains xs v) (sym e) (later u rest v c));
    filled = λ v c.
        ⊎_elim
        (λ (same : entry v ≡ at).
        inr (rw same (get_or-set_same row at n 0 within ∙ is_value ∙ sym (one v u c (next_is_among e) (same ∙ is_entry)))))
        (λ (differs : ¬ (entry v ≡ at)). ⊎_elim
        (λ (coming : Contains left v). ⊎_elim
        (λ (now : u ≡ v). absurd (differs (ap entry (sym now) ∙ sym is_entry)))
        (λ (c : Contains rest v). inl c)
        (cases u rest v (subst (λ xs. Contains xs v) e coming)))
        (λ (held : slice_index row (entry v) ≡ value v). inr (get_or-set_other row at (entry v) n 0 differs ∙ held))
        (a.filled v c))
        (cases_eq (entry v) at);
  }

  -- in the end each entry has its value
  pub all_filled : left ≡ [] → {u : Symbol} → Contains all u → slice_index row (entry u) ≡ value u
  all_filled e {u} c =
      ⊎_elim (λ (coming : Contains left u). absurd (let none = subst (λ xs. Contains xs u) e coming in omega (arith, none.1)))
      (λ (held : slice_index row (entry u) ≡ value u). held) (a.filled u c)

Contains-from_get : (xs : List Symbol) (i : ℕ) (u : Symbol) → slice_get xs i ≡ Some u → Contains xs u
Contains-from_get xs i u e = (i, slice_get_within xs i u e, get_or_from_slice_get xs i u u e)

-- the units of a class map have all numbers up to that of the end
pub unit_of_number : (classes : List ℕ) (k : ℕ) → ((c : ℕ) → c ≤ slice_index classes 255 → slice_get (symbols classes) c ≡ Some (byte c))
    → slice_get (symbols classes) (slice_index classes 255 + 1) ≡ Some (end_symbol classes)
    → k < slice_index classes 255 + 2 → (u : Symbol) × (Contains (symbols classes) u × (number_of u ≡ k))
unit_of_number classes k entries last small =
    ⊎_elim
    (λ (low : k < slice_index classes 255 + 1). (byte k, (Contains-from_get (symbols classes) k (byte k) (entries k (omega (arith, low))), refl)))
    (λ (high : slice_index classes 255 + 1 ≤ k). (
      end_symbol classes,
      (Contains-from_get (symbols classes) (slice_index classes 255 + 1) (end_symbol classes) last, omega (arith, small, high)),
    ))
    (cases_lt k (slice_index classes 255 + 1))

-- where a unit leads depends on its class alone
pub one_way : (classes leads : List ℕ) (end : ℕ) (all : List Symbol)
    → ((u : Symbol) → Contains all u → ((b : ℕ) × ((b < 256) × (u ≡ byte b))) ⊎ (u ≡ end_symbol classes))
    → ((b : ℕ) → b < 256 → slice_index classes b ≤ slice_index classes 255)
    → ((b c : ℕ) → b < 256 → c < 256 → slice_index classes b ≡ slice_index classes c → slice_index leads b ≡ slice_index leads c)
    → (v w : Symbol) → Contains all v → Contains all w → class_at classes v ≡ class_at classes w → lead_of leads end v ≡ lead_of leads end w
one_way classes leads end all only rises alike v w in_v in_w same =
    ⊎_elim
    (λ (bv : (b : ℕ) × ((b < 256) × (v ≡ byte b))). ⊎_elim
    (λ (bw : (b : ℕ) × ((b < 256) × (w ≡ byte b))).
    rw (bv.1.1, bw.1.1) (alike bv.0 bw.0 bv.1.0 bw.1.0 (sym (ap (class_at classes) bv.1.1) ∙ same ∙ ap (class_at classes) bw.1.1)))
    (λ (ew : w ≡ end_symbol classes). absurd (apart bv.0 bv.1.0 (sym (ap (class_at classes) bv.1.1) ∙ same ∙ ap (class_at classes) ew)))
    (only w in_w))
    (λ (ev : v ≡ end_symbol classes). ⊎_elim
    (λ (bw : (b : ℕ) × ((b < 256) × (w ≡ byte b))). absurd
    (apart bw.0 bw.1.0 (sym (ap (class_at classes) bw.1.1) ∙ sym same ∙ ap (class_at classes) ev)))
    (λ (ew : w ≡ end_symbol classes). ap (lead_of leads end) (ev ∙ sym ew))
    (only w in_w))
    (only v in_v)
  where
    apart : (b : ℕ) → b < 256 → slice_index classes b ≡ slice_index classes 255 + 1 → ⊥
    apart b l e = let most = rises b l in omega (arith, most, e)

-- a unit's class has an entry in a row of as many entries as there are units
pub class_within : (classes : List ℕ) (u : Symbol) → ((b : ℕ) × ((b < 256) × (u ≡ byte b))) ⊎ (u ≡ end_symbol classes)
    → ((b : ℕ) → b < 256 → slice_index classes b ≤ slice_index classes 255) → class_at classes u < slice_index classes 255 + 2
class_within classes u is rises =
    ⊎_elim
    (λ (b : (b : ℕ) × ((b < 256) × (u ≡ byte b))). let most = rises b.0 b.1.0 in rw (b.1.1) (omega (arith, most)))
    (λ (e : u ≡ end_symbol classes). rw e (omega arith))
    is

-- ---- a row of leads, one byte after the other

-- one byte more
pub lead_more : (leads : List ℕ) (ranges : List (ℕ × ℕ)) (n lead : ℕ) → n < length leads
    → ((b : ℕ) → b < n → slice_index leads b ≡ lead_in ranges b) → lead ≡ lead_in ranges n
    → (b : ℕ) → b < n + 1 → slice_index (slice_set leads n lead) b ≡ lead_in ranges b
lead_more leads ranges n lead room so_far is b l =
    ⊎_elim
    (λ (low : b < n). let differ : b ≢ n = omega (arith, low) in get_or-set_other leads n b lead 0 differ ∙ so_far b low)
    (λ (high : n ≤ b).
    let here : b ≡ n = omega (arith, high, l) in
    subst (λ x. slice_index (slice_set leads n lead) x ≡ lead_in ranges x) (sym here) (get_or-set_same leads n lead 0 room ∙ is))
    (cases_lt b n)
