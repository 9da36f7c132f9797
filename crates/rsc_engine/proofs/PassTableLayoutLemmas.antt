-- The table of both passes: what it says is so, and stays so as it grows.
use Rattle.std.proofs.Common.{◌≡◌, ℕ, zero, suc, ◌+◌, ◌*◌, ◌<◌, ◌≤◌, ◌⊎◌, ⊎_elim, inl, inr, Bool, false, true, List, [], ◌∷◌, ◌++◌, length, get_or, set, slice_index_or, refl, sym, ◌∙◌, subst, arith, length-append, slice_get, Option, Some, None, IfSome}
use Rattle.std.proofs.lemmas.Bool.{cases_eq}
use Rattle.std.proofs.lemmas.Grind.{get_or-set_at}
use Rattle.std.proofs.lemmas.List.{get_or-set_other, length-set}
use Rattle.std.proofs.lemmas.List.Elements.{All-nil, All-push}
use Rattle.std.proofs.lemmas.Option.{slice_get_within, get_or_from_slice_get}
use Rattle.std.specs.List.{All}
use Rattle.rsc_alphabet.specs.Partitions.{LastClassIsGreatest}
use Rattle.rsc_alphabet.specs.Iterators.{symbol_count}
use Rattle.rsc_look.specs.LookSets.{Looks}
use Rattle.rsc_search.specs.declared.anchored.Anchored.{Anchored}
use Rattle.rsc_engine.specs.declared.dfa.pass_table.PassRow.{PassRow}
use Rattle.rsc_engine.specs.declared.dfa.beyond.BeyondStep.{BeyondStep}
use Rattle.rsc_engine.specs.declared.dfa.entries.Lead.{Lead}
use Rattle.rsc_engine.specs.declared.dfa.entries.Lead.TheVariants.{Unknown, To, WithMatch}
use Rattle.rsc_engine.specs.Searches.{Search}
use Rattle.rsc_engine.specs.LawfulLayout.{Lawful}
use Rattle.rsc_engine.specs.RowsLayout.{Machine, machine_of, Alike, IsPlan, IsPlainUnit}
use Rattle.rsc_engine.specs.ForwardLayout.{found_in}
use Rattle.rsc_engine.specs.BackwardLayout.{begins_in}
use Rattle.rsc_engine.specs.PassTableLayout.{column, row_of, plain_row_of, IsPassRow, IsPassStep, IsPassLed, IsPassTo, IsSoundPassRow, KnowsNoMatch, IsPassStepAt, AreHolding, unit_at, IsBeyondTo, IsBeyondStep, IsBeyondAt, AreFew, IsPassTable, IsPassGrown}
use Rattle.rsc_engine.proofs.LawfulLayoutLemmas.{Alike-self, Alike-trans}

-- ---- a search

pub some_same : {X : Type 0} → (x y : X) → Some x ≡ Some y → x ≡ y
some_same x y e = cc

pub plain_alike : (m : Machine) (classes : List ℕ) (width : ℕ) (unicode : Bool) (p q : Option ℕ) → IsPlan m classes width unicode
    → Alike classes p q → IsPlainUnit m q → IsPlainUnit m p
plain_alike m classes width unicode None None plan a x = x
plain_alike m classes width unicode (Some b) (Some c) plan a x = λ is. plan.parted is c b (x is) a.0 (sym a.2)
plain_alike m classes width unicode None (Some q) plan a x = absurd a
plain_alike m classes width unicode (Some p) None plan a x = absurd a

-- what a search knows throughout
pub record IsSearched (e : Search) (classes : List ℕ) (width : ℕ) (unicode : Bool) : Type 0 where
  pub laws : Lawful
  pub plan : IsPlan (machine_of e) classes width unicode
  pub within : e.end ≤ length e.haystack

-- ---- rows stay where they are

pub get_before : {X : Type 0} → (xs : List X) (x y : X) (k : ℕ) → slice_get xs k ≡ Some y → slice_get (xs ++ x ∷ []) k ≡ Some y
get_before [] x y k e = absurd (cc)
get_before (z ∷ xs) x y zero e = e
get_before (z ∷ xs) x y (suc k) e = get_before xs x y k e

pub get_last : {X : Type 0} → (xs : List X) (x : X) → slice_get (xs ++ x ∷ []) (length xs) ≡ Some x
get_last [] x = refl
get_last (z ∷ xs) x = get_last xs x

pub IsPassGrown-push : (rows : List PassRow) (row : PassRow) → IsPassGrown rows (rows ++ row ∷ [])
IsPassGrown-push rows row = record { kept = λ k y e. get_before rows row y k e }

pub IsPassRow-last : (classes : List ℕ) (rows : List PassRow) (row : PassRow) (k : ℕ) → k ≡ length rows → IfSome row.read (λ b. b < 256)
    → IsPassRow classes (rows ++ row ∷ []) k row.backward row.mode row.begins row.found row.read row.list.items
IsPassRow-last classes rows row k at byte = record {
  to = row;
  there = subst (λ (i : ℕ). slice_get (rows ++ row ∷ []) i ≡ Some row) (sym at) (get_last rows row);
  same_pass = refl;
  same_mode = refl;
  same_begins = refl;
  same_found = refl;
  alike = Alike-self classes row.read row.read refl byte;
  is_list = refl;
}

IsPassRow-grown : (classes : List ℕ) (old new : List PassRow) (k : ℕ) (backward : Bool) (mode : Anchored) (begins : Bool) (found read : Option ℕ)
    (list : List ℕ) → IsPassGrown old new → IsPassRow classes old k backward mode begins found read list
    → IsPassRow classes new k backward mode begins found read list
IsPassRow-grown classes old new k backward mode begins found read list g x = record {
  to = x.to;
  there = g.kept k x.to x.there;
  same_pass = x.same_pass;
  same_mode = x.same_mode;
  same_begins = x.same_begins;
  same_found = x.same_found;
  alike = x.alike;
  is_list = x.is_list;
}

IsPassLed-grown : (m : Machine) (classes : List ℕ) (old new : List PassRow) (from : PassRow) (unit : Option ℕ) (next : ℕ) → IsPassGrown old new
    → IsPassLed m classes old from unit next → IsPassLed m classes new from unit next
IsPassLed-grown m classes old new from unit next g x = record {
  found = x.found;
  after = x.after;
  list = x.list;
  is_row = IsPassRow-grown classes old new next from.backward from.mode x.after x.found unit x.list g x.is_row;
  step = x.step;
}

-- from rows that grew to the same rows
pub IsPassTo-kept : (m : Machine) (classes : List ℕ) (old new : List PassRow) (row : ℕ) (unit : Option ℕ) (next : ℕ) → IsPassGrown old new
    → IsPassTo m classes old new row unit next → IsPassTo m classes new new row unit next
IsPassTo-kept m classes old new row unit next g x = record {
  from = x.from;
  there = g.kept row x.from x.there;
  other = x.other;
  alike = x.alike;
  plain_read = x.plain_read;
  plain = x.plain;
  leads = x.leads;
}

IsPassTo-grown : (m : Machine) (classes : List ℕ) (old new : List PassRow) (row : ℕ) (unit : Option ℕ) (next : ℕ) → IsPassGrown old new
    → IsPassTo m classes old old row unit next → IsPassTo m classes new new row unit next
IsPassTo-grown m classes old new row unit next g x = IsPassTo-kept m classes old new row unit next g (record {
  from = x.from;
  there = x.there;
  other = x.other;
  alike = x.alike;
  plain_read = x.plain_read;
  plain = x.plain;
  leads = IsPassLed-grown m classes old new x.from x.other next g x.leads;
})

IsPassTo-alike : (m : Machine) (classes : List ℕ) (old new : List PassRow) (row : ℕ) (unit other : Option ℕ) (next : ℕ) → Alike classes unit other
    → IsPassTo m classes old new row other next → IsPassTo m classes old new row unit next
IsPassTo-alike m classes old new row unit other next a x = record {
  from = x.from;
  there = x.there;
  other = x.other;
  alike = Alike-trans classes unit other x.other a x.alike;
  plain_read = x.plain_read;
  plain = x.plain;
  leads = x.leads;
}

-- the same of a step beside a byte above 7F
pub IsBeyondTo-kept : (m : Machine) (classes : List ℕ) (old new : List PassRow) (row : ℕ) (unit : Option ℕ) (looks : Looks) (next : ℕ)
    → IsPassGrown old new
    → IsBeyondTo m classes old new row unit looks next → IsBeyondTo m classes new new row unit looks next
IsBeyondTo-kept m classes old new row unit looks next g x = record {
  from = x.from;
  there = g.kept row x.from x.there;
  haystack = x.haystack;
  at = x.at;
  within = x.within;
  read = x.read;
  byte = x.byte;
  holding = x.holding;
  found = x.found;
  after = x.after;
  list = x.list;
  is_row = x.is_row;
  step = x.step;
}

IsBeyondTo-grown : (m : Machine) (classes : List ℕ) (old new : List PassRow) (row : ℕ) (unit : Option ℕ) (looks : Looks) (next : ℕ)
    → IsPassGrown old new
    → IsBeyondTo m classes old old row unit looks next → IsBeyondTo m classes new new row unit looks next
IsBeyondTo-grown m classes old new row unit looks next g x = IsBeyondTo-kept m classes old new row unit looks next g (record {
  from = x.from;
  there = x.there;
  haystack = x.haystack;
  at = x.at;
  within = x.within;
  read = x.read;
  byte = x.byte;
  holding = x.holding;
  found = x.found;
  after = x.after;
  list = x.list;
  is_row = IsPassRow-grown classes old new next x.from.backward x.from.mode x.after x.found unit x.list g x.is_row;
  step = x.step;
})

-- ---- entries

pub column_below : (classes : List ℕ) (width : ℕ) (unit : Option ℕ) → width ≡ symbol_count classes → LastClassIsGreatest classes
    → IfSome unit (λ b. b < 256) → column classes unit < width
column_below classes width None e bounded b = omega (arith, e)
column_below classes width (Some u) e bounded b = omega (arith, e, bounded.within u b)

pub column_alike : (classes : List ℕ) (u v : Option ℕ) → LastClassIsGreatest classes → IfSome u (λ b. b < 256) → IfSome v (λ b. b < 256)
    → column classes u ≡ column classes v → Alike classes u v
column_alike classes None None bounded a b e = tt
column_alike classes (Some u) (Some v) bounded a b e = (a, b, e)
column_alike classes None (Some v) bounded a b e = absurd (omega (arith, e, bounded.within v b))
column_alike classes (Some u) None bounded a b e = absurd (omega (arith, e, bounded.within u a))

-- entries at one index are of one row and one column, as a law of rsc_alphabet says
abbrev pub AreApart : Type 0
AreApart = (width row column row2 column2 : ℕ) → column < width → column2 < width → row * width + column ≡ row2 * width + column2
    → (row ≡ row2) × (column ≡ column2)

pub map_some : {X : Type 0} → (o : Option X) (P Q : X → Type 0) → ((x : X) → P x → Q x) → IfSome o P → IfSome o Q
map_some None P Q f x = x
map_some (Some y) P Q f x = f y x

-- an entry that says nothing, or what holds
pub written_so : {X : Type 0} → (o : Option X) (step : X) (P : X → Type 0) → (o ≡ None) ⊎ (o ≡ Some step) → P step → IfSome o P
written_so None step P w x = tt
written_so (Some y) step P (inl e) x = absurd (cc)
written_so (Some y) step P (inr e) x = let same : step ≡ y = cc in subst P same x

pub few-pushed : (most : ℕ) (rows : List PassRow) (row : PassRow) → AreFew most (length rows + 1) → AreFew most (length (rows ++ row ∷ []))
few-pushed most rows row f = rw (length-append rows (row ∷ [])) f

pub empty-table : (m : Machine) (classes : List ℕ) (width most : ℕ) (rows : List PassRow) (leads : List Lead) (beyond : List (Option BeyondStep))
    → rows ≡ [] → leads ≡ [] → beyond ≡ [] → IsPassTable m classes width most rows leads beyond
empty-table m classes width most rows leads beyond none nothing no_step = rw (none, nothing, no_step) (record {
  few = inr (omega arith);
  sound = All-nil (IsSoundPassRow m);
  room = omega arith;
  each = λ k unit b. tt;
  plain = λ k unit b. tt;
  steps = λ i. tt;
})

-- an entry that leads to a row that isn't marked does so when the rows have grown
plain-push : (m : Machine) (classes : List ℕ) (rows : List PassRow) (row : PassRow) (k : ℕ) (unit : Option ℕ) (lead : Lead)
    → IfSome (row_of lead) (IsPassTo m classes rows rows k unit) → IfSome (plain_row_of lead) (λ next. KnowsNoMatch (slice_get rows next))
    → IfSome (plain_row_of lead) (λ next. KnowsNoMatch (slice_get (rows ++ row ∷ []) next))
plain-push m classes rows row k unit Unknown to x = tt
plain-push m classes rows row k unit (To next) to x = subst (λ (o : Option PassRow). KnowsNoMatch o)
    (to.leads.is_row.there ∙ sym (get_before rows row to.leads.is_row.to next to.leads.is_row.there)) x
plain-push m classes rows row k unit (WithMatch next) to x = tt

pub plain-made : (rows : List PassRow) (next : ℕ) (marked : Bool) (o : Option ℕ) → (marked ≡ false → KnowsNoMatch (slice_get rows next))
    → IfSome o (λ n. (n ≡ next) × (marked ≡ false)) → IfSome o (λ n. KnowsNoMatch (slice_get rows n))
plain-made rows next marked None none x = tt
plain-made rows next marked (Some n) none x = subst (λ (k : ℕ). KnowsNoMatch (slice_get rows k)) (sym x.0) (none x.1)

pub IsPassTable-wider : (m : Machine) (classes : List ℕ) (width most : ℕ) (rows : List PassRow) (leads wider : List Lead)
    (beyond : List (Option BeyondStep))
    → IsPassTable m classes width most rows leads beyond → ((i : ℕ) → slice_index_or wider i Unknown ≡ slice_index_or leads i Unknown)
    → length leads ≤ length wider → IsPassTable m classes width most rows wider beyond
IsPassTable-wider m classes width most rows leads wider beyond x same longer = record {
  few = x.few;
  sound = x.sound;
  room = omega (arith, x.room, longer);
  each = λ k unit b. rw (same (k * width + column classes unit)) (x.each k unit b);
  plain = λ k unit b. rw (same (k * width + column classes unit)) (x.plain k unit b);
  steps = x.steps;
}

pub IsPassTable-push : (m : Machine) (classes : List ℕ) (width most : ℕ) (rows : List PassRow) (leads : List Lead) (beyond : List (Option BeyondStep))
    (row : PassRow) → IsPassTable m classes width most rows leads beyond → AreFew most (length rows + 1) → IsSoundPassRow m row
    → length rows * width + width ≤ length leads → IsPassTable m classes width most (rows ++ row ∷ []) leads beyond
IsPassTable-push m classes width most rows leads beyond row x few sound room = record {
  few = few-pushed most rows row few;
  sound = All-push (IsSoundPassRow m) rows row x.sound sound;
  room = rw (length-append rows (row ∷ [])) (omega (arith, room));
  each = λ k unit b. map_some (row_of (slice_index_or leads (k * width + column classes unit) Unknown)) (IsPassTo m classes rows rows k unit)
      (IsPassTo m classes (rows ++ row ∷ []) (rows ++ row ∷ []) k unit)
      (λ next s. IsPassTo-grown m classes rows (rows ++ row ∷ []) k unit next (IsPassGrown-push rows row) s) (x.each k unit b);
  plain = λ k unit b. plain-push m classes rows row k unit (slice_index_or leads (k * width + column classes unit) Unknown) (x.each k unit b)
      (x.plain k unit b);
  steps = λ i. map_some (slice_index_or beyond i None) (IsBeyondStep m classes rows) (IsBeyondStep m classes (rows ++ row ∷ []))
      (λ step s. IsBeyondTo-grown m classes rows (rows ++ row ∷ []) step.row step.unit step.looks step.next (IsPassGrown-push rows row) s) (x.steps i);
}

pub IsPassTable-set : (law : AreApart) (m : Machine) (classes : List ℕ) (width most : ℕ) (rows : List PassRow) (leads : List Lead)
    (beyond : List (Option BeyondStep)) (row entry : ℕ) (unit : Option ℕ) (next : ℕ) (lead : Lead) → IsPassTable m classes width most rows leads beyond
    → width ≡ symbol_count classes → LastClassIsGreatest classes
    → IfSome unit (λ b. b < 256) → IsPassTo m classes rows rows row unit next → (row_of lead ≡ None) ⊎ (row_of lead ≡ Some next)
    → IfSome (plain_row_of lead) (λ n. KnowsNoMatch (slice_get rows n))
    → entry ≡ row * width + column classes unit → entry < length leads → IsPassTable m classes width most rows (set leads entry lead) beyond
IsPassTable-set law m classes width most rows leads beyond row entry unit next lead x columns bounded byte s says unmarked at below = record {
  few = x.few;
  sound = x.sound;
  room = rw (length-set leads entry lead) x.room;
  each = each;
  plain = λ k u b. ⊎_elim
      (λ (same : k * width + column classes u ≡ entry).
      rw (get_or-set_at leads entry (k * width + column classes u) lead Unknown same below) unmarked)
      (λ (apart : (k * width + column classes u ≡ entry) → ⊥).
      rw (get_or-set_other leads entry (k * width + column classes u) lead Unknown apart) (x.plain k u b))
      (cases_eq (k * width + column classes u) entry);
  steps = x.steps;
}
  where
    each : (k : ℕ) (u : Option ℕ) → IfSome u (λ b. b < 256)
        → IfSome (row_of (get_or (set leads entry lead) (k * width + column classes u) Unknown)) (IsPassTo m classes rows rows k u)
    each k u b = ⊎_elim
        (λ (same : k * width + column classes u ≡ entry).
        let one = law width k (column classes u) row (column classes unit) (column_below classes width u columns bounded b)
        (column_below classes width unit columns bounded byte) (same ∙ at) in
        rw (get_or-set_at leads entry (k * width + column classes u) lead Unknown same below)
        (written_so (row_of lead) next (IsPassTo m classes rows rows k u) says
        (IsPassTo-alike m classes rows rows k u unit next (column_alike classes u unit bounded b byte one.1)
        (subst (λ (r : ℕ). IsPassTo m classes rows rows r unit next) (sym one.0) s))))
        (λ (apart : (k * width + column classes u ≡ entry) → ⊥).
        rw (get_or-set_other leads entry (k * width + column classes u) lead Unknown apart) (x.each k u b))
        (cases_eq (k * width + column classes u) entry)

-- ---- what is made

pub beyond_made : (m : Machine) (classes : List ℕ) (old new : List PassRow) (row next : ℕ) (from : PassRow) (unit : Option ℕ) (looks : Looks)
    (h : List ℕ) (i : ℕ) (found : Option ℕ) (after : Bool) (list : List ℕ) → slice_get old row ≡ Some from → i ≤ length h
    → ((any : PassRow) → slice_get old row ≡ Some any → unit_at any.backward h i ≡ unit) → IfSome unit (λ b. b < 256) → AreHolding m h i looks
    → IsPassRow classes new next from.backward from.mode after found unit list
    → IsPassStepAt m from.mode from.backward h i from.begins from.list.items found after list → IsBeyondTo m classes old new row unit looks next
beyond_made m classes old new row next from unit looks h i found after list there within read byte holding r x = record {
  from = from;
  there = there;
  haystack = h;
  at = i;
  within = within;
  read = read from there;
  byte = byte;
  holding = holding;
  found = found;
  after = after;
  list = list;
  is_row = r;
  step = x;
}

pub pass_made : (m : Machine) (classes : List ℕ) (old new : List PassRow) (row next : ℕ) (from : PassRow) (unit : Option ℕ) (found : Option ℕ)
    (after : Bool) (list : List ℕ) → slice_get old row ≡ Some from → IfSome unit (λ b. b < 256) → IsPlainUnit m from.read → IsPlainUnit m unit
    → IsPassRow classes new next from.backward from.mode after found unit list
    → IsPassStep m from.mode from.backward from.read from.begins from.list.items unit found after list
    → IsPassTo m classes old new row unit next
pass_made m classes old new row next from unit found after list there byte plain_read plain r x = record {
  from = from;
  there = there;
  other = unit;
  alike = Alike-self classes unit unit refl byte;
  plain_read = plain_read;
  plain = plain;
  leads = record { found = found; after = after; list = list; is_row = r; step = x };
}

pub beyond-here : (m : Machine) (classes : List ℕ) (old new : List PassRow) (row : ℕ) (h : List ℕ) (i next : ℕ) (from : PassRow) (unit : Option ℕ)
    (looks : Looks) → slice_get old row ≡ Some from → unit ≡ unit_at from.backward h i → AreHolding m h i looks
    → IsBeyondTo m classes old new row unit looks next → IsBeyondAt m classes old new row h i next
beyond-here m classes old new row h i next from unit looks there is holding x = record {
  unit = unit;
  looks = looks;
  holding = holding;
  to = x;
  read = subst (λ (r : PassRow). unit_at r.backward h i ≡ unit) (some_same from x.from (sym there ∙ x.there)) (sym is);
}

pub sound_at : (m : Machine) (rows : List PassRow) (k : ℕ) (row : PassRow) → All (IsSoundPassRow m) rows → slice_get rows k ≡ Some row
    → IsSoundPassRow m row
sound_at m rows k row all there =
    subst (IsSoundPassRow m) (get_or_from_slice_get rows k row row there) (all k row (slice_get_within rows k row there))

-- the row to which an entry leads is there
pub led-there : (m : Machine) (classes : List ℕ) (old new : List PassRow) (row : ℕ) (unit : Option ℕ) (next : ℕ)
    → IsPassTo m classes old new row unit next
    → next < length new
led-there m classes old new row unit next x = slice_get_within new next x.leads.is_row.to x.leads.is_row.there

-- ---- a row that isn't marked

pub no_match-none : (o : Option PassRow) → KnowsNoMatch o → found_in o ≡ None
no_match-none None x = refl
no_match-none (Some row) x = x.0

pub no_match-begins : (o : Option PassRow) (row : PassRow) → o ≡ Some row → row.backward ≡ true → KnowsNoMatch o → begins_in o ≡ false
no_match-begins None row is back x = refl
no_match-begins (Some other) row is back x =
    let same : other ≡ row = some_same other row is in
    x.1 (subst (λ (r : PassRow). r.backward ≡ true) (sym same) back)
