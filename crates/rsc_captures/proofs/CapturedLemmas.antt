-- The span of a group, the spans of all groups, and the pieces that they cut.
use Rattle.std.proofs.Common.{◌≡◌, ℕ, ◌+◌, ◌≤◌, List, length, get_or, Option, Some, None, refl, option_and_then, suc, ◌-◌, ◌<◌, ◌∷◌, map, ap, arith, zero, Bool, true, false, cond, [], ◌++◌, take, sym, ◌∙◌, eqb, append_assoc, option_map}
use Rattle.std.proofs.lemmas.List.{get_or_past, map-append, length_push}
use Rattle.rsc_captures.proofs.Prelude.{Span, span_at, Captured, group_span, matched_group_count, matched_spans, participating_spans, spans_from, participating_from, all_some, pieces}
use Rattle.std.specs.List.{filter_map, range_with_len}
use Rattle.std.proofs.lemmas.List.FromFn.{length-map-range_with_len, get_or-map-range_with_len}
use Rattle.std.proofs.lemmas.Grind.{common_steps}
use Rattle.std.proofs.Math.Seq.{take-append_seam}
pub use Rattle.std.proofs.Common.{ℕ, List, ◌++◌, append-nil, [], ◌∷◌, sym, subst, refl}
pub use mir.Syntax.{named, a_number, ty_struct, ty_ptr, ty_int, tcons, tnil, w64, Ty}
pub use mir.MapTy.{inst_fn}
pub use base.Logic.{id⊢, SProp, ent, sep, emp, via, emp∗, mono_l}
pub use types.Kit.{‵, raw, ◌⊛◌, some, later, ◌$◌, ◌∵◌, !, qed, done, move, drop, use1, use2, split, join, pick, await, suffices, group}
pub use types.Run.{enter, no_more, and_then, returns}
pub use types.ByLocal.{alloc_all, pass_all, free_all, look_at, get, lands_as}
pub use contract.BorrowLft.{◌⊑◌, ⊑_refl}
pub use contract.Running.{tables}
pub use denote.Exit.{yes, no}
pub use denote.Laws.{shows, Lawful}
pub use denote.Param.{number, layouts, Types, arg, ArrayAt, param}
pub use denote.Param.Laws.{arg_laws, arg_copy, Laws, IsCopy, of_field, of_copyable, number_array_laws}
pub use denote.RattleType.{RattleType}
pub use denote.Ref.{shr_vals, shr_Tells, NamedLft}
pub use denote.Signature.{Slot, plain}
pub use denote.Slice.{shr_slice_vals}
pub use denote.Steps.{nothing, peeks, heard}
pub use denote.Struct.Field.{Field, u8-field, shr_slice_field}
pub use denote.Triple.Call.{calls_at}
pub use denote.Triple.Clauses.{Ended, lasts, at_exit}
pub use denote.Triple.Entry.{on_entry, alive}
pub use denote.Triple.Spec.{triple_of}
pub use denote.Triple.Table.{framed}
pub use denote.Triple.Walked.{Stays, says, stay_dropped, Goes-dropped, ends_at}
pub use Rattle.std.proofs.raw_atomic.Walks.{proved}
use seplogic.Ra.Ura.{Ura}
use types.Logic.{Logic}
use contract.Lifetimes.{Lfts}
use contract.Monad.{fact, fact_i}
use denote.Builtin.{u8, RefOf}
use denote.Enum.Loose.{loose_lawful}
use denote.Param.Shared.{copy_shared}
use denote.Struct.Laws.{FLaws, Copyable, u8-laws, u8-copy, shr_slice_laws, shr_slice_copy}
use denote.Struct.Tuple.{Tuple, tuple_laws}
use Rattle.std.proofs.option.Option.TheLaws.{the_loose}
use Rattle.std.specs.contracts.impls.GlobalAllocator.TheImpl.{ghosts}
use Rattle.rsc_captures.specs.contracts.captures.Captures.{the_row}
use Rattle.std.specs.contracts.option.Option as option
use Rattle.std.specs.contracts.alloc.Global as global

-- ---- a span needs both slots

no_span : (offset : Option ℕ) (none : ℕ → Option Span) → ((from : ℕ) → none from ≡ None) → option_and_then none offset ≡ None
no_span None none is = refl
no_span (Some from) none is = is from

-- there is no span where the second slot isn't there
pub none_past : (offsets : List (Option ℕ)) (slot : ℕ) → length offsets ≤ slot + 1 → span_at offsets slot ≡ None
none_past offsets slot le = no_span (get_or offsets slot None) _ (λ from. rw (get_or_past offsets (slot + 1) None le) refl)

-- ---- the steps of the iterator over the groups of the pattern that matched

-- a span or none for each group
pub spans_counted : (c : Captured) (i n : ℕ) → length (map (group_span c) (range_with_len i n)) ≡ n
spans_counted c = length-map-range_with_len (group_span c)

-- the groups from one on, and the first of them
range_step : (c : Captured) (i : ℕ) → i < matched_group_count c
    → range_with_len i (matched_group_count c - i) ≡ i ∷ range_with_len (i + 1) (matched_group_count c - (i + 1))
range_step c i lt = let more : matched_group_count c - i ≡ suc (matched_group_count c - (i + 1)) = omega arith in rw more refl

-- the spans from a group on, and the first of them
pub spans_from_first : (c : Captured) (i : ℕ) → i < matched_group_count c → spans_from c i ≡ group_span c i ∷ spans_from c (i + 1)
spans_from_first c i lt = ap (map (group_span c)) (range_step c i lt)

-- the next group participates, or it doesn't
pub participating_step : (c : Captured) (i : ℕ) → i < matched_group_count c
    → participating_from c i ≡ filter_map (group_span c) (i ∷ range_with_len (i + 1) (matched_group_count c - (i + 1)))
participating_step c i lt = ap (filter_map (group_span c)) (range_step c i lt)

-- from the first group on these are all
pub all_participating : (c : Captured) → participating_spans c ≡ participating_from c 0
all_participating c = let all : matched_group_count c ≡ matched_group_count c - 0 = omega arith in ap (λ n. filter_map (group_span c) (range_with_len 0 n)) all

-- the span of a group is at its index
pub span_by_index : (c : Captured) (i : ℕ) → i < matched_group_count c → get_or (matched_spans c) i None ≡ group_span c i
span_by_index c i lt = get_or-map-range_with_len (group_span c) 0 (matched_group_count c) i i None (omega arith) (omega arith)

-- ---- the pieces that the first groups cut, as a loop over the groups finds them

all_some_push : {X : Type 0} (xs : List (Option X)) (ys : List X) (y : X) → all_some xs ≡ Some ys
    → all_some (xs ++ Some y ∷ []) ≡ Some (ys ++ y ∷ [])
all_some_push [] ys y e = let none : [] ≡ ys = cc in rw (← none) refl
all_some_push (None ∷ xs) ys y e = cc
all_some_push {X} (Some x ∷ xs) ys y e =
    elim (all_some xs) as (λ o. all_some xs ≡ o → option_map (λ zs. x ∷ zs) o ≡ Some ys
    → all_some (Some x ∷ (xs ++ Some y ∷ [])) ≡ Some (ys ++ y ∷ [])) [
      | None ↦ λ is f. cc
      | Some zs ↦ λ is f. let same : x ∷ zs ≡ ys = cc in rw (all_some_push xs zs y is, ← same) refl
    ] refl e

all_some_none : {X : Type 0} (xs ys : List (Option X)) → all_some (xs ++ None ∷ ys) ≡ None
all_some_none [] ys = refl
all_some_none (None ∷ xs) ys = refl
all_some_none (Some x ∷ xs) ys = rw (all_some_none xs ys) refl

cond_same : (b : Bool) → cond {A = Option (List (List ℕ))} b None None ≡ None
cond_same true = refl
cond_same false = refl

take_past : {X : Type 0} (xs : List X) (y : X) (ys : List X) (n : ℕ) → length xs < n → (zs : List X) × (take n (xs ++ y ∷ ys) ≡ xs ++ y ∷ zs)
take_past xs y ys zero lt = absurd (omega arith)
take_past [] y ys (suc n) lt = (take n ys, refl)
take_past (x ∷ xs) y ys (suc n) lt = let rest : (zs : List _)
    × (take n (xs ++ y ∷ ys) ≡ xs ++ y ∷ zs) = take_past xs y ys n (omega arith) in (rest.0, ap (λ zs. x ∷ zs) rest.1)

-- what a loop over the groups has found, before it goes on at `next`
pub record FoundSoFar (cut : Span → Option (List ℕ)) (c : Captured) (next n : ℕ) (found : List (List ℕ)) : Type 0 where
  pub before : List Span
  pub split : participating_spans c ≡ before ++ participating_from c next
  pub count : length before ≡ n
  pub cuts : all_some (map cut before) ≡ Some found

-- nothing is found yet
pub found_none : (cut : Span → Option (List ℕ)) (c : Captured) → FoundSoFar cut c 0 0 []
found_none cut c = record { before = []; split = all_participating c; count = refl; cuts = refl }

module _ {cut : Span → Option (List ℕ)} {c : Captured} {next k : ℕ} {found : List (List ℕ)} (so_far : FoundSoFar cut c next k found) where
  -- one span more has its piece
  pub found_more : (after : ℕ) (span : Span) (piece : List ℕ) → participating_from c next ≡ span ∷ participating_from c after
      → cut span ≡ Some piece
      → FoundSoFar cut c after (k + 1) (found ++ piece ∷ [])
  found_more after span piece step cuts = record {
    before = so_far.before ++ span ∷ [];
    split = so_far.split ∙ ap (λ rest. so_far.before ++ rest) step ∙ sym (append_assoc so_far.before (span ∷ []) (participating_from c after));
    count = length_push so_far.before span ∙ ap (λ k. k + 1) so_far.count;
    cuts = rw (map-append, cuts) (all_some_push (map cut so_far.before) found piece so_far.cuts);
  }

  -- a span that cuts nothing out ends it
  pub pieces_bad : (n : ℕ) (span : Span) (after : List Span) → k < n → participating_from c next ≡ span ∷ after → cut span ≡ None
      → pieces cut n (participating_spans c) ≡ None
  pieces_bad n span after lt step bad =
      let split : participating_spans c ≡ so_far.before ++ span ∷ after = so_far.split ∙ ap (λ rest. so_far.before ++ rest) step in
      let taken = take_past so_far.before span after n (omega (arith, so_far.count)) in
      let none : all_some (map cut (take n (participating_spans c))) ≡ None =
      rw (split, taken.1, map-append, bad) (all_some_none (map cut so_far.before) (map cut taken.0)) in
      rw none (cond_same (eqb (length (take n (participating_spans c))) n))

  -- all pieces are found
  pub pieces_whole : pieces cut k (participating_spans c) ≡ Some found
  pieces_whole =
      let taken : take k (participating_spans c) ≡ so_far.before =
      rw (so_far.split, ← so_far.count) (take-append_seam so_far.before (participating_from c next)) in
      let same : eqb (length so_far.before) k ≡ true = grind (arith, common_steps, so_far.count) in
      rw (taken, same) so_far.cuts

-- ---- what `extract` and `extract_bytes` pass on for `H` and return, over the haystack's type as a field F. Their result is lawful, where
-- `Result-lawful` assumes `Logic`. The names that both proofs cite are passed on from here.

-- captures over the usual allocator
abbrev pub captures_row : RattleType
captures_row = the_row global.the_row ghosts

-- `&self`, at the signature's first lifetime; and its second, which is the haystack's
abbrev pub self_slot : Slot 3
self_slot = RefOf (0 ∷ []) tt (plain (λ κs. captures_row)) (λ κs. tt)

-- the second lifetime of three
abbrev pub second : Lfts 3 → NamedLft
second κs = record { mir = named 1; lft = κs.1.0 }

-- `&[u8]`
abbrev pub bytes-field : NamedLft → Field
bytes-field a = shr_slice_field a u8 tt

-- the laws of a slice of bytes as a field
abbrev pub bytes-laws : (a : NamedLft) → FLaws (bytes-field a)
bytes-laws a = shr_slice_laws a u8 tt

-- the laws of a byte
abbrev pub u8_laws : Laws u8
u8_laws = of_field u8-field u8-laws refl (copy_shared u8-field u8-copy)

abbrev pub bytes-copy : (a : NamedLft) → Copyable (bytes-field a)
bytes-copy a = shr_slice_copy a u8 tt u8_laws.shr_laws

-- the laws of a slice of bytes
abbrev pub bytes_laws : (a : NamedLft) → Laws (bytes-field a).row
bytes_laws a = of_field (bytes-field a) (bytes-laws a) refl (copy_shared (bytes-field a) (bytes-copy a))

-- a slice of bytes can be copied
abbrev pub bytes_copy : (a : NamedLft) → IsCopy (bytes-field a).row
bytes_copy a = of_copyable (bytes-field a) (bytes-copy a)

-- a pointer and a length, as which a call passes both `&str` and `&[u8]` for a type parameter
abbrev pub fat_pointer : Ty
fat_pointer = ty_struct [] (tcons ty_ptr (tcons (ty_int w64) tnil))

module _ (F : Field) where
  -- what is passed on
  abbrev pub passed : RattleType
  passed = arg fat_pointer no F.row

  module _ (n : ℕ) where
    abbrev parts : List RattleType
    parts = F.row ∷ ArrayAt F.row (param 0 (number n)) ∷ []

    -- what is returned
    abbrev pub Result : RattleType
    Result = option.the_row (Tuple parts)

    -- the result is lawful where the field is
    pub Result-lawful : Laws F.row → {M : Type 1} {𝓤 : Ura M} (𝓛 : Logic 𝓤) → Lawful 𝓛 Result
    Result-lawful L 𝓛 = loose_lawful (option.the_type (Tuple parts))
        (the_loose (Tuple parts) (tuple_laws parts (L, (number_array_laws F.row L (param 0 (number n)) refl, tt)))) tt 𝓛

-- a haystack lives as long as its lifetime
pub lives_so : (κ : List ℕ) → κ ⊑ (κ ++ [])
lives_so κ = subst (λ (κ' : List ℕ). κ ⊑ κ') (sym (append-nil κ)) (⊑_refl κ)

-- a fact beside what is had
pub beside : {M : Type 1} (𝓤 : Ura M) (φ : Type 0) (P : SProp 𝓤) → φ → ent 𝓤 P (sep 𝓤 (fact 𝓤 φ) P)
beside 𝓤 φ P x = via 𝓤 (sep 𝓤 (emp 𝓤) P) (emp∗ 𝓤 P) (mono_l 𝓤 P (fact_i 𝓤 φ (emp 𝓤) x))
