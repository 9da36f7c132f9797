-- `get_mut` meets its contract: a walk of its MIR by hand, since no generated proof follows a part of a slice that is returned.
-- A walk is a list of steps over a context, the things that are owned, which comments show as [first; second; ..].
use Rattle.std.proofs.Common.{◌≡◌, ℕ, ◌+◌, ◌-◌, ◌*◌, ◌^◌, ◌<◌, ◌≤◌, List, [], ◌∷◌, ◌++◌, length, take, Some, None, sym, refl, ap, ◌∙◌, arith, lit<, w64, MutBor, Bor, drop as drop_list}
use Rattle.std.proofs.Math.Facts.{ltb_yes, ltb_no}
use lib.ListN.{length-drop}
use seplogic.Ra.Ura.{Ura}
use mir.Syntax.{named}
use mir.Val.{Val, vint, vstruct, vcons, vnil, of_list}
use base.Logic.{SProp, ent, emp, via, fst∗}
use base.Fml.{Lft, GName, Share, ftrue, flft, fobs, fres}
use base.Stored.{coded_list}
use prog.Memory.{Memory}
use prog.Routine.{Routine}
use prog.Wp.{Env, Calls, Loops, WpFn, Tables}
use types.Logic.{Logic}
use contract.Monad.{Fun}
use contract.Running.{tables, tables_of}
use sound.WpLaws.{WpFn-mono}
use types.Kit.{Item, ⋆, rewrite, ‵, ◌⊛◌, some, later, at_ret, ◌$◌, ◌∵◌, !, qed, by, move, keep, drop, split, split3, join, fsplit, fsplit3, fjoin, use0, use1, use2, await, pick, suffices, frame, done}
use types.Match.{live}
use types.Part.{whole, sub, look_in, agg}
use types.Run.{stop, fld, addr, lit, load, of_opd, bin, and_then, no_more, first, branches, skips, exec, returns, returns_within, enter}
use types.ByLocal.{alloc_all, pass_all, free_all, look_at, get, get_in, through, sets, env}
use denote.Builtin.{u8, RefOf}
use denote.Exit.{yes, no}
use denote.RattleType.{RattleType, owns}
use denote.Laws.{Is, shows}
use denote.Memory.{cell_at}
use denote.Opens.{Opens}
use denote.Ref.{ShrRef, shr_vals, shr_Tells}
use denote.Signature.{plain, mut_slice_of}
use denote.Slice.{MutSlice, Room, slice_val, mut_slice_vals, mut_slice_Tells}
use denote.Follow.{follows_by}
use denote.FollowSlice.{heres_id}
use denote.Steps.{nothing, looks, shuts, peeks}
use denote.Struct.Laws.{copied, tells, owed, usize-copy, usize-laws}
use denote.Triple.Clauses.{Clauses}
use denote.Triple.Entry.{on_entry}
use denote.Triple.Spec.{Meets, triple_of}
use denote.Triple.Table.{entered}
use denote.Triple.Walked.{says, Stays, stay_dropped, walk_of, ends_at, walked, Goes-dropped, Goes-spent_slice, walk_Meets}
use borrow.Table.Elements.{at, at_mul, length-take-le}
use Rattle.std.proofs.alloc.Shapes.{after}
use Rattle.std.proofs.option.Made.{Some-of, none_of}
use Rattle.std.specs.contracts.option.Option as option
use Rattle.rsc_search.proofs.SpansLemmas.{cut_reversed, cut_past, cut_within, cut_apart}
use Rattle.rsc_search.proofs.LendingLemmas.{part_lent, lends_part}
use Rattle.rsc_search.specs.Spans.{cut}
use Rattle.rsc_search.specs.declared.span.Span.{Span}
use Rattle.rsc_search.specs.contracts.span.Span as span
use Rattle.rsc_search.specs.contracts.span.Span.get_mut as f
use Rattle.rsc_search.proofs.span.Span.get_mut.Statement.{statement}
use Rattle.rsc_search.proofs.span.Span.get_mut.Code as code

abbrev S : RattleType
S = span.the_row

abbrev stayed : Stays f.ended.signature.params f.ended.kept
stayed = (stay_dropped (RefOf (0 ∷ []) tt (plain (λ _. S)) (λ _. tt)) yes, (stay_dropped (mut_slice_of (1 ∷ []) tt (plain (λ _. u8))) no, tt))

span_opens : {M : Type 1} {𝓤 : Ura M} (𝓛 : Logic 𝓤) → Opens 𝓛 S
span_opens 𝓛 = (copied span.the_type (usize-copy, (usize-copy, tt)) 𝓛).opens

abbrev span_val : Span → Val
span_val d = vstruct (vcons (vint w64 d.start) (vcons (vint w64 d.end) vnil))

span_told : (d : Span) (vs : List Val) → Is S d vs → vs ≡ span_val d ∷ []
span_told = tells span.the_type (usize-laws, (usize-laws, tt))

span_fits : (d : Span) (vs : List Val) → Is S d vs → (d.start < 2 ^ 64) × (d.end < 2 ^ 64)
span_fits d vs is = let each = owed span.the_type (usize-laws, (usize-laws, tt)) d vs is in (each.0.1, each.1.0.1)

module _ {M : Type 1} {𝓤 : Ura M} (𝓛 : Logic 𝓤) (at_mem : Memory → SProp 𝓤) (run : Routine → Fun 𝓤) where
  open 𝓛 use {H}

  abbrev clauses : Clauses 𝓤 f.ended
  clauses = f.clauses 𝓛 at_mem run

  module _ (C : Calls 𝓤 H) (Λ : Loops 𝓤 H) (κ κ' : Lft) (q q' : Share) (sb so : ℕ) (d : Span) (b o : ℕ) (γ : GName) (xs : List ℕ) where
    abbrev self : Bor Span
    self = record { ref_ptr = (sb, so); now = d }

    abbrev hay : MutBor (List ℕ)
    hay = record { ref_ptr = (b, o); ghost_name = γ; now = xs }

    abbrev blocks : List Val × (List Val × Unit {0})
    blocks = (shr_vals self, (mut_slice_vals hay, tt))

    abbrev bound : (walk_of 𝓛 f.ended stayed clauses).Ghost
    bound = (((κ, (κ', tt)), (q, (q', tt)), tt, (self, (hay, tt)), blocks), tt)

    abbrev Post : Val → SProp 𝓤
    Post = (walk_of 𝓛 f.ended stayed clauses).post bound

    abbrev Lent : RattleType
    Lent = MutSlice (named 1) κ' u8

    abbrev Kept : List (Item 𝓤)
    Kept = ‵ (flft κ q) ∷ (‵ (flft κ' q') ⊛ ‵ ftrue) ∷ ‵ (owns (Lent ∷ []) (hay, tt) (mut_slice_vals hay, tt)) ∷ []

    -- where nothing is cut, the haystack stays as it is
    leaves : cut xs d ≡ None → ent 𝓤 (⋆ 𝓛 Kept) (Post (live 0 (of_list [])))
    unfolding follows_by
    leaves nothing_cut =
        qed 𝓛 Kept ∵ move ! (2 ∷ []) $ fsplit ! $ fsplit3 ! $ drop ! $
        rewrite ! 0 (λ (l : List ℕ). ‵ (fobs γ ((coded_list u8.coded).code l))) (heres_id u8 xs) refl $
        use1 𝓛 (‵ (fres γ ((coded_list u8.coded).code xs))) (𝓛.names.obs-res γ ((coded_list u8.coded).code xs)) $ keep ! (3 ∷ 4 ∷ 0 ∷ []) $
        use0 𝓛 (‵ ((option.the_row Lent).own_val None (live 0 (of_list []) ∷ []))) (none_of 𝓛 Lent) $
        suffices ! _ (ends_at 𝓛 f.ended stayed clauses bound (live 0 (of_list [])) None (tt, (tt, tt)) (tt, (tt, tt))) $
        nothing ! $ nothing ! $ fjoin ! $ nothing ! $ fjoin ! $ join ! $ move ! (1 ∷ 2 ∷ []) $ join ! $ join ! $ frame ! $ says ! (sym nothing_cut) $ done !

    walk : Room u8 (length xs) → ent 𝓤 (on_entry 𝓛 f.signature (κ, (κ', tt)) (q, (q', tt)) (self, (hay, tt)) blocks)
        (WpFn 𝓤 H C Λ code.function (shr_vals self ++ (slice_val (b, o) (length xs) ∷ [])) Post)
    unfolding follows_by
    walk room =
        let i : ℕ = d.start in
        let j : ℕ = d.end in
        qed 𝓛 ((‵ (flft κ q) ⊛ ‵ (flft κ' q') ⊛ ‵ ftrue) ∷ ‵ (owns (ShrRef (named 0) κ S ∷ Lent ∷ []) (self, (hay, tt)) blocks) ∷ [])
        ∵
        enter ! C Λ code.function (shr_vals self ++ (slice_val (b, o) (length xs) ∷ [])) _ $
        alloc_all ! (λ l. pass_all ! refl ((tt, tt), ((tt, (tt, (record { fits = room.0 }, tt))), tt)) $
        let En : Env 𝓤 H = env code.function.locals l in
        move ! (1 ∷ []) $ fsplit ! $ fsplit ! $ drop ! $ move ! (2 ∷ []) $ split ! $ move ! (2 ∷ 0 ∷ []) $
        -- [what the `&` shares; its token; the other tokens; the slice; ..]
        looks ! tt S (span_opens 𝓛) d sb so (λ s vs. move ! (1 ∷ []) $ peeks ! S (Is S) (shows 𝓛 S) d vs (λ is.
        let ev : vs ≡ span_val d ∷ [] = span_told d vs is in
        let fits : (i < 2 ^ 64) × (j < 2 ^ 64) = span_fits d vs is in
        rewrite ! 1 (λ (ws : List Val). ‵ (cell_at s S.mir ws sb so)) ev refl $
        -- let start = self.start; let end = self.end;
        sets ! (of_opd ! (load ! (through ! refl (fld ! refl (stop !))) (look_in ! 1 (sub ! 0 refl (whole !))))) refl (tt, record { fits = fits.0 }) $
        sets ! (of_opd ! (load ! (through ! refl (fld ! refl (stop !))) (look_in ! 1 (sub ! 1 refl (whole !))))) refl (tt, record { fits = fits.1 }) $
        rewrite ! 1 (λ (ws : List Val). ‵ (cell_at s S.mir ws sb so)) (sym ev) refl $ move ! (1 ∷ 0 ∷ 2 ∷ []) $ shuts ! tt S s d vs sb so $
        -- [the token of the `&`; what it shares; the other tokens; the slice; ..]
        sets ! (bin ! (get ! refl) (get ! refl) tt) refl (tt, tt) $
        first ! $ branches ! (get ! refl)
        (λ t. sets ! (agg ! (and_then ! (lit ! tt) (no_more !))) refl (tt, (record { fits = lit< tt }, tt)) $
        returns_within ! Post refl (look_at ! 0 refl) $ free_all ! refl $ keep ! (0 ∷ 2 ∷ 3 ∷ []) $ by ! (leaves (cut_reversed xs d (ltb_yes t))))
        (λ t. skips ! $ exec ! C Λ En (after 4 code.function.body) (at_ret En Post) $
        -- haystack.len() < end
        sets ! (of_opd ! (get_in ! (fld ! refl (stop !)) (sub ! 1 refl (whole !)))) refl (tt, record { fits = room.0 }) $
        sets ! (bin ! (get ! refl) (get ! refl) tt) refl (tt, tt) $
        first ! $ branches ! (get ! refl)
        (λ t'. sets ! (agg ! (and_then ! (lit ! tt) (no_more !))) refl (tt, (record { fits = lit< tt }, tt)) $
        returns_within ! Post refl (look_at ! 0 refl) $ free_all ! refl $ keep ! (0 ∷ 2 ∷ 3 ∷ []) $ by ! (leaves (cut_past xs d (ltb_yes t'))))
        (λ t'. skips ! $ exec ! C Λ En (after 7 code.function.body) (at_ret En Post) $
        let order : i ≤ j = ltb_no t in
        let within : j ≤ length xs = ltb_no t' in
        let front : List ℕ = take i xs in
        let mid : List ℕ = take (j - i) (drop_list i xs) in
        let back : List ℕ = drop_list j xs in
        let lf : length front ≡ i = length-take-le i xs (omega arith) in
        let ld : length (drop_list i xs) ≡ length xs - i = length-drop i xs in
        let lm : length mid ≡ j - i = length-take-le (j - i) (drop_list i xs) (omega arith) in
        let whole_is : xs ≡ front ++ (mid ++ back) = cut_apart xs i j order in
        let fr : j - i < 2 ^ 64 = omega (arith, fits.1) in
        let one : i * 1 + o ≡ i + o = omega arith in
        let on : at o 1 (length front) ≡ i + o = at_mul o 1 (length front) ∙ ap (λ (k : ℕ). k * 1 + o) lf ∙ one in
        let bytes_fit : length xs * 1 < 2 ^ 63 = room.1 in
        let blocks_fit : length xs < 2 ^ 64 = room.0 in
        let mid_room : Room u8 (length mid) = (omega arith, omega arith) in
        let part : MutBor (List ℕ) = record { ref_ptr = (b, i + o); ghost_name = γ; now = mid } in
        let v : Val = slice_val (b, i + o) (j - i) in
        -- Some(&mut haystack[start..end])
        sets ! (bin ! (get_in ! (fld ! refl (stop !)) (sub ! 0 refl (whole !))) (get ! refl) tt) refl (tt, tt) $
        sets ! (bin ! (get ! refl) (get ! refl) order) refl (tt, record { fits = fr }) $
        sets ! (addr ! (through ! refl (stop !))) refl (tt, tt) $
        sets ! (agg ! (and_then ! (get ! refl) (and_then ! (get ! refl) (no_more !)))) refl (tt, (tt, (record { fits = fr }, tt))) $
        sets ! (agg ! (and_then ! (lit ! tt) (and_then ! (get ! refl) (no_more !)))) refl
        (tt, (record { fits = lit< tt }, ((tt, (record { fits = fr }, tt)), tt))) $
        move ! (3 ∷ []) $ fsplit ! $ move ! (4 ∷ []) $ split ! $ move ! (2 ∷ 0 ∷ []) $
        -- [the slice; its token; nothing; nothing; the token of the `&`; ..]
        use2 𝓛 (later (some (part_lent 𝓛 (named 1) κ' q' b o γ u8 xs front mid back whole_is (i + o) on)))
        (lends_part 𝓛 (named 1) κ' q' b o γ u8 xs front mid back whole_is (i + o) on mid_room (mut_slice_vals hay)) $ await ! tt $ pick ! (λ δ.
        returns ! (look_at ! 0 refl) $ free_all ! refl $ keep ! (0 ∷ 1 ∷ 3 ∷ []) $ split3 ! $
        rewrite ! 0 (λ (k : ℕ). ‵ (Lent.own_val (record part { ghost_name = δ }) (slice_val (b, i + o) k ∷ []))) lm refl $
        use1 𝓛 (‵ ((option.the_row Lent).own_val (Some (record part { ghost_name = δ })) (live 1 (of_list (v ∷ [])) ∷ [])))
        (Some-of 𝓛 Lent (record part { ghost_name = δ }) v) $
        suffices ! _ (ends_at 𝓛 f.ended stayed clauses bound (live 1 (of_list (v ∷ []))) (Some (record part { ghost_name = δ })) (tt, (tt, tt))
        (tt, (tt, tt))) $
        nothing ! $ nothing ! $ fjoin ! $ nothing ! $ fjoin ! $ join ! $ move ! (1 ∷ 3 ∷ []) $ join ! $ move !
        (3 ∷ 0 ∷ []) $ join ! $ join ! $ frame ! $ says ! (sym (cut_within xs d order within)) $ done !))))))

  meets : (𝓣 : Tables 𝓤 H) → Meets 𝓛 f.signature (WpFn 𝓤 H 𝓣.C 𝓣.Λ code.function) (f.spec 𝓛 at_mem run)
  meets 𝓣 =
      walk_Meets 𝓛 f.ended stayed (
        Goes-dropped 𝓛 2 (RefOf (0 ∷ []) tt (plain (λ _. S)) (λ _. tt)) yes (λ κs x w. refl),
        (Goes-spent_slice 𝓛 2 (1 ∷ []) tt (plain (λ _. u8)), tt),
      )
      clauses (WpFn 𝓤 H 𝓣.C 𝓣.Λ code.function) (WpFn-mono 𝓤 H 𝓛.laws 𝓣 code.function)
      (walked 𝓛 f.ended stayed clauses (WpFn 𝓤 H 𝓣.C 𝓣.Λ code.function)
      (λ κs. (shr_vals, (mut_slice_vals, tt))) (λ κs. (shr_Tells (named 0) κs.0 S, (mut_slice_Tells (named 1) κs.1.0 u8, tt)))
      (λ κs qs bounds a g are. via 𝓤 _ (fst∗ 𝓤 _ (emp 𝓤))
      (walk 𝓣.C 𝓣.Λ κs.0 κs.1.0 qs.0 qs.1.0 a.0.ref_ptr.0 a.0.ref_ptr.1 a.0.now a.1.0.ref_ptr.0 a.1.0.ref_ptr.1 a.1.0.ghost_name a.1.0.now
      are.1.0.0.1)))

pub get_mut_spec : {M : Type 1} → statement M
unfolding tables_of
get_mut_spec 𝓤 𝓛 𝓜 𝓡 wired =
    entered 𝓤 𝓛.H (triple_of 𝓛 f.signature (f.spec 𝓛 𝓜.mem 𝓡.returns))
    (tables 𝓤 𝓛.H 𝓜 𝓡 𝓡.env).C (tables 𝓤 𝓛.H 𝓜 𝓡 𝓡.env).Λ f.Key.name code.function (code.unfolded 𝓤 𝓛.H 𝓜 𝓡 wired)
    (meets 𝓛 𝓜.mem 𝓡.returns (tables_of 𝓤 𝓛.H 𝓜 (tables 𝓤 𝓛.H 𝓜 𝓡 𝓡.env)))
