use Rattle.rsc_captures.proofs.CapturedLemmas.{captures_row, self_slot, second, fat_pointer, passed, Result, Result-lawful, lives_so, beside, u8_laws, bytes-field, bytes-laws, bytes_laws, bytes_copy, refl, [], ◌∷◌, named, a_number, inst_fn, id⊢, ‵, raw, ◌⊛◌, some, later, ◌$◌, ◌∵◌, !, qed, done, move, drop, use1, use2, split, join, pick, await, suffices, group, enter, no_more, and_then, returns, alloc_all, pass_all, free_all, look_at, get, lands_as, ◌⊑◌, tables, yes, no, shows, number, layouts, Types, arg_laws, arg_copy, RattleType, shr_vals, shr_Tells, Slot, shr_slice_vals, nothing, peeks, heard, Field, calls_at, Ended, lasts, at_exit, on_entry, alive, triple_of, framed, Stays, says, stay_dropped, Goes-dropped, ends_at, proved}
use mir.Syntax.{ty_int, w8}
use contract.BorrowLft.{⊑_static}
use denote.Builtin.{u8, SliceRefOf}
use denote.Param.{arg}
use denote.Signature.{plain}
use Rattle.std.specs.contracts.prelude.RefSliceClone.TheImpl as clone
use Rattle.std.proofs.prelude.RefSliceClone.TheImpl.Met as clone_met
use Rattle.rsc_captures.specs.contracts.extract.RefSliceU8Haystack.TheImpl as haystack
use Rattle.rsc_captures.proofs.extract.RefSliceU8Haystack.TheImpl.Met as haystack_met
use Rattle.rsc_captures.specs.contracts.extract.Captures.extract_bytes as f
use Rattle.rsc_captures.proofs.extract.Captures.extract_bytes.Statement.{statement}
use Rattle.rsc_captures.proofs.extract.Captures.extract_bytes.Code as code
use Rattle.rsc_captures.specs.contracts.extract.Captures.extract_parts as g
use Rattle.rsc_captures.proofs.extract.Captures.extract_parts.Met.{met}

abbrev haystack_slot : Slot 3
haystack_slot = SliceRefOf (1 ∷ []) tt (plain (λ κs. u8)) (λ κs. tt)

abbrev stayed : (N : RattleType) → Stays (f.ended N).signature.params (f.ended N).kept
stayed N = (stay_dropped self_slot yes, (stay_dropped haystack_slot yes, tt))

pub extract_bytes_spec : {M : Type 1} → statement M
extract_bytes_spec 𝓤 𝓛 𝓜 𝓡 wired n fits =
    let N : RattleType = number n in let c = f.clauses N 𝓛 𝓜.mem 𝓡.returns in
    let Ts : Types (a_number ∷ []) = (N, tt) in
    proved 𝓛 (f.ended N) (stayed N) c 𝓜 𝓡 (
      Goes-dropped 𝓛 3 self_slot yes (λ κs x w. refl),
      (Goes-dropped 𝓛 3 haystack_slot yes (λ κs x w. refl), tt),
    )
    (f.Key.name (layouts (a_number ∷ []) Ts)) (inst_fn (layouts (a_number ∷ []) Ts) code.function) (code.unfolded 𝓤 𝓛.H 𝓜 𝓡 wired Ts)
    (λ κs. (shr_vals, (shr_slice_vals, tt))) (λ κs. (shr_Tells (named 0) κs.0 captures_row, ((bytes-laws (second κs)).tells, tt)))
    (λ κs qs bounds a _ are.
    let F : Field = bytes-field (second κs) in let L = bytes_laws (second κs) in let H : RattleType = passed F in let R : RattleType = Result F n in
    let byte : RattleType = arg (ty_int w8) no u8 in
    -- the callee's contract at this haystack, that it is met, and what is picked of it
    let T : Ended = g.ended H N haystack.ghosts haystack.dict (clone.ghosts byte) (clone.dict byte) in
    let G = triple_of 𝓛 T.signature (g.spec H N haystack.ghosts haystack.dict (clone.ghosts byte) (clone.dict byte) 𝓛 𝓜.mem 𝓡.returns) in
    let d = g.clauses H N haystack.ghosts haystack.dict (clone.ghosts byte) (clone.dict byte) 𝓛 𝓜.mem 𝓡.returns κs a in
    let meets = met 𝓤 𝓛 𝓜 𝓡 (code.calls-rsc_captures::extract::Captures::extract_parts 𝓡.env wired) H n
    (arg_laws fat_pointer no F.row L refl) fits (arg_copy fat_pointer no F.row (bytes_copy (second κs)) refl) haystack.ghosts haystack.dict
    (clone.ghosts byte) (clone.dict byte)
    (record {
      cut = (haystack_met.bound 𝓡.env (code.calls-rsc_captures::extract::RefSliceU8Haystack::cut 𝓡.env wired) κs.1.0 _ 𝓤 𝓛 𝓜 𝓡).cut;
    })
    (record {
      clone = (clone_met.bound 𝓡.env (code.calls-core::clone::RefSliceClone::clone 𝓡.env wired) κs.1.0 byte
          (arg_laws (ty_int w8) no u8 u8_laws refl) (⊑_static κs.1.0) _ 𝓤 𝓛 𝓜 𝓡).clone;
    }) in
    let z : G.Ghost = ((κs, qs, bounds, a, (shr_vals a.0, (shr_slice_vals a.1.0, tt))), tt) in
    let pre = (c κs a).requires tt in
    qed 𝓛 (raw (on_entry 𝓛 (f.signature N) κs qs a z.0.4) ∷ raw pre ∷ []) ∵
    move ! (1 ∷ []) $ use1 𝓛 (raw (d.requires tt)) (beside 𝓤 (κs.1.0 ⊑ H.lives) pre (lives_so κs.1.0)) $ move ! (1 ∷ 0 ∷ []) $ use2 𝓛
    (raw (G.pre z)) (id⊢ 𝓤 _) $
    enter ! _ _ _ _ _ $ alloc_all ! (λ l. pass_all ! refl ((tt, tt), ((((bytes-laws (second κs)).lawful 𝓛).typed a.1.0 _ are.1.0).0, tt)) $
    calls_at ! (framed 𝓤 𝓛.H 𝓜 (tables 𝓤 𝓛.H 𝓜 𝓡 𝓡.env)) G meets z (and_then ! (get ! refl) (and_then ! (get ! refl) (no_more !)))
    (λ v.
    use1 𝓛 (later (some (λ (r : R.Denot). (raw (alive 𝓛 (f.signature N) κs qs) ⊛ ‵ (R.own_val r (v ∷ []))) ⊛
    some (λ (ws : Unit {0} × (Unit {0} × Unit {0})). ‵ (lasts T κs a ws) ⊛ raw (d.ensures tt r (at_exit T κs a ws)))))) (id⊢ 𝓤 _) $
    await ! tt $ pick ! (λ r. split ! $ split ! $
    -- [the tokens; the result; the callee's clause; the locals]
    move ! (1 ∷ []) $ peeks ! R _ (shows 𝓛 R) r (v ∷ []) (λ is.
    lands_as ! refl refl (((Result-lawful F n L 𝓛).typed r (v ∷ []) is).0) $
    move ! (2 ∷ []) $ pick ! (λ ws. split ! $ drop ! $ heard ! _ (λ cuts.
    returns ! (look_at ! 0 refl) $ free_all ! refl $
    suffices ! _ (ends_at 𝓛 (f.ended N) (stayed N) c ((κs, qs, bounds, a, z.0.4), tt) v r (tt, (tt, tt)) (tt, (tt, tt))) $ says ! cuts $
    nothing ! $ nothing ! $ join ! $ nothing ! $ join ! $ move ! (2 ∷ []) $ group ! 3 $ done !)))))))
