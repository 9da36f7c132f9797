use Rattle.std.proofs.Common.{◌++◌, [], flat_map, append-nil, append_assoc, refl, sym, ap, ◌∙◌, rules, subst}
use Rattle.std.specs.Fmt.{HasWritten}
use Rattle.std.proofs.Output.{has_written_append}
use Rattle.rsc_look.specs.LookSets.{look_text}
use Rattle.rsc_look.proofs.LookSetLayoutLemmas.{no_member, text_of_some}
use Rattle.rsc_look.proofs.look_set.LookSetDebug.fmt.Goals as goal

pub returns-then-is_empty : goal.returns-then-is_empty
returns-then-is_empty g c = record { writes = rw (no_member c.args.self.now (c.if-is_empty.ensures.0 refl)) c.write_char.ensures.writes }

pub loop-look-init : goal.loop-look-init
loop-look-init g c = λ plain. ([], search rules, ap (λ looks. flat_map look_text looks) c.iter-looks.ensures.value)

pub loop-look-preserved : goal.loop-look-preserved
loop-look-preserved g c = λ plain.
    let now = c.loop-look.invariant plain in (
      now.0 ++ look_text c.in-Some.look,
      has_written_append _ _ _ _ _ _ now.1 (rw c.as_char.ensures.value at (c.in_ok-write_char.ensures.writes now.1.plain refl)),
      append_assoc now.0 (look_text c.in-Some.look) (flat_map look_text c.next.new.self)
          ∙ ap (λ looks. now.0 ++ flat_map look_text looks) (sym c.in-Some.ensures.steps) ∙ now.2,
    )

pub returns : goal.returns
returns g c = record {
  writes = λ plain ok.
      let now = c.loop-look.invariant plain in
      subst (λ text. HasWritten g.W.Write.write_str_gives c.args.f.now text c.loop-look.f)
      (sym (append-nil now.0) ∙ ap (λ looks. now.0 ++ flat_map look_text looks) (sym c.in_default.ensures.steps.0) ∙ now.2
      ∙ sym (text_of_some c.args.self.now c.if-is_empty.ensures.1)) now.1;
}
