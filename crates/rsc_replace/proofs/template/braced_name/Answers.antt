use Rattle.std.proofs.Common.{◌<◌, ◌==◌, ℕ, not, length, take, refl, arith, lt-ltb}
use Rattle.std.proofs.lemmas.Bool.{false_from_ne_true}
use Rattle.std.proofs.lemmas.List.Sums.{prefix_len-le-length}
use Rattle.std.proofs.lemmas.Str.{IsUtf8-from_is_utf8, is_utf8-from_IsUtf8}
use Rattle.rsc_replace.specs.Templates.{closing}
use Rattle.rsc_replace.proofs.template.braced_name.Goals as goal

pub returns-in-Ok-clause-value : goal.returns-in-Ok-clause-value
returns-in-Ok-clause-value c =
    let most = prefix_len-le-length (λ (other : ℕ). not (other == closing)) c.args.rest.now in
    let less : c.count_before-count.result < length c.args.rest.now = omega (arith, most, c.count_before-count.ensures, c.if-count-rest.false) in
    rw (c.in-Ok.ensures.cases.0, ← c.count_before-count.ensures, lt-ltb _ _ less, is_utf8-from_IsUtf8 _ c.in-Ok.ensures.cases.1) refl

pub returns-in-Err-clause-value : goal.returns-in-Err-clause-value
returns-in-Err-clause-value c =
    let most = prefix_len-le-length (λ (other : ℕ). not (other == closing)) c.args.rest.now in
    let less : c.count_before-count.result < length c.args.rest.now = omega (arith, most, c.count_before-count.ensures, c.if-count-rest.false) in
    let no_text = false_from_ne_true _ (λ e. c.in-Err.ensures.cases.0 (IsUtf8-from_is_utf8 (take c.count_before-count.result c.args.rest.now) e)) in
    rw (← c.count_before-count.ensures, lt-ltb _ _ less, no_text) refl
