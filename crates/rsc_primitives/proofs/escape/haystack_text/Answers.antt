use Rattle.std.proofs.Common.{◌++◌, IsOk, string_bytes, ap, ◌∙◌, rules}
use Rattle.std.proofs.lemmas.Fmt.{contents_after_writes}
use Rattle.rsc_primitives.specs.Escapes.{haystack_text}
use Rattle.rsc_primitives.proofs.escape.haystack_text.Goals as goal

pub returns-in-Ok : goal.returns-in-Ok
returns-in-Ok g c only =
    let ok : IsOk c.write_haystack.result = search rules in
    let written = c.write_haystack.ensures only c.new-f.ensures.plain ok in
    ap string_bytes c.into_inner.ensures ∙ contents_after_writes _ string_bytes (λ w l v t. t) _ (haystack_text c.args.haystack.now) _ written.wrote
    ∙ ap (λ l. l ++ haystack_text c.args.haystack.now) (ap string_bytes c.new-f.ensures.writer ∙ c.new.ensures.bytes)
