use Rattle.std.proofs.Common.{⊎_elim, inr}
use Rattle.std.proofs.lemmas.Bool.{false≢true}
use Rattle.rsc_uses.proofs.search.is_done_or_holds.Goals as goal

pub returns-else-is_done : goal.returns-else-is_done
returns-else-is_done c =
    let h = rw (c.new.ensures, c.haystack.ensures.value, c.start.ensures.value) at c.matches.ensures.value in (
      λ t. inr (h.0 t),
      ⊎_elim (λ d. absurd (false≢true (c.if-is_done.ensures.value.1 d))) h.1,
    )
