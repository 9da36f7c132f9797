use Rattle.std.proofs.Common.{◌∙◌, ap, arith, slice_index}
use Rattle.rsc_alphabet.specs.PartitionsLaws.{slice_index-class_map}
use Rattle.rsc_show.proofs.shares.boundaries_of_look.Goals as goal

pub returns : goal.returns
returns c = λ p is. c.from.ensures ∙ c.get.ensures.value ∙ ap (λ m. slice_index m 255) is ∙ slice_index-class_map p 255 (omega arith)
