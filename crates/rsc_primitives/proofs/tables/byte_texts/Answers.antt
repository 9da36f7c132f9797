use Rattle.std.proofs.Common.{refl}
use Rattle.rsc_primitives.specs.Escapes.{byte_text}
use Rattle.rsc_primitives.specs.declared.tables.TheConstants.{BYTE_LENGTHS}
use Rattle.rsc_primitives.proofs.EscapesLemmas.{tabled_is, ascii_if_low}
use Rattle.rsc_primitives.proofs.tables.byte_texts.Goals as goal

pub returns-clause-ascii : goal.returns-clause-ascii
returns-clause-ascii c = search ascii_if_low

pub returns-clause-texts : goal.returns-clause-texts
returns-clause-texts c = tabled_is 4 _ BYTE_LENGTHS byte_text refl
