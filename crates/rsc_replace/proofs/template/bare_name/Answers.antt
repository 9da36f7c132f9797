use Rattle.rsc_replace.proofs.TemplatesLemmas.{word_is_text}
use Rattle.rsc_replace.proofs.template.bare_name.Goals as goal

pub returns-in-Err-clause-value : goal.returns-in-Err-clause-value
returns-in-Err-clause-value c = absurd (c.in-Err.ensures.cases.0 (rw c.word_count-count.ensures (word_is_text c.args.rest.now)))
