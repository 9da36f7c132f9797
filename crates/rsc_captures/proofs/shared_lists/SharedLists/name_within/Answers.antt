use Rattle.rsc_captures.proofs.SharedListsLayoutLemmas.{within_names}
use Rattle.rsc_captures.proofs.shared_lists.SharedLists.name_within.Goals as goal

pub get-requires : goal.get-requires
get-requires g c = within_names _ _ _ _ c.self.view_is c.self.invariant c.args.p c.args.group c.first.result c.first.ensures.value c.requires
