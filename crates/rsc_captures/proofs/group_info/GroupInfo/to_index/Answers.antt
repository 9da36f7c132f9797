use Rattle.rsc_captures.proofs.GroupsLemmas.{index_of-is, index_of-within}
use Rattle.rsc_captures.proofs.SharedListsLayoutLemmas.{distinct_in}
use Rattle.rsc_captures.proofs.Prelude.{groups_of, max_index, IsFaultless}
use Rattle.rsc_captures.proofs.group_info.GroupInfo.to_index.Goals as goal

pub returns-clause-named : goal.returns-clause-named
returns-clause-named g c =
    let faultless : IsFaultless max_index c.args.self.now = rw c.lists.ensures at c.index.ensures.faultless in
    rw (c.index.ensures.value, c.lists.ensures, c.as_usize.ensures.value)
    (index_of-is (groups_of c.args.self.now c.args.pid) c.args.name.now (distinct_in c.args.self.now faultless c.args.pid))

pub returns-clause-within : goal.returns-clause-within
returns-clause-within g c =
    rw (c.index.ensures.value, c.lists.ensures, c.as_usize.ensures.value) (index_of-within (groups_of c.args.self.now c.args.pid) c.args.name.now)
