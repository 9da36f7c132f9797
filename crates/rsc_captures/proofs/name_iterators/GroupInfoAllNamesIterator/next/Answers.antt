use Rattle.std.proofs.Common.{◌≡◌, refl, sym, ◌∙◌, arith, rules, option_copied}
use Rattle.rsc_captures.specs.Groups.{name_of}
use Rattle.rsc_captures.proofs.SharedListsLayoutLemmas.{within_names, name_in}
use Rattle.rsc_captures.proofs.NameIteratorsLemmas.{IsNext, IsNext-passed, next_stays, next_enters, left_more}
use Rattle.rsc_captures.proofs.name_iterators.GroupInfoAllNamesIterator.next.Goals as goal
use Rattle.rsc_captures.proofs.name_iterators.GroupInfoAllNamesIterator.next.Goals.{then-self+else-self-count, else-self}

-- where the iterator is, once it has gone on to the next pattern
next_is : (g : _) (c : goal.After-lists g)
    → IsNext c.self.inside.lists.now c.self.inside.pattern c.self.inside.group c.if-self.self-inside.pattern c.if-self.self-inside.group
    c.if-self.self-inside.next c.if-self.self-inside.end
next_is g c =
    elim c.if-self.branch [
      | then-self+else-self-count w ↦
          rw w.self-inside-is (next_enters c.self.inside.lists.now c.self.inside.pattern c.self.inside.group c.self.inside.next c.self.inside.end
          w.first-self-inside.result c.len-count.ensures.faultless c.self.invariant (omega arith) (omega arith) w.first-self-inside.ensures.value)
      | else-self w ↦ rw w.self-inside-is
          (next_stays c.self.inside.lists.now c.self.inside.pattern c.self.inside.group c.self.inside.next c.self.inside.end c.self.invariant w.if-self.false)
    ]

same_lists : (g : _) (c : goal.After-lists g) → c.if-self.self-inside.lists.now ≡ c.self.inside.lists.now
same_lists g c = elim c.if-self.branch [ then-self+else-self-count w ↦ rw w.self-inside-is refl | else-self w ↦ rw w.self-inside-is refl ]

pub get-name-requires : goal.get-name-requires
get-name-requires g c =
    let is = next_is g c in
    omega (arith, within_names _ _ _ _ c.lists.view_is c.lists.invariant _ _ _ refl is.group, is.at.at)

pub invariant_of-self : goal.invariant_of-self
invariant_of-self g c = rw (same_lists g c.before.before.before.before) (IsNext-passed (next_is g c.before.before.before.before))

pub returns-clause-steps : goal.returns-clause-steps
returns-clause-steps g c =
    let is = next_is g c.before.before.before.before in
    let name : option_copied c.get-name.result ≡ name_of c.self.inside.lists.now c.if-self.self-inside.pattern c.if-self.self-inside.group =
    (rw is.at.at at c.get-name.ensures) ∙ name_in _ _ _ _ c.lists.view_is c.lists.invariant _ _ _ refl is.group in
    rw (same_lists g c.before.before.before.before, c.must.ensures, name) (sym c.self.view_is ∙ is.left
    ∙ left_more c.self.inside.lists.now c.if-self.self-inside.pattern c.if-self.self-inside.group is.group)

pub returns-clause-goes : goal.returns-clause-goes
returns-clause-goes g c =
    let steps = returns-clause-steps g c in
    search rules
