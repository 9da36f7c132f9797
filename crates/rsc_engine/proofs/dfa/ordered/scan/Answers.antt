use Rattle.std.proofs.Common.{◌++◌, ◌∷◌, [], ℕ, false, true, length, replicate, refl, ap, ◌∙◌, arith, length-append}
use Rattle.rsc_engine.proofs.OrderedLemmas.{stack-first, stack-again, stack-stuck, stack-one, stack-two, stack-over, stack-match, stack-last, stack-states, fewer, read}
use Rattle.rsc_engine.proofs.dfa.ordered.scan.Goals as goal

pub stack-init : goal.stack-init
stack-init g c =
    stack-first _ _ _ _ _ _ _ _
    (c.in_ok-seen.ensures.items_if_clones_equal (λ y e. e) ∙ ap (λ (n : ℕ). replicate n false) c.state_len-count.ensures)
    (c.in_ok-taken.ensures.items_if_clones_equal (λ y e. e) ∙ ap (λ (n : ℕ). replicate n false) c.state_len-count.ensures)
    c.in_ok-stack.ensures.reversed c.new-next.ensures.items c.requires.list

pub stack-preserved-then-index : goal.stack-preserved-then-index
stack-preserved-then-index g c =
    stack-again _ _ _ _ _ _ _ _ _ _ c.stack.invariant c.in-Some.ensures.items
    (read _ _ _ _ _ _ _ _ _ _ c.stack.invariant c.in-Some.ensures.items _ _ true c.as_usize.ensures.value c.index.ensures c.if-index.true)

pub stack-preserved-in-Stuck : goal.stack-preserved-in-Stuck
stack-preserved-in-Stuck g c =
    rw (c.as_usize-in-Some.ensures.value) (stack-stuck _ _ _ _ _ _ _ _ _ _ c.stack.invariant c.in-Some.ensures.items refl c.requires.start c.requires.at
    (read _ _ _ _ _ _ _ _ _ _ c.stack.invariant c.in-Some.ensures.items _ _ false c.as_usize.ensures.value c.index.ensures c.if-index.false)
    c.in-Stuck.ensures.action)

pub stack-preserved-in-Continue-branch-4 : goal.stack-preserved-in-Continue-branch-4
stack-preserved-in-Continue-branch-4 g c =
    rw (c.as_usize-in-Some.ensures.value, c.in_ok-push-in-One.ensures.items)
    (stack-one _ _ _ _ _ _ _ _ _ _ c.stack.invariant c.in-Some.ensures.items refl c.requires.start c.requires.at
    (read _ _ _ _ _ _ _ _ _ _ c.stack.invariant c.in-Some.ensures.items _ _ false c.as_usize.ensures.value c.index.ensures c.if-index.false)
    c.in-One.to c.in-One.ensures.action c.in-One.ensures.there)

pub stack-preserved-in-Continue-branch-5 : goal.stack-preserved-in-Continue-branch-5
stack-preserved-in-Continue-branch-5 g c =
    rw (c.as_usize-in-Some.ensures.value)
    (stack-over _ _ _ _ _ _ _ _ _ _ c.stack.invariant c.in-Some.ensures.items refl c.requires.start c.requires.at
    (read _ _ _ _ _ _ _ _ _ _ c.stack.invariant c.in-Some.ensures.items _ _ false c.as_usize.ensures.value c.index.ensures c.if-index.false)
    c.in-OverByte.to _ _ c.in-OverByte.ensures.action c.add.ensures.len c.in_ok-add-in-OverByte.ensures.gathers c.in_ok-add-in-OverByte.ensures.adds)

pub stack-preserved : goal.stack-preserved
stack-preserved g c =
    rw (c.as_usize-in-Some.ensures.value, c.in_ok-push-in-Two-2.ensures.items, c.in_ok-push-in-Two.ensures.items)
    (stack-two _ _ _ _ _ _ _ _ _ _ c.stack.invariant c.in-Some.ensures.items refl c.requires.start c.requires.at
    (read _ _ _ _ _ _ _ _ _ _ c.stack.invariant c.in-Some.ensures.items _ _ false c.as_usize.ensures.value c.index.ensures c.if-index.false)
    c.in-Two.a c.in-Two.b c.in-Two.ensures.action c.in-Two.ensures.there)

pub returns-in-Match-clause-scanned : goal.returns-in-Match-clause-scanned
returns-in-Match-clause-scanned g c =
    stack-match _ _ _ _ _ _ _ _ _ _ c.stack.invariant c.in-Some.ensures.items refl c.requires.start c.requires.at
    (read _ _ _ _ _ _ _ _ _ _ c.stack.invariant c.in-Some.ensures.items _ _ false c.as_usize.ensures.value c.index.ensures c.if-index.false)
    c.in-Match.pattern c.in-Match.ensures.action

pub returns-clause-scanned : goal.returns-clause-scanned
returns-clause-scanned g c =
    stack-last _ _ _ _ _ _ _ _ c.stack.invariant (let e = (rw c.in_default.is at c.pop.ensures.cases).0 in omega (arith, e, c.stack.stack.ok))

pub stack-smaller-in-Continue-branch-4 : goal.stack-smaller-in-Continue-branch-4
stack-smaller-in-Continue-branch-4 g c =
    let less = fewer _ _ _ _ _ _ _ _ _ _ c.stack.invariant c.in-Some.ensures.items
    (read _ _ _ _ _ _ _ _ _ _ c.stack.invariant c.in-Some.ensures.items _ _ false c.as_usize.ensures.value c.index.ensures c.if-index.false) in
    rw (c.as_usize-in-Some.ensures.value, c.in_ok-push-in-One.ensures.items)
    (omega (
      arith,
      less,
      ap length c.in-Some.ensures.items,
      length-append c.pop.new.self.items (c.in-Some.sid ∷ []),
      length-append c.pop.new.self.items (c.in-One.to ∷ []),
    ))

pub stack-smaller : goal.stack-smaller
stack-smaller g c =
    let less = fewer _ _ _ _ _ _ _ _ _ _ c.stack.invariant c.in-Some.ensures.items
    (read _ _ _ _ _ _ _ _ _ _ c.stack.invariant c.in-Some.ensures.items _ _ false c.as_usize.ensures.value c.index.ensures c.if-index.false) in
    rw (c.as_usize-in-Some.ensures.value, c.in_ok-push-in-Two-2.ensures.items, c.in_ok-push-in-Two.ensures.items)
    (omega (
      arith,
      less,
      ap length c.in-Some.ensures.items,
      length-append c.pop.new.self.items (c.in-Some.sid ∷ []),
      length-append c.pop.new.self.items (c.in-Two.b ∷ []),
      length-append (c.pop.new.self.items ++ c.in-Two.b ∷ []) (c.in-Two.a ∷ []),
    ))

pub returns-in-Match-clause-states : goal.returns-in-Match-clause-states
returns-in-Match-clause-states g c = stack-states _ _ _ _ _ _ _ _ c.stack.invariant

pub returns-clause-states : goal.returns-clause-states
returns-clause-states g c = stack-states _ _ _ _ _ _ _ _ c.stack.invariant
