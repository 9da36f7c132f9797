use Rattle.std.proofs.Common.{◌≡◌, ◌≢◌, ◌<◌, ap, not, sym, ◌∙◌, arith, refl, false, true}
use Rattle.rsc_search.specs.BlockLayout.{is_set}
use Rattle.rsc_search.proofs.PatternSetLayoutLemmas.{has_member-set, members_within, member_before, same_at, new_member, more_at, more_packed, with_one_more, one_more_member}
use Rattle.rsc_search.proofs.pattern_set.PatternSet.insert.Goals as goal
use Rattle.rsc_search.proofs.pattern_set.PatternSet.insert.Goals.{After-with_bit-more}

module _ (g : _) (c : After-with_bit-more g) where
  below : c.args.pid < c.self.inside.capacity
  below = rw (← c.self.view_is) at c.requires

  -- the bit was set, or it wasn't
  had : c.with_bit-more.result ≡ c.index-block.result.now → is_set c.self.inside.blocks.items c.args.pid ≡ true
  had = member_before c.self.invariant _ _ below c.as_usize-p.ensures.value c.index-block.ensures c.with_bit-more.ensures.bits

  lacked : c.with_bit-more.result ≢ c.index-block.result.now → is_set c.self.inside.blocks.items c.args.pid ≡ false
  lacked = new_member c.self.invariant _ _ below c.as_usize-p.ensures.value c.index-block.ensures c.with_bit-more.ensures.bits c.with_bit-more.ensures.same

pub returns-then-more-block : goal.returns-then-more-block
returns-then-more-block g c =
    let s = c.self.inside in
    let with = (goal.at.returns-then-more-block g c).After-with_bit-more in
    let is = had g with c.if-more-block.true in
    rw (← c.self.view_is) (record {
      value = with_one_more s.capacity s.blocks.items c.self.invariant.spare_clear _ _
          (same_at c.self.invariant _ _ (below g with) c.as_usize-p.ensures.value c.index-block.ensures c.with_bit-more.ensures.bits is);
      added = ap not (sym (has_member-set s.capacity s.blocks.items c.self.invariant.spare_clear c.args.pid ∙ is));
      count = refl;
      within = members_within s.capacity s.blocks.items;
    })

pub overflow_add-self : goal.overflow_add-self
overflow_add-self g c = omega (arith, c.self.invariant.count_is, c.self.invariant.fits, members_within c.self.inside.capacity c.self.inside.blocks.items)

pub invariant_of-self : goal.invariant_of-self
invariant_of-self g c =
    let with = (goal.at.invariant_of-self g c).After-with_bit-more in
    more_packed c.self.invariant _ _ (below g with) c.as_usize-p.ensures.value c.index-block.ensures c.with_bit-more.ensures.bits
    (lacked g with c.if-more-block.false)

pub returns : goal.returns
returns g c =
    let s = c.self.inside in
    let with = (goal.at.returns g c).After-with_bit-more in
    let out = lacked g with c.if-more-block.false in
    let at = more_at c.self.invariant _ _ (below g with) c.as_usize-p.ensures.value c.index-block.ensures c.with_bit-more.ensures.bits in
    rw (← c.self.view_is) (record {
      value = with_one_more s.capacity s.blocks.items c.self.invariant.spare_clear _ _ at;
      added = ap not (sym (has_member-set s.capacity s.blocks.items c.self.invariant.spare_clear c.args.pid ∙ out));
      count = one_more_member s.capacity s.blocks.items c.self.invariant.spare_clear _ _ at (below g with) out;
      within = members_within s.capacity _;
    })
