-- The slots that a group was written into give its span.
use Rattle.std.proofs.Common.{◌≡◌, ◌≢◌, ℕ, zero, suc, ◌+◌, ◌*◌, ◌<◌, nat_eq, cond, Bool, true, false, length, Some, None, refl, ap, arith, set, get_or-set_same, get_or-set_other, length-set}
use Rattle.std.proofs.lemmas.Bool.{lt-ltb}
use Rattle.std.proofs.lemmas.Bool.Decides.{nat_tests}
use Rattle.rsc_captures.specs.Groups.{GroupLists, group_count, slot_of, slot_number, explicit_before}
use Rattle.rsc_captures.specs.Captured.{Captured, first_slot, group_span}

-- where there is one pattern, a group's slot is twice its number
alone : (groups : GroupLists) (g : ℕ) → length groups ≡ 1 → 2 * g ≡ slot_number groups 0 g
alone groups zero one = refl
alone groups (suc g) one =
    let later : nat_eq (suc g) 0 ≡ false = grind (arith, nat_tests) in
    let none : explicit_before groups 0 ≡ 0 = refl in
    rw later (omega (arith, one, none))

-- a group of a pattern has its slot
numbered : (groups : GroupLists) (q g : ℕ) → q < length groups → g < group_count groups q → first_slot groups q g ≡ Some (slot_number groups q g)
numbered groups q g there group = go (nat_eq (length groups) 1) refl
  where
    go : (b : Bool) → nat_eq (length groups) 1 ≡ b → cond b (Some (2 * g)) (slot_of groups q g) ≡ Some (slot_number groups q g)
    go true e =
        let one : length groups ≡ 1 = grind (arith, nat_tests, e) in
        let zero_is : q ≡ 0 = omega (arith, one, there) in
        rw zero_is (ap Some (alone groups g one))
    go false e = rw (lt-ltb g (group_count groups q) group) refl

-- the span that two slots were given
pub span_written : (c : Captured) (q g start end : ℕ) → c.pattern ≡ Some q → q < length c.groups → g < group_count c.groups q
    → slot_number c.groups q g + 1 < length c.offsets
    → group_span (record c { offsets = set (set c.offsets (slot_number c.groups q g) (Some start)) (slot_number c.groups q g + 1) (Some end) }) g
    ≡ Some (record { start = start; end = end })
span_written c q g start end is there group room =
    let slot : ℕ = slot_number c.groups q g in
    let apart : slot ≢ slot + 1 = omega arith in
    let fits : slot + 1 < length (set c.offsets slot (Some start)) = omega (arith, room, length-set c.offsets slot (Some start)) in
    rw (is, numbered c.groups q g there group) (rw (
      get_or-set_other (set c.offsets slot (Some start)) (slot + 1) slot (Some end) None apart,
      get_or-set_same c.offsets slot (Some start) None (omega (arith, room)),
      get_or-set_same (set c.offsets slot (Some start)) (slot + 1) (Some end) None fits,
    ) refl)
