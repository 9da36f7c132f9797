-- What writing through lent slots does to captures.
use Rattle.std.specs.Prelude.{ℕ, List, Option}
use Rattle.std.specs.Borrow.{Lends, MutBor, Fml, Array, RattleType}
use Rattle.std.specs.declared.alloc.Allocator.{Ghosts}
use Rattle.std.specs.contracts.option.Option as option
use Rattle.rsc_primitives.specs.contracts.primitives.non_max.NonMaxUsize as nonmax
use Rattle.rsc_captures.specs.Captured.{Captured, refilled}
use Rattle.rsc_captures.specs.contracts.captures.Captures.{the_row}

module _ (A : RattleType) (alloc : Ghosts A.Denot) where
  -- r lends the slots: the offsets that are last written through r stay
  abbrev pub LendsSlots : MutBor Captured → MutBor (List (Option ℕ)) → Fml
  LendsSlots c r =
      Lends (the_row A alloc) (Array (option.the_row nonmax.the_row) 0) c r (λ offsets. record c.now { offsets = refilled c.now.offsets offsets })
