use Rattle.std.proofs.Common.{◌≡◌, ◌≤◌, ◌+◌, ℕ, Bool, true, false, cond, refl, sym, arith}
use Rattle.std.specs.Int.{from_bool}
use Rattle.rsc_alphabet.specs.PartitionsLaws.{class_of-le, class_of_more, class_of_none}
use Rattle.rsc_show.specs.Shares.{exceeds}
use Rattle.rsc_show.proofs.shares.boundaries_beyond.Goals as goal

counted : (n b : ℕ) (t : Bool) → n ≤ b → (n + from_bool t ≡ n + cond t 1 0) × (n + from_bool t ≤ b + 1)
counted n b true le = (refl, omega (arith, le))
counted n b false le = (refl, omega (arith, le))

pub loop-byte-init : goal.loop-byte-init
loop-byte-init c = (sym (class_of_none (exceeds c.args.classes.now c.args.others.now)), omega arith)

pub loop-byte-preserved : goal.loop-byte-preserved
loop-byte-preserved c =
    let p = exceeds c.args.classes.now c.args.others.now in
    rw (class_of_more p c.loop-byte.byte, ← c.is_beyond.ensures, c.from-count.ensures, c.loop-byte.invariant.0)
    (counted _ c.loop-byte.byte c.is_beyond.result (class_of-le p c.loop-byte.byte))
