use Rattle.std.proofs.Common.{◌≡◌, ℕ, ◌≤◌, List, ◌++◌, length, take, flat_map}
use Rattle.std.specs.Fmt.{HasWritten, IsPlainFormatter}
use Rattle.rsc_primitives.specs.Escapes.{step_text, EncodesOnlyAscii}
use Rattle.rsc_primitives.specs.declared.escape.TheConstants.{PIECE_SIZE}
use Rattle.rsc_primitives.proofs.escape.write_steps.Given as goal

-- the steps so far are written, but for those whose text is in the piece
abbrev pub invariant-steps : goal.invariant-steps
invariant-steps g l =
    (l.len ≤ PIECE_SIZE) × (EncodesOnlyAscii l.fn.haystack → IsPlainFormatter l.fn.f
    → (done : List ℕ) × HasWritten g.W.Write.write_str_gives l.fn.f done l.f
    × ((done ++ take l.len l.piece) ++ flat_map step_text l.rest ≡ flat_map step_text l.fn.haystack) × EncodesOnlyAscii l.rest)

abbrev pub decreases-steps : goal.decreases-steps
decreases-steps g l = length l.rest
