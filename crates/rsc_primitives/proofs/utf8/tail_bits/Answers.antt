use Rattle.std.proofs.Common.{◌≡◌, ℕ, Bool, true, ◌+◌, ◌-◌, ◌<◌, ◌≤◌, ◌∙◌, ap, cond, nat_eq, nat_lt, refl, arith, ⊎_elim}
use Rattle.std.specs.Int.Bits.{bit_xor}
use Rattle.std.proofs.lemmas.Bool.{agree_below_at, cases_lt, eqb-true, le-ltb, lt-ltb}
use Rattle.rsc_primitives.specs.Utf8.{IsTail}
use Rattle.rsc_primitives.proofs.utf8.tail_bits.Goals as goal

-- the byte with its highest bit changed is 128 more or 128 less
abbrev is_flipped : ℕ → Bool
is_flipped b = nat_eq (bit_xor b 128) (cond (nat_lt b 128) (b + 128) (b - 128))

flipped : (b : ℕ) → b < 256 → bit_xor b 128 ≡ cond (nat_lt b 128) (b + 128) (b - 128)
flipped b l = eqb-true _ _ (agree_below_at is_flipped (λ _. true) 256 b refl l)

pub returns-clause-tail : goal.returns-clause-tail
returns-clause-tail c = λ t. flipped c.args.byte (omega (arith, c.ranges.byte.fits)) ∙ rw (le-ltb c.args.byte 128 t.0) refl

pub returns-clause-other : goal.returns-clause-other
returns-clause-other c = λ small. by_half c.args.byte (bit_xor c.args.byte 128) (flipped c.args.byte (omega (arith, c.ranges.byte.fits))) small
    (omega (arith, c.ranges.byte.fits))
  where
    by_half : (b x : ℕ) → x ≡ cond (nat_lt b 128) (b + 128) (b - 128) → x ≤ 0x3F → b < 256 → IsTail b
    by_half b x is small fits = ⊎_elim
        (λ (l : b < 128). let up : x ≡ b + 128 = is ∙ ap (λ t. cond t (b + 128) (b - 128)) (lt-ltb b 128 l) in absurd (omega (arith, small, up)))
        (λ (l : 128 ≤ b). let down : x ≡ b - 128 = is ∙ ap (λ t. cond t (b + 128) (b - 128)) (le-ltb b 128 l) in (l, omega (arith, small, down)))
        (cases_lt b 128)
