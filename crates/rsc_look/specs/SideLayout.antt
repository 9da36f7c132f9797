-- What a reader of one side answers of the character that it found there.
use Rattle.std.specs.Prelude.{◌≡◌, ℕ, Bool, true, false}
use Rattle.rsc_look.specs.declared.side.Side.{Side}
use Rattle.rsc_look.specs.declared.side.Side.TheVariants.{WordCharacter, Other}

abbrev pub IsSideOf : (ℕ → Bool) → ℕ → Side → Type 0
IsSideOf W c WordCharacter = W c ≡ true
IsSideOf W c Other = W c ≡ false
IsSideOf W c _ = ⊥
