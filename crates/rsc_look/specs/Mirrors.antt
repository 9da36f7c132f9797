-- Haystacks read from the other end.
use Rattle.std.specs.Prelude.{ℕ, Bool, true, false, ◌==◌, ◌≡◌, ◌↔◌, ◌≤◌, ◌-◌, if◌then◌else◌, List, length, take, reverse, map}
use Rattle.rsc_primitives.specs.Utf8.{EncodesAll}
use Rattle.rsc_look.specs.declared.assertion.Look.{Look}
use Rattle.rsc_look.specs.declared.assertion.Look.TheVariants.{StartCRLF, EndCRLF}
use Rattle.rsc_look.specs.Looks.{reversed, line_feed, carriage_return}
use Rattle.rsc_look.specs.Holds.{Holds}

-- the two assertions that look at `\r\n`
abbrev pub is_crlf : Look → Bool
is_crlf StartCRLF = true
is_crlf EndCRLF = true
is_crlf _ = false

-- `\r` and `\n` in each other's position
abbrev pub exchanged : ℕ → ℕ
exchanged b = if b == carriage_return then line_feed else if b == line_feed then carriage_return else b

-- the haystack read from the other end, for the two assertions that look at `\r\n` with these bytes exchanged
abbrev pub mirror : Look → List ℕ → List ℕ
mirror l h = if is_crlf l then map exchanged (reverse h) else reverse h

-- the haystack encodes the characters cs one after the other, and the first k of them end at i
pub record EndsFirst (h : List ℕ) (i : ℕ) (cs : List ℕ) (k : ℕ) : Type 0 where
  pub text : EncodesAll h cs
  pub within : k ≤ length cs
  pub front : List ℕ
  pub front_text : EncodesAll front (take k cs)
  pub front_length : i ≡ length front

-- where i is after the first k characters of a text, P says what the reversed assertion says of the text of the same
-- characters in reverse, after all but k of them
abbrev pub IsTextMirrored : Look → ℕ → (ℕ → Bool) → List ℕ → ℕ → Type 0 → Type 0
IsTextMirrored l t chars h i P =
    (cs : List ℕ) (k : ℕ) (m : List ℕ) (j : ℕ) → EndsFirst h i cs k → EndsFirst m j (reverse cs) (length cs - k)
    → P ↔ Holds (reversed l) t chars m j
