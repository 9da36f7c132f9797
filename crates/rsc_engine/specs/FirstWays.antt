-- Which way of a pattern is tried first: the preferred one, if its loops take bytes.
use Rattle.std.specs.Prelude.{◌≡◌, ℕ, zero, suc, ◌+◌, ◌-◌, ◌⊎◌, Bool, true, false, Option}
use Rattle.rsc_engine.specs.Patterns.{Pattern, Empty, Never, Class, Literal, Assertion, Then, Either, Repeat, Group, Subject, SomeTimes, Goes}
use Rattle.rsc_engine.specs.FirstEnds.{HasEndIn, limit_after, MayRepeat, CanRepeat}
use Rattle.rsc_engine.specs.Ways.{Point, with_record}

-- the part comes n times, each time on its first way from which the rest leads to a wanted position. When it stops is as for `AreFirstTimes`
abbrev pub AreFirstRounds : ((ℕ → Type 0) → Point → Point → Type 0) → (ℕ → ℕ → Type 0) → Bool → ℕ → ℕ → Option ℕ
    → (ℕ → Type 0) → Point → Point → Type 0
AreFirstRounds First R greedy zero min max Wanted m n = (min ≡ 0) × (m ≡ n) × Wanted n.0 × (greedy ≡ true → ¬ (CanRepeat R min max Wanted m.0))
AreFirstRounds First R greedy (suc times) min max Wanted m n =
    MayRepeat min max × (greedy ≡ false → min ≡ 0 → ¬ (Wanted m.0))
    × (k : Point) × First (HasEndIn Wanted (SomeTimes R (min - 1) (limit_after max))) m k
    × AreFirstRounds First R greedy times (min - 1) (limit_after max) Wanted k n

-- of the ways of the pattern to wanted positions the first leads from the one point to the other
abbrev pub IsFirstWay : Subject → Pattern → (ℕ → Type 0) → Point → Point → Type 0
IsFirstWay x Empty Wanted m n = (m ≡ n) × Wanted n.0
IsFirstWay x Never Wanted m n = ⊥
IsFirstWay x (Class ranges) Wanted m n = Goes x (Class ranges) m.0 n.0 × (m.1 ≡ n.1) × Wanted n.0
IsFirstWay x (Literal bytes) Wanted m n = Goes x (Literal bytes) m.0 n.0 × (m.1 ≡ n.1) × Wanted n.0
IsFirstWay x (Assertion look) Wanted m n = Goes x (Assertion look) m.0 n.0 × (m.1 ≡ n.1) × Wanted n.0
IsFirstWay x (Then a b) Wanted m n = (k : Point) × IsFirstWay x a (HasEndIn Wanted (Goes x b)) m k × IsFirstWay x b Wanted k n
IsFirstWay x (Either a b) Wanted m n = IsFirstWay x a Wanted m n ⊎ ((¬ (HasEndIn Wanted (Goes x a) m.0)) × IsFirstWay x b Wanted m n)
IsFirstWay x (Repeat min max greedy a) Wanted m n =
    (times : ℕ) × AreFirstRounds (λ Such k l. IsFirstWay x a Such k l) (Goes x a) greedy times min max Wanted m n
IsFirstWay x (Group slot a) Wanted m n = (k : Point) × IsFirstWay x a Wanted (with_record slot m) k × (n ≡ with_record (slot + 1) k)
