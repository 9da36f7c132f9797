-- Which assertions a pattern has, in parts that may be there.
use Rattle.std.specs.Prelude.{ℕ, zero, suc, ◌==◌, ◌||◌, ◌&&◌, nat_lt, Bool, true, false, Option, Some, None}
use Rattle.rsc_look.specs.declared.assertion.Look.{Look}
use Rattle.rsc_look.specs.Looks.{repr_of}
use Rattle.rsc_engine.specs.Patterns.{Pattern, Empty, Never, Class, Literal, Assertion, Then, Either, Repeat, Group}

-- a part that is repeated from min to max times may be there
abbrev pub may_occur : ℕ → Option ℕ → Bool
may_occur min None = true
may_occur min (Some zero) = nat_lt 0 min
may_occur min (Some (suc max)) = true

-- the pattern has the assertion, in a part that may be there
abbrev pub asks : Look → Pattern → Bool
asks look Empty = false
asks look Never = false
asks look (Class ranges) = false
asks look (Literal bytes) = false
asks look (Assertion l) = repr_of l == repr_of look
asks look (Then a b) = asks look a || asks look b
asks look (Either a b) = asks look a || asks look b
asks look (Repeat min max greedy a) = may_occur min max && asks look a
asks look (Group slot a) = asks look a
