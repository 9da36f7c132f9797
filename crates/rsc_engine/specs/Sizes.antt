-- How many states a pattern has, and a program of patterns.
use Rattle.std.specs.Prelude.{ℕ, zero, suc, ◌+◌, ◌-◌, ◌*◌, Bool, List, length, sum_by, Some, None, if◌then◌else◌}
use Rattle.rsc_primitives.specs.Indices.{max_index}
use Rattle.rsc_engine.specs.Patterns.{Pattern, Empty, Never, Class, Literal, Assertion, Then, Either, Repeat, Group, may_be_empty}

-- how many states a part that is repeated without a limit has, if the part itself has `size`; a loop over what may be empty is entered by a choice of its own
abbrev pub size_of_loop : ℕ → Bool → ℕ → ℕ
size_of_loop zero is_empty size = size + (if is_empty then 2 else 1)
size_of_loop (suc min) is_empty size = suc min * size + 1

-- how many states a pattern has
abbrev pub size_of : Pattern → ℕ
size_of Empty = 0
size_of Never = 1
size_of (Class ranges) = 2 * (length ranges - 1) + 1
size_of (Literal bytes) = length bytes
size_of (Assertion look) = 1
size_of (Then a b) = size_of a + size_of b
size_of (Either a b) = size_of a + size_of b + 1
size_of (Repeat min None greedy a) = size_of_loop min (may_be_empty a) (size_of a)
size_of (Repeat min (Some max) greedy a) = min * size_of a + (max - min) * (size_of a + 1)
size_of (Group slot a) = size_of a + 2

-- how many states a program has: for each pattern two that record where its match begins and ends and one that accepts, and a choice before each but the last
abbrev pub size_of_program : List Pattern → ℕ
size_of_program patterns = sum_by (λ p. size_of p + 3) patterns + (length patterns - 1)

-- as many states as there are numbers for
abbrev pub most_states : ℕ
most_states = max_index + 1
