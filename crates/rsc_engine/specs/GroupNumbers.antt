-- How the groups of a pattern are numbered, and which slots they have.
use Rattle.std.specs.Prelude.{◌≡◌, ℕ, zero, suc, ◌+◌, ◌*◌, ◌⊎◌}
use Rattle.rsc_captures.specs.Groups.{GroupLists, slot_number}
use Rattle.rsc_engine.specs.Patterns.{Pattern, Empty, Never, Class, Literal, Assertion, Then, Either, Repeat, Group}

-- how many groups a pattern has
abbrev pub group_count_in : Pattern → ℕ
group_count_in Empty = 0
group_count_in Never = 0
group_count_in (Class ranges) = 0
group_count_in (Literal bytes) = 0
group_count_in (Assertion look) = 0
group_count_in (Then a b) = group_count_in a + group_count_in b
group_count_in (Either a b) = group_count_in a + group_count_in b
group_count_in (Repeat min max greedy a) = group_count_in a
group_count_in (Group slot a) = 1 + group_count_in a

-- the part of the group with that number, where a pattern's groups are numbered from 0 in the order in which they open
abbrev pub IsGroupOf : ℕ → Pattern → Pattern → Type 0
IsGroupOf g part Empty = ⊥
IsGroupOf g part Never = ⊥
IsGroupOf g part (Class ranges) = ⊥
IsGroupOf g part (Literal bytes) = ⊥
IsGroupOf g part (Assertion look) = ⊥
IsGroupOf g part (Then a b) = IsGroupOf g part a ⊎ ((h : ℕ) × (g ≡ group_count_in a + h) × IsGroupOf h part b)
IsGroupOf g part (Either a b) = IsGroupOf g part a ⊎ ((h : ℕ) × (g ≡ group_count_in a + h) × IsGroupOf h part b)
IsGroupOf g part (Repeat min max greedy a) = IsGroupOf g part a
IsGroupOf zero part (Group slot a) = a ≡ part
IsGroupOf (suc g) part (Group slot a) = IsGroupOf g part a

-- the pattern with the slots of its groups, which are numbered from n on in the order in which they open
abbrev pub numbered : (ℕ → ℕ) → ℕ → Pattern → Pattern
numbered slot_of n Empty = Empty
numbered slot_of n Never = Never
numbered slot_of n (Class ranges) = Class ranges
numbered slot_of n (Literal bytes) = Literal bytes
numbered slot_of n (Assertion look) = Assertion look
numbered slot_of n (Then a b) = Then (numbered slot_of n a) (numbered slot_of (n + group_count_in a) b)
numbered slot_of n (Either a b) = Either (numbered slot_of n a) (numbered slot_of (n + group_count_in a) b)
numbered slot_of n (Repeat min max greedy a) = Repeat min max greedy (numbered slot_of n a)
numbered slot_of n (Group slot a) = Group (slot_of n) (numbered slot_of (n + 1) a)

-- the pattern p as number m of the lists: with the slots of its groups, within group 0, the whole match
abbrev pub as_whole : GroupLists → ℕ → Pattern → Pattern
as_whole lists m p = Group (2 * m) (numbered (slot_number lists m) 1 p)
