-- The text of a list of patterns with their groups, as `-,x;-,-,x`.
use Rattle.std.specs.Prelude.{ℕ, ◌==◌, List, [], ◌∷◌, Option, Some, None, map, codes, if◌then◌else◌}
use Rattle.std.specs.List.{list_all, slice_split}
use Rattle.std.specs.Option.{option_map}
use Rattle.std.specs.Str.{bytes_eq}
use Rattle.rsc_primitives.specs.Utf8.{is_word_byte}

-- what all options hold, if each holds something
abbrev pub all_there : {X : Type 0} → List (Option X) → Option (List X)
all_there [] = Some []
all_there (None ∷ rest) = None
all_there (Some x ∷ rest) = option_map (λ xs. x ∷ xs) (all_there rest)

-- the name that a text writes: `-` is none, and a name is one or more word bytes
abbrev pub group_of : List ℕ → Option (Option (List ℕ))
group_of [] = None
group_of (b ∷ bytes) =
    if bytes_eq (b ∷ bytes) (codes "-") then Some None
    else if list_all is_word_byte (b ∷ bytes) then Some (Some (b ∷ bytes))
    else None

-- the groups that a text writes, which is cut at each comma; the empty one has none
abbrev pub groups_in_text : List ℕ → Option (List (Option (List ℕ)))
groups_in_text [] = Some []
groups_in_text (b ∷ bytes) = all_there (map group_of (slice_split (λ c. c == 44) (b ∷ bytes)))

-- the patterns that a text writes, which is cut at each semicolon
abbrev pub patterns_in_text : List ℕ → Option (List (List (Option (List ℕ))))
patterns_in_text text = all_there (map groups_in_text (slice_split (λ c. c == 59) text))
