-- Names as they are held, in one text.
use Rattle.std.specs.Prelude.{◌≡◌, ◌≢◌, ◌+◌, ℕ, nat_eq, List, length, map, slice_range, Option, Some, None, if◌then◌else◌}
use Rattle.std.specs.Str.{IsCharBoundary}
use Rattle.std.specs.List.{All}
use Rattle.rsc_captures.specs.declared.names.Entry.{Entry}
use Rattle.rsc_captures.specs.declared.names.TheConstants.{NO_NAME}
use Rattle.rsc_captures.specs.Groups.{Groups}

-- the name in the text that an entry of the table says, if it says one
abbrev pub name_held : List ℕ → Entry → Option (List ℕ)
name_held text p = if nat_eq p.length NO_NAME then None else Some (slice_range text p.start (p.start + p.length))

-- the names that the entries say
abbrev pub names_held : List ℕ → List Entry → Groups
names_held text entries = map (name_held text) entries

-- the text may be cut where the entry says that its name begins and ends
pub record IsCut (text : List ℕ) (p : Entry) : Type 0 where
  pub start : IsCharBoundary text p.start
  pub end : IsCharBoundary text (p.start + p.length)

-- the text may be cut at both ends of each name
abbrev pub AreCut : List ℕ → List Entry → Type 0
AreCut text entries = All (λ p. p.length ≢ NO_NAME → IsCut text p) entries

-- these are the names that the entries say
pub record AreHeld (text : List ℕ) (entries : List Entry) (names : Groups) : Type 0 where
  pub are : names_held text entries ≡ names
  pub cuts : AreCut text entries

-- the entry of a name that is added to the text
abbrev pub entry_held : List ℕ → Option (List ℕ) → Entry
entry_held text None = record { start = 0; length = NO_NAME }
entry_held text (Some name) = record { start = length text; length = length name }
