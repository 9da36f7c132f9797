-- The fault that a kind of error names, none where it is out of memory, and what it prints.
use Rattle.std.specs.Prelude.{ℕ, List, ◌++◌, codes, Option, Some, None}
use Rattle.std.specs.Fmt.{decimal}
use Rattle.std.specs.String.{string_bytes}
use Rattle.rsc_primitives.specs.IndexTexts.{pattern_id_error_text}
use Rattle.rsc_captures.specs.declared.error.GroupInfoErrorKind.{GroupInfoErrorKind}
use Rattle.rsc_captures.specs.declared.error.GroupInfoErrorKind.TheVariants as kind
use Rattle.rsc_captures.specs.Faults.{Fault, TooManyPatterns, MissingGroups, FirstMustBeUnnamed, TooManyGroups, Duplicate}

-- the fault that the kind of an error stands for; none for out of memory
abbrev pub fault_of : {A : Type 0} → GroupInfoErrorKind A → Option Fault
fault_of (kind.TooManyPatterns attempted) = Some (TooManyPatterns attempted)
fault_of (kind.TooManyGroups p minimum) = Some (TooManyGroups p minimum)
fault_of (kind.MissingGroups p) = Some (MissingGroups p)
fault_of (kind.FirstMustBeUnnamed p) = Some (FirstMustBeUnnamed p)
fault_of (kind.Duplicate p name) = Some (Duplicate p (string_bytes name))
fault_of kind.OutOfMemory = None

-- what a fault displays; its pieces are joined from the right, as a format writes them
abbrev pub fault_text : Fault → List ℕ
fault_text (TooManyPatterns p) = codes "too many patterns to build capture info: " ++ pattern_id_error_text p
fault_text (TooManyGroups p minimum) =
    codes "too many capture groups (at least " ++ (decimal minimum ++ (codes ") were found for pattern " ++ decimal p))
fault_text (MissingGroups p) =
    codes "no capturing groups found for pattern "
    ++ (decimal p ++ codes " (either all patterns have zero groups or all patterns have at least one group)")
fault_text (FirstMustBeUnnamed p) =
    codes "first capture group (at index 0) for pattern " ++ (decimal p ++ codes " has a name (it must be unnamed)")
fault_text (Duplicate p name) =
    codes "duplicate capture group name '" ++ (name ++ (codes "' found for pattern " ++ decimal p))

-- what an error displays
abbrev pub refusal_text : Option Fault → List ℕ
refusal_text (Some fault) = fault_text fault
refusal_text None = codes "out of memory while building capture info"
