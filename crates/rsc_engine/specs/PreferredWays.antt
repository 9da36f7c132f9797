-- The courses of a pattern, and the way that it prefers.
use Rattle.std.specs.Prelude.{◌≡◌, ℕ, zero, suc, ◌-◌, Bool, true, false, List, [], ◌∷◌, ◌++◌, Some, None}
use Rattle.std.specs.List.{AllPairs}
use Rattle.rsc_engine.specs.Patterns.{Pattern, Empty, Never, Class, Literal, Assertion, Then, Either, Repeat, Group, Subject, may_be_empty}
use Rattle.rsc_engine.specs.Courses.{Course, Skip, Dead, Byte, Here, After, Choose, Turn, Again, Within, Stand, fresh, IsFirstOnce}

-- the course c or nothing, by the choice w: greedy, c is preferred
abbrev pub optional_course : Bool → ℕ → Course → Course
optional_course true w c = Choose w c Skip
optional_course false w c = Choose w Skip c

-- c is a byte of one of the ranges: a choice before each but the last
abbrev pub IsOfRanges : List (ℕ × ℕ) → Course → Type 0
IsOfRanges [] c = c ≡ Dead
IsOfRanges (r ∷ []) c = c ≡ Byte r.0 r.1
IsOfRanges (r ∷ (q ∷ rest)) c = (w : ℕ) × (d : Course) × (c ≡ Choose w (Byte r.0 r.1) d) × IsOfRanges (q ∷ rest) d

-- the course of these bytes, one after the other
abbrev pub bytes_in_order : List ℕ → Course
bytes_in_order [] = Skip
bytes_in_order (b ∷ rest) = After (Byte b b) (bytes_in_order rest)

-- c is n courses, one after the other, of each of which `Is` holds
abbrev pub AreCopies : (Course → Type 0) → ℕ → Course → Type 0
AreCopies Is zero c = c ≡ Skip
AreCopies Is (suc n) c = (d : Course) × (e : Course) × (c ≡ After d e) × Is d × AreCopies Is n e

-- c is at most n courses, each entered by a choice of its own, of each of which `Is` holds
abbrev pub AreOptionalCopies : (Course → Type 0) → Bool → ℕ → Course → Type 0
AreOptionalCopies Is greedy zero c = c ≡ Skip
AreOptionalCopies Is greedy (suc n) c = (w : ℕ) × (d : Course) × (e : Course) × (c ≡ optional_course greedy w (After d e)) × Is d
    × AreOptionalCopies Is greedy n e

-- c is a course of which `Is` holds, once or more
abbrev pub IsAgain : (Course → Type 0) → Bool → Course → Type 0
IsAgain Is greedy c = (w : ℕ) × (d : Course) × (c ≡ Again w greedy d) × Is d

-- c is a course of which `Is` holds, any number of times: a loop over what may be empty is entered by a choice of its own, another one by its turn
abbrev pub IsStar : (Course → Type 0) → Bool → Bool → Course → Type 0
IsStar Is true greedy c = (w : ℕ) × (d : Course) × (c ≡ optional_course greedy w d) × IsAgain Is greedy d
IsStar Is false greedy c = (w : ℕ) × (d : Course) × (c ≡ Turn w greedy d) × Is d

-- c is the pattern with its copies written out, in which the choices may have any numbers
abbrev pub IsCourseOf : Pattern → Course → Type 0
IsCourseOf Empty c = c ≡ Skip
IsCourseOf Never c = c ≡ Dead
IsCourseOf (Class ranges) c = IsOfRanges ranges c
IsCourseOf (Literal bytes) c = c ≡ bytes_in_order bytes
IsCourseOf (Assertion look) c = c ≡ Here look
IsCourseOf (Then a b) c = (d : Course) × (e : Course) × (c ≡ After d e) × IsCourseOf a d × IsCourseOf b e
IsCourseOf (Either a b) c = (w : ℕ) × (d : Course) × (e : Course) × (c ≡ Choose w d e) × IsCourseOf a d × IsCourseOf b e
IsCourseOf (Repeat zero None greedy a) c = IsStar (IsCourseOf a) (may_be_empty a) greedy c
IsCourseOf (Repeat zero (Some max) greedy a) c = AreOptionalCopies (IsCourseOf a) greedy max c
IsCourseOf (Repeat (suc zero) None greedy a) c = IsAgain (IsCourseOf a) greedy c
IsCourseOf (Repeat (suc (suc min)) None greedy a) c =
    (d : Course) × (e : Course) × (c ≡ After d e) × AreCopies (IsCourseOf a) (suc min) d × IsAgain (IsCourseOf a) greedy e
IsCourseOf (Repeat (suc min) (Some max) greedy a) c =
    (d : Course) × (e : Course) × (c ≡ After d e) × AreCopies (IsCourseOf a) (suc min) d × AreOptionalCopies (IsCourseOf a) greedy (max - suc min) e
IsCourseOf (Group slot a) c = (d : Course) × (c ≡ Within slot d) × IsCourseOf a d

-- the numbers of a course's choices
abbrev pub choices : Course → List ℕ
choices Skip = []
choices Dead = []
choices (Byte a b) = []
choices (Here look) = []
choices (After c d) = choices c ++ choices d
choices (Choose w c d) = w ∷ (choices c ++ choices d)
choices (Turn w greedy c) = w ∷ choices c
choices (Again w greedy c) = w ∷ choices c
choices (Within slot c) = choices c

-- a course of the pattern in which each choice has a number of its own
pub record HasCourse (p : Pattern) : Type 0 where
  pub course : Course
  pub is : IsCourseOf p course
  pub apart : AllPairs (λ v w. ¬ (v ≡ w)) (choices course)

-- the pattern's preferred way from i to a wanted position leads to j, and makes these records; the last one is first
abbrev pub IsPreferredWay : Subject → Pattern → (ℕ → Type 0) → ℕ → ℕ → List (ℕ × ℕ) → Type 0
IsPreferredWay x p Wanted i j records =
    (its : HasCourse p) × (last : Stand) × IsFirstOnce x its.course (λ s. Wanted s.at) (fresh i) last × (last.at ≡ j) × (last.records ≡ records)
