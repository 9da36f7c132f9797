-- Marks that say which assertions hold.
use Rattle.std.specs.Prelude.{◌≡◌, ◌↔◌, Bool, List, [], ◌∷◌, IsTrue}
use Rattle.rsc_look.specs.declared.assertion.Look.{Look}

-- there is a mark for each assertion, in their order, and it is true exactly if the assertion holds
abbrev pub AreMarks : (Look → Type 0) → List Look → List Bool → Type 0
AreMarks holds [] marks = marks ≡ []
AreMarks holds (l ∷ looks) [] = ⊥
AreMarks holds (l ∷ looks) (m ∷ marks) = (IsTrue m ↔ holds l) × AreMarks holds looks marks
