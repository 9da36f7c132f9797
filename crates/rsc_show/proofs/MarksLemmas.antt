-- Marks of one more assertion.
use Rattle.std.proofs.Common.{◌↔◌, Bool, List, [], ◌∷◌, ◌++◌, refl, sym, subst, IsTrue}
use Rattle.rsc_look.specs.declared.assertion.Look.{Look}
use Rattle.rsc_show.specs.Marks.{AreMarks}

-- the mark of one assertion more
pub AreMarks-push : (holds : Look → Type 0) (looks : List Look) (marks : List Bool) (l : Look) (m : Bool) → AreMarks holds looks marks
    → (IsTrue m ↔ holds l)
    → AreMarks holds (looks ++ l ∷ []) (marks ++ m ∷ [])
AreMarks-push holds [] marks l m before is = subst (λ ms. AreMarks holds (l ∷ []) (ms ++ m ∷ [])) (sym before) (is, refl)
AreMarks-push holds (x ∷ looks) [] l m before is = absurd before
AreMarks-push holds (x ∷ looks) (y ∷ marks) l m before is = (before.0, AreMarks-push holds looks marks l m before.1 is)
