-- Courses that are alike but for the numbers of their choices.
use Rattle.std.specs.Prelude.{◌≡◌, ℕ}
use Rattle.std.specs.List.{Contains}
use Rattle.rsc_engine.specs.Courses.{Course, Skip, Dead, Byte, Here, After, Choose, Turn, Again, Within, Stand}

-- the courses differ in the numbers of choices alone: R says which number of the other stands for one
abbrev pub AreRenamed : (ℕ → ℕ → Type 0) → Course → Course → Type 0
AreRenamed R Skip e = e ≡ Skip
AreRenamed R Dead e = e ≡ Dead
AreRenamed R (Byte a b) e = e ≡ Byte a b
AreRenamed R (Here look) e = e ≡ Here look
AreRenamed R (After c d) e = (f : Course) × (g : Course) × (e ≡ After f g) × AreRenamed R c f × AreRenamed R d g
AreRenamed R (Choose w c d) e = (v : ℕ) × (f : Course) × (g : Course) × (e ≡ Choose v f g) × R w v × AreRenamed R c f × AreRenamed R d g
AreRenamed R (Turn w greedy c) e = (v : ℕ) × (f : Course) × (e ≡ Turn v greedy f) × R w v × AreRenamed R c f
AreRenamed R (Again w greedy c) e = (v : ℕ) × (f : Course) × (e ≡ Again v greedy f) × R w v × AreRenamed R c f
AreRenamed R (Within slot c) e = (f : Course) × (e ≡ Within slot f) × AreRenamed R c f

-- one number stands for one
pub record IsOneToOne (R : ℕ → ℕ → Type 0) : Type 0 where
  pub to : (v w a b : ℕ) → R v w → R a b → v ≡ a → w ≡ b
  pub back : (v w a b : ℕ) → R v w → R a b → w ≡ b → v ≡ a

-- the same position and records; and of numbers that stand for each other both choices were made, or none
pub record AreAlike (R : ℕ → ℕ → Type 0) (s t : Stand) : Type 0 where
  pub at : s.at ≡ t.at
  pub records : s.records ≡ t.records
  pub to : (v w : ℕ) → R v w → Contains s.made v → Contains t.made w
  pub back : (v w : ℕ) → R v w → Contains t.made w → Contains s.made v
