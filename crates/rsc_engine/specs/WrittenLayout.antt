-- Courses as patterns.
use Rattle.std.specs.Prelude.{[], ◌∷◌, None}
use Rattle.rsc_engine.specs.Patterns.{Pattern, Empty, Never, Class, Assertion, Then, Either, Repeat, Group}
use Rattle.rsc_engine.specs.Courses.{Course, Skip, Dead, Byte, Here, After, Choose, Turn, Again, Within}

-- the course as a pattern
abbrev pub written : Course → Pattern
written Skip = Empty
written Dead = Never
written (Byte a b) = Class ((a, b) ∷ [])
written (Here look) = Assertion look
written (After c d) = Then (written c) (written d)
written (Choose w c d) = Either (written c) (written d)
written (Turn w greedy c) = Repeat 0 None greedy (written c)
written (Again w greedy c) = Repeat 1 None greedy (written c)
written (Within slot c) = Group slot (written c)
