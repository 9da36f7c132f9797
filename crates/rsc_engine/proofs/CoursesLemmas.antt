-- Which way of a course is the first depends on what is wanted alone.
use Rattle.std.proofs.Common.{ℕ, zero, suc, ◌+◌, inl, inr, ⊎_elim, Bool}
use Rattle.rsc_engine.specs.Patterns.{Subject}
use Rattle.rsc_engine.specs.Courses.{Course, Skip, Dead, Byte, Here, After, Choose, Turn, Again, Within, Stand, chosen, noted, SomeTurns, GoesOnce, Reaches, FirstTurns, IsFirstOnce}

-- what is wanted by the one is wanted by the other
abbrev pub IsMoreAt : (Stand → Type 0) → (Stand → Type 0) → Type 0
IsMoreAt Wanted Other = (s : Stand) → Wanted s → Other s

pub reaches-more : (Wanted Other : Stand → Type 0) (R : Stand → Stand → Type 0) → IsMoreAt Wanted Other
    → IsMoreAt (Reaches Wanted R) (Reaches Other R)
reaches-more Wanted Other R more s r = (r.0, r.1, more r.0 r.2)

abbrev IsAlike : ((Stand → Type 0) → Stand → Stand → Type 0) → Type 1
IsAlike First = (Wanted Other : Stand → Type 0) (s t : Stand) → IsMoreAt Wanted Other → IsMoreAt Other Wanted → First Wanted s t → First Other s t

turns-alike : (First : (Stand → Type 0) → Stand → Stand → Type 0) (R : Stand → Stand → Type 0) (w : ℕ) (greedy : Bool) → IsAlike First
    → (n : ℕ)
    → IsAlike (λ Such k l. FirstTurns First R w greedy n Such k l)
turns-alike First R w greedy alike zero Wanted Other s t more less f =
    (f.0, f.1, more t f.2, λ e r. f.3 e (r.0, r.1, reaches-more Other Wanted (SomeTurns R w) less r.0 r.2))
turns-alike First R w greedy alike (suc n) Wanted Other s t more less f = (
  f.0,
  λ e o. f.1 e (less (chosen w s) o),
  f.2,
  alike (Reaches Wanted (SomeTurns R w)) (Reaches Other (SomeTurns R w)) (chosen w s) f.2 (reaches-more Wanted Other (SomeTurns R w) more)
      (reaches-more Other Wanted (SomeTurns R w) less) f.3,
  turns-alike First R w greedy alike n Wanted Other f.2 t more less f.4,
)

pub new-alike : (x : Subject) (c : Course) → IsAlike (λ Such k l. IsFirstOnce x c Such k l)
new-alike x Skip Wanted Other s t more less f = (f.0, more t f.1)
new-alike x Dead Wanted Other s t more less f = absurd f
new-alike x (Byte a b) Wanted Other s t more less f = (f.0, more t f.1)
new-alike x (Here look) Wanted Other s t more less f = (f.0, more t f.1)
new-alike x (After c d) Wanted Other s t more less f = (
  f.0,
  new-alike x c (Reaches Wanted (GoesOnce x d)) (Reaches Other (GoesOnce x d)) s f.0 (reaches-more Wanted Other (GoesOnce x d) more)
      (reaches-more Other Wanted (GoesOnce x d) less) f.1,
  new-alike x d Wanted Other f.0 t more less f.2,
)
new-alike x (Choose w c d) Wanted Other s t more less f = (
  f.0,
  ⊎_elim
      (λ (g : IsFirstOnce x c Wanted (chosen w s) t). inl (new-alike x c Wanted Other (chosen w s) t more less g))
      (λ (g : (Reaches Wanted (GoesOnce x c) (chosen w s) → ⊥) × IsFirstOnce x d Wanted (chosen w s) t).
      inr (λ r. g.0 (reaches-more Other Wanted (GoesOnce x c) less (chosen w s) r), new-alike x d Wanted Other (chosen w s) t more less g.1))
      f.1,
)
new-alike x (Turn w greedy c) Wanted Other s t more less f =
    (f.0, turns-alike (λ Such k l. IsFirstOnce x c Such k l) (GoesOnce x c) w greedy (new-alike x c) f.0 Wanted Other s t more less f.1)
new-alike x (Again w greedy c) Wanted Other s t more less f = (
  f.0,
  new-alike x c (Reaches Wanted (SomeTurns (GoesOnce x c) w)) (Reaches Other (SomeTurns (GoesOnce x c) w)) s f.0
      (reaches-more Wanted Other (SomeTurns (GoesOnce x c) w) more) (reaches-more Other Wanted (SomeTurns (GoesOnce x c) w) less) f.1,
  f.2,
  turns-alike (λ Such k l. IsFirstOnce x c Such k l) (GoesOnce x c) w greedy (new-alike x c) f.2 Wanted Other f.0 t more less f.3,
)
new-alike x (Within slot c) Wanted Other s t more less f = (
  f.0,
  new-alike x c (λ l. Wanted (noted (slot + 1) l)) (λ l. Other (noted (slot + 1) l)) (noted slot s) f.0 (λ l o. more (noted (slot + 1) l) o)
      (λ l o. less (noted (slot + 1) l) o) f.1,
  f.2,
)
