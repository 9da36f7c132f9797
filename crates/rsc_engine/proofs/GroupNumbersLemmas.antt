-- With the slots of its groups a pattern goes as without.
use Rattle.std.proofs.Common.{◌≡◌, ℕ, zero, suc, ◌+◌, ◌⊎◌, Bool, ◌&&◌, ◌||◌, not, [], ◌∷◌, refl, ap, ◌∙◌, Some, None}
use Rattle.rsc_engine.specs.Patterns.{Pattern, Empty, Never, Class, Literal, Assertion, Then, Either, Repeat, Group, Subject, SomeTimes, Goes, may_be_empty}
use Rattle.rsc_engine.specs.FirstEnds.{loops_take_bytes, HasEndIn, AreFirstTimes, IsFirstEnd}
use Rattle.rsc_engine.specs.GroupNumbers.{group_count_in, numbered}
use Rattle.rsc_look.specs.declared.assertion.Look.{Look}
use Rattle.rsc_engine.specs.Asks.{asks, may_occur}

pub numbered-goes : (x : Subject) (slot_of : ℕ → ℕ) (n : ℕ) (p : Pattern) → Goes x (numbered slot_of n p) ≡ Goes x p
numbered-goes x slot_of n Empty = refl
numbered-goes x slot_of n Never = refl
numbered-goes x slot_of n (Class ranges) = refl
numbered-goes x slot_of n (Literal bytes) = refl
numbered-goes x slot_of n (Assertion look) = refl
numbered-goes x slot_of n (Then a b) =
    ap (λ (R : ℕ → ℕ → Type 0). λ (i j : ℕ). (k : ℕ) × R i k
    × Goes x (numbered slot_of (n + group_count_in a) b) k j) (numbered-goes x slot_of n a)
    ∙ ap (λ (R : ℕ → ℕ → Type 0). λ (i j : ℕ). (k : ℕ) × Goes x a i k × R k j) (numbered-goes x slot_of (n + group_count_in a) b)
numbered-goes x slot_of n (Either a b) =
    ap (λ (R : ℕ → ℕ → Type 0). λ (i j : ℕ). R i j ⊎ Goes x (numbered slot_of (n + group_count_in a) b) i j) (numbered-goes x slot_of n a)
    ∙ ap (λ (R : ℕ → ℕ → Type 0). λ (i j : ℕ). Goes x a i j ⊎ R i j) (numbered-goes x slot_of (n + group_count_in a) b)
numbered-goes x slot_of n (Repeat min max greedy a) =
    ap (λ (R : ℕ → ℕ → Type 0). λ (i j : ℕ). SomeTimes R min max i j) (numbered-goes x slot_of n a)
numbered-goes x slot_of n (Group slot a) = numbered-goes x slot_of (n + 1) a

pub numbered-end : (x : Subject) (slot_of : ℕ → ℕ) (n : ℕ) (p : Pattern) → IsFirstEnd x (numbered slot_of n p) ≡ IsFirstEnd x p
numbered-end x slot_of n Empty = refl
numbered-end x slot_of n Never = refl
numbered-end x slot_of n (Class ranges) = refl
numbered-end x slot_of n (Literal bytes) = refl
numbered-end x slot_of n (Assertion look) = refl
numbered-end x slot_of n (Then a b) =
    ap (λ (F : (ℕ → Type 0) → ℕ → ℕ → Type 0). λ (Wanted : ℕ → Type 0) (i j : ℕ).
    (k : ℕ) × F (HasEndIn Wanted (Goes x (numbered slot_of (n + group_count_in a) b))) i k
    × IsFirstEnd x (numbered slot_of (n + group_count_in a) b) Wanted k j)
    (numbered-end x slot_of n a)
    ∙ (ap (λ (R : ℕ → ℕ → Type 0). λ (Wanted : ℕ → Type 0) (i j : ℕ).
    (k : ℕ) × IsFirstEnd x a (HasEndIn Wanted R) i k × IsFirstEnd x (numbered slot_of (n + group_count_in a) b) Wanted k j)
    (numbered-goes x slot_of (n + group_count_in a) b)
    ∙ ap (λ (F : (ℕ → Type 0) → ℕ → ℕ → Type 0). λ (Wanted : ℕ → Type 0) (i j : ℕ).
    (k : ℕ) × IsFirstEnd x a (HasEndIn Wanted (Goes x b)) i k × F Wanted k j)
    (numbered-end x slot_of (n + group_count_in a) b))
numbered-end x slot_of n (Either a b) =
    ap (λ (F : (ℕ → Type 0) → ℕ → ℕ → Type 0). λ (Wanted : ℕ → Type 0) (i j : ℕ).
    F Wanted i j ⊎ ((HasEndIn Wanted (Goes x (numbered slot_of n a)) i → ⊥) × IsFirstEnd x (numbered slot_of (n + group_count_in a) b) Wanted i j))
    (numbered-end x slot_of n a)
    ∙ (ap (λ (R : ℕ → ℕ → Type 0). λ (Wanted : ℕ → Type 0) (i j : ℕ).
    IsFirstEnd x a Wanted i j ⊎ ((HasEndIn Wanted R i → ⊥) × IsFirstEnd x (numbered slot_of (n + group_count_in a) b) Wanted i j))
    (numbered-goes x slot_of n a)
    ∙ ap (λ (F : (ℕ → Type 0) → ℕ → ℕ → Type 0). λ (Wanted : ℕ → Type 0) (i j : ℕ).
    IsFirstEnd x a Wanted i j ⊎ ((HasEndIn Wanted (Goes x a) i → ⊥) × F Wanted i j))
    (numbered-end x slot_of (n + group_count_in a) b))
numbered-end x slot_of n (Repeat min max greedy a) =
    ap (λ (F : (ℕ → Type 0) → ℕ → ℕ → Type 0). λ (Wanted : ℕ → Type 0) (i j : ℕ).
    (times : ℕ) × AreFirstTimes F (Goes x (numbered slot_of n a)) greedy times min max Wanted i j)
    (numbered-end x slot_of n a)
    ∙ ap (λ (R : ℕ → ℕ → Type 0). λ (Wanted : ℕ → Type 0) (i j : ℕ).
    (times : ℕ) × AreFirstTimes (IsFirstEnd x a) R greedy times min max Wanted i j)
    (numbered-goes x slot_of n a)
numbered-end x slot_of n (Group slot a) = numbered-end x slot_of (n + 1) a

pub numbered-empty : (slot_of : ℕ → ℕ) (n : ℕ) (p : Pattern) → may_be_empty (numbered slot_of n p) ≡ may_be_empty p
numbered-empty slot_of n Empty = refl
numbered-empty slot_of n Never = refl
numbered-empty slot_of n (Class ranges) = refl
numbered-empty slot_of n (Literal []) = refl
numbered-empty slot_of n (Literal (b ∷ rest)) = refl
numbered-empty slot_of n (Assertion look) = refl
numbered-empty slot_of n (Then a b) =
    ap (λ (c : Bool). c && may_be_empty (numbered slot_of (n + group_count_in a) b)) (numbered-empty slot_of n a)
    ∙ ap (λ (c : Bool). may_be_empty a && c) (numbered-empty slot_of (n + group_count_in a) b)
numbered-empty slot_of n (Either a b) =
    ap (λ (c : Bool). c || may_be_empty (numbered slot_of (n + group_count_in a) b)) (numbered-empty slot_of n a)
    ∙ ap (λ (c : Bool). may_be_empty a || c) (numbered-empty slot_of (n + group_count_in a) b)
numbered-empty slot_of n (Repeat zero max greedy a) = refl
numbered-empty slot_of n (Repeat (suc min) max greedy a) = numbered-empty slot_of n a
numbered-empty slot_of n (Group slot a) = numbered-empty slot_of (n + 1) a

pub numbered-loops : (slot_of : ℕ → ℕ) (n : ℕ) (p : Pattern) → loops_take_bytes (numbered slot_of n p) ≡ loops_take_bytes p
numbered-loops slot_of n Empty = refl
numbered-loops slot_of n Never = refl
numbered-loops slot_of n (Class ranges) = refl
numbered-loops slot_of n (Literal bytes) = refl
numbered-loops slot_of n (Assertion look) = refl
numbered-loops slot_of n (Then a b) =
    ap (λ (c : Bool). c && loops_take_bytes (numbered slot_of (n + group_count_in a) b)) (numbered-loops slot_of n a)
    ∙ ap (λ (c : Bool). loops_take_bytes a && c) (numbered-loops slot_of (n + group_count_in a) b)
numbered-loops slot_of n (Either a b) =
    ap (λ (c : Bool). c && loops_take_bytes (numbered slot_of (n + group_count_in a) b)) (numbered-loops slot_of n a)
    ∙ ap (λ (c : Bool). loops_take_bytes a && c) (numbered-loops slot_of (n + group_count_in a) b)
numbered-loops slot_of n (Repeat min None greedy a) =
    ap (λ (c : Bool). not c && loops_take_bytes (numbered slot_of n a)) (numbered-empty slot_of n a)
    ∙ ap (λ (c : Bool). not (may_be_empty a) && c) (numbered-loops slot_of n a)
numbered-loops slot_of n (Repeat min (Some max) greedy a) = numbered-loops slot_of n a
numbered-loops slot_of n (Group slot a) = numbered-loops slot_of (n + 1) a

pub numbered-asks : (slot_of : ℕ → ℕ) (n : ℕ) (p : Pattern) (f : Look) → asks f (numbered slot_of n p) ≡ asks f p
numbered-asks slot_of n Empty f = refl
numbered-asks slot_of n Never f = refl
numbered-asks slot_of n (Class ranges) f = refl
numbered-asks slot_of n (Literal bytes) f = refl
numbered-asks slot_of n (Assertion look) f = refl
numbered-asks slot_of n (Then a b) f =
    ap (λ (c : Bool). c || asks f (numbered slot_of (n + group_count_in a) b)) (numbered-asks slot_of n a f)
    ∙ ap (λ (c : Bool). asks f a || c) (numbered-asks slot_of (n + group_count_in a) b f)
numbered-asks slot_of n (Either a b) f =
    ap (λ (c : Bool). c || asks f (numbered slot_of (n + group_count_in a) b)) (numbered-asks slot_of n a f)
    ∙ ap (λ (c : Bool). asks f a || c) (numbered-asks slot_of (n + group_count_in a) b f)
numbered-asks slot_of n (Repeat min max greedy a) f = ap (λ (c : Bool). may_occur min max && c) (numbered-asks slot_of n a f)
numbered-asks slot_of n (Group slot a) f = numbered-asks slot_of (n + 1) a f
