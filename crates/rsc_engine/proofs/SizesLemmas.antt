-- How many states copies and lists of parts have, and programs.
use Rattle.std.proofs.Common.{◌≡◌, ℕ, zero, suc, ◌+◌, ◌-◌, ◌*◌, ◌<◌, ◌≤◌, min, Bool, true, false, Some, None, List, [], ◌∷◌, map, length, length-drop, slice_get, drop, get_or, refl, ap, arith, suc-mul}
use Rattle.std.proofs.lemmas.List.Sums.{sum_by-cons, sum_by-take-drop}
use Rattle.rsc_engine.specs.Patterns.{Pattern, Then, Repeat, sequence, one_of, may_be_empty}
use Rattle.rsc_engine.specs.GroupNumbers.{group_count_in}
use Rattle.rsc_engine.specs.LinksLayout.{copies, optional, up_to}
use Rattle.rsc_engine.specs.Sizes.{size_of, size_of_program}

-- ---- copies of a part

pub copies-size : (n : ℕ) (p : Pattern) → size_of (copies n p) ≡ n * size_of p
copies-size zero p = omega arith
copies-size (suc n) p = omega (arith, copies-size n p, suc-mul n (size_of p))

pub optional-size : (greedy : Bool) (p : Pattern) → size_of (optional greedy p) ≡ size_of p + 1
optional-size true p = omega arith
optional-size false p = omega arith

pub up_to-size : (greedy : Bool) (n : ℕ) (p : Pattern) → size_of (up_to greedy n p) ≡ n * (size_of p + 1)
up_to-size greedy zero p = omega arith
up_to-size greedy (suc n) p = omega (arith, optional-size greedy (Then p (up_to greedy n p)), up_to-size greedy n p, suc-mul n (size_of p + 1))

-- one more copy is among all
pub copies-room : (done count : ℕ) (p : Pattern) → done < count → size_of (copies done p) + size_of p ≤ size_of (copies count p)
copies-room done zero p l = absurd (omega (arith, l))
copies-room zero (suc count) p l = omega arith
copies-room (suc done) (suc count) p l = omega (arith, copies-room done count p (omega (arith, l)))

pub up_to-room : (greedy : Bool) (done count : ℕ) (p : Pattern) → done < count
    → size_of (up_to greedy done p) + size_of p + 1 ≤ size_of (up_to greedy count p)
up_to-room greedy done zero p l = absurd (omega (arith, l))
up_to-room greedy zero (suc count) p l = omega (arith, optional-size greedy (Then p (up_to greedy count p)))
up_to-room greedy (suc done) (suc count) p l = omega (
  arith,
  optional-size greedy (Then p (up_to greedy count p)),
  optional-size greedy (Then p (up_to greedy done p)),
  up_to-room greedy done count p (omega (arith, l)),
)

-- what must be there and then a loop
pub unlimited-size : (n min : ℕ) (greedy : Bool) (p : Pattern) → n + 1 ≡ min
    → size_of (Repeat min None greedy p) ≡ size_of (Repeat 1 None greedy p) + size_of (copies n p)
unlimited-size n zero greedy p e = absurd (omega (arith, e))
unlimited-size n (suc min) greedy p e =
    let same : n ≡ min = omega (arith, e) in
    omega (arith, copies-size n p, suc-mul min (size_of p), ap (λ (k : ℕ). k * size_of p) same)

-- a loop that is entered by a choice of its own, and one that isn't
pub entered-size : (greedy : Bool) (p : Pattern) → may_be_empty p ≡ true → size_of (Repeat 0 None greedy p) ≡ size_of p + 2
entered-size greedy p e = rw e refl

pub loop-size : (greedy : Bool) (p : Pattern) → may_be_empty p ≡ false → size_of (Repeat 0 None greedy p) ≡ size_of p + 1
loop-size greedy p e = rw e refl

-- what must be there and then what may be
pub limited-size : (min max : ℕ) (greedy : Bool) (p : Pattern)
    → size_of (Repeat min (Some max) greedy p) ≡ size_of (up_to greedy (max - min) p) + size_of (copies min p)
limited-size min max greedy p = omega (arith, up_to-size greedy (max - min) p, copies-size min p)

pub up_to_only-size : (max : ℕ) (greedy : Bool) (p : Pattern) → size_of (Repeat 0 (Some max) greedy p) ≡ size_of (up_to greedy max p)
up_to_only-size max greedy p =
    let all : max - 0 ≡ max = omega arith in
    omega (arith, up_to-size greedy max p, ap (λ (k : ℕ). k * (size_of p + 1)) all)

-- ---- parts in order, or one of them: a part and those after it

pub sequence-room : {X : Type 0} (f : X → Pattern) (xs : List X) (n : ℕ) (x : X) → n < length xs → x ≡ get_or xs n x
    → size_of (f x) + size_of (sequence (map f (drop (suc n) xs))) ≤ size_of (sequence (map f xs))
sequence-room f [] n x l is = absurd (omega (arith, l))
sequence-room f (y ∷ ys) zero x l is = omega (arith, ap (λ z. size_of (f z)) is)
sequence-room f (y ∷ ys) (suc n) x l is = omega (arith, sequence-room f ys n x (omega (arith, l)) is)

pub sequence-left : {X : Type 0} (f : X → Pattern) (xs : List X) (n : ℕ) (x : X) → n < length xs → x ≡ get_or xs n x
    → group_count_in (f x) + group_count_in (sequence (map f (drop (suc n) xs))) ≤ group_count_in (sequence (map f xs))
sequence-left f [] n x l is = absurd (omega (arith, l))
sequence-left f (y ∷ ys) zero x l is = omega (arith, ap (λ z. group_count_in (f z)) is)
sequence-left f (y ∷ ys) (suc n) x l is = omega (arith, sequence-left f ys n x (omega (arith, l)) is)

pub one_of-last : {X : Type 0} (f : X → Pattern) (xs : List X) (n : ℕ) (x : X) → n < length xs → x ≡ get_or xs n x
    → size_of (f x) ≤ size_of (one_of (map f xs))
one_of-last f [] n x l is = absurd (omega (arith, l))
one_of-last f (y ∷ []) zero x l is = omega (arith, ap (λ z. size_of (f z)) is)
one_of-last f (y ∷ z ∷ ys) zero x l is = omega (arith, ap (λ z. size_of (f z)) is)
one_of-last f (y ∷ []) (suc n) x l is = absurd (omega (arith, l))
one_of-last f (y ∷ z ∷ ys) (suc n) x l is = omega (arith, one_of-last f (z ∷ ys) n x (omega (arith, l)) is)

pub one_of-room : {X : Type 0} (f : X → Pattern) (xs : List X) (n : ℕ) (x : X) → suc n < length xs → x ≡ get_or xs n x
    → size_of (f x) + size_of (one_of (map f (drop (suc n) xs))) + 1 ≤ size_of (one_of (map f xs))
one_of-room f [] n x l is = absurd (omega (arith, l))
one_of-room f (y ∷ []) n x l is = absurd (omega (arith, l))
one_of-room f (y ∷ z ∷ ys) zero x l is = omega (arith, ap (λ z. size_of (f z)) is)
one_of-room f (y ∷ z ∷ ys) (suc n) x l is = omega (arith, one_of-room f (z ∷ ys) n x (omega (arith, l)) is)

-- ---- the patterns of a program from the last on

pub program-last : (patterns : List Pattern) (n : ℕ) (p : Pattern) → slice_get patterns n ≡ Some p → n + 1 ≡ length patterns
    → size_of_program (drop n patterns) ≡ size_of p + 3
program-last [] n p at last = absurd (cc)
program-last (q ∷ []) zero p at last = let same : q ≡ p = cc in omega (arith, ap size_of same)
program-last (q ∷ r ∷ rest) zero p at last = absurd (omega (arith, last))
program-last (q ∷ rest) (suc n) p at last = program-last rest n p at (omega (arith, last))

pub program-more : (patterns : List Pattern) (n : ℕ) (p : Pattern) → slice_get patterns n ≡ Some p → suc n < length patterns
    → size_of_program (drop n patterns) ≡ size_of_program (drop (suc n) patterns) + size_of p + 4
program-more [] n p at more = absurd (cc)
program-more (q ∷ []) zero p at more = absurd (omega (arith, more))
program-more (q ∷ r ∷ rest) zero p at more =
    let same : q ≡ p = cc in omega (arith, ap size_of same, sum_by-cons (λ (s : Pattern). size_of s + 3) q (r ∷ rest))
program-more (q ∷ rest) (suc n) p at more = program-more rest n p at (omega (arith, more))

pub program-room : (patterns : List Pattern) (n : ℕ) → size_of_program (drop n patterns) ≤ size_of_program patterns
program-room patterns n = omega (arith, sum_by-take-drop (λ (s : Pattern). size_of s + 3) patterns n, length-drop n patterns)
