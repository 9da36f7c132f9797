-- What holds for parts in order, or for one of them, as the list grows.
use Rattle.std.proofs.Common.{◌≡◌, nat_eq, ℕ, zero, suc, ◌+◌, ◌<◌, Option, Some, None, is_some, not, List, [], ◌∷◌, ◌++◌, map, take, length, get_or, ◌&&◌, ◌||◌, Bool, true, false, refl, sym, ap, ◌∙◌, arith}
use Rattle.std.proofs.lemmas.Bool.{ne_eqb}
use Rattle.std.proofs.lemmas.List.{map_more}
use Rattle.rsc_engine.specs.Patterns.{Pattern, Repeat, sequence, one_of, may_be_empty}
use Rattle.rsc_engine.specs.FirstEnds.{loops_take_bytes}
use Rattle.rsc_engine.specs.GroupNumbers.{group_count_in}
use Rattle.rsc_engine.specs.Parts.{pattern_of}
use Rattle.rsc_engine.proofs.StatesLayoutLemmas.{or_none}
use Rattle.rsc_engine.specs.declared.builder.part.Part.{Part}

-- ---- one more pattern at the end of a list

pub patterns_more : (parts : List Part) (k : ℕ) (part : Part) → k < length parts → part ≡ get_or parts k part
    → map pattern_of (take (k + 1) parts) ≡ map pattern_of (take k parts) ++ pattern_of part ∷ []
patterns_more parts k part l is =
    map_more pattern_of parts k part l ∙ ap (λ (p : Part). map pattern_of (take k parts) ++ pattern_of p ∷ []) (sym is)

and_one : (a : Bool) → (a && true) ≡ a
and_one true = refl
and_one false = refl

and_turned : (a b : Bool) → (a && b) ≡ (b && a)
and_turned true true = refl
and_turned true false = refl
and_turned false true = refl
and_turned false false = refl

-- ---- a part that is repeated

pub repeat_empty : (min : ℕ) (max : Option ℕ) (greedy : Bool) (p : Pattern) → may_be_empty (Repeat min max greedy p) ≡ (nat_eq min 0 || may_be_empty p)
repeat_empty zero max greedy p = refl
repeat_empty (suc min) max greedy p = sym (ap (λ (b : Bool). b || may_be_empty p) (ne_eqb (suc min) 0 (λ e. absurd (omega (arith, e)))))

pub repeat_loops : (min : ℕ) (max : Option ℕ) (greedy : Bool) (p : Pattern)
    → loops_take_bytes (Repeat min max greedy p) ≡ (loops_take_bytes p && (is_some max || not (may_be_empty p)))
repeat_loops min None greedy p = and_turned (not (may_be_empty p)) (loops_take_bytes p)
repeat_loops min (Some max) greedy p = sym (and_one (loops_take_bytes p))

-- ---- several parts

and_more : (a b c : Bool) → (a && (b && c)) ≡ ((a && b) && c)
and_more true b c = refl
and_more false b c = refl

or_more : (a b c : Bool) → (a || (b || c)) ≡ ((a || b) || c)
or_more true b c = refl
or_more false b c = refl

pub in_order_empty : (ps : List Pattern) (p : Pattern) → may_be_empty (sequence (ps ++ p ∷ [])) ≡ (may_be_empty (sequence ps) && may_be_empty p)
in_order_empty [] p = and_one (may_be_empty p)
in_order_empty (q ∷ rest) p =
    ap (λ (b : Bool). may_be_empty q && b) (in_order_empty rest p) ∙ and_more (may_be_empty q) (may_be_empty (sequence rest)) (may_be_empty p)

pub in_order_loops : (ps : List Pattern) (p : Pattern)
    → loops_take_bytes (sequence (ps ++ p ∷ [])) ≡ (loops_take_bytes (sequence ps) && loops_take_bytes p)
in_order_loops [] p = and_one (loops_take_bytes p)
in_order_loops (q ∷ rest) p =
    ap (λ (b : Bool). loops_take_bytes q && b) (in_order_loops rest p)
    ∙ and_more (loops_take_bytes q) (loops_take_bytes (sequence rest)) (loops_take_bytes p)

pub first_empty : (q : Pattern) (rest : List Pattern) → may_be_empty (one_of (q ∷ rest)) ≡ (may_be_empty q || may_be_empty (one_of rest))
first_empty q [] = sym (or_none (may_be_empty q))
first_empty q (r ∷ rest) = refl

pub one_of_empty : (ps : List Pattern) (p : Pattern) → may_be_empty (one_of (ps ++ p ∷ [])) ≡ (may_be_empty (one_of ps) || may_be_empty p)
one_of_empty [] p = refl
one_of_empty (q ∷ rest) p =
    first_empty q (rest ++ p ∷ [])
    ∙ (ap (λ (b : Bool). may_be_empty q || b) (one_of_empty rest p)
    ∙ (or_more (may_be_empty q) (may_be_empty (one_of rest)) (may_be_empty p) ∙ ap (λ (b : Bool). b || may_be_empty p) (sym (first_empty q rest))))

first_loops : (q : Pattern) (rest : List Pattern) → loops_take_bytes (one_of (q ∷ rest)) ≡ (loops_take_bytes q && loops_take_bytes (one_of rest))
first_loops q [] = sym (and_one (loops_take_bytes q))
first_loops q (r ∷ rest) = refl

pub one_of_loops : (ps : List Pattern) (p : Pattern)
    → loops_take_bytes (one_of (ps ++ p ∷ [])) ≡ (loops_take_bytes (one_of ps) && loops_take_bytes p)
one_of_loops [] p = refl
one_of_loops (q ∷ rest) p =
    first_loops q (rest ++ p ∷ [])
    ∙ (ap (λ (b : Bool). loops_take_bytes q && b) (one_of_loops rest p)
    ∙ (and_more (loops_take_bytes q) (loops_take_bytes (one_of rest)) (loops_take_bytes p)
    ∙ ap (λ (b : Bool). b && loops_take_bytes p) (sym (first_loops q rest))))

-- ---- one of them has the groups of all, as parts in order have

pub one_of_groups : (patterns : List Pattern) → group_count_in (one_of patterns) ≡ group_count_in (sequence patterns)
one_of_groups [] = refl
one_of_groups (p ∷ []) = omega arith
one_of_groups (p ∷ q ∷ rest) = ap (λ (n : ℕ). group_count_in p + n) (one_of_groups (q ∷ rest))
