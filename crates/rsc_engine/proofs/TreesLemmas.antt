-- The pattern of a tree, by its variants.
use Rattle.std.proofs.Common.{◌≡◌, ℕ, [], ◌∷◌, map, Box, Vec, Global, sym, ap, ◌∙◌}
use Rattle.rsc_look.specs.declared.assertion.Look.{Look}
use Rattle.rsc_engine.specs.Patterns.{Pattern, Empty, Never, Class, Literal, Assertion, Then, Either, Repeat, sequence, one_of}
use Rattle.rsc_engine.specs.Trees.{pattern_in, pattern_of_node}
use Rattle.rsc_engine.specs.declared.builder.tree.Tree.{Tree, Tree-F, fold-roll-Tree}
use Rattle.rsc_engine.specs.declared.builder.tree.Tree.TheVariants as variants
use Rattle.rsc_engine.specs.declared.builder.tree.Times.{Times}

pub pattern-empty : pattern_in variants.Empty ≡ Empty
pattern-empty = ap pattern_in (sym variants.rolls-Empty) ∙ fold-roll-Tree Pattern pattern_of_node Tree-F.Empty

pub pattern-never : pattern_in variants.Never ≡ Never
pattern-never = ap pattern_in (sym variants.rolls-Never) ∙ fold-roll-Tree Pattern pattern_of_node Tree-F.Never

pub pattern-class : (ranges : Vec (ℕ × ℕ) Global) → pattern_in (variants.Class ranges) ≡ Class ranges.items
pattern-class ranges = ap pattern_in (sym (variants.rolls-Class ranges)) ∙ fold-roll-Tree Pattern pattern_of_node (Tree-F.Class ranges)

pub pattern-literal : (bytes : Vec ℕ Global) → pattern_in (variants.Literal bytes) ≡ Literal bytes.items
pattern-literal bytes = ap pattern_in (sym (variants.rolls-Literal bytes)) ∙ fold-roll-Tree Pattern pattern_of_node (Tree-F.Literal bytes)

pub pattern-range : (a b : ℕ) → pattern_in (variants.Range a b) ≡ Class ((a, b) ∷ [])
pattern-range a b = ap pattern_in (sym (variants.rolls-Range a b)) ∙ fold-roll-Tree Pattern pattern_of_node (Tree-F.Range a b)

pub pattern-assertion : (look : Look) → pattern_in (variants.Assertion look) ≡ Assertion look
pattern-assertion look = ap pattern_in (sym (variants.rolls-Assertion look)) ∙ fold-roll-Tree Pattern pattern_of_node (Tree-F.Assertion look)

pub pattern-then : (one other : Box Tree Global) → pattern_in (variants.Then one other) ≡ Then (pattern_in one.value) (pattern_in other.value)
pattern-then one other = ap pattern_in (sym (variants.rolls-Then one other)) ∙ fold-roll-Tree Pattern pattern_of_node (Tree-F.Then one other)

pub pattern-either : (one other : Box Tree Global) → pattern_in (variants.Either one other) ≡ Either (pattern_in one.value) (pattern_in other.value)
pattern-either one other = ap pattern_in (sym (variants.rolls-Either one other)) ∙ fold-roll-Tree Pattern pattern_of_node (Tree-F.Either one other)

pub pattern-concat : (trees : Vec Tree Global) → pattern_in (variants.Concat trees) ≡ sequence (map pattern_in trees.items)
pattern-concat trees = ap pattern_in (sym (variants.rolls-Concat trees)) ∙ fold-roll-Tree Pattern pattern_of_node (Tree-F.Concat trees)

pub pattern-one_of : (trees : Vec Tree Global) → pattern_in (variants.OneOf trees) ≡ one_of (map pattern_in trees.items)
pattern-one_of trees = ap pattern_in (sym (variants.rolls-OneOf trees)) ∙ fold-roll-Tree Pattern pattern_of_node (Tree-F.OneOf trees)

pub pattern-repeat : (times : Times) (part : Box Tree Global)
    → pattern_in (variants.Repeat times part) ≡ Repeat times.min times.max times.is_greedy (pattern_in part.value)
pattern-repeat times part = ap pattern_in (sym (variants.rolls-Repeat times part)) ∙ fold-roll-Tree Pattern pattern_of_node (Tree-F.Repeat times part)
