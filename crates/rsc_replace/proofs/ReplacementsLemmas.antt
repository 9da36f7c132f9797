-- Lemmas on an iteration that replaces, and on what determines it.
use Rattle.std.specs.Option.{ForSome}
use Rattle.std.proofs.Common.{◌≡◌, ◌∙◌, ℕ, ◌+◌, ◌-◌, ◌<◌, ◌≤◌, Bool, Option, None, Some, zero, suc, List, [], ◌∷◌, ◌++◌, take, drop, length, length-drop, slice_range, slice_index_or, refl, sym, ap, subst, arith, append_assoc}
use Rattle.std.proofs.Math.Seq.{take-length}
use Rattle.rsc_search.specs.Matches.{Matched}
use Rattle.rsc_captures.specs.Captured.{Captured}
use Rattle.rsc_captures.specs.Groups.{GroupLists}
use Rattle.rsc_engine.specs.Searches.{Search, search_in}
use Rattle.rsc_engine.specs.PatternMatches.{HasSlotsOf}
use Rattle.rsc_engine.specs.NextMatches.{MatchesLeft, IsNextRun, IsNextMatch, IsOver, after}
use Rattle.rsc_replace.specs.Templates.{filled}
use Rattle.rsc_replace.specs.Replacements.{MatchWithCaptures, AreAllWithCaptures, AreFirstWithCaptures, with_matches_filled, IsReplaced, IsReplacedUpTo}

-- the text so far: with what is left replaced after it, all of the first is replaced
pub record IsBegun {W : Type 0} (chars : W → ℕ → Bool) (template : List ℕ) (first now : MatchesLeft W) (out : List ℕ) : Type 0 where
  pub goes_on : (rest : List ℕ) → IsReplaced chars template now rest → IsReplaced chars template first (out ++ rest)

pub begun_none : {W : Type 0} (chars : W → ℕ → Bool) (template : List ℕ) (first : MatchesLeft W) → IsBegun chars template first first []
begun_none chars template first = record { goes_on = λ rest h. h }

pub begun_more : {W : Type 0}
    (chars : W → ℕ → Bool) (template : List ℕ) (first now : MatchesLeft W) (out : List ℕ) (found : Matched) (captures : Captured)
    → IsBegun chars template first now out → IsNextMatch (search_in chars now.program now.input) now.last captures found → HasSlotsOf now.program captures
    → IsBegun chars template first (after now found)
    ((out ++ slice_range now.input.haystack now.input.span.start found.span.start) ++ filled now.input.haystack captures template)
begun_more {W = W} chars template first now out found captures begun next room = record {
  goes_on = λ rest h.
      let between = slice_range now.input.haystack now.input.span.start found.span.start in
      let text = filled now.input.haystack captures template in
      let one : IsReplaced chars template now (between ++ (text ++ rest)) =
      ((record { found = found; captures = captures }) ∷ h.0, (next, room, h.1), ap (λ (x : List ℕ). between ++ (text ++ x)) h.2) in
      let all = begun.goes_on (between ++ (text ++ rest)) one in
      let same : ((out ++ between) ++ text) ++ rest ≡ out ++ (between ++ (text ++ rest)) = simp append_assoc in
      (all.0, all.1, same ∙ all.2);
}

pub begun_all : {W : Type 0} (chars : W → ℕ → Bool) (template : List ℕ) (first now : MatchesLeft W) (out : List ℕ)
    → IsBegun chars template first now out
    → IsOver (search_in chars now.program now.input) now.last → IsReplaced chars template first (out ++ drop now.input.span.start now.input.haystack)
begun_all chars template first now out begun over = begun.goes_on (drop now.input.span.start now.input.haystack) ([], over, refl)

-- the value of `&s[from..]`
pub rest_taken : (s : List ℕ) (from : ℕ) → take (length s - from) (drop from s) ≡ drop from s
rest_taken s from = ap (λ (n : ℕ). take n (drop from s)) (sym (length-drop from s)) ∙ take-length (drop from s)

pub same_list : {X : Type 0} (d : X) (xs ys : List X) → length xs ≡ length ys
    → ((k : ℕ) → k < length xs → slice_index_or xs k d ≡ slice_index_or ys k d) → xs ≡ ys
same_list d [] [] same each = refl
same_list d [] (y ∷ ys) same each = absurd (omega (arith, same))
same_list d (x ∷ xs) [] same each = absurd (omega (arith, same))
same_list d (x ∷ xs) (y ∷ ys) same each =
    let head : x ≡ y = each 0 (omega arith) in
    let tail : xs ≡ ys = same_list d xs ys (omega (arith, same)) (λ k h. each (suc k) (omega (arith, h))) in
    cc

pub same_captures : (c d : Captured) → c.groups ≡ d.groups → c.pattern ≡ d.pattern → c.offsets ≡ d.offsets → c ≡ d
same_captures c d g p o =
    let f : GroupLists → Captured = λ x. record { groups = x; pattern = c.pattern; offsets = c.offsets } in
    let h : Option ℕ → Captured = λ x. record { groups = d.groups; pattern = x; offsets = c.offsets } in
    let k : List (Option ℕ) → Captured = λ x. record { groups = d.groups; pattern = d.pattern; offsets = x } in
    ap f g ∙ (ap h p ∙ ap k o)

-- there is one next match, in captures over the same groups with as many slots, and none if the iteration is over
pub record OneNext : Type 0 where
  pub next : (e : Search) (last : Option ℕ) (one other : Captured) (m n : Matched) → IsNextMatch e last one m → IsNextMatch e last other n
      → one.groups ≡ other.groups → length one.offsets ≡ length other.offsets → (m ≡ n) × (one ≡ other)
  pub over : (e : Search) (last : Option ℕ) (run : List (ℕ × ℕ)) → IsOver e last → IsNextRun e last run → ⊥

pub same_all : {W : Type 0} (chars : W → ℕ → Bool) → OneNext → (left : MatchesLeft W) (one other : List MatchWithCaptures) → AreAllWithCaptures chars left one
    → AreAllWithCaptures chars left other → one ≡ other
same_all chars laws left [] [] a b = refl
same_all chars laws left [] (n ∷ others) over b = absurd (laws.over (search_in chars left.program left.input) left.last b.0.run over b.0.is_next)
same_all chars laws left (m ∷ rest) [] a over = absurd (laws.over (search_in chars left.program left.input) left.last a.0.run over a.0.is_next)
same_all chars laws left (m ∷ rest) (n ∷ others) a b =
    let same = laws.next (search_in chars left.program left.input) left.last m.captures n.captures m.found n.found a.0 b.0
    (a.1.0 ∙ sym b.1.0) (a.1.1 ∙ sym b.1.1) in
    let found : m.found ≡ n.found = same.0 in
    let head : m ≡ n = ap (λ (f : Matched). record { found = f; captures = m.captures }) found
    ∙ ap (λ (c : Captured). record { found = n.found; captures = c }) same.1 in
    let tail : rest ≡ others = same_all chars laws (after left m.found) rest others a.2
    (subst (λ (f : Matched). AreAllWithCaptures chars (after left f) others) (sym found) b.2) in
    cc

pub same_text : {W : Type 0} (chars : W → ℕ → Bool) → OneNext → (left : MatchesLeft W) (template one other : List ℕ)
    → IsReplaced chars template left one
    → IsReplaced chars template left other → one ≡ other
same_text chars laws left template one other a b =
    let all = same_all chars laws left a.0 b.0 a.1 b.1 in
    a.2 ∙ (ap (λ (x : List MatchWithCaptures). with_matches_filled left.input.haystack template left.input.span.start x) all ∙ sym b.2)

-- the text so far: with as many of the matches that are left replaced after it as there may yet be, the first ones of all are replaced
pub record IsBegunUpTo {W : Type 0} (chars : W → ℕ → Bool) (template : List ℕ) (most : ℕ) (first : MatchesLeft W) (more : ℕ) (now : MatchesLeft W)
    (out : List ℕ) : Type 0 where
  pub goes_on : (rest : List ℕ) → IsReplacedUpTo chars template more now rest → IsReplacedUpTo chars template most first (out ++ rest)

pub up_to_none : {W : Type 0} (chars : W → ℕ → Bool) (template : List ℕ) (most : ℕ) (first : MatchesLeft W)
    → IsBegunUpTo chars template most first most first []
up_to_none chars template most first = record { goes_on = λ rest h. h }

pub up_to_more : {W : Type 0} (chars : W → ℕ → Bool) (template : List ℕ) (most : ℕ) (first : MatchesLeft W) (more : ℕ) (now : MatchesLeft W)
    (out : List ℕ) (found : Matched) (captures : Captured) → 0 < more → IsBegunUpTo chars template most first more now out
    → IsNextMatch (search_in chars now.program now.input) now.last captures found → HasSlotsOf now.program captures
    → IsBegunUpTo chars template most first (more - 1) (after now found)
    ((out ++ slice_range now.input.haystack now.input.span.start found.span.start) ++ filled now.input.haystack captures template)
up_to_more chars template most first zero now out found captures some begun next room = absurd (omega (arith, some))
up_to_more {W = W} chars template most first (suc more) now out found captures some begun next room =
    let less : suc more - 1 ≡ more = omega arith in
    rw less (record {
      goes_on = λ rest h.
          let between = slice_range now.input.haystack now.input.span.start found.span.start in
          let text = filled now.input.haystack captures template in
          let one : IsReplacedUpTo chars template (suc more) now (between ++ (text ++ rest)) =
          ((record { found = found; captures = captures }) ∷ h.0, (next, room, h.1), ap (λ (x : List ℕ). between ++ (text ++ x)) h.2) in
          let all = begun.goes_on (between ++ (text ++ rest)) one in
          let same : ((out ++ between) ++ text) ++ rest ≡ out ++ (between ++ (text ++ rest)) = simp append_assoc in
          (all.0, all.1, same ∙ all.2);
    })

pub up_to_over : {W : Type 0}
    (chars : W → ℕ → Bool) (template : List ℕ) (most : ℕ) (first : MatchesLeft W) (more : ℕ) (now : MatchesLeft W) (out : List ℕ)
    → IsBegunUpTo chars template most first more now out → IsOver (search_in chars now.program now.input) now.last
    → IsReplacedUpTo chars template most first (out ++ drop now.input.span.start now.input.haystack)
up_to_over chars template most first zero now out begun over = begun.goes_on (drop now.input.span.start now.input.haystack) ([], refl, refl)
up_to_over chars template most first (suc more) now out begun over = begun.goes_on (drop now.input.span.start now.input.haystack) ([], over, refl)

pub up_to_all : {W : Type 0}
    (chars : W → ℕ → Bool) (template : List ℕ) (most : ℕ) (first : MatchesLeft W) (more : ℕ) (now : MatchesLeft W) (out : List ℕ)
    → IsBegunUpTo chars template most first more now out → more ≡ 0
    → IsReplacedUpTo chars template most first (out ++ drop now.input.span.start now.input.haystack)
up_to_all chars template most first zero now out begun at = begun.goes_on (drop now.input.span.start now.input.haystack) ([], refl, refl)
up_to_all chars template most first (suc more) now out begun at = absurd (omega (arith, at))

pub same_first : {W : Type 0} (chars : W → ℕ → Bool) → OneNext → (most : ℕ) (left : MatchesLeft W) (one other : List MatchWithCaptures)
    → AreFirstWithCaptures chars most left one → AreFirstWithCaptures chars most left other → one ≡ other
same_first chars laws zero left one other a b = a ∙ sym b
same_first chars laws (suc most) left [] [] a b = refl
same_first chars laws (suc most) left [] (n ∷ others) over b =
    absurd (laws.over (search_in chars left.program left.input) left.last b.0.run over b.0.is_next)
same_first chars laws (suc most) left (m ∷ rest) [] a over =
    absurd (laws.over (search_in chars left.program left.input) left.last a.0.run over a.0.is_next)
same_first chars laws (suc most) left (m ∷ rest) (n ∷ others) a b =
    let same = laws.next (search_in chars left.program left.input) left.last m.captures n.captures m.found n.found a.0 b.0
    (a.1.0 ∙ sym b.1.0) (a.1.1 ∙ sym b.1.1) in
    let found : m.found ≡ n.found = same.0 in
    let head : m ≡ n = ap (λ (f : Matched). record { found = f; captures = m.captures }) found
    ∙ ap (λ (c : Captured). record { found = n.found; captures = c }) same.1 in
    let tail : rest ≡ others = same_first chars laws most (after left m.found) rest others a.2
    (subst (λ (f : Matched). AreFirstWithCaptures chars most (after left f) others) (sym found) b.2) in
    cc

pub same_first_text : {W : Type 0} (chars : W → ℕ → Bool) → OneNext → (most : ℕ) (left : MatchesLeft W) (template one other : List ℕ)
    → IsReplacedUpTo chars template most left one → IsReplacedUpTo chars template most left other → one ≡ other
same_first_text chars laws most left template one other a b =
    let first = same_first chars laws most left a.0 b.0 a.1 b.1 in
    a.2 ∙ (ap (λ (x : List MatchWithCaptures). with_matches_filled left.input.haystack template left.input.span.start x) first ∙ sym b.2)
