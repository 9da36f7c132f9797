-- How the states of a part lead on.
use Rattle.std.specs.Prelude.{◌≡◌, ℕ, zero, suc, ◌+◌, ◌*◌, ◌<◌, ◌≤◌, ◌⊎◌, Bool, true, false, List, [], ◌∷◌, ◌++◌, length, slice_get, Some}
use Rattle.rsc_nfa.specs.declared.state.State.{State}
use Rattle.rsc_nfa.specs.declared.state.State.TheVariants.{Fork, Accept}
use Rattle.rsc_nfa.specs.Steps.{IsStep}
use Rattle.rsc_engine.specs.Patterns.{Pattern, Empty, Then, Either, Subject, Goes}
use Rattle.rsc_engine.specs.EnclosesLayout.{Encloses}
use Rattle.rsc_engine.specs.StatesLayout.{FitsAndAsks, asked_by}
use Rattle.rsc_engine.specs.GroupNumbers.{group_count_in, numbered}
use Rattle.rsc_engine.specs.ByWaysLayout.{ByWays}
use Rattle.rsc_engine.specs.TakesLayout.{TakesCourse}
use Rattle.rsc_engine.specs.Sizes.{size_of}
use Rattle.rsc_captures.specs.Groups.{GroupLists, all_group_count}

-- a match that is looked for: in a subject up to an end, of a pattern, to a position
pub record Aim : Type 0 where
  pub subject : Subject
  pub end : ℕ
  pub pattern : ℕ
  pub position : ℕ

-- n steps lead from the state s at i to the match
abbrev pub StepsLead : List State → Aim → ℕ → ℕ → ℕ → Type 0
StepsLead states a zero s i = (slice_get states s ≡ Some (Accept a.pattern)) × (i ≡ a.position) × (i ≤ a.end)
StepsLead states a (suc n) s i =
    (i ≤ a.end) × (t : ℕ) × (k : ℕ) × IsStep states a.subject.terminator a.subject.word_chars a.subject.haystack a.end (s, i) (t, k)
    × StepsLead states a n t k

-- steps lead from the state s at i to the match
pub record HasEnd (states : List State) (a : Aim) (s i : ℕ) : Type 0 where
  pub steps : ℕ
  pub ends : StepsLead states a steps s i

-- from the state `first` steps lead to each match to which the pattern goes and then steps from the state `next` lead
pub record Realizes (states : List State) (first next : ℕ) (p : Pattern) : Type 0 where
  pub complete : (a : Aim) (i k : ℕ) → Goes a.subject p i k → HasEnd states a next k → HasEnd states a first i

-- the states from n on are in the other list too
abbrev pub IsIn : ℕ → List State → List State → Type 0
IsIn n states others = (k : ℕ) → n ≤ k → k < length states → slice_get others k ≡ slice_get states k

-- states were added, and they make something hold in each list that has them
pub record Adds (old new : List State) (Holds : List State → Type 0) : Type 0 where
  pub longer : length old ≤ length new
  pub kept : (k : ℕ) → k < length old → slice_get new k ≡ slice_get old k
  pub holds : (states : List State) → IsIn (length old) new states → Holds states

-- states were added that lead by the pattern from the state `first` to the state `next`, and record only in slots between the given ones
abbrev pub Builds : ℕ × ℕ → List State → List State → ℕ → ℕ → Pattern → Type 0
Builds slots old new first next p =
    Adds old new (λ states. Realizes states first next p × Encloses slots.0 (length old) (length new) first next states
    × FitsAndAsks slots.1 (asked_by p) (length old) (length new) states × ByWays states first next p
    × TakesCourse (length old) (length new) first next p states)

-- between which slots the parts of a pattern record: after the end of its whole match, below the limit of all slots
abbrev pub slots_between : GroupLists → ℕ → ℕ × ℕ
slots_between lists pattern = (2 * pattern + 1, 2 * all_group_count lists)

-- the same of a part whose groups are numbered up to `left` and from `now` on: as many states as it has
abbrev pub BuildsPart : (ℕ → ℕ) → ℕ × ℕ → ℕ → ℕ → List State → List State → ℕ → ℕ → Pattern → Type 0
BuildsPart slot_of slots left now old new first next p =
    (left ≡ now + group_count_in p) × Builds slots old new first next (numbered slot_of now p) × (length new ≡ length old + size_of p)

-- the same of what is made of copies of a part; only where there is one the groups from `now` on are known
abbrev pub BuildsCopies : (ℕ → ℕ) → ℕ × ℕ → ℕ → ℕ → List State → List State → ℕ → ℕ → ℕ → (Pattern → Pattern)
    → Pattern → Type 0
BuildsCopies slot_of slots left now old new first next count made_of p =
    (0 < count → left ≡ now + group_count_in p)
    × ((n : ℕ) → left ≡ n + group_count_in p → Builds slots old new first next (made_of (numbered slot_of n p)))
    × (length new ≡ length old + size_of (made_of p))

-- one state was added, and this is its number
pub record IsAdded (old new : List State) (state : State) (id : ℕ) : Type 0 where
  pub last : id ≡ length old
  pub added : new ≡ old ++ state ∷ []
  pub one : length new ≡ length old + 1

-- a fork that leads to a part or to what comes next: greedy, the part is preferred
abbrev pub choice_of : Bool → ℕ → ℕ → State
choice_of true part next = Fork part next
choice_of false part next = Fork next part

-- the state leads to the one or to the other
abbrev pub IsChoice : List State → ℕ → ℕ → ℕ → Type 0
IsChoice states s one other = (slice_get states s ≡ Some (Fork one other)) ⊎ (slice_get states s ≡ Some (Fork other one))

-- a pattern n times, and at most n times
abbrev pub copies : ℕ → Pattern → Pattern
copies zero p = Empty
copies (suc n) p = Then p (copies n p)

-- the pattern or nothing
abbrev pub optional : Bool → Pattern → Pattern
optional true p = Either p Empty
optional false p = Either Empty p

abbrev pub up_to : Bool → ℕ → Pattern → Pattern
up_to greedy zero p = Empty
up_to greedy (suc n) p = optional greedy (Then p (up_to greedy n p))
