pub mod AheadLayoutLemmas  -- the leftmost-first match from a position on is a match of the whole search
pub mod AlongLayoutLemmas  -- how the preferred run goes on at a position, as the states on the stack are looked at
pub mod AlongLemmas  -- the pass along the log, as it goes through a position, and from one to the next
pub mod ArrivalsLayoutLemmas  -- from where a match is reached, position by position from its end back; and the least position at which one begins
pub mod BackwardLayoutLemmas  -- the backward pass along the rows of a table
pub mod BackwardLemmas  -- the loop of the backward pass, from position to position
pub mod BeginsLayoutLemmas  -- the runs of a program that was built: from the state at which a pattern begins its matches are found, and no others
pub mod ByWaysLayoutLemmas  -- steps to a match go by the ways of patterns
pub mod CompileLemmas  -- how lists of states grow, part by part
pub mod CoursesLayoutLemmas  -- paths of states take the courses of parts, and the first path the first way
pub mod CoursesLemmas  -- which way of a course is the first depends on what is wanted alone
pub mod DecidesLayoutLemmas  -- what a list decides as its states are looked at, one after the other
pub mod EndsLemmas  -- the search up to another end of its span, and the first match to end
pub mod EnclosesLayoutLemmas  -- where the states of parts lead that are made of parts
pub mod FirstBytesLayoutLemmas  -- where no byte is with which matches begin, none begins; so a search may as well begin behind such positions
pub mod FirstEndsLemmas  -- the first end of a pattern is an end, and the only one
pub mod FirstWaysLemmas  -- the first way of a pattern leads to its first end, depends on what is wanted alone, and is the only one; patterns with the same one
pub mod FirstsLayoutLemmas  -- steps to a pattern's match go by its ways, and the first path by the first way of a course of it
pub mod ForwardLayoutLemmas  -- the forward pass along the rows of a table
pub mod ForwardLemmas  -- the loop of a pass, from position to position
pub mod ForwardStepsLemmas  -- runs that avoid what was seen, with a place before them, and what is left of them
pub mod GroupEndsLemmas  -- what a run to a match records in the slots of the whole match, and what captures hold there
pub mod GroupNumbersLemmas  -- with the slots of its groups a pattern goes as without
pub mod GroupOrderLemmas  -- a group that begins on a way of a pattern ends there or later
pub mod HeadsLayoutLemmas  -- if loops take bytes, a course makes no choice twice at one position whatever way it goes; so its first way is that of its pattern
pub mod LawfulLayoutLemmas  -- what follows from the laws of steps: the bytes on both sides, or others of their classes, stand for a position
pub mod LawsLemmas  -- what first and next matches and ends are, of a program that recognizes patterns
pub mod LinesLemmas  -- which lines lie where, and in which no match is
pub mod LinksLayoutLemmas  -- how single states lead on, and what follows for parts made of parts
pub mod LogLayoutLemmas  -- the log of the backward pass, from row to row
pub mod LoopsLemmas  -- how lists of states grow by repetitions
pub mod StatesLayoutLemmas  -- what the states of parts name that are made of parts, and which assertions they have
pub mod NeededLayoutLemmas  -- no match is where no byte of the one range is directly after one of the other
pub mod NextMatchesLemmas  -- which match is next, as the search's start moves on
pub mod OnePatternLemmas  -- the matches of a program of one pattern, by the pattern alone
pub mod OrderedLayoutLemmas  -- a scan of a list beside a small haystack is one at each position for which the small haystack stands
pub mod OrderedLemmas  -- a scan of a list, as its stack goes down
pub mod PartsLemmas  -- what holds for parts in order, or for one of them, as the list grows
pub mod PassTableLayoutLemmas  -- the table of both passes: what it says is so, and stays so as it grows
pub mod PassesLayoutLemmas  -- what a pass finds is the end of the leftmost-first match
pub mod PathsLayoutLemmas  -- runs of a program as paths of states: a preferred run is the first path, and goes its pattern's preferred way
pub mod PatternMatchesLemmas  -- the first and the next match of a program are those of its patterns, and there is one of each
pub mod PatternOrderLemmas  -- of the matches from a position that of the pattern with the least number is preferred, and of its ends the first
pub mod PatternsLemmas  -- patterns that go where others go: bytes, classes and repetitions
pub mod PreferredLemmas  -- there is at most one preferred match, wherever a search's start is; the leftmost one, and that there is none
pub mod PreferredWaysLemmas  -- a pattern has one preferred way, whatever numbers its choices have
pub mod QuietLayoutLemmas  -- a match that goes on from a quiet state records nothing more but its end; and how the loud states are found
pub mod RefusalsLemmas  -- why there is no program
pub mod RenamedLayoutLemmas  -- courses that are alike but for the numbers of their choices go the same ways
pub mod RetreatLemmas  -- marks for the states that lead back to those of a list, as they grow; and lists of the states of which something is so
pub mod RunsLemmas  -- positions of a run; runs with a place before them, or in a part of a span; what a run records is between its first position and its last
pub mod SizesLemmas  -- how many states copies and lists of parts have, and programs
pub mod StepsLayoutLemmas  -- where steps lead
pub mod TakesLayoutLemmas  -- the courses of parts made of parts, and the numbers of their choices
pub mod TreesLemmas  -- the pattern of a tree, by its variants
pub mod WaysLayoutLemmas  -- ways to a match, and their first steps
pub mod WaysLemmas  -- what the slots of a group hold after a way of a pattern: where its part was last gone through
pub mod WrittenLayoutLemmas  -- a course of a pattern, as a pattern, goes where the pattern goes, and first where it goes first
