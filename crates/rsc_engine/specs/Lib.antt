pub mod AheadLayout  -- where matches begin ahead
pub mod AlongLayout  -- the pass along the log of the backward pass
pub mod ArrivalsLayout  -- from where a match is reached
pub mod Asks  -- which assertions a pattern has, in parts that may be there
pub mod BackwardLayout  -- the backward pass: from the end of a span back to where a match begins in it
pub mod BeginsLayout  -- at which state the matches of a pattern, or of several, begin
pub mod ByWaysLayout  -- by which ways of a pattern steps lead to a match
pub mod Courses  -- courses: patterns with their copies written out, and how they go without making a choice twice at one position
pub mod CoursesLayout  -- how paths of states take a course: a choice's number is that of its fork
pub mod DecidesLayout  -- what an ordered list of states decides: the first of them from which a match is reached
pub mod EnclosesLayout  -- where the states of a part lead, and in which slots they record
pub mod Ends  -- where matches end
pub mod FirstBytesLayout  -- with which bytes matches begin
pub mod FirstEnds  -- which end of a pattern is tried first: the preferred one, if its loops take bytes
pub mod FirstWays  -- which way of a pattern is tried first: the preferred one, if its loops take bytes
pub mod FirstsLayout  -- by which ways of a pattern steps lead to its match, and by which the first path does
pub mod ForwardLayout  -- the forward pass
pub mod GroupEnds  -- the group of the whole match: what runs record in its slots
pub mod GroupNumbers  -- how the groups of a pattern are numbered, and which slots they have
pub mod GroupOrder  -- where groups begin and end
pub mod GroupsLayout  -- slots without a match, and with the ends of one alone
pub mod HeadsLayout  -- the choices of a course, and which of them it may make before its first byte
pub mod LawfulLayout  -- the laws of steps and runs that the proof of `dfa` rests on, as one record: each is a law of a library below
pub mod Lines  -- the lines of a haystack in which a program matches, one after the other
pub mod LinesLayout  -- where the next line with a match may be
pub mod LinksLayout  -- how the states of a part lead on
pub mod LogLayout  -- the log of the backward pass
pub mod StatesLayout  -- what the states of a part or of patterns name, and which assertions they have
pub mod NeededLayout  -- two bytes that stand side by side in every match
pub mod NextMatches  -- which match is next; `last` is where the last one ended, if there was one
pub mod OnePattern  -- what a program of one pattern answers, by the pattern alone: where it goes first, where next, and that it goes nowhere
pub mod OrderedLayout  -- what a state does at a position, and what a scan of an ordered list of states finds
pub mod Parts  -- which pattern a part is, and which groups it has; and what a builder has of them
pub mod PassTableLayout  -- the table of the rows of both passes
pub mod PassesLayout  -- a scan of an ordered list of states, and what a pass of such scans knows
pub mod PathsLayout  -- paths of states to a match: lists of states alone, along which the position, the records and the choices are carried
pub mod PatternMatches  -- which match of patterns is first, and which is next, by the patterns alone; `last` is where the last one ended, if there was one
pub mod PatternOrder  -- which match of a program's patterns is preferred
pub mod Patterns  -- what a pattern matches, and which programs match it
pub mod Preferred  -- which match is first
pub mod PreferredWays  -- the courses of a pattern, and the way that it prefers
pub mod QuietLayout  -- states from which a match records nothing but its end
pub mod Refusals  -- why there is no program
pub mod RenamedLayout  -- courses that are alike but for the numbers of their choices
pub mod RowsLayout  -- the rows of a DFA, and where a byte leads from one
pub mod Runs  -- runs that are matches
pub mod Searches  -- a program, and what a search is over
pub mod Sizes  -- how many states a pattern has, and a program of patterns
pub mod StepsLayout  -- steps from a place on
pub mod TakesLayout  -- how paths of states take a course of a pattern
pub mod Trees  -- which pattern a tree is
pub mod Ways  -- the ways of a pattern, and what they record in the slots of groups
pub mod WaysLayout  -- steps that lead to a match: their order, where they end, and what they record
pub mod WrittenLayout  -- courses as patterns
