use Rattle.std.proofs.Common.{◌≡◌, ◌≤◌, ◌++◌, drop, length}
use Rattle.rsc_uses.specs.Replaced.{replaced}
use Rattle.rsc_uses.proofs.captures.replace_all.Given as goal

-- the text so far, and what the spans that are left make of the rest
abbrev pub invariant-loop-span : goal.invariant-loop-span
invariant-loop-span l = record {
  within : l.from ≤ length l.haystack;
  text : l.text.items ++ replaced l.haystack l.replacement l.from (drop l.span-index l.spans) ≡ replaced l.haystack l.replacement 0 l.spans;
}
