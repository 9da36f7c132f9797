use Rattle.rsc_uses.proofs.lexer.letters_and_digits.Goals as goal

pub returns-clause-tokens : goal.returns-clause-tokens
returns-clause-tokens c =
    rw (
      c.in_ok-add_pattern-2.ensures.patterns,
      c.in_ok-add_pattern.ensures.patterns,
      c.new-builder.ensures.patterns,
      c.in_ok-letters.ensures.part,
      c.in_ok-digits.ensures.part,
      c.range.ensures.part,
      c.range-2.ensures.part,
      c.range-other.ensures.part,
      c.in_ok-add_pattern-2.ensures.groups,
      c.in_ok-add_pattern.ensures.groups,
      c.new-builder.ensures.groups,
      c.in_ok-letters.ensures.groups,
      c.in_ok-digits.ensures.groups,
      c.range.ensures.groups,
      c.range-2.ensures.groups,
      c.range-other.ensures.groups,
    ) at c.tokens_of.ensures.tokens
