use Rattle.std.proofs.Common.{◌≡◌, ◌++◌, length, map}
use Rattle.definitions_check.specs.Values.{spelled_term}
use Rattle.definitions_check.proofs.parts.terms.Given as goal

abbrev pub invariant-loop-turn : goal.invariant-loop-turn
invariant-loop-turn l = record {
  read : l.initial.words ≡ map spelled_term l.terms.items ++ l.words;
  counted : length l.terms.items ≡ l._turn;
}
