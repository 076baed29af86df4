use Rattle.std.proofs.Common.{◌≡◌, ◌++◌, length, map}
use Rattle.definitions_check.specs.Values.{spelled_value}
use Rattle.definitions_check.proofs.cases.values.Given as goal

abbrev pub invariant-words : goal.invariant-words
invariant-words l = l.initial.words ≡ map spelled_value l.values.items ++ l.words

abbrev pub decreases-words : goal.decreases-words
decreases-words l = length l.words
