-- The terms so far, and those that are left, have the answer.
use Rattle.std.proofs.Common.{◌≡◌, ◌++◌, drop, map}
use Rattle.monitorable.specs.{Renaming.renamed_term, RenamingScope.numbers_of}
use Rattle.monitorable.proofs.renaming.Renaming.terms.Given as goal

abbrev pub invariant-loop-term : goal.invariant-loop-term
invariant-loop-term l =
    l.renamed.items ++ map (renamed_term (numbers_of l.self)) (drop l.term-index l.terms)
    ≡ map (renamed_term (numbers_of l.self)) l.terms
