use Rattle.std.proofs.Common.{◌≡◌, ◌++◌, map}
use Rattle.eval_bool.specs.JoinView.{children_of, conjunct_of, tests_of}
use Rattle.eval_bool.proofs.conjunct.split.Given as goal

abbrev pub invariant-loop-conjunct : goal.invariant-loop-conjunct
invariant-loop-conjunct l =
    record {
      tests : l.parts.tests.items ++ tests_of (map conjunct_of l.conjunct-iterator.rest.items)
          ≡ tests_of (map conjunct_of l.fn.conjuncts.items);
      children : l.parts.children.items ++ children_of (map conjunct_of l.conjunct-iterator.rest.items)
          ≡ children_of (map conjunct_of l.fn.conjuncts.items);
    }
