-- Laws of conjunctions and of OR.
use Rattle.std.specs.Prelude.{◌≡◌, ◌+◌, Bool, true, List, length}
use Rattle.std.specs.List.{list_all}
use Rattle.mfotl_model.specs.Satisfaction.{Valuation}
use Rattle.relations.specs.Operations.{chosen}
use Rattle.eval_bool.specs.JoinView.{ConjunctOf, test_holds, tests_of}
use Rattle.eval_bool.specs.JoinView.ConjunctOf.{Child, Test}
use Rattle.eval_bool.specs.OrView.{OrOf, or_advanced, or_due}

-- whether a conjunct passes as far as its comparison tells, where it is one
abbrev pub passes : Valuation → ConjunctOf → Bool
passes v (Child columns negated) = true
passes v (Test c wanted) = chosen c wanted v

-- the tests of conjuncts hold exactly where each conjunct that is a comparison comes out as wanted
abbrev pub TestsHold : Type 0
TestsHold = (conjuncts : List ConjunctOf) (v : Valuation)
    → list_all (test_holds v) (tests_of conjuncts) ≡ list_all (passes v) conjuncts

-- a pull leaves the positions of the tables to come as they are
abbrev pub NumberedOn : Type 0
NumberedOn = (s : OrOf) → or_due s ≡ true
    → ((or_advanced s).pulled + length (or_advanced s).lefts ≡ s.pulled + length s.lefts)
    × ((or_advanced s).pulled + length (or_advanced s).rights ≡ s.pulled + length s.rights)
