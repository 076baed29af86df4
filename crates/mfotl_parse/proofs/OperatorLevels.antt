-- The rules that operators make, and those of their operands.
use Rattle.std.proofs.Common.{suc, ◌≤◌, arith}
use Rattle.mfotl_parse.specs.declared.class.Operator.{Operator}
use Rattle.mfotl_parse.specs.Grammar.{left_precedence, precedence, right_precedence}

-- how the rule of an operator and those of its operands lie
pub record Levels (o : Operator) : Type 0 where
  pub least : 1 ≤ precedence o
  pub most : precedence o ≤ 5
  pub left : precedence o ≤ left_precedence o
  pub right : precedence o ≤ right_precedence o
  pub right_within : right_precedence o ≤ suc (precedence o)
  pub right_least : 2 ≤ right_precedence o
  pub right_most : right_precedence o ≤ 5
  pub right_of_or : 3 ≤ precedence o → 4 ≤ right_precedence o
  pub right_of_and : 4 ≤ precedence o → 5 ≤ right_precedence o
  pub above_implies : 3 ≤ right_precedence o → 3 ≤ precedence o

pub levels : (o : Operator) → Levels o
levels o = grind arith
