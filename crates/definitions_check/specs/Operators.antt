-- The words of operators and signs.
use Rattle.std.specs.Prelude.{ℕ, List, codes}
use Rattle.mfotl_model.specs.declared.term.Sign.{Sign}
use Rattle.mfotl_model.specs.declared.term.Sign.TheVariants as sign
use Rattle.definitions_check.specs.declared.operator.Operator.{Operator}
use Rattle.definitions_check.specs.declared.operator.Operator.TheVariants.{True, False, Atom, Compare, Not, And, Or}
use Rattle.definitions_check.specs.declared.operator.Operator.TheVariants.{Implies, Equiv, Exists, Forall, Previous}
use Rattle.definitions_check.specs.declared.operator.Operator.TheVariants.{Next, Once, Historically, Eventually}
use Rattle.definitions_check.specs.declared.operator.Operator.TheVariants.{Always, Since, Until}

-- the word that a formula of this operator begins with
abbrev pub word_of : Operator → List ℕ
word_of True = codes "true"
word_of False = codes "false"
word_of Atom = codes "atom"
word_of Compare = codes "cmp"
word_of Not = codes "not"
word_of And = codes "and"
word_of Or = codes "or"
word_of Implies = codes "implies"
word_of Equiv = codes "equiv"
word_of Exists = codes "exists"
word_of Forall = codes "forall"
word_of Previous = codes "previous"
word_of Next = codes "next"
word_of Once = codes "once"
word_of Historically = codes "historically"
word_of Eventually = codes "eventually"
word_of Always = codes "always"
word_of Since = codes "since"
word_of Until = codes "until"

-- the word of a comparison's sign
abbrev pub sign_word : Sign → List ℕ
sign_word sign.Equal = codes "="
sign_word sign.Less = codes "<"
sign_word sign.LessEqual = codes "<="
sign_word sign.Greater = codes ">"
sign_word sign.GreaterEqual = codes ">="
