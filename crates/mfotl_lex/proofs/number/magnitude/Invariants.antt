-- What remains computes the rest of the number.
use Rattle.std.proofs.Common.{◌≡◌, ◌^◌, ◌≤◌, drop}
use Rattle.mfotl_lex.specs.Numbers.{digits_value}
use Rattle.mfotl_lex.proofs.number.magnitude.Given as goal

abbrev pub invariant-loop-b : goal.invariant-loop-b
invariant-loop-b l = (l.value ≤ 2 ^ 63) × (digits_value l.value (drop l.b-index l.digits) ≡ digits_value 0 l.digits)
