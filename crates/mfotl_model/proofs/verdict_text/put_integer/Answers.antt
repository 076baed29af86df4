use Rattle.std.proofs.Common.{◌≡◌, ◌+◌, ◌-◌, arith, rules, to_z-of_z}
use Rattle.std.proofs.{lemmas.Fmt.length-decimal-le, lemmas.List.drop-set, lemmas.Grind.common_steps}
use Rattle.itoa.proofs.Decimal.{minus_first}
use Rattle.mfotl_model.proofs.verdict_text.put_integer.Goals as goal

pub write_digits-start-requires : goal.write_digits-start-requires
write_digits-start-requires c =
    (omega (arith, length-decimal-le 19 c.unsigned_abs.result (omega arith) (omega arith) (omega arith)), search rules)

pub overflow_sub-room : goal.overflow_sub-room
overflow_sub-room c =
    omega (arith, length-decimal-le 19 c.unsigned_abs.result (omega arith) (omega arith) (omega arith))

pub overflow_sub-result : goal.overflow_sub-result
overflow_sub-result c =
    omega (arith, length-decimal-le 19 c.unsigned_abs.result (omega arith) (omega arith) (omega arith))

pub returns-then-number-ge0-clause-begins : goal.returns-then-number-ge0-clause-begins
returns-then-number-ge0-clause-begins c =
    let long = length-decimal-le 19 c.unsigned_abs.result (omega arith) (omega arith) (omega arith) in
    (omega arith, omega arith)

pub returns-clause-begins : goal.returns-clause-begins
returns-clause-begins c =
    let long = length-decimal-le 19 c.unsigned_abs.result (omega arith) (omega arith) (omega arith) in
    (omega arith, omega arith)

pub returns-clause-written : goal.returns-clause-written
returns-clause-written c =
    let w = c.write_digits-start in
    let long = length-decimal-le 19 c.unsigned_abs.result (omega arith) (omega arith) (omega arith) in
    let e : w.result - 1 + 1 ≡ w.result = omega arith in
    let back = to_z-of_z c.ranges.number in
    grind (arith, common_steps, drop-set, minus_first)
