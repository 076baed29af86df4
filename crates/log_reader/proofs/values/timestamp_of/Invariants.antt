-- What remains computes the rest of the number.
use Rattle.std.proofs.Common.{◌≡◌, ◌≤◌, drop}
use Rattle.mfotl_lex.specs.Numbers.{digits_value}
use Rattle.log_reader.specs.Limits.{last_timestamp}
use Rattle.log_reader.proofs.values.timestamp_of.Given as goal

abbrev pub invariant-loop-b : goal.invariant-loop-b
invariant-loop-b l = (l.time ≤ last_timestamp)
    × (digits_value l.time (drop l.b-index l.digits) ≡ digits_value 0 l.digits)
