-- What remains gives the rest of the number, and so many digits write no more.
use Rattle.std.proofs.Common.{◌≡◌, ◌<◌, ◌^◌, drop}
use Rattle.log_reader.specs.Quick.{digits_before}
use Rattle.log_reader.proofs.short_numbers.digits_before.Given as goal

abbrev pub invariant-loop-count : goal.invariant-loop-count
invariant-loop-count l =
    (digits_before l.number l.count (drop l.count l.bytes) ≡ digits_before 0 0 l.bytes) × (l.number < 10 ^ l.count)
