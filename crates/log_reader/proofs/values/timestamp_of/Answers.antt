use Rattle.std.proofs.Common.{◌-◌, get_or, refl, arith}
use Rattle.mfotl_lex.proofs.Digits.{passes_limit}
use Rattle.log_reader.specs.Limits.{last_timestamp}
use Rattle.log_reader.proofs.values.timestamp_of.Goals as goal

pub returns-then-time-gt-TIMESTAMP_ROOM : goal.returns-then-time-gt-TIMESTAMP_ROOM
returns-then-time-gt-TIMESTAMP_ROOM c =
    passes_limit last_timestamp c.loop-b.time (get_or c.args.digits.now c.loop-b.b-index 0 - 48) c.loop-b.b-index
    c.args.digits.now c.loop-b-test.true refl c.loop-b.invariant.1
    (omega (arith, c.if-time-gt-TIMESTAMP_ROOM.true))
