use Rattle.std.proofs.{Common.arith, Common.rules, lemmas.Fmt.length-decimal-le}
use Rattle.lone_worker.proofs.line_front.put_front.Goals as goal

pub write_digits-number-requires : goal.write_digits-number-requires
write_digits-number-requires c =
    let long = length-decimal-le 20 c.args.point (omega arith) (omega arith) (omega arith) in search rules

pub put_words-words-requires : goal.put_words-words-requires
put_words-words-requires c =
    let long = length-decimal-le 20 c.args.point (omega arith) (omega arith) (omega arith) in search rules

pub put_time-requires : goal.put_time-requires
put_time-requires c =
    let long = length-decimal-le 20 c.args.point (omega arith) (omega arith) (omega arith) in search rules
