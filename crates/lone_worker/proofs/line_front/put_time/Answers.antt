use Rattle.std.proofs.Common.{◌≡◌, ◌+◌, ◌-◌, refl, arith, rules}
use Rattle.std.proofs.{lemmas.Fmt.length-decimal-le, lemmas.List.drop-set}
use Rattle.lone_worker.proofs.line_front.put_time.Goals as goal

pub write_digits-start-requires : goal.write_digits-start-requires
write_digits-start-requires c =
    (omega (arith, length-decimal-le 20 c.args.ts (omega arith) (omega arith) (omega arith)), search rules)

pub overflow_sub-start : goal.overflow_sub-start
overflow_sub-start c = omega (arith, length-decimal-le 20 c.args.ts (omega arith) (omega arith) (omega arith))

pub returns-clause-written : goal.returns-clause-written
returns-clause-written c =
    let w = c.write_digits-start in
    let long = length-decimal-le 20 c.args.ts (omega arith) (omega arith) (omega arith) in
    let e : w.result - 1 + 1 ≡ w.result = omega arith in
    rw (drop-set w.new.buf (w.result - 1) 64 (omega arith), e, w.ensures.written) refl
