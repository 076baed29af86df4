use Rattle.std.proofs.Common.{refl, rules, replicate}
use Rattle.mfotl_model.specs.VerdictText.{line_front}
use Rattle.lone_worker.proofs.LineLemmas.{front_in}
use Rattle.lone_worker.proofs.line_writer.LineWriter.make_line.Goals as goal

pub returns-clause-line : goal.returns-clause-line
returns-clause-line c =
    let start = c.put_front-start.result in
    let front = front_in c.put_front-start.new.room (replicate 64 10)
    (line_front c.args.verdict.now.ts c.args.verdict.now.point) start c.put_front-start.ensures.written (search rules)
    refl c.put_front-start.ensures.within in
    rw (
      c.in_ok-push.ensures.items,
      c.in_ok-push_rows.ensures,
      c.rows.ensures,
      c.in_ok-extend_from_slice.ensures.items,
      c.clear.ensures.items,
      front,
    ) refl
