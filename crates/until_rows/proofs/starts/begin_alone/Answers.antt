use Rattle.std.proofs.Common.{false}
use Rattle.until_rows.specs.Starts.{start_of}
use Rattle.until_rows.proofs.StartLemmas.{only_put}
use Rattle.until_rows.proofs.starts.begin_alone.Goals as goal

pub returns : goal.returns
returns c = rw c.put_alone.ensures (λ w.
    only_put c.args.row.now c.in_ok-copy.field-0 w (start_of false c.args.place c.args.starts.now)
    c.start_at-start.result c.in_ok-copy.ensures c.start_at-start.ensures)
