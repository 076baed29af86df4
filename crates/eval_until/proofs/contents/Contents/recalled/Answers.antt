use Rattle.until_rows.proofs.OrderLemmas.{hashed_finds}
use Rattle.eval_until.proofs.ResumeLemmas.{keeps_alike, keeps_resumed}
use Rattle.eval_until.proofs.contents.Contents.recalled.Goals as goal

pub returns-clause-kept : goal.returns-clause-kept
returns-clause-kept c = λ pulled taken waiting below above.
    keeps_alike c.args.negated c.args.right.now pulled taken c.args.starts.entries c.in_ok-starts.starts
    c.args.rows.entries _ c.in_ok-queue.queue.items
    (hashed_finds c.args.starts.entries c.in_ok-starts.starts c.in_ok-starts.ensures.ascend
    c.in_ok-starts.ensures.found)
    (hashed_finds c.args.rows.entries _ c.in_ok-found.ensures.ascend c.in_ok-found.ensures.found)
    (keeps_resumed c.args.negated c.args.right.now pulled taken c.args.starts.entries c.args.rows.entries
    c.in_ok-queue.queue.items c.requires.apart c.requires.sized c.requires.some waiting c.requires.ascend below above
    c.in_ok-queue.ensures.ascend c.in_ok-queue.ensures.starts c.in_ok-queue.ensures.names
    c.in_ok-queue.ensures.breaks c.in_ok-queue.ensures.all c.in_ok-queue.ensures.rising)
