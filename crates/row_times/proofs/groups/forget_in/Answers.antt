use Rattle.std.proofs.Common.{sym, ◌∙◌}
use Rattle.row_times.proofs.ForgetLemmas.{forgets, leaves_filled, leaves_none}
use Rattle.row_times.proofs.groups.forget_in.Goals as goal

pub returns-in-Some : goal.returns-in-Some
returns-in-Some c =
    let g = c.forget.new.self in
    let old = c.args.groups.now in
    let new = c.get_mut.follows.lender g in
    let is = c.in-Some.ensures.value in
    let writes = c.get_mut.follows.holds g in record {
      times = λ q v. forgets c.args.key.now old new g c.in-Some.group.now is writes c.args.hi c.args.now q v _
          (c.forget.ensures.times v);
      empty = λ empty. leaves_none c.args.key.now old new g c.in-Some.group.now is writes
          (sym c.is_empty.ensures ∙ empty);
      some = rw c.is_empty.ensures
          (leaves_filled c.args.key.now old new g c.in-Some.group.now is writes c.forget.ensures.some);
    }
