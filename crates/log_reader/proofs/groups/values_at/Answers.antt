use Rattle.std.proofs.Common.{◌<◌, ◌≤◌, length}
use Rattle.log_reader.proofs.GroupLemmas.{two_of}
use Rattle.log_reader.proofs.groups.values_at.Goals as goal

pub returns-in-len2 : goal.returns-in-len2
returns-in-len2 c =
    let some : 2 ≤ length c.args.sorts.now = c.in-len2.len_at_least in
    let few : length c.args.sorts.now < 3 = c.in-len2.len_below in
    rw two_of at c.pair_at.ensures
