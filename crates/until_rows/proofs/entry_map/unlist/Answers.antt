use Rattle.until_rows.proofs.ByKeyLemmas.{listed_without}
use Rattle.until_rows.proofs.entry_map.unlist.Goals as goal

pub returns-in-Some-clause-listed : goal.returns-in-Some-clause-listed
returns-in-Some-clause-listed c = λ rows none listed.
    listed_without c.args.right.now c.args.by_key.now c.remove.new.self rows c.in-Some.row
    (rw c.in-Some.is at none) c.remove.ensures.others listed
