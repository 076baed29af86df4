use Rattle.row_times.proofs.keyed.pour_row.Goals as goal

pub returns : goal.returns
returns g c = rw c.in_ok-row.ensures at c.pour_row.ensures
