use Rattle.until_rows.proofs.ByKeyLemmas.{listed_gone, listed_others}
use Rattle.until_rows.proofs.by_key.RowsByKey.remove.Goals as goal

pub returns-clause-gone : goal.returns-clause-gone
returns-clause-gone c =
    let k = c.self.inside in
    listed_gone c.args.right.now k.columns.items c.args.row.now k.sets.entries c.take_out.new.sets.entries
    (rw (c.in_ok-key.ensures, c.values.ensures, c.as_slice.ensures.value) at c.take_out.ensures)

pub returns-clause-others : goal.returns-clause-others
returns-clause-others c = rw (← c.self.view_is) (
    let k = c.self.inside in
    λ u apart. listed_others c.args.right.now k.columns.items c.args.row.now u k.sets.entries
    c.take_out.new.sets.entries
    (rw (c.in_ok-key.ensures, c.values.ensures, c.as_slice.ensures.value) at c.take_out.ensures) apart)
