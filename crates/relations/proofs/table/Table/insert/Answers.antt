use Rattle.relations.specs.Tables.{IsTable}
use Rattle.relations.proofs.OperationLaws.{inserted_is, either_way}
use Rattle.relations.proofs.table.Table.insert.Goals as goal

pub invariant_of-self : goal.invariant_of-self
invariant_of-self c =
    either_way (IsTable c.self.inside.columns.items) c.insert_row.result c.insert_row.new.rows.items _ _
    c.insert_row.ensures.rows c.insert_row.ensures.old
    (inserted_is c.self.inside.columns.items c.self.inside.rows.items c.args.row c.self.invariant
    (rw (← c.self.view_is) at c.requires.sized)) c.self.invariant
