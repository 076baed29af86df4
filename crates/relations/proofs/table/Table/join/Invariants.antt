use Rattle.relations.proofs.table.Table.join.Given as goal

abbrev pub ghosts-join_within : goal.ghosts-join_within
ghosts-join_within a = record { name = a.blank.name; parts = a.blank.parts }
