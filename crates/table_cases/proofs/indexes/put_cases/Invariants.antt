use Rattle.table_cases.proofs.indexes.put_cases.Given as goal

abbrev pub ghosts-put_counted : goal.ghosts-put_counted
ghosts-put_counted a = record { name = a.blank.name; parts = a.blank.parts }
