use Rattle.relations.proofs.joined.both_kept.Given as goal

abbrev pub ghosts-join_kept : goal.ghosts-join_kept
ghosts-join_kept a = record { name = a.blank.name; parts = a.blank.parts }
