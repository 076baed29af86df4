use Rattle.main_steps.proofs.{StepLemmas.due_with_room, WritingLemmas.runs_with}
use Rattle.main_steps.proofs.entries.make_way.Goals as goal

pub make_room-requires-clause-runs : goal.make_room-requires-clause-runs
make_room-requires-clause-runs g c = runs_with c.in_ok-make_changes.ensures.ok c.requires.runs

pub returns-clause-due : goal.returns-clause-due
returns-clause-due g c =
    due_with_room c.make_room.result c.requires.runs c.in_ok-make_changes.ensures c.make_room.ensures
