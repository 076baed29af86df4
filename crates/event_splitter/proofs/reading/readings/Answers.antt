use Rattle.std.proofs.{Common.arith, lemmas.Grind.common_steps}
use Rattle.event_splitter.proofs.PartLemmas.{atom_left, atom_taken, no_readings}
use Rattle.event_splitter.proofs.reading.readings.Goals as goal

pub loop-atom-preserved : goal.loop-atom-preserved
loop-atom-preserved c = grind (arith, common_steps, atom_taken, atom_left)

pub returns : goal.returns
returns c = grind (arith, common_steps, no_readings)
