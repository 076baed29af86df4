use Rattle.std.proofs.Common.{length}
use Rattle.slice_strategy.proofs.SoundLemmas.{nothing_sound}
use Rattle.slice_strategy.proofs.reading.Reader.new.Goals as goal

pub invariant_of-result : goal.invariant_of-result
invariant_of-result c = rw c.in_ok-uncut.ensures (nothing_sound (length c.args.vars.now))
