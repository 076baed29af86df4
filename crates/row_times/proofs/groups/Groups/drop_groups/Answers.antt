use Rattle.row_times.proofs.{GroupLemmas.gone_more, FilledLemmas.IsFilled, FilledLemmas.each_gone}
use Rattle.std.proofs.Common.{arith, take}
use Rattle.mfotl_model.specs.Tables.{has_row}
use Rattle.row_times.proofs.groups.Groups.drop_groups.Goals as goal

pub loop-part-preserved : goal.loop-part-preserved
loop-part-preserved c =
    gone_more c.args.parts.now c.loop-part.part-index c.part-item.result c.args.self.now
    c.loop-part.self-inside.groups.entries c.remove.new.self.entries
    (omega arith) c.part-item.is c.loop-part.invariant c.remove.ensures.updates.0

pub returns-clause-some : goal.returns-clause-some
returns-clause-some c =
    each_gone IsFilled (has_row (take c.loop-part.part-index c.args.parts.now)) c.args.self.now
    c.loop-part.self-inside.groups.entries c.loop-part.invariant
