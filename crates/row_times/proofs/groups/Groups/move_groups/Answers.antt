use Rattle.std.proofs.Common.{arith, take}
use Rattle.mfotl_model.specs.Tables.{has_row}
use Rattle.row_times.proofs.{FilledLemmas.IsFilled, FilledLemmas.each_left}
use Rattle.row_times.proofs.{groups.Groups.move_groups.Goals.in-Some+in_ok-keep_group}
use Rattle.row_times.proofs.{groups.Groups.move_groups.Goals.in_default}
use Rattle.row_times.proofs.GroupLemmas.{gone_more, kept_none, kept_some}
use Rattle.row_times.proofs.groups.Groups.move_groups.Goals as goal

pub loop-part-preserved : goal.loop-part-preserved
loop-part-preserved c =
    let x = c.part-item.result in
    let i = c.loop-part.part-index in
    let cur = c.loop-part.self-inside.groups.entries in
    record {
      gone = gone_more c.args.parts.now i x c.args.self.now cur c.remove_entry.new.self.entries
          (omega arith) c.part-item.is c.loop-part.invariant.gone c.remove_entry.ensures.updates.0;
      kept = elim c.match-remove_entry.branch [
        | in-Some+in_ok-keep_group w ↦
            rw w.kept-is (kept_some c.args.parts.now i x w.in-Some.key c.args.self.now cur c.loop-part.kept.entries
            w.keep_group.new.kept.entries w.in-Some.group
            (omega arith) c.part-item.is c.loop-part.invariant.gone c.loop-part.invariant.kept
            w.in-Some.ensures.value w.in-Some.ensures.same_key w.in_ok-keep_group.ensures)
        | in_default w ↦
            rw w.kept-is (kept_none c.args.parts.now i x c.args.self.now cur c.loop-part.kept.entries
            (omega arith) c.part-item.is c.loop-part.invariant.gone c.loop-part.invariant.kept
            w.in_default.ensures.value)
      ];
    }

pub returns-clause-some : goal.returns-clause-some
returns-clause-some c =
    each_left IsFilled (has_row (take c.loop-part.part-index c.args.parts.now)) c.args.self.now c.loop-part.kept.entries
    c.loop-part.invariant.kept
