use Rattle.std.proofs.Common.{not, ap, ◌∙◌}
use Rattle.eval_since.proofs.RestoredLemmas.{each_ascends, each_some, finds_none, finds_rows, keeps_restored, put_at}
use Rattle.eval_since.proofs.contents.restored.Goals as goal

pub grouped-requires : goal.grouped-requires
grouped-requires c = each_ascends c.args.interval.now.hi c.args.last c.args.rows.items c.requires.kept

pub returns-then-is_none : goal.returns-then-is_none
returns-then-is_none c =
    let hi = c.args.interval.now.hi in
    let rows = c.args.rows.items in
    let groups = c.in_ok-groups.groups in
    let times = put_at c.args.right.now c.args.left.now rows groups c.requires.rows c.in_ok-groups.ensures.times in
    record {
      kept = keeps_restored hi c.args.right.now c.args.left.now c.args.last rows groups c.new-dated.result.items
          c.requires.apart c.requires.sized c.requires.kept times
          (c.in_ok-groups.ensures.some (each_some hi c.args.last rows c.requires.kept))
          (finds_none hi c.args.last groups c.new-dated.result.items (c.is_none.ensures ∙ ap not c.if-is_none.true));
      times = times;
    }

pub grouped-requires-2 : goal.grouped-requires-2
grouped-requires-2 c = each_ascends c.args.interval.now.hi c.args.last c.args.rows.items c.requires.kept

pub returns : goal.returns
returns c =
    let hi = c.args.interval.now.hi in
    let rows = c.args.rows.items in
    let groups = c.in_ok-groups-2.groups in
    let times = put_at c.args.right.now c.args.left.now rows groups c.requires.rows c.in_ok-groups-2.ensures.times in
    record {
      kept = keeps_restored hi c.args.right.now c.args.left.now c.args.last rows groups c.in_ok-dated.dated.items
          c.requires.apart c.requires.sized c.requires.kept times
          (c.in_ok-groups-2.ensures.some (each_some hi c.args.last rows c.requires.kept))
          (finds_rows hi c.args.right.now c.args.left.now c.args.last rows groups c.in_ok-dated.dated.items
          c.requires.kept times (rw c.as_slice.ensures.value at c.in_ok-dated.ensures.names)
          (rw c.as_slice.ensures.value at c.in_ok-dated.ensures.all) c.in_ok-dated.ensures.rising
          c.in_ok-dated.ensures.rows);
      times = times;
    }
