use Rattle.std.proofs.Common.{◌≡◌, ◌+◌, [], ◌∷◌, ◌++◌, slice_index_or, take}
use Rattle.std.proofs.lemmas.List.{take_more}
use Rattle.until_rows.proofs.LevelLemmas.{last_pushed}
use Rattle.until_rows.proofs.level.level_of.Goals as goal

pub loop-entry-preserved : goal.loop-entry-preserved
loop-entry-preserved c =
    let list = c.args.list.now in
    let k = c.loop-entry.entry-index in
    let entry = slice_index_or list k (record { place = 0; start = 0; ts = 0 }) in
    let more : take (k + 1) list ≡ take k list ++ entry ∷ [] =
    take_more list k (record { place = 0; start = 0; ts = 0 }) c.loop-entry-test.true in
    record {
      level = rw more (c.next_level-level.ensures (take k list) c.loop-entry.invariant.last
          c.loop-entry.invariant.level);
      last = rw more (last_pushed (take k list) entry);
    }
