use Rattle.std.proofs.Common.{arith, take, ◌∙◌, ◌≡◌, true}
use Rattle.std.specs.{Option.is_some, BTreeMap.is_at, Map.lookup}
use Rattle.std.proofs.{lemmas.Bool.or_left, lemmas.Grind.common_steps}
use Rattle.mfotl_model.specs.{Tables.has_row, Values.row_cmp}
use Rattle.until_rows.specs.ByKey.{is_listed}
use Rattle.until_rows.proofs.ByKeyLemmas.{kept_listed, list_more, list_same}
use Rattle.until_rows.proofs.by_key.list_rows.Goals as goal
use Rattle.until_rows.proofs.by_key.list_rows.Goals.{then-not-contains_key+in_ok-add, else-not-contains_key}

pub loop-row-preserved : goal.loop-row-preserved
loop-row-preserved c =
    let x = c.row-item.result in
    let right = c.args.right.now in
    let cur = c.loop-row.by_key in
    let i = c.loop-row.row-index in
    let before = c.loop-row.invariant in
    elim c.if-not-contains_key.branch [
      | then-not-contains_key+in_ok-add w ↦ rw w.by_key-is (record {
        listed = λ u. list_more c.args.table.now i x u (is_listed right c.args.by_key.now u) (is_listed right cur u)
            (is_listed right w.add.new.self u) (omega arith) c.row-item.is (before.listed u)
            (w.in_ok-add.ensures.listed u);
        keys = w.in_ok-add.ensures.keys ∙ before.keys;
      })
      | else-not-contains_key w ↦
          let kept : is_some (lookup (is_at (row_cmp x)) c.args.rows.now.entries) ≡ true =
          grind (arith, common_steps, c.contains_key.ensures, w.if-not-contains_key.false) in
          rw w.by_key-is (record {
            listed = λ u. list_more c.args.table.now i x u (is_listed right c.args.by_key.now u) (is_listed right cur u)
                (is_listed right cur u) (omega arith) c.row-item.is (before.listed u)
                (list_same (is_listed right cur) x u
                (before.listed x ∙ or_left (is_listed right c.args.by_key.now x) (has_row (take i c.args.table.now) x)
                (kept_listed right c.args.by_key.now c.args.rows.now.entries x c.requires.some c.requires.listed
                kept)));
            keys = before.keys;
          })
    ]
