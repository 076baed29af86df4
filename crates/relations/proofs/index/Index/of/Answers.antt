use Rattle.std.proofs.Common.{length, map, sym, subst, ◌∙◌}
use Rattle.std.specs.List.Sorted.{IsSorted, IsPermutation}
use Rattle.mfotl_model.specs.{Values.row_cmp, Tables.part}
use Rattle.relations.proofs.PairLemmas.{sized_moved}
use Rattle.relations.proofs.index.Index.of.Goals as goal

pub invariant_of-result : goal.invariant_of-result
invariant_of-result c =
    let entries = c.in_ok-entries in
    let lists = c.in_ok-keys in
    record {
      apart = c.requires.apart;
      sized = sized_moved (length c.args.columns.items) c.args.rows.now lists.rows.items
          (subst (IsPermutation c.args.rows.now) (sym lists.ensures.rows) entries.ensures.moved) c.requires.sized;
      keyed = lists.ensures.keys ∙ entries.ensures.keys ∙ (λ i. map
          (part (c.as_slice.ensures i) (c.as_slice-2.ensures i)) (sym lists.ensures.rows i));
      rises = subst (IsSorted row_cmp) (sym lists.ensures.keys) entries.ensures.rises;
    }
