use Rattle.std.proofs.Common.{◌≡◌, ◌∷◌, ◌++◌, rules, refl, subst}
use Rattle.relations.specs.{Pushed.turned, Tables.IsTable}
use Rattle.monitor_nodes.proofs.SiftLemmas.{sift_more, table_kept}
use Rattle.monitor_nodes.proofs.filter.kept_rows.Goals as goal

pub loop-row-preserved : goal.loop-row-preserved
loop-row-preserved c =
    let here : c.loop-row.row-iterator.rest.items ≡ c.in-Some.row ∷ c.next.new.self.rest.items =
    search (rules, c.in-Some.ensures.goes, c.next.ensures.goes) in
    let sifted = c.in_ok-keep_held.ensures in
    record {
      is_table = table_kept c.args.columns.now (turned c.args.negated sifted.0) c.loop-row.kept.items
          c.keep_held.new.kept.items c.next.new.self.rest.items c.in-Some.row
          (subst (λ xs. IsTable c.args.columns.now (c.loop-row.kept.items ++ xs)) here c.loop-row.invariant.is_table)
          sifted.2;
      sifts = sift_more c.args.window.now c.args.negated sifted.0 (turned c.args.negated sifted.0) c.args.columns.now
          c.loop-row.yielded c.loop-row.kept.items c.keep_held.new.kept.items c.in-Some.row
          c.loop-row.invariant.sifts sifted.1 refl sifted.2;
    }
