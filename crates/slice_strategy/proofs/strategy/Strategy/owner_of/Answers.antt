use Rattle.std.proofs.Common.{◌<◌, ◌∙◌, ap, sym, length, arith}
use Rattle.mfotl_model.specs.Strategies.{strategy_part}
use Rattle.slice_strategy.specs.{Entries.entry_of, SlicerLemmas.strategy_part_below}
use Rattle.slice_strategy.proofs.EntryLemmas.{entries_size, owes_parts, owes_next, owes_bound}
use Rattle.slice_strategy.proofs.PartialLemmas.{full_value}
use Rattle.slice_strategy.proofs.strategy.Strategy.owner_of.Goals as goal

pub overflow_mul-number : goal.overflow_mul-number
overflow_mul-number c =
    let l = c.loop-variable in
    let h = owes_parts c.deref-entry-items.result.now c.args.row.now l.number l.variable l.invariant c.entry-item.result
    c.loop-variable-test.true c.entry-item.is in
    rw c.parts.ensures (omega (arith, h.2))

pub part-requires : goal.part-requires
part-requires c =
    let l = c.loop-variable in
    (owes_parts c.deref-entry-items.result.now c.args.row.now l.number l.variable l.invariant c.entry-item.result
    c.loop-variable-test.true c.entry-item.is).0

pub overflow_add-number : goal.overflow_add-number
overflow_add-number c =
    let l = c.loop-variable in
    let h = owes_parts c.deref-entry-items.result.now c.args.row.now l.number l.variable l.invariant c.entry-item.result
    c.loop-variable-test.true c.entry-item.is in
    let low = strategy_part_below (entry_of c.entry-item.result) c.index-values-variable.result h.0 in
    rw c.parts.ensures (omega (arith, h.1, h.2, low, c.part.ensures))

pub loop-variable-preserved : goal.loop-variable-preserved
loop-variable-preserved c =
    let l = c.loop-variable in
    let size = ap length c.self.view_is in
    let low : l.variable < length c.args.row.now =
    omega (
      arith,
      c.requires,
      size,
      entries_size c.self.inside.entries.items,
      ap length c.deref-entry-items.ensures.value,
      c.loop-variable-test.true,
    ) in
    let value = full_value c.args.row.now l.variable c.index-values-variable.result low in
    let item = c.index-values-variable.is in
    rw c.parts.ensures
    (owes_next c.deref-entry-items.result.now c.args.row.now l.number l.variable l.invariant c.entry-item.result
    c.loop-variable-test.true c.entry-item.is c.part.result
    (c.part.ensures ∙ ap (strategy_part (entry_of c.entry-item.result))
    (rw c.values-values.ensures at item ∙ sym value)))

pub overflow_cast-result : goal.overflow_cast-result
overflow_cast-result c =
    let l = c.loop-variable in
    omega (arith, owes_bound c.deref-entry-items.result.now c.args.row.now l.number l.variable l.invariant)
