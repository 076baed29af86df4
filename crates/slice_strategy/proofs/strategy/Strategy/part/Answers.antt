use Rattle.std.proofs.Common.{◌∙◌, ap, sym, slice_get, arith}
use Rattle.slice_strategy.specs.Entries.{entries_of, entry_of, part_by}
use Rattle.slice_strategy.specs.SlicerLemmas.{strategy_part_below}
use Rattle.slice_strategy.proofs.EntryLemmas.{read_entry, has_parts}
use Rattle.slice_strategy.proofs.strategy.Strategy.part.Goals as goal

pub part-requires : goal.part-requires
part-requires c =
    let items = c.self.inside.entries.items in
    let found = read_entry items c.args.self.now c.args.variable c.index.result.now c.self.view_is c.requires
    c.index.ensures in
    (has_parts (entries_of items) c.args.variable (entry_of c.index.result.now) c.self.invariant.0 found).0

pub overflow_cast-result : goal.overflow_cast-result
overflow_cast-result c =
    let items = c.self.inside.entries.items in
    let found = read_entry items c.args.self.now c.args.variable c.index.result.now c.self.view_is c.requires
    c.index.ensures in
    let h = has_parts (entries_of items) c.args.variable (entry_of c.index.result.now) c.self.invariant.0 found in
    let low = strategy_part_below (entry_of c.index.result.now) c.args.value.now h.0 in
    omega (arith, h.1, low, c.part.ensures)

pub returns : goal.returns
returns c =
    let items = c.self.inside.entries.items in
    let found = read_entry items c.args.self.now c.args.variable c.index.result.now c.self.view_is c.requires
    c.index.ensures in
    c.part.ensures
    ∙ sym (ap (λ o. part_by o c.args.value.now) (sym (ap (λ es. slice_get es c.args.variable) c.self.view_is) ∙ found))
