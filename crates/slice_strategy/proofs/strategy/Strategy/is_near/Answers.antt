use Rattle.std.proofs.Common.{◌∙◌, ap, sym}
use Rattle.mfotl_model.specs.{Regions.near_of, Tables.valuation}
use Rattle.slice_strategy.specs.Entries.{entries_of}
use Rattle.slice_strategy.proofs.EntryLemmas.{nears_next, nears_not}
use Rattle.slice_strategy.proofs.strategy.Strategy.is_near.Goals as goal

pub returns-then-not-lies_in : goal.returns-then-not-lies_in
returns-then-not-lies_in c =
    let cols = c.args.part.now.cols.now in
    let v = valuation cols c.args.part.now.row.now in
    let l = c.loop-variable in
    let lies = rw c.parts-place.ensures at c.lies_in.ensures in
    nears_not c.deref-entry-items.result.now cols v c.args.k l.digits l.place l.variable l.invariant
    c.entry-item.result c.loop-variable-test.true c.entry-item.is (sym lies ∙ c.if-not-lies_in.true)
    ∙ ap (λ es. near_of (entries_of es) c.args.k cols v) c.deref-entry-items.ensures.value
    ∙ ap (λ s. near_of s c.args.k cols v) c.self.view_is

pub loop-variable-preserved : goal.loop-variable-preserved
loop-variable-preserved c =
    let cols = c.args.part.now.cols.now in
    let v = valuation cols c.args.part.now.row.now in
    let l = c.loop-variable in
    let lies = rw c.parts-place.ensures at c.lies_in.ensures in
    rw c.parts-place.ensures
    (nears_next c.deref-entry-items.result.now cols v c.args.k l.digits l.place l.variable l.invariant
    c.entry-item.result c.loop-variable-test.true c.entry-item.is (sym lies ∙ c.if-not-lies_in.false))
