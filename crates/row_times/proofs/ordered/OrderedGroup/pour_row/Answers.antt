use Rattle.std.proofs.{Common.sym, Common.◌∙◌, lemmas.Result.on_ok_weaker}
use Rattle.std.specs.BTreeMap.{is_at}
use Rattle.mfotl_model.specs.Values.{row_cmp}
use Rattle.relations.specs.KeptRows.{filled, kept_for}
use Rattle.relations.proofs.KeptLemmas.{filled_none, filled_some, none_more, one_poured, there_already}
use Rattle.row_times.proofs.ordered.OrderedGroup.pour_row.Goals as goal

pub returns-then-is_empty : goal.returns-then-is_empty
returns-then-is_empty c = λ u.
    none_more (kept_for c.args.self.now u) (filled c.args.times.now) (is_at (row_cmp u) c.args.row)
    (filled_none c.args.times.now (sym c.is_empty.ensures ∙ c.if-is_empty.true))

pub returns-then-contains_key : goal.returns-then-contains_key
returns-then-contains_key c = rw (← c.self.view_is) (λ u.
    there_already c.args.row u c.self.inside.rows.entries (filled c.args.times.now)
    (sym c.contains_key.ensures ∙ c.if-contains_key.true))

pub returns : goal.returns
returns c = rw (← c.self.view_is) (on_ok_weaker c.put_copy.result (λ put u.
    one_poured c.args.row u c.self.inside.rows.entries c.put_copy.new.self c.args.times.now
    (filled c.args.times.now)
    (sym c.contains_key.ensures ∙ c.if-contains_key.false)
    (filled_some c.args.times.now (sym c.is_empty.ensures ∙ c.if-is_empty.false))
    (rw (← c.self.view_is) at (put u))) c.put_copy.ensures)
