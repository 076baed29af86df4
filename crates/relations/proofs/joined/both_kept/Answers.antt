use Rattle.std.proofs.Common.{sym, ◌∙◌}
use Rattle.mfotl_model.specs.FreeVariables.{joined}
use Rattle.relations.specs.Operations.{joined_rows, joined_table}
use Rattle.relations.proofs.{InsideLemmas.joined_within, OperationLaws.has_as, TwiceLemmas.has_twice}
use Rattle.relations.proofs.{TwiceLemmas.kept_is}
use Rattle.relations.proofs.joined.both_kept.Goals as goal

pub returns-clause-columns : goal.returns-clause-columns
returns-clause-columns c =
    c.in_ok-table.ensures.columns
    ∙ sym (joined_within (joined c.args.first.now.columns c.args.second.now.columns) c.args.third.now.columns
    c.requires.inside)

pub returns-clause-rows : goal.returns-clause-rows
returns-clause-rows c =
    c.in_ok-table.ensures.rows
    ∙ kept_is c.args.first.now c.args.second.now c.args.third.now c.rows.ensures.is_table c.rows-2.ensures.is_table
    c.rows-3.ensures.is_table c.requires.inside

pub returns-clause-has : goal.returns-clause-has
returns-clause-has c = λ v.
    let a = c.args.first.now in
    let b = c.args.second.now in
    let d = c.args.third.now in
    has_as c.in_ok-table.table (joined (joined a.columns b.columns) d.columns) (joined_rows (joined_table a b) d) v
    (returns-clause-columns c) (returns-clause-rows c)
    ∙ has_twice a b d c.rows.ensures.is_table c.rows-2.ensures.is_table c.rows-3.ensures.is_table v
