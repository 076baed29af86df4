use Rattle.std.proofs.{Common.ap, Common.◌∙◌, Math.Bool.and_comm, Math.Bool.or_comm}
use Rattle.mfotl_model.specs.{FreeVariables.among, Tables.has}
use Rattle.mfotl_model.proofs.LogicLemmas.{among_joined}
use Rattle.monitor_nodes.proofs.lookup.paired.Goals as goal

pub returns-then-all_among-clause-columns : goal.returns-then-all_among-clause-columns
returns-then-all_among-clause-columns c = λ y.
    ap (among y) c.in_ok-both.ensures.columns
    ∙ among_joined y c.args.found.columns c.args.table.now.columns
    ∙ or_comm (among y c.args.found.columns) (among y c.args.table.now.columns)

pub returns-then-all_among-clause-has : goal.returns-then-all_among-clause-has
returns-then-all_among-clause-has c = λ v.
    c.in_ok-both.ensures.has v ∙ and_comm (has c.args.found v) (has c.args.table.now v)

pub returns-clause-columns : goal.returns-clause-columns
returns-clause-columns c = λ y.
    ap (among y) c.in_ok-both-2.ensures.columns
    ∙ among_joined y c.args.table.now.columns c.args.found.columns
