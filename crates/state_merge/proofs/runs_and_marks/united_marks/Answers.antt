use Rattle.until_rows.specs.declared.recalled.KeptMarks.{KeptMarks}
use Rattle.state_merge.proofs.PairLemmas.{rows_united}
use Rattle.state_merge.proofs.runs_and_marks.united_marks.Goals as goal

pub returns : goal.returns
returns c =
    rows_united (λ (k : KeptMarks). k.row) (λ (k : KeptMarks). k.marks.items) _ c.args.first.items c.args.second.items
    c.in_ok-rows.rows.items c.requires.first c.requires.second c.in_ok-rows.ensures
