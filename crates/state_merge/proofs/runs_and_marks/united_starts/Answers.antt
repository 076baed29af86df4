use Rattle.until_rows.specs.declared.recalled.KeptStart.{KeptStart}
use Rattle.state_merge.proofs.PairLemmas.{rows_united}
use Rattle.state_merge.proofs.runs_and_marks.united_starts.Goals as goal

pub returns : goal.returns
returns c =
    rows_united (λ (k : KeptStart). k.row) (λ (k : KeptStart). k.start) _ c.args.first.items c.args.second.items
    c.in_ok-starts.starts.items c.requires.first c.requires.second c.in_ok-starts.ensures
