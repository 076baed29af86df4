use Rattle.slice_strategy.proofs.{ReadingLemmas.broken_in, reading.Reader.broken.Goals.in-Ok}
use Rattle.slice_strategy.proofs.{reading.Reader.broken.Goals.in-Err}
use Rattle.slice_strategy.proofs.reading.Reader.broken.Goals as goal

pub returns : goal.returns
returns c =
    elim c.match-ended.branch [
      | in-Ok w ↦ rw (w.result-is, w.in-Ok.ensures)
      | in-Err w ↦ rw w.result-is (broken_in c.args.self c.args.at w.in-Err.fault w.in-Err.ensures)
    ]
