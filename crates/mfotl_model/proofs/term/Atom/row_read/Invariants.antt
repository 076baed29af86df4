use Rattle.std.proofs.Common.{◌≡◌, ◌++◌, drop, map}
use Rattle.mfotl_model.specs.Matching.{reads}
use Rattle.mfotl_model.proofs.term.Atom.row_read.Given as goal

abbrev pub invariant-loop-column : goal.invariant-loop-column
invariant-loop-column l =
    l.row ++ map (reads l.self l.event) (drop l.column-index l.columns) ≡ map (reads l.self l.event) l.columns
