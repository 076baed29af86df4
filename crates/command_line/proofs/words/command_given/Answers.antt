use Rattle.std.proofs.Common.{◌∙◌, ap, sym}
use Rattle.command_line.specs.Words.{command_found}
use Rattle.command_line.proofs.WordsLemmas.{named_rows, no_rows}
use Rattle.command_line.proofs.words.command_given.Goals as goal

pub returns-in-Some-clause-command : goal.returns-in-Some-clause-command
returns-in-Some-clause-command c = let found = c.in-Some.ensures in
    c.command_named.ensures.command ∙ sym (ap command_found (named_rows _ found.name found.rows))

pub returns-in-Some-clause-threads : goal.returns-in-Some-clause-threads
returns-in-Some-clause-threads c = let found = c.in-Some.ensures in
    rw (named_rows _ found.name found.rows) c.command_named.ensures.threads

pub returns-in-None-clause-command : goal.returns-in-None-clause-command
returns-in-None-clause-command c = ap command_found (sym (no_rows _ c.in-None.ensures.name))
