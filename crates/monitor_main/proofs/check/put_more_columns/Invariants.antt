use Rattle.std.proofs.Common.{◌≡◌, ◌++◌, drop}
use Rattle.monitor_main.specs.CheckLine.{more_columns}
use Rattle.monitor_main.proofs.check.put_more_columns.Given as goal

abbrev pub invariant-loop-var : goal.invariant-loop-var
invariant-loop-var l = l.line.items ++ more_columns (drop l.var-index l.vars) ≡ l.fn.line.items ++ more_columns l.vars
