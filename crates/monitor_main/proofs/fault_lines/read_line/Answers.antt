use Rattle.std.proofs.Common.{rules}
use mathlib.Core.List.{append_assoc}
use Rattle.monitor_main.proofs.fault_lines.read_line.Goals as goal

pub returns : goal.returns
returns c = search (rules, append_assoc)
