use Rattle.std.proofs.Common.{◌≡◌, refl, rules, List, ℕ, Option, Some, None}
use mathlib.Core.List.{append_assoc}
use Rattle.std.specs.Prelude.{IfSome}
use Rattle.monitor_main.specs.FaultLines.{fault_line}
use Rattle.monitor_main.proofs.fault_lines.printed_line.Goals as goal

pub returns : goal.returns
returns g c = by (g.F.Display.output c.args.fault.now) refl
  where
    by : (o : Option (List ℕ)) → g.F.Display.output c.args.fault.now ≡ o
        → IfSome o (λ text. c.into_bytes.result.items ≡ fault_line c.args.input.now text)
    by None e = tt
    by (Some text) e = let h = rw e at c.in_ok-format.ensures.ok in search (rules, append_assoc, h)
