use Rattle.std.proofs.Common.{◌≡◌, ◌+◌, ◌-◌, ◌≤◌, length, max, vec_len}
use Rattle.mon_outside.specs.Inputs.{GaveBytes}
use Rattle.mon_outside.proofs.loading.read_through.Given as goal

abbrev pub invariant-reads : goal.invariant-reads
invariant-reads g l = record {
  files : g.I.Inputs.files l.inputs ≡ g.I.Inputs.files l.initial.inputs;
  stays_open : g.I.Inputs.is_open l.inputs ≡ g.I.Inputs.is_open l.initial.inputs;
  asks_nothing : g.I.Inputs.asked l.inputs ≡ g.I.Inputs.asked l.initial.inputs;
  gave : GaveBytes (g.I.Inputs.rest l.initial.inputs) (g.I.Inputs.rest l.inputs) l.initial.bytes.items l.bytes.items;
  few : length l.bytes.items ≤ max l.limit (length l.initial.bytes.items);
  later : g.I.Inputs.faults l.initial.inputs ≤ g.I.Inputs.faults l.inputs;
}

abbrev pub decreases-reads : goal.decreases-reads
decreases-reads g l = l.limit + 1 - vec_len l.bytes
