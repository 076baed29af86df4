use Rattle.std.proofs.Common.{◌≡◌, ◌-◌, ◌≤◌, false, true, length}
use Rattle.std.specs.List.{AllWithin}
use Rattle.until_rows.specs.Entries.{is_far}
use Rattle.until_rows.proofs.meeting.first_far.Given as goal

abbrev pub invariant-loop-low : goal.invariant-loop-low
invariant-loop-low l = record {
  ordered : l.low ≤ l.high;
  within : l.high ≤ length l.list;
  near : AllWithin (λ e. is_far l.interval l.i l.x e ≡ false) l.list 0 l.low;
  far : AllWithin (λ e. is_far l.interval l.i l.x e ≡ true) l.list l.high (length l.list);
}

abbrev pub decreases-loop-low : goal.decreases-loop-low
decreases-loop-low l = l.high - l.low
