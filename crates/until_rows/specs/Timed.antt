-- Entries whose positions have a time in a list, and theirs.
use Rattle.std.specs.Prelude.{ℕ, ◌-◌, Bool, ◌&&◌, nat_eq, nat_lt, List, length, slice_index}
use Rattle.until_rows.specs.declared.entries.Entry.{Entry}

-- whether an entry's position, of those from `pulled` on, has a time
abbrev pub has_time : ℕ → List ℕ → Entry → Bool
has_time pulled times e = nat_lt (e.place - pulled) (length times)

-- whether it has the time that the entry has
abbrev pub is_timed : ℕ → List ℕ → Entry → Bool
is_timed pulled times e = has_time pulled times e && nat_eq (slice_index times (e.place - pulled)) e.ts
