-- The limits of a log, one word for each.
use Rattle.std.specs.Prelude.{ℕ, ◌-◌, ◌^◌}
use Rattle.log_reader.specs.declared.limits.Limits.{Limits}

-- the bytes of a log
abbrev pub byte_limit : ℕ
byte_limit = 2 ^ 40

-- its time-points
abbrev pub point_limit : ℕ
point_limit = 2 ^ 32 - 1

-- the groups of one time-point, as they are written
abbrev pub event_limit : ℕ
event_limit = 65536

-- the greatest timestamp
abbrev pub last_timestamp : ℕ
last_timestamp = 2 ^ 62

-- the bytes that a reader holds at most where it asks for more: a Text's quote and content
abbrev pub held_limit : ℕ
held_limit = 4097

-- the limits of the monitor
abbrev pub standard : Limits
standard = record { bytes = byte_limit; points = point_limit; events = event_limit }
