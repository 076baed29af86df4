-- Numbers that are drawn one after another: each moves a number of 64 bits on, and is made of its upper bits.
use Rattle.std.specs.Prelude.{ℕ, ◌+◌, ◌*◌, ◌/◌, ◌%◌, ◌^◌}

-- the number of 64 bits behind s
abbrev pub moved_on : ℕ → ℕ
moved_on s = (s * 6364136223846793005 + 1442695040888963407) % 2 ^ 64

-- the number that is drawn behind s: the upper 31 bits of the next one
abbrev pub draw : ℕ → ℕ
draw s = moved_on s / 2 ^ 33

-- the number below m that is drawn behind s
abbrev pub drawn : ℕ → ℕ → ℕ
drawn m s = draw s % m
