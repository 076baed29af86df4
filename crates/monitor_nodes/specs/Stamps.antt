-- The timestamps that a state of SINCE or PREVIOUS knows.
use Rattle.std.specs.Prelude.{ℕ, zero, suc, List, ◌∷◌}

-- those of the positions that weren't pulled, behind that of the position pulled last, if one was
abbrev pub stamps : ℕ → ℕ → List ℕ → List ℕ
stamps zero last times = times
stamps (suc pulled) last times = last ∷ times
