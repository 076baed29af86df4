-- The operators by kinds, over the truth values of their operands.
use Rattle.std.specs.Prelude.{ℕ, Bool, true, not, ◌&&◌, ◌||◌, List, length, map}
use Rattle.std.proofs.Math.Bool.{beq}
use Rattle.mfotl_model.specs.Log.{times}
use Rattle.mfotl_model.specs.Satisfaction.{next, previous, since, truths, until}
use Rattle.mfotl_model.specs.declared.event.TimePoint.{TimePoint}
use Rattle.mfotl_model.specs.declared.interval.Interval.{Interval}
use Rattle.mfotl_plain.specs.declared.satisfaction.Connective.{Connective}
use Rattle.mfotl_plain.specs.declared.satisfaction.Connective.TheVariants.{And, Or, Implies, Equiv}
use Rattle.mfotl_plain.specs.declared.temporal.Modality.{Modality}
use Rattle.mfotl_plain.specs.declared.temporal.Modality.TheVariants.{Previous, Next, Once, Historically, Eventually}
use Rattle.mfotl_plain.specs.declared.temporal.Modality.TheVariants.{Always}
use Rattle.mfotl_plain.specs.declared.temporal.Span.{Span}
use Rattle.mfotl_plain.specs.declared.temporal.Span.TheVariants.{Since, Until}

-- what a connective makes of the truth values of its operands
abbrev pub connected : Connective → Bool → Bool → Bool
connected And a b = a && b
connected Or a b = a || b
connected Implies a b = not a || b
connected Equiv a b = beq a b

-- the truth values of what is always true
abbrev pub every : List TimePoint → List Bool
every log = truths (length log) (λ j. true)

-- what a temporal operator makes of the truth values of its operand, at a position
abbrev pub in_time : Modality → Interval → List TimePoint → List Bool → ℕ → Bool
in_time Previous interval log a i = previous interval (times log) a i
in_time Next interval log a i = next interval (times log) a i
in_time Once interval log a i = since interval (times log) (every log) a i
in_time Historically interval log a i = not (since interval (times log) (every log) (map not a) i)
in_time Eventually interval log a i = until interval (times log) (every log) a i
in_time Always interval log a i = not (until interval (times log) (every log) (map not a) i)

-- what a temporal operator makes of the truth values of two operands, at a position
abbrev pub between : Span → Interval → List TimePoint → List Bool → List Bool → ℕ → Bool
between Since interval log a b i = since interval (times log) a b i
between Until interval log a b i = until interval (times log) a b i
