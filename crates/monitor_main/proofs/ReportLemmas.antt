-- What was told of a refusal.
use Rattle.std.proofs.Common.{◌≡◌, inr, refl, ℕ, List, Option, arith}
use Rattle.monitor_main.specs.declared.{refusal.Refusal.Refusal, refusal.Refusal.TheVariants.Memory}
use Rattle.monitor_main.specs.declared.{status.Status.Status}
use Rattle.monitor_main.specs.declared.status.Status.TheVariants as status
use Rattle.monitor_main.specs.{Outcomes.Reports, Outcomes.TellsLine, Refusals.line_of, Refusals.status_of}

-- the refusal's line under its status
pub reported : (r : Refusal) (s : Status) (line : List ℕ) (old new : Option (List ℕ)) (before now : ℕ)
    → s ≡ status_of r → line ≡ line_of r → TellsLine old new before now line → Reports r s old new before now
reported r s line old new before now is line_is t = grind arith

-- memory was refused
pub reported_memory : (r : Refusal) (old new : Option (List ℕ)) (before now : ℕ)
    → TellsLine old new before now (line_of Memory) → Reports r status.Memory old new before now
reported_memory r old new before now t = record { status_is = inr refl; told = t }
