-- How a reader moves through the bytes of a log, from an offset and what was read before it.
use Rattle.std.specs.Prelude.{◌≡◌, ◌+◌, ◌-◌, ◌<◌, ◌≤◌, ℕ, List, [], ◌∷◌, length, drop, Bool, true, false}
use Rattle.std.specs.Prelude.{Option, Some, None, Result, Ok, Err}
use Rattle.mfotl_lex.specs.Blanks.{blank_len}
use Rattle.mfotl_lex.specs.Growing.{grown}
use Rattle.mfotl_lex.specs.Lexemes.{Lexeme, next_token}
use Rattle.mfotl_model.specs.declared.event.TimePoint.{TimePoint}
use Rattle.mfotl_sig.specs.Preds.{PredOf}
use Rattle.log_reader.specs.declared.cursor.TokenStep.{TokenStep}
use Rattle.log_reader.specs.declared.cursor.TokenStep.TheVariants.{Took, Completed, Empty}
use Rattle.log_reader.specs.declared.fault.LogFault.{LogFault}
use Rattle.log_reader.specs.declared.fault.LogFault.TheVariants.{Memory}
use Rattle.log_reader.specs.declared.limits.Limits.{Limits}
use Rattle.log_reader.specs.declared.next.Next.{Next}
use Rattle.log_reader.specs.declared.next.Next.TheVariants.{Point}
use Rattle.log_reader.specs.declared.stage.Stage.{Stage}
use Rattle.log_reader.specs.declared.stage.Stage.TheVariants.{Between}
use Rattle.log_reader.specs.Given.{Stays}
use Rattle.log_reader.specs.Partials.{Partial, point_of, finished}
use Rattle.log_reader.specs.Stages.{completes, read_on}
use Rattle.log_reader.specs.Steps.{step}
use Rattle.log_reader.specs.Stretches.{place_in}
use Rattle.log_reader.specs.Symbols.{symbol}
use Rattle.log_reader.specs.Readings.{Reading, behind, fault_only, run_from}

-- what may come later: no more bytes, once the end is told
abbrev pub MayComeLater : Bool → List ℕ → Bool → Type 0
MayComeLater true more later = (more ≡ []) × (later ≡ true)
MayComeLater false more later = Unit {0}

-- how many time-points are begun and not completed
abbrev pub open_count : Stage → ℕ
open_count Between = 0
open_count _ = 1

-- how many time-points are completed
abbrev pub given_of : Partial → ℕ
given_of p = p.points - open_count p.stage

-- a time-point that is begun counts
abbrev pub IsCounted : Partial → Type 0
IsCounted p = open_count p.stage ≤ p.points

-- the reading from p on is these time-points, and then the reading from q on, whatever comes later
pub record Leads (sig : List PredOf) (limits : Limits) (from : ℕ) (looked : List ℕ) (ended : Bool)
    (at : ℕ) (p : Partial) (points : List TimePoint) (at' : ℕ) (q : Partial) : Type 0 where
  pub reads : (more : List ℕ) (later : Bool) → MayComeLater ended more later → (last : Partial → Reading) →
      run_from sig limits last p (grown (place_in from looked ended at) more later)
      ≡ behind points (run_from sig limits last q (grown (place_in from looked ended at') more later))
  pub within : at' ≤ length looked
  pub counted : IsCounted q
  pub given : given_of q ≡ given_of p + length points

-- what a token does to what was read before it, where `behind` is the offset behind it
abbrev pub StepsOver : List PredOf → Limits → Lexeme → ℕ → ℕ → Partial → Result TokenStep LogFault → ℕ → Partial
    → Type 0
StepsOver sig limits t behind at p (Ok Took) at' q =
    (completes p.stage (symbol t) ≡ false) × (step sig limits p t ≡ Ok q) × (at' ≡ behind)
StepsOver sig limits t behind at p (Ok (Completed point)) at' q =
    (completes p.stage (symbol t) ≡ true) × (point ≡ point_of p) × (at' ≡ read_on t.kind at behind) × (q ≡ finished p)
StepsOver sig limits t behind at p (Ok Empty) at' q = ⊥
StepsOver sig limits t behind at p (Err fault) at' q =
    (completes p.stage (symbol t) ≡ false) × (at' ≡ at) × Stays p q fault (step sig limits p t)

-- a fault stands here, and nothing is moved
pub record Halts (sig : List PredOf) (limits : Limits) (from : ℕ) (looked : List ℕ) (ended : Bool)
    (at : ℕ) (p : Partial) (fault : LogFault) (at' : ℕ) (q : Partial) : Type 0 where
  pub reads : (last : Partial → Reading) →
      run_from sig limits last p (place_in from looked ended at) ≡ fault_only fault
  pub same_at : at' ≡ at
  pub same : q ≡ p

-- no time-point was read, and no whole token is left; no blanks stand before what is left
pub record Exhausts (sig : List PredOf) (limits : Limits) (from : ℕ) (looked : List ℕ) (ended : Bool)
    (at : ℕ) (p : Partial) (at' : ℕ) (q : Partial) : Type 0 where
  pub leads : Leads sig limits from looked ended at p [] at' q
  pub empty : next_token (place_in from looked ended at') ≡ Ok None
  pub bare : blank_len ended (drop at' looked) ≡ 0

-- the same of a fault that isn't want of memory, of which nothing is said
abbrev pub HaltsBy : List PredOf → Limits → ℕ → List ℕ → Bool → ℕ → Partial → LogFault → ℕ → Partial → Type 0
HaltsBy sig limits from looked ended at p Memory at' q = Unit {0}
HaltsBy sig limits from looked ended at p fault at' q = Halts sig limits from looked ended at p fault at' q

-- what one token does
abbrev pub TakesToken : List PredOf → Limits → ℕ → List ℕ → Bool → ℕ → Partial → Result TokenStep LogFault → ℕ
    → Partial → Type 0
TakesToken sig limits from looked ended at p (Ok Took) at' q =
    Leads sig limits from looked ended at p [] at' q × (at < at')
TakesToken sig limits from looked ended at p (Ok (Completed point)) at' q =
    Leads sig limits from looked ended at p (point ∷ []) at' q
TakesToken sig limits from looked ended at p (Ok Empty) at' q = Exhausts sig limits from looked ended at p at' q
TakesToken sig limits from looked ended at p (Err fault) at' q =
    HaltsBy sig limits from looked ended at p fault at' q

-- tokens were read up to a fault, which stands there again
pub record Breaks (sig : List PredOf) (limits : Limits) (from : ℕ) (looked : List ℕ) (ended : Bool)
    (at : ℕ) (p : Partial) (fault : LogFault) (at' : ℕ) (q : Partial) : Type 0 where
  pub leads : Leads sig limits from looked ended at p [] at' q
  pub again : (last : Partial → Reading) →
      run_from sig limits last q (place_in from looked ended at') ≡ fault_only fault

-- the same of a fault that isn't want of memory, of which nothing is said
abbrev pub BreaksBy : List PredOf → Limits → ℕ → List ℕ → Bool → ℕ → Partial → LogFault → ℕ → Partial → Type 0
BreaksBy sig limits from looked ended at p Memory at' q = Unit {0}
BreaksBy sig limits from looked ended at p fault at' q = Breaks sig limits from looked ended at p fault at' q

-- what the tokens up to the next time-point do
abbrev pub AdvancesToPoint : List PredOf → Limits → ℕ → List ℕ → Bool → ℕ → Partial → Result (Option TimePoint) LogFault
    → ℕ → Partial → Type 0
AdvancesToPoint sig limits from looked ended at p (Ok (Some point)) at' q =
    Leads sig limits from looked ended at p (point ∷ []) at' q
AdvancesToPoint sig limits from looked ended at p (Ok None) at' q = Exhausts sig limits from looked ended at p at' q
AdvancesToPoint sig limits from looked ended at p (Err fault) at' q =
    BreaksBy sig limits from looked ended at p fault at' q

-- a time-point that is given is done with
abbrev pub behind_answer : Partial → Result Next LogFault → Partial
behind_answer p (Ok (Point point)) = finished p
behind_answer p _ = p
