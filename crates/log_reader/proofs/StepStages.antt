-- A step leads to the stage that the grammar leads to, and counts the time-points.
use Rattle.std.proofs.Common.{◌≡◌, ℕ, ◌+◌, ◌≤◌, Bool, true, false, cond, List, [], ◌∷◌, ◌++◌, length, Option, Some}
use Rattle.std.proofs.Common.{None, Result, Ok, IfOk, refl, ap, subst, arith}
use Rattle.std.proofs.lemmas.Bool.{cases_Bool}
use Rattle.mfotl_lex.specs.{FirstFault.◌>>=◌, Lexemes.Lexeme}
use Rattle.mfotl_model.specs.declared.{policy.Sort.Sort, value.Value.Value}
use Rattle.mfotl_sig.specs.Preds.{PredOf}
use Rattle.log_reader.specs.declared.{fault.LogFault.LogFault, limits.Limits.Limits, stage.Stage.Stage}
use Rattle.log_reader.specs.declared.{stage.Stage.TheVariants.AfterAt, stage.Stage.TheVariants.AfterValue}
use Rattle.log_reader.specs.Cursors.{open_count, given_of, IsCounted}
use Rattle.log_reader.specs.{Partials.Partial, Partials.point_of, Stages.stage_after, Stages.completes, Symbols.Symbol}
use Rattle.log_reader.specs.{Symbols.symbol}
use Rattle.log_reader.specs.Steps.{step, stepped, completed}
use Rattle.log_reader.proofs.Transitions.{Transition, begins_first, transition}

-- an `@` counts
abbrev pub one_if_at : Stage → ℕ
one_if_at AfterAt = 1
one_if_at _ = 0

-- the new stage is the one that the grammar leads to, and a time-point is begun below the limit alone
pub record Reached (limits : Limits) (p : Partial) (found : Option Stage) (q : Partial) : Type 0 where
  pub stage : found ≡ Some q.stage
  pub points : q.points ≡ p.points + one_if_at q.stage
  pub few : p.points ≤ limits.points → q.points ≤ limits.points

module _ (sig : List PredOf) (limits : Limits) (p : Partial) (t : Lexeme) where
  abbrev Reaches : Stage → Result Partial LogFault → Type 0
  Reaches g r = IfOk r (Reached limits p (Some g))

  -- the same time-points are begun
  stays : (q : Partial) → one_if_at q.stage ≡ 0 → q.points ≡ p.points → Reached limits p (Some q.stage) q
  stays q none same = record { stage = refl; points = omega (arith, none, same); few = λ le. omega (arith, same, le) }

  given : (due : List Sort) (r : Result Value LogFault)
      → Reaches AfterValue (r >>= λ v. Ok (record p { stage = AfterValue; due = due; args = p.args ++ v ∷ [] }))
  given due r = grind arith

  -- a step without a fault follows the grammar
  pub step_goes : (q : Partial) → step sig limits p t ≡ Ok q → Reached limits p (stage_after p.stage (symbol t)) q
  unfolding step
  step_goes q e = by_stage (stage_after p.stage (symbol t)) e
    where
      by_stage : (found : Option Stage) → stepped sig limits p t found ≡ Ok q → Reached limits p found q
      by_stage None e = absurd cc
      by_stage (Some g) e =
          subst (λ (r : Result Partial LogFault). IfOk r (Reached limits p (Some g))) e (grind arith)

-- ---- what a token completes

pub completed_none : (p : Partial) (t : Lexeme) → completes p.stage (symbol t) ≡ false → completed p t ≡ []
unfolding completed
completed_none p t h = ap (λ (b : Bool). cond b (point_of p ∷ []) []) h

pub completed_one : (p : Partial) (t : Lexeme) → completes p.stage (symbol t) ≡ true → completed p t ≡ point_of p ∷ []
unfolding completed
completed_one p t h = ap (λ (b : Bool). cond b (point_of p ∷ []) []) h

pub completes_open : (s : Stage) (x : Symbol) → completes s x ≡ true → open_count s ≡ 1
completes_open s x h = grind arith

-- a way opens a time-point just where an `@` stands, and closes the one before where it completes it
opens : (s : Stage) (x : Symbol) (g : Stage) → Transition s x g
    → open_count g ≡ cond (completes s x) 0 (open_count s) + one_if_at g
opens _ _ _ begins_first = refl
opens _ _ _ _ = refl

-- a step gives what its token completes
pub record Counts (limits : Limits) (p : Partial) (t : Lexeme) (q : Partial) : Type 0 where
  pub counted : IsCounted q
  pub given : given_of q ≡ given_of p + length (completed p t)
  pub few : p.points ≤ limits.points → q.points ≤ limits.points

pub step_counts : (sig : List PredOf) (limits : Limits) (p q : Partial) (t : Lexeme) → IsCounted p
    → step sig limits p t ≡ Ok q → Counts limits p t q
step_counts sig limits p q t c e =
    let r = step_goes sig limits p t q e in
    let opened = opens p.stage (symbol t) q.stage (transition p.stage (symbol t) q.stage r.stage) in
    let by : Bool → Type 0 = λ b. open_count q.stage ≡ cond b 0 (open_count p.stage) + one_if_at q.stage in
    grind (arith, cases_Bool, completes_open, given, completed_one, completed_none)
