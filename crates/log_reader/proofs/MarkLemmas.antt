-- A mark or a name that is taken straight from the bytes does what its token would do, and so does whatever is.
use Rattle.std.proofs.Common.{◌≡◌, ℕ, ◌+◌, ◌-◌, ◌≤◌, Bool, true, false, List, length, drop, get_or, Some, Result, Ok}
use Rattle.std.proofs.Common.{Err, refl, ap, subst, arith}
use Rattle.mfotl_lex.specs.Lexemes.{Lexeme, lexeme, next_token, after}
use Rattle.mfotl_lex.specs.{Places.Place, Scans.log_mark}
use Rattle.mfotl_lex.specs.declared.{kind.Kind.Kind, kind.Kind.TheVariants.Word, kind.Kind.TheVariants.At}
use Rattle.mfotl_lex.specs.declared.{token.Token.Token}
use Rattle.mfotl_model.specs.declared.event.TimePoint.{TimePoint}
use Rattle.mfotl_sig.specs.Preds.{PredOf, named}
use Rattle.log_reader.specs.declared.{cursor.TokenStep.TokenStep, cursor.TokenStep.TheVariants.Took}
use Rattle.log_reader.specs.declared.{cursor.TokenStep.TheVariants.Completed, fault.LogFault.LogFault}
use Rattle.log_reader.specs.declared.{limits.Limits.Limits, stage.Stage.Stage, straight.Straight.Straight}
use Rattle.log_reader.specs.Cursors.{IsCounted, TakesToken, StepsOver}
use Rattle.log_reader.specs.{Given.StateMoves, Given.Stays, Stretches.place_in, Symbols.symbol, Tokens.blank_before}
use Rattle.log_reader.specs.{Tokens.IsInFront}
use Rattle.log_reader.specs.Partials.{Partial, point_of, finished}
use Rattle.log_reader.specs.Quick.{mark_token, StepsMark, TakesTokenInFront, CompletesFront, HaltsFront, HaltsFrontBy}
use Rattle.log_reader.specs.Quick.{TakesStraight}
use Rattle.log_reader.specs.declared.straight.Straight.TheVariants as straights
use Rattle.log_reader.specs.Stages.{stage_after, completes, is_whole}
use Rattle.log_reader.specs.Steps.{step, stepped, naming}
use Rattle.log_reader.proofs.{TokenFronts.mark_seen, TokenFronts.blank_past, TokenPlaces.TokenAt}
use Rattle.log_reader.proofs.{TokenPlaces.token_at_offset, Transitions.name_goes, TokenSteps.steps_over}

module _ {U : Type 0} {limits : Limits} {p q : Partial} {at b : ℕ} {result : Result U LogFault} where
  -- a mark that leads from this stage to that one
  pub mark_steps : (mark : ℕ) (kind : Kind) (s stage : Stage) → p.stage ≡ s → b ≡ mark → log_mark mark ≡ Some kind
      → stage_after s (symbol (mark_token kind at mark)) ≡ Some stage
      → completes s (symbol (mark_token kind at mark)) ≡ false
      → ((sig : List PredOf) → StateMoves p q result (stepped sig limits p (mark_token kind at mark) (Some stage)))
      → StepsMark limits p at b result q
  unfolding step
  mark_steps mark kind s stage there is known goes_to goes_on moves = grind arith

-- ---- the front of the bytes

pub front_halts : (sig : List PredOf) (limits : Limits) (p : Partial) (at : ℕ) (bytes : List ℕ) (fault : LogFault)
    (q : Partial) → HaltsFront sig limits p at bytes fault q → HaltsFrontBy sig limits p at bytes fault q
front_halts sig limits p at bytes fault q h = grind arith

module _ (sig : List PredOf) (limits : Limits) (p q : Partial) (at : ℕ) (bytes : List ℕ) (some : 1 ≤ length bytes)
    {U : Type 0} (result : Result U LogFault) (s : StepsMark limits p at (get_or bytes 0 0) result q) where
  abbrev mark : Lexeme
  mark = mark_token s.kind at (get_or bytes 0 0)

  pub mark_takes : {u : U} → result ≡ Ok u → TakesTokenInFront sig limits p at bytes 1 q
  mark_takes e = record {
    token = mark;
    front = mark_seen bytes at s.kind some s.is;
    end = refl;
    goes_on = s.goes_on;
    steps = subst (λ (r : Result U LogFault). StateMoves p q r (step sig limits p mark)) e (s.moves sig);
  }

  pub mark_halts : {fault : LogFault} → result ≡ Err fault → HaltsFrontBy sig limits p at bytes fault q
  mark_halts {fault} e = front_halts sig limits p at bytes fault q (record {
    token = mark;
    front = mark_seen bytes at s.kind some s.is;
    goes_on = s.goes_on;
    stays = subst (λ (r : Result U LogFault). StateMoves p q r (step sig limits p mark)) e (s.moves sig);
  })

-- an `@` behind a whole time-point
pub at_completes : (p q : Partial) (at : ℕ) (bytes : List ℕ) (point : TimePoint) → 1 ≤ length bytes
    → get_or bytes 0 0 ≡ 64 → is_whole p.stage ≡ true → point ≡ point_of p → q ≡ finished p
    → CompletesFront p at bytes point q
at_completes p q at bytes point some first whole is after = record {
  token = mark_token At at (get_or bytes 0 0);
  front = mark_seen bytes at At some (ap log_mark first);
  kind = refl;
  whole = rw whole refl;
  is = is;
  after = after;
}

pub plain_word : {bytes : List ℕ} {at : ℕ} (t : Token) → IsInFront bytes at (lexeme t) → t.kind ≡ Word → t.at ≡ at
    → IsInFront bytes at (record { kind = Word; at = at; text = t.text.now })
plain_word {bytes} {at} t front kind same = grind arith

module _ (sig : List PredOf) (limits : Limits) (p q : Partial) (at : ℕ) (bytes text : List ℕ)
    (front : IsInFront bytes at (record { kind = Word; at = at; text = text })) (whole : is_whole p.stage ≡ true) where
  abbrev name : Lexeme
  name = record { kind = Word; at = at; text = text }

  steps_name : step sig limits p name ≡ naming at p (named text sig)
  unfolding step
  steps_name = ap (stepped sig limits p name) (name_goes p.stage text whole).0

  -- a predicate's name behind a whole time-point
  pub name_takes : naming at p (named text sig) ≡ Ok q → TakesTokenInFront sig limits p at bytes (length text) q
  name_takes moves = grind (arith, name_goes, steps_name)

  pub name_halts : (fault : LogFault) → Stays p q fault (naming at p (named text sig))
      → HaltsFrontBy sig limits p at bytes fault q
  name_halts fault stays = grind (arith, front_halts, name_goes, steps_name)

-- ---- at an offset

-- a token behind one blank at most
module _ (sig : List PredOf) (limits : Limits) (from : ℕ) (looked : List ℕ) (ended : Bool) (at : ℕ) (p q : Partial)
    (counted : IsCounted p) (within : at ≤ length looked) (front rest : List ℕ) (n : ℕ)
    (front_is : front ≡ drop at looked) (blanks : n ≡ blank_before front) (rest_is : rest ≡ drop n front) where
  abbrev here : Place
  here = place_in from looked ended at

  module _ (t : Lexeme) (f : IsInFront rest (from + at + n) t) where
    in_front : IsInFront front (from + at) t
    in_front = blank_past front (from + at) t (rw (rest_is, blanks) at f)

    seen : IsInFront (drop at looked) (from + at) t
    seen = subst (λ (r : List ℕ). IsInFront r (from + at) t) front_is in_front

    found : next_token here ≡ Ok (Some t)
    found = seen.is ended

    takes : (behind : ℕ) → t.at + length t.text ≡ from + behind → (result : Result TokenStep LogFault) (at' : ℕ)
        → StepsOver sig limits t behind at p result at' q → TakesToken sig limits from looked ended at p result at' q
    takes behind end result at' over =
        let far : (after here).at - from ≡ behind = omega (arith, seen.behind ended, end) in
        steps_over sig limits from looked ended at p t behind
        (subst (TokenAt from looked ended at t) far (token_at_offset from looked ended at t within found))
        within counted found result at' q over

  abbrev IsStraight : Straight → Type 0
  IsStraight step = TakesStraight sig limits p (from + at + n) rest (Ok step) q

  pub front_took : {count : ℕ} {step : Straight} → step ≡ straights.Took count → IsStraight step
      → TakesToken sig limits from looked ended at p (Ok Took) (at + (n + count)) q
  front_took {count} is taken =
      let f : TakesTokenInFront sig limits p (from + at + n) rest count q = subst IsStraight is taken in
      takes f.token f.front (at + (n + count)) (omega (arith, f.end)) (Ok Took) (at + (n + count))
      (f.goes_on, f.steps, refl)

  pub front_completed : {point : TimePoint} {step : Straight} → step ≡ straights.Completed point → IsStraight step
      → TakesToken sig limits from looked ended at p (Ok (Completed point)) at q
  front_completed {point} is taken =
      let f : CompletesFront p (from + at + n) rest point q = subst IsStraight is taken in
      let behind = f.token.at + length f.token.text - from in
      let first : from + at + n ≤ f.token.at = f.front.first in
      takes f.token f.front behind (omega (arith, first)) (Ok (Completed point)) at
      (f.whole, f.is, rw f.kind refl, f.after)

  front_stays : (fault : LogFault) → HaltsFront sig limits p (from + at + n) rest fault q
      → TakesToken sig limits from looked ended at p (Err fault) at q
  front_stays fault f =
      let behind = f.token.at + length f.token.text - from in
      let first : from + at + n ≤ f.token.at = f.front.first in
      takes f.token f.front behind (omega (arith, first)) (Err fault) at (f.goes_on, refl, f.stays)

  pub front_halted : (fault : LogFault) → HaltsFrontBy sig limits p (from + at + n) rest fault q
      → TakesToken sig limits from looked ended at p (Err fault) at q
  front_halted fault f = grind (arith, front_stays)
