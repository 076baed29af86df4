-- A token at an offset of the bytes, where reading goes on behind it, and what it makes of a reading from there.
use Rattle.std.proofs.Common.{◌≡◌, ℕ, ◌+◌, ◌-◌, ◌≤◌, ◌<◌, Bool, List, length, drop, Some, Ok, ap, ap₂, subst, ◌∙◌}
use Rattle.std.proofs.Common.{arith, add_assoc, Option, None, Result, Err}
use Rattle.std.proofs.{lemmas.List.length-drop, lemmas.List.drop-drop, lemmas.Grind.common_steps}
use Rattle.mfotl_lex.specs.{Growing.grown, Places.Place, Places.further_on}
use Rattle.mfotl_lex.specs.Lexemes.{Lexeme, next_token, after, followed, tokens}
use Rattle.mfotl_lex.proofs.Sequence.{tokens_step}
use Rattle.mfotl_lex.specs.declared.fault.LexFault.{LexFault}
use Rattle.mfotl_sig.specs.Preds.{PredOf}
use Rattle.log_reader.specs.{Cursors.MayComeLater, Stretches.place_in, Partials.Partial, Steps.step, Steps.completed}
use Rattle.log_reader.specs.declared.{fault.LogFault.TheVariants.Lex, limits.Limits.Limits}
use Rattle.log_reader.specs.Readings.{Reading, behind, fault_only, went_on, run, run_from, behind_tokens}
use Rattle.log_reader.proofs.Lexing.{token_moves, token_again}

-- a token at an offset, and the offset behind it, whatever comes later
pub record TokenAt (from : ℕ) (looked : List ℕ) (ended : Bool) (at : ℕ) (t : Lexeme) (behind : ℕ) : Type 0 where
  pub token : (more : List ℕ) (later : Bool) → MayComeLater ended more later
      → next_token (grown (place_in from looked ended at) more later) ≡ Ok (Some t)
  pub place : (more : List ℕ) (later : Bool) → MayComeLater ended more later
      → after (grown (place_in from looked ended at) more later) ≡ grown (place_in from looked ended behind) more later
  pub further : at < behind
  pub within : behind ≤ length looked

pub place_behind : (from : ℕ) (looked : List ℕ) (ended : Bool) (at count : ℕ)
    → further_on (place_in from looked ended at) count ≡ place_in from looked ended (at + count)
place_behind from looked ended at count = simp (ap₂, add_assoc, drop-drop)

pub token_at_offset : (from : ℕ) (looked : List ℕ) (ended : Bool) (at : ℕ) (t : Lexeme) → at ≤ length looked
    → next_token (place_in from looked ended at) ≡ Ok (Some t)
    → TokenAt from looked ended at t ((after (place_in from looked ended at)).at - from)
token_at_offset from looked ended at t le e =
    let p = place_in from looked ended at in
    let l = token_moves p t e in
    let here : after p ≡ place_in from looked ended (at + l.count) = grind (arith, common_steps, place_behind) in
    let far : (after p).at ≡ from + (at + l.count) = ap (λ (q : Place). q.at) here in
    let n : at + l.count ≡ (after p).at - from = omega (arith, far) in
    let inner : l.count ≤ length (drop at looked) = l.within in
    subst (TokenAt from looked ended at t) n (record {
      token = λ more later is. (token_again p t more later is e).token;
      place = λ more later is. (token_again p t more later is e).place
          ∙ ap (λ (q : Place). grown q more later) here;
      further = omega (arith, l.some);
      within = omega (arith, inner, length-drop at looked);
    })

module _ (sig : List PredOf) (limits : Limits) (last : Partial → Reading) (p : Partial) (place : Place) where
  by_tokens : (r : Result (Option Lexeme) LexFault) → next_token place ≡ r → run_from sig limits last p place
      ≡ (let ts = followed r (tokens (after place)) in run sig limits (behind_tokens ts.fault last) p ts.list)
  by_tokens r e = cc (tokens_step place)

  pub token_run : (t : Lexeme) → next_token place ≡ Ok (Some t) → run_from sig limits last p place
      ≡ behind (completed p t) (went_on (step sig limits p t) (λ q. run_from sig limits last q (after place)))
  unfolding run
  token_run t e = by_tokens (Ok (Some t)) e

  pub none_run : next_token place ≡ Ok None → run_from sig limits last p place ≡ last p
  unfolding run
  none_run e = by_tokens (Ok None) e

  pub fault_run : (fault : LexFault) → next_token place ≡ Err fault
      → run_from sig limits last p place ≡ fault_only (Lex fault)
  unfolding run
  fault_run fault e = by_tokens (Err fault) e
