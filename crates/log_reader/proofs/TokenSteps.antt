-- What one token does to a reading.
use Rattle.std.proofs.Common.{◌≡◌, ◌⊎◌, inl, inr, ℕ, ◌≤◌, ◌<◌, Bool, true, false, List, [], ◌∷◌, length, Some, None}
use Rattle.std.proofs.Common.{Result, Ok, Err, refl, sym, ap, subst, ◌∙◌, arith, ◌+◌, ◌-◌, drop}
use Rattle.std.proofs.lemmas.List.{length-drop}
use Rattle.mfotl_lex.specs.{Blanks.blank_len, Growing.grown, Places.Place}
use Rattle.mfotl_lex.specs.Lexemes.{Lexeme, Tokens, next_token, after, tokens}
use Rattle.mfotl_lex.specs.declared.{kind.Kind.Kind, kind.Kind.TheVariants.Semicolon}
use Rattle.mfotl_sig.specs.Preds.{PredOf}
use Rattle.log_reader.specs.declared.{cursor.TokenStep.TokenStep, fault.LogFault.LogFault}
use Rattle.log_reader.specs.declared.{fault.LogFault.TheVariants.Memory, limits.Limits.Limits, stage.Stage.Stage}
use Rattle.log_reader.specs.declared.cursor.TokenStep.TheVariants.{Took, Completed, Empty}
use Rattle.log_reader.specs.declared.stage.Stage.TheVariants.{Between, AfterAt, AfterStamp, AfterClose}
use Rattle.log_reader.specs.Cursors.{MayComeLater, IsCounted, Leads, Exhausts, StepsOver, Halts, HaltsBy, TakesToken}
use Rattle.log_reader.specs.Partials.{Partial, point_of, finished}
use Rattle.log_reader.specs.{Readings.behind_tokens, Readings.run, Stretches.place_in, Given.Stays}
use Rattle.log_reader.specs.Stages.{stage_after, completes, read_on}
use Rattle.log_reader.specs.Steps.{step, completed, stepped}
use Rattle.log_reader.specs.Symbols.{Symbol, AtSign, Terminator, symbol, symbol_of, token_content}
use Rattle.log_reader.proofs.TokenPlaces.{token_run, TokenAt, place_behind}
use Rattle.log_reader.proofs.Lexing.{blanks_done}
use Rattle.log_reader.proofs.StepStages.{step_counts, completed_none, completed_one, completes_open}

completes_cases : (s : Stage) (x : Symbol) → completes s x ≡ true
    → ((x ≡ AtSign) × (stage_after s x ≡ Some AfterAt)) ⊎ ((x ≡ Terminator) × (stage_after s x ≡ Some Between))
completes_cases AfterStamp AtSign h = inl (refl, refl)
completes_cases AfterStamp Terminator h = inr (refl, refl)
completes_cases AfterClose AtSign h = inl (refl, refl)
completes_cases AfterClose Terminator h = inr (refl, refl)
completes_cases _ _ h = absurd cc

read_on-at : (k : Kind) (c : List ℕ) (before after : ℕ) → symbol_of k c ≡ AtSign → read_on k before after ≡ before
read_on-at Semicolon c before after e = absurd cc
read_on-at _ c before after e = refl

read_on-terminator : (k : Kind) (c : List ℕ) (before after : ℕ) → symbol_of k c ≡ Terminator
    → read_on k before after ≡ after
read_on-terminator Semicolon c before after e = refl
read_on-terminator _ c before after e = absurd cc

completed_between : (p : Partial) (t : Lexeme) → completed (finished p) t ≡ []
unfolding completed
completed_between p t = refl

pub later_self : (b : Bool) → MayComeLater b [] b
later_self true = (refl, refl)
later_self false = tt

module _ (sig : List PredOf) (limits : Limits) (from : ℕ) (looked : List ℕ) (ended : Bool) (at : ℕ) (p : Partial)
    (t : Lexeme) where
  pub took_leads : (behind : ℕ) (q : Partial) → TokenAt from looked ended at t behind → IsCounted p
      → completes p.stage (symbol t) ≡ false → step sig limits p t ≡ Ok q
      → Leads sig limits from looked ended at p [] behind q × (at < behind)
  took_leads b q found c h e =
      let counts = step_counts sig limits p q t c e in (
        record {
          reads = λ more later is last.
              let place = grown (place_in from looked ended at) more later in
              token_run sig limits last p place t (found.token more later is)
              ∙ rw (completed_none p t h, e, found.place more later is);
          within = found.within;
          counted = counts.counted;
          given = omega (arith, counts.given, ap length (completed_none p t h));
        },
        found.further,
      )

  step-at : symbol t ≡ AtSign → stage_after p.stage (symbol t) ≡ Some AfterAt
      → step sig limits p t ≡ step sig limits (finished p) t
  unfolding step
  step-at at_sign e =
      ap (stepped sig limits p t) e
      ∙ sym (ap (λ (x : Symbol). stepped sig limits (finished p) t (stage_after Between x)) at_sign)

  step-terminator : stage_after p.stage (symbol t) ≡ Some Between → step sig limits p t ≡ Ok (finished p)
  unfolding step
  step-terminator e = ap (stepped sig limits p t) e

  pub completed_leads : (behind : ℕ) → TokenAt from looked ended at t behind → at ≤ length looked → IsCounted p
      → completes p.stage (symbol t) ≡ true
      → Leads sig limits from looked ended at p (point_of p ∷ []) (read_on t.kind at behind) (finished p)
  completed_leads b found le c h =
      let one = completes_open p.stage (symbol t) h in
      elim (completes_cases p.stage (symbol t) h) [
        | inl x ↦ rw (read_on-at t.kind (token_content t) at b x.0) (record {
          reads = λ more later is last.
              let place = grown (place_in from looked ended at) more later in
              token_run sig limits last p place t (found.token more later is)
              ∙ rw (
                completed_one p t h,
                step-at x.0 x.1,
                token_run sig limits last (finished p) place t (found.token more later is),
                completed_between p t,
              );
          within = le;
          counted = omega arith;
          given = omega (arith, one, c);
        })
        | inr x ↦ rw (read_on-terminator t.kind (token_content t) at b x.0) (record {
          reads = λ more later is last.
              let place = grown (place_in from looked ended at) more later in
              token_run sig limits last p place t (found.token more later is)
              ∙ rw (completed_one p t h, step-terminator x.1, found.place more later is);
          within = found.within;
          counted = omega arith;
          given = omega (arith, one, c);
        })
      ]

  step_halts : (fault : LogFault) (q : Partial) → next_token (place_in from looked ended at) ≡ Ok (Some t)
      → completes p.stage (symbol t) ≡ false
      → step sig limits p t ≡ Err fault → q ≡ p → Halts sig limits from looked ended at p fault at q
  step_halts fault q found h e same = record {
    reads = λ last.
        token_run sig limits last p (place_in from looked ended at) t found
        ∙ rw (completed_none p t h, e);
    same_at = refl;
    same = same;
  }

  pub fault_halts : (fault : LogFault) (q : Partial) → next_token (place_in from looked ended at) ≡ Ok (Some t)
      → completes p.stage (symbol t) ≡ false
      → Stays p q fault (step sig limits p t) → HaltsBy sig limits from looked ended at p fault at q
  fault_halts Memory q found h s = tt
  fault_halts fault q found h s = step_halts fault q found h s.0 s.1

  -- so the token does what is asked of one
  pub steps_over : (behind : ℕ) → TokenAt from looked ended at t behind → at ≤ length looked → IsCounted p
      → next_token (place_in from looked ended at) ≡ Ok (Some t)
      → (result : Result TokenStep LogFault) (at' : ℕ) (q : Partial) → StepsOver sig limits t behind at p result at' q
      → TakesToken sig limits from looked ended at p result at' q
  steps_over b found le c e (Ok Took) at' q (none, steps, here) = rw here (took_leads b q found c none steps)
  steps_over b found le c e (Ok (Completed point)) at' q (one, is, here, done) =
      rw (is, here, done) (completed_leads b found le c one)
  steps_over b found le c e (Ok Empty) at' q s = absurd s
  steps_over b found le c e (Err fault) at' q (none, here, stays) = rw here (fault_halts fault q e none stays)

-- where no whole token is left, the blanks are behind
pub blanks_over : {sig : List PredOf} {limits : Limits} {from : ℕ} {looked : List ℕ} {ended : Bool} {at : ℕ}
    {p : Partial} → at ≤ length looked → IsCounted p → next_token (place_in from looked ended at) ≡ Ok None
    → Exhausts sig limits from looked ended at p ((after (place_in from looked ended at)).at - from) p
blanks_over {sig} {limits} {from} {looked} {ended} {at} {p} le c e =
    let here = place_in from looked ended at in
    let b = blanks_done here e in
    let n = blank_len ended (drop at looked) in
    let behind : after here ≡ place_in from looked ended (at + n) = b.moves ∙ place_behind from looked ended at n in
    let far : (after here).at ≡ from + (at + n) = ap (λ (q : Place). q.at) behind in
    let same : at + n ≡ (after here).at - from = omega (arith, far) in
    let inner : n ≤ length (drop at looked) = b.within in
    subst (λ (k : ℕ). Exhausts sig limits from looked ended at p k p) same (record {
      leads = record {
        reads = λ more later is last.
            ap (λ (ts : Tokens). run sig limits (behind_tokens ts.fault last) p ts.list)
            (b.again more later is ∙ ap (λ (q : Place). tokens (grown q more later)) behind);
        within = omega (arith, inner, length-drop at looked);
        counted = c;
        given = omega arith;
      };
      empty = ap next_token (sym behind) ∙ b.empty;
      bare = ap (λ (q : Place). blank_len ended q.rest) (sym behind) ∙ b.bare;
    })
