-- What the front of a log shows stays shown by the whole log.
use Rattle.std.proofs.Common.{◌≡◌, ◌∙◌, ap, ap₂, refl, arith, ℕ, ◌+◌, ◌-◌, ◌<◌, ◌≤◌, Bool, true, false, not, ◌&&◌, List}
use Rattle.std.proofs.Common.{[], ◌∷◌, ◌++◌, length, take, Option, Some, None, append_assoc, append-nil}
use Rattle.std.specs.Prelude.{Result}
use Rattle.std.proofs.{Math.Bool.and-false, Math.Seq.take-append-add}
use Rattle.std.proofs.lemmas.Bool.{le-ltb, ltb-false, ltb-true, lt-ltb}
use Rattle.mfotl_lex.specs.Growing.{grown, tokens_joined, joined_at, stopped as stopped_at}
use Rattle.mfotl_lex.specs.Lexemes.{Lexeme, Tokens, tokens}
use Rattle.mfotl_lex.specs.declared.fault.LexFault.{LexFault}
use Rattle.std.proofs.lemmas.List.{length-append, take-append-le, take_all}
use Rattle.mfotl_lex.proofs.GrowingLemmas.{more_bytes}
use Rattle.mfotl_model.specs.declared.event.TimePoint.{TimePoint}
use Rattle.mfotl_sig.specs.Preds.{PredOf}
use Rattle.mfotl_model.proofs.LogicLemmas.{funext}
use Rattle.log_reader.specs.{Partials.Partial, Partials.nothing_read, Growth.ExtendsReading, Growth.ShownStays}
use Rattle.log_reader.specs.{Steps.completed, Steps.step}
use Rattle.log_reader.specs.Readings.{NoFault, Reading, behind, behind_tokens, is_long, nothing_left, place_at, reading}
use Rattle.log_reader.specs.Readings.{run, shown, went_on}
use Rattle.log_reader.specs.declared.{fault.LogFault.LogFault, limits.Limits.Limits}

-- what is the same keeps all
same : (s a : Reading) → a ≡ s → ExtendsReading s a
same s a e = grind (arith, append-nil)

-- nothing is shown
abbrev nothing : Reading
nothing = record { points = []; ending = NoFault }

module _ (sig : List PredOf) (limits : Limits) where
  run_append : (last : Partial → Reading) (p : Partial) (xs ys : List Lexeme)
      → run sig limits last p (xs ++ ys) ≡ run sig limits (λ q. run sig limits last q ys) p xs
  unfolding run
  run_append last p [] ys = refl
  run_append last p (x ∷ xs) ys =
      ap (behind (completed p x)) (ap (went_on (step sig limits p x)) (funext _ _ (λ q. run_append last q xs ys)))

  behind_keeps : (points : List TimePoint) (s a : Reading) → ExtendsReading s a
      → ExtendsReading (behind points s) (behind points a)
  behind_keeps points s a k = grind (arith, append_assoc)

  went_keeps : (r : Result Partial LogFault) (f g : Partial → Reading) → ((q : Partial) → ExtendsReading (f q) (g q))
      → ExtendsReading (went_on r f) (went_on r g)
  went_keeps r f g k = grind arith

  -- whatever comes behind, what the tokens show stays
  run_keeps : (last : Partial → Reading) (p : Partial) (ts : List Lexeme)
      → ExtendsReading (run sig limits (λ q. nothing) p ts) (run sig limits last p ts)
  unfolding run
  run_keeps last p [] = record { more = (last p).points; points = refl; stays = λ fault stops. absurd cc }
  run_keeps last p (t ∷ ts) =
      behind_keeps (completed p t) _ _ (went_keeps (step sig limits p t) _ _ (λ q. run_keeps last q ts))

  -- a reading of these tokens
  abbrev run_tokens : (Partial → Reading) → Tokens → Reading
  run_tokens last ts = run sig limits (behind_tokens ts.fault last) nothing_read ts.list

  joined_keeps : (first last : Partial → Reading) → ((q : Partial) → first q ≡ nothing)
      → (fault : Option LexFault) (list : List Lexeme) (more : Tokens)
      → ExtendsReading (run sig limits (behind_tokens fault first) nothing_read list)
      (run_tokens last (joined_at fault list more))
  joined_keeps first last none (Some x) list more = same _ _ refl
  joined_keeps first last none None list more =
      let further = λ (q : Partial). run sig limits (behind_tokens more.fault last) q more.list in
      rw (
        ap (λ (rest : Partial → Reading). run sig limits rest nothing_read list) (funext first (λ q. nothing) none),
        run_append (behind_tokens more.fault last) nothing_read list more.list,
      )
      (run_keeps further nothing_read list)

  -- the front is longer than the limit: nothing behind it counts
  pub long_same : (seen left : List ℕ) (ended : Bool) → limits.bytes < length seen
      → reading sig limits (seen ++ left) ended ≡ shown sig limits seen
  unfolding reading
  long_same seen left ended long = grind (arith, lt-ltb, length-append, take-append-le, and-false, ap₂, funext)

  -- the front is within the limit
  short_keeps : (seen left : List ℕ) (ended : Bool) → length seen ≤ limits.bytes
      → ExtendsReading (shown sig limits seen) (reading sig limits (seen ++ left) ended)
  unfolding reading
  short_keeps seen left ended short =
      let n = limits.bytes - length seen in
      let count : limits.bytes ≡ length seen + n = omega arith in
      let more = take n left in
      let e = ended && not (is_long limits (seen ++ left)) in
      let p = place_at limits seen false 0 in
      let front_short : is_long limits seen ≡ false = le-ltb limits.bytes (length seen) short in
      let front_is : take limits.bytes seen ≡ seen = take_all limits.bytes seen short in
      let looked : take limits.bytes (seen ++ left) ≡ take limits.bytes seen ++ more = grind (arith, take-append-add) in
      let place_is : place_at limits (seen ++ left) ended 0 ≡ grown p more e = cc in
      let tokens_are : tokens (place_at limits (seen ++ left) ended 0) ≡ tokens_joined (tokens p) (tokens (grown
      (stopped_at p) more e)) =
      ap tokens place_is ∙ (more_bytes p more e refl).1 in
      let none : (q : Partial) → nothing_left limits seen false q ≡ nothing = λ q. rw front_short refl in
      let last = nothing_left limits (seen ++ left) ended in
      grind (arith, joined_keeps)

  -- what a front shows stays, whatever comes behind it, and whether or not the end is told then
  pub front_stays : (seen left : List ℕ) (ended : Bool)
      → ExtendsReading (shown sig limits seen) (reading sig limits (seen ++ left) ended)
  front_stays seen left ended = grind (arith, same, long_same, ltb-true, short_keeps, ltb-false)

-- what the front shows stays
pub shown_stays : ShownStays
shown_stays sig limits seen left = front_stays sig limits seen left true
