-- The time-points of a reading are those that the longest completed front of its tokens stands for.
use Rattle.std.proofs.Common.{◌≡◌, ◌⊎◌, inl, inr, ℕ, Bool, List, [], ◌++◌, length, Option, Some, refl, sym, ap, ◌∙◌}
use Rattle.std.proofs.Common.{append-nil, arith}
use Rattle.mfotl_lex.specs.{FirstFault.Tail, Lexemes.Lexeme}
use Rattle.mfotl_lex.specs.declared.fault.LexFault.{LexFault}
use Rattle.mfotl_model.specs.declared.event.TimePoint.{TimePoint}
use Rattle.mfotl_sig.specs.Preds.{PredOf}
use Rattle.log_reader.specs.declared.{fault.LogFault.LogFault, limits.Limits.Limits}
use Rattle.log_reader.specs.CompletedPoints.{Closes, Completes, CompletesAll}
use Rattle.log_reader.specs.{Grammar.symbols_of, Partials.Partial, Partials.nothing_read, Rules.log_value}
use Rattle.log_reader.specs.LogTexts.{tail_behind, log_text, tokens_of}
use Rattle.log_reader.specs.Readings.{Reading, run, behind_tokens, nothing_left, reading}
use Rattle.log_reader.proofs.LogJudging.{last}
use Rattle.log_reader.proofs.LogLaws.{whole, tokens_spelled, spelled_tokens}
use Rattle.log_reader.proofs.CompletedFronts.{GivesAtMost, GivesAtEnd, Front, fronts, Begins, begins}

-- ---- logs

module _ (len : ℕ) (p : Partial) where
  abbrev Ends : (Partial → Reading) → Tail LogFault → Type 0
  Ends last tail = GivesAtMost len last tail p × GivesAtEnd last tail p

log_ends : (limits : Limits) (bytes : List ℕ) (ended : Bool) (lexical : Option LexFault) (p : Partial)
    → Ends (length bytes) p (behind_tokens lexical (nothing_left limits bytes ended))
    (tail_behind limits bytes ended lexical)
log_ends limits bytes ended lexical p = grind arith

module _ (sig : List PredOf) (limits : Limits) (bytes : List ℕ) (ended : Bool) where
  abbrev lexical : Option LexFault
  lexical = (tokens_of limits bytes ended).fault

  abbrev ts : List Lexeme
  ts = (tokens_of limits bytes ended).list

  abbrev ends : Partial → Reading
  ends = behind_tokens lexical (nothing_left limits bytes ended)

  abbrev tail : Tail LogFault
  tail = tail_behind limits bytes ended lexical

  nothing_completed : (a : List TimePoint) → a ≡ [] → Completes sig limits (log_text limits bytes ended) a
  unfolding log_value
  nothing_completed a e = record {
    front = [];
    back = ts;
    log = [];
    parts = refl;
    spells = record { spelled = refl; stamps = tt };
    value = ap (λ (xs : List TimePoint). Some xs) (sym e);
    closed = inl refl;
  }

  front_completed : (a : List TimePoint) → Front sig limits (length bytes) ends tail nothing_read ts a
      → Completes sig limits (log_text limits bytes ended) a
  front_completed a f = grind (arith, tokens_spelled sig limits (length bytes) f.front a f.reads)

  -- what a reading begins with is completed
  pub beginning_completed : (a b : List TimePoint) → (reading sig limits bytes ended).points ≡ a ++ b
      → Completes sig limits (log_text limits bytes ended) a
  unfolding reading
  beginning_completed a b e =
      elim (fronts sig limits (length bytes) ends tail
      (λ p. (log_ends limits bytes ended lexical p).0) ts nothing_read a b e) [
        | inl none ↦ nothing_completed a none
        | inr f ↦ front_completed a f
      ]

  -- what is completed is what a reading begins with
  completed_begins : (others : List TimePoint) (c : Completes sig limits (log_text limits bytes ended) others)
      → (c.front ≡ []) ⊎ Closes (symbols_of c.back) tail
      → Begins sig limits (length bytes) ends tail nothing_read (c.front ++ c.back) others
  unfolding run
  completed_begins others c (inr closed) =
      let reads = spelled_tokens sig limits (length bytes) c.front others
      (record { log = c.log; spells = c.spells; value = c.value }) in
      begins sig limits (length bytes) ends tail
      (λ p. (log_ends limits bytes ended lexical p).1) c.front c.back nothing_read others reads closed
  completed_begins others c (inl none) =
      let reads = spelled_tokens sig limits (length bytes) c.front others
      (record { log = c.log; spells = c.spells; value = c.value }) in
      let empty : whole [] ≡ whole others =
      sym (ap (run sig limits (last sig limits (length bytes)) nothing_read) none) ∙ reads in
      let points = (run sig limits ends nothing_read (c.front ++ c.back)).points in
      (points, ap (λ (r : Reading). r.points ++ points) empty)

  pub all_completed : CompletesAll sig limits (log_text limits bytes ended) (reading sig limits bytes ended).points
  unfolding reading
  all_completed = record {
    completes = beginning_completed (reading sig limits bytes ended).points []
        (sym (append-nil (reading sig limits bytes ended).points));
    longest = λ others c.
        let more = completed_begins others c c.closed in
        (more.0, ap (λ (us : List Lexeme). (run sig limits ends nothing_read us).points) c.parts ∙ more.1);
  }
