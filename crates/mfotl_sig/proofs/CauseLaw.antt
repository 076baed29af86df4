-- Behind tokens that show no fault, the reader shows a fault exactly where the token or the tail is its cause.
use Rattle.std.proofs.Common.{◌≡◌, ℕ, List, [], ◌∷◌, ◌++◌, length, Option, Some, Result, Ok, Err, refl, ap, sym, subst}
use Rattle.std.proofs.Common.{◌∙◌, inl, inr, arith}
use Rattle.std.proofs.{lemmas.Bool.le-leb, lemmas.List.append_assoc}
use Rattle.mfotl_lex.specs.declared.{kind.Kind.TheVariants.Word, fault.LexFault.LexFault}
use Rattle.mfotl_lex.specs.FirstFault.{◌>>=◌, Tail, End, run, FollowsGrammar}
use Rattle.mfotl_lex.specs.Lexemes.{Lexeme}
use Rattle.mfotl_lex.proofs.ByPlaces.{KnowsPlaces, reached, token_caused, ends_shown}
use Rattle.mfotl_lex.proofs.{Verdicts.judged_rule, FirstFaultLaws.run_fault, FirstFaultLaws.run_behind}
use Rattle.mfotl_model.specs.declared.policy.Sort.{Sort}
use Rattle.mfotl_sig.specs.declared.{arguments.Stage.TheVariants.AfterComma, fault.SigFault.SigFault}
use Rattle.mfotl_sig.specs.declared.fault.SigFault.TheVariants.{Lex, Syntax, RepeatedName, UnknownSort, Arity, TooMany}
use Rattle.mfotl_sig.specs.declared.fault.SigFault.TheVariants.{Memory}
use Rattle.mfotl_sig.specs.Causes.{IsRepeated, IsOneTooMany, IsNinth, IsUnknownLabelled, IsUnknownOnly, IsCause, IsLast}
use Rattle.mfotl_sig.specs.Grammar.{WrittenPredicate, Listed, IsAccepted, IsViable}
use Rattle.mfotl_sig.specs.{Limits.max_predicates, Limits.max_arguments, Preds.PredOf, Rules.numbered, Rules.KeepsRules}
use Rattle.mfotl_sig.specs.Reading.{DraftOf, Partial, word_stage, step, at_end, at_tail, nothing_read}
use Rattle.mfotl_sig.proofs.NamedLemmas.{look_up, absent, present, length-numbered}
use Rattle.mfotl_sig.proofs.Runs.{between, within, stage_in, judge, cond_bind, cond_ok}
use Rattle.mfotl_sig.proofs.Standing.{Stands, StandsSo, further, stands_viable, at_once, spelled_run, spelled_read}
use Rattle.mfotl_sig.proofs.Standing.{part_read}
use Rattle.mfotl_sig.proofs.Verdicts.{IsRule, judged}

-- ---- what was read of an argument that is begun

-- behind the Word with which an argument begins
word_read : (done : List PredOf) (name : List ℕ) (sorts : List Sort) (ls : List Listed) (w : Lexeme)
    (us : List Lexeme) (p : Partial) → w.kind ≡ Word → run step (w ∷ us) (within done name sorts (stage_in ls)) ≡ Ok p
    → run step us (within done name sorts (word_stage w)) ≡ Ok p
unfolding run step
word_read done name sorts ls w us p kind e = grind (arith, cond_ok, cond_bind)

behind_comma : (ls : List Listed) → length ls ≡ max_arguments → stage_in ls ≡ AfterComma
behind_comma ls many = grind arith

-- ---- the cause of a fault shows it

module _ (front : List Lexeme) (p : Partial) (t : Lexeme) (ran : run step front nothing_read ≡ Ok p) where
  repeats : (at : ℕ) → IsRepeated front t at → step p t ≡ Err (RepeatedName at)
  unfolding step
  repeats at c = grind (arith, spelled_read front c.preds p c.spelled ran, look_up t.text (numbered 0 c.preds), absent)

  too_many : (at : ℕ) → IsOneTooMany front t at → step p t ≡ Err (TooMany at)
  unfolding step
  too_many at c =
      let is = (spelled_read front c.preds p c.spelled ran).1 in
      let full =
      le-leb max_predicates (length (numbered 0 c.preds)) (omega (arith, length-numbered c.preds 0, c.many)) in
      grind (arith, look_up, present)

  ninth : (at : ℕ) → IsNinth front t at → step p t ≡ Err (Arity at)
  unfolding step
  ninth at c =
      let q = part_read front [] c.begun p ran in
      let is = at_once (within q.done c.begun.name.text q.sorts (stage_in c.begun.listed)) p q.ran in
      let full = le-leb max_arguments (length q.sorts) (omega (arith, c.many, q.count.0)) in
      rw (is, behind_comma c.begun.listed c.many, c.kind, full, c.place)

  labelled : (at : ℕ) → IsUnknownLabelled front t at → step p t ≡ Err (UnknownSort at)
  unfolding run step
  labelled at c = grind (arith, part_read front _ c.begun p ran, word_read, at_once, within)

  only : (at : ℕ) → IsUnknownOnly front t at → step p t ≡ Err (UnknownSort at)
  unfolding step
  only at c =
      let q = part_read front _ c.begun p ran in
      let name = c.begun.name.text in
      let word = word_read q.done name q.sorts c.begun.listed c.word [] p c.kind q.ran in
      let is = at_once (within q.done name q.sorts (word_stage c.word)) p word in
      elim c.ends [ inl kind ↦ rw (is, kind, c.unknown, c.place) | inr kind ↦ rw (is, kind, c.unknown, c.place) ]

  -- what the grammar accepts shows no Syntax
  judged_never : (at : ℕ) (ws : List WrittenPredicate) (r : Result (List PredOf) SigFault) → judge [] ws ≡ r
      → (r >>= λ done. run step [] (between done)) ≡ Err (Syntax at) → ⊥
  unfolding run
  judged_never at ws (Ok done) e f = cc
  judged_never at ws (Err fault) e f =
      let same : fault ≡ Syntax at = cc in
      subst IsRule same (judged_rule IsRule (KeepsRules ws) (judge [] ws) (numbered 0 ws) fault (judged ws) e)

  unviable : (at : ℕ) → step p t ≡ Err (Syntax at) → IsViable (front ++ t ∷ []) → ⊥
  unviable at e v =
      let stops =
      ap (λ us. run step us nothing_read) (append_assoc front (t ∷ []) v.0)
      ∙ run_behind step front (t ∷ v.0) nothing_read p ran
      ∙ run_fault step t v.0 p (Syntax at) e in
      judged_never at v.1.0 (judge [] v.1.0) refl (sym (spelled_run ((front ++ t ∷ []) ++ v.0) v.1.0 v.1.1) ∙ stops)

knows : KnowsPlaces step nothing_read (λ t. t.at) Syntax IsViable IsCause StandsSo
knows = grind (arith, further, unviable)

pub stands : (ts : List Lexeme) (p : Partial) → run step ts nothing_read ≡ Ok p → Stands ts p.draft
stands ts p ran = reached step nothing_read (λ t. t.at) Syntax IsViable IsCause StandsSo knows ts p ran

module _ (front : List Lexeme) (p : Partial) (t : Lexeme) (ran : run step front nothing_read ≡ Ok p) where
  shows : (fault : SigFault) → IsCause front t fault → step p t ≡ Err fault
  shows (Lex fault) c = absurd c
  shows (Syntax at) c =
      ends_shown step nothing_read (λ x. x.at) Syntax IsViable IsCause StandsSo knows front p t at ran c
  shows (RepeatedName at) c = repeats front p t ran at c
  shows (UnknownSort at) (inl c) = labelled front p t ran at c
  shows (UnknownSort at) (inr c) = only front p t ran at c
  shows (Arity at) c = ninth front p t ran at c
  shows (TooMany at) c = too_many front p t ran at c
  shows Memory c = absurd c

-- ---- behind all tokens

module _ (ts : List Lexeme) (p : Partial) (ran : run step ts nothing_read ≡ Ok p) where
  open_end : (at : ℕ) (draft : Option DraftOf) → Stands ts draft → (IsAccepted ts → ⊥)
      → at_end at p.done draft ≡ Err (Syntax at)
  open_end at draft accepted not = grind arith

  shows_last : (tail : Tail LexFault) (fault : SigFault) → IsLast ts tail fault → at_tail tail p ≡ Err fault
  shows_last tail fault e = grind (arith, open_end, stands)

  -- accepted tokens leave no draft
  no_draft : (d : DraftOf) → p.draft ≡ Some d → IsAccepted ts → ⊥
  no_draft d is accepted = grind (arith, spelled_read ts accepted.0 p accepted.1 ran)

  end_shown : (end : ℕ) (fault : SigFault) (draft : Option DraftOf) → p.draft ≡ draft
      → at_end end p.done draft ≡ Err fault → IsLast ts (End end) fault
  end_shown end fault draft is e = grind (arith, no_draft, stands)

  last_shown : (tail : Tail LexFault) (fault : SigFault) → at_tail tail p ≡ Err fault → IsLast ts tail fault
  last_shown tail fault e = grind (arith, end_shown)

pub follows : FollowsGrammar step nothing_read at_tail IsViable IsCause IsLast
follows = record {
  viable = λ ts p ran. stands_viable ts p.draft (stands ts p ran);
  token = λ front p t fault ran. (
    λ e. token_caused step nothing_read (λ x. x.at) Syntax IsViable IsCause StandsSo knows front p t fault ran e,
    λ c. shows front p t ran fault c,
  );
  tail = λ ts p tail fault ran. (λ e. last_shown ts p ran tail fault e, λ c. shows_last ts p ran tail fault c);
}
