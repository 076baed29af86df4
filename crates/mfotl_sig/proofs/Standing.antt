-- What the tokens so far are in the grammar, wherever the reader stands, and what the next one is the cause of.
use Rattle.std.proofs.Common.{◌≡◌, ℕ, ◌≤◌, Bool, true, false, cond, List, [], ◌∷◌, ◌++◌, length, Option, Some, None}
use Rattle.std.proofs.Common.{Result, Ok, Err, refl, ap, sym, subst, ◌∙◌, ◌⊎◌, inl, inr, arith}
use Rattle.std.proofs.{lemmas.Bool.leb-true, lemmas.List.append-nil, lemmas.List.append_assoc}
use Rattle.std.specs.Prelude.{nat_le}
use Rattle.mfotl_lex.specs.declared.kind.Kind.{Kind}
use Rattle.mfotl_lex.specs.declared.kind.Kind.TheVariants.{Word, OpenParen, CloseParen, Comma, Colon}
use Rattle.mfotl_lex.specs.{FirstFault.◌>>=◌, FirstFault.run, Lexemes.Lexeme}
use Rattle.mfotl_lex.proofs.ByPlaces as layer
use Rattle.mfotl_lex.proofs.{FirstFaultLaws.bind_ok, FirstFaultLaws.run_none, Verdicts.judged_ok}
use Rattle.mfotl_model.specs.declared.policy.Sort.{Sort}
use Rattle.mfotl_sig.specs.declared.{arguments.Stage.Stage, fault.SigFault.SigFault}
use Rattle.mfotl_sig.specs.declared.arguments.Stage.TheVariants.{AfterName, AfterOpen, AfterWord, AfterLabel, AfterSort}
use Rattle.mfotl_sig.specs.declared.arguments.Stage.TheVariants.{AfterComma}
use Rattle.mfotl_sig.specs.declared.fault.SigFault.TheVariants.{Syntax, UnknownSort, Arity}
use Rattle.mfotl_sig.specs.{Causes.Begun, Causes.IsCause, Limits.max_predicates, Limits.max_arguments, Preds.PredOf}
use Rattle.mfotl_sig.specs.Grammar.{Argument, Only, Labelled, WrittenPredicate, FitsArgument, spell_argument, FitsLast}
use Rattle.mfotl_sig.specs.Grammar.{spell_last, Spells, IsAccepted, IsViable}
use Rattle.mfotl_sig.specs.Reading.{ProgressOf, Open, Closed, DraftOf, Partial, with_argument_sort, word_stage}
use Rattle.mfotl_sig.specs.Reading.{arguments_open, stage_step, begins, with_progress, step_from, step, nothing_read}
use Rattle.mfotl_sig.specs.Rules.{sort_of, numbered, KeepsRules}
use Rattle.mfotl_sig.proofs.NamedLemmas.{Finds, Lacks, look_up, absent, present, length-numbered}
use Rattle.mfotl_sig.proofs.Runs.{between, within, stage_in, judge, admit_name, admit_all, preds_run, part_run}
use Rattle.mfotl_sig.proofs.Spelling.{preds_behind, begun_more, begun_listed, begun_closed}
use Rattle.mfotl_sig.proofs.Verdicts.{IsRule, judged, listed_count}

-- ---- what was read of tokens that are spelled

pub at_once : (p q : Partial) → run step [] p ≡ Ok q → q ≡ p
at_once p q e = cc (run_none step p)

pub spelled_run : (ts : List Lexeme) (ws : List WrittenPredicate) → Spells ts ws
    → run step ts nothing_read ≡ (judge [] ws >>= λ done. run step [] (between done))
spelled_run ts ws s = ap (λ us. run step us nothing_read) s.spelled ∙ preds_run [] ws [] s.fits

-- whole predicates
pub spelled_read : (ts : List Lexeme) (ws : List WrittenPredicate) (p : Partial) → Spells ts ws
    → run step ts nothing_read ≡ Ok p → KeepsRules ws × (p ≡ between (numbered 0 ws))
spelled_read ts ws p s ran =
    let done = bind_ok (judge [] ws) (λ done. run step [] (between done)) p (sym (spelled_run ts ws s) ∙ ran) in
    let kept = judged_ok IsRule (KeepsRules ws) (judge [] ws) (numbered 0 ws) done.0 (judged ws) done.1 in
    (kept.0, at_once (between done.0) p done.2 ∙ ap between kept.1)

-- a predicate that is begun
pub record PartRead (front rest : List Lexeme) (b : Begun front rest) (p : Partial) : Type 0 where
  pub done : List PredOf
  pub sorts : List Sort
  pub count : (length sorts ≡ length b.listed) × (length b.listed ≤ max_arguments)
  pub ran : run step rest (within done b.name.text sorts (stage_in b.listed)) ≡ Ok p

pub part_read : (front rest : List Lexeme) (b : Begun front rest) (p : Partial) → run step front nothing_read ≡ Ok p
    → PartRead front rest b p
part_read front rest b p ran =
    let first = bind_ok (judge [] b.whole) _ p (sym (part_run front rest b) ∙ ran) in
    let second = bind_ok (admit_name first.0 b.name) _ p first.2 in
    let third = bind_ok (admit_all [] b.listed None) _ p second.2 in
    record { done = second.0; sorts = third.0; count = listed_count third.0 b.listed third.1; ran = third.2 }

-- ---- places

-- what stands in front of each place in a predicate
abbrev pub StandsAt : List Lexeme → Stage → Type 0
StandsAt front AfterName =
    (before : List Lexeme) × (name : Lexeme) × (front ≡ before ++ name ∷ []) × IsAccepted before × (name.kind ≡ Word)
StandsAt front AfterOpen = (b : Begun front []) × (b.listed ≡ [])
StandsAt front (AfterWord sort at) =
    (w : Lexeme) × Begun front (w ∷ []) × (w.kind ≡ Word) × (sort_of w.text ≡ sort) × (at ≡ w.at)
StandsAt front AfterLabel = (l : Lexeme) × (c : Lexeme) × Begun front (l ∷ c ∷ []) × (l.kind ≡ Word) × (c.kind ≡ Colon)
StandsAt front AfterSort = (a : Argument) × Begun front (spell_argument a []) × FitsArgument a
StandsAt front AfterComma = Begun front []

abbrev pub Stands : List Lexeme → Option DraftOf → Type 0
Stands front None = IsAccepted front
Stands front (Some d) = StandsAt front d.arguments.stage

abbrev pub StandsSo : List Lexeme → Partial → Type 0
StandsSo front p = Stands front p.draft

opened : (front : List Lexeme) (t : Lexeme) → t.kind ≡ OpenParen → StandsAt front AfterName
    → (b : Begun (front ++ t ∷ []) []) × (b.listed ≡ [])
opened front t kind (before, name, parts, accepted, named) = (
  record {
    whole = accepted.0;
    name = name;
    opening = t;
    listed = [];
    parts = rw (parts, accepted.1.spelled) (simp preds_behind);
    fits = accepted.1.fits;
    named = named;
    opens = kind;
    arguments = tt;
  },
  refl,
)

worded : (front : List Lexeme) (t : Lexeme) → t.kind ≡ Word → Begun front [] → StandsAt (front ++ t ∷ []) (word_stage t)
worded front t kind b = (t, begun_more front [] t b, kind, refl, refl)

labelled : (front : List Lexeme) (t : Lexeme) → t.kind ≡ Word → StandsAt front AfterLabel
    → StandsAt (front ++ t ∷ []) AfterSort
labelled front t kind l = (Labelled l.0 l.1 t, begun_more front (l.0 ∷ l.1 ∷ []) t l.2, (l.3, l.4, kind))

-- ---- from each place the grammar goes on

abbrev of_kind : Kind → Lexeme
of_kind k = record { kind = k; at = 0; text = [] }

viable_front : (front : List Lexeme) (t : Lexeme) → IsViable (front ++ t ∷ []) → IsViable front
viable_front front t v = (t ∷ v.0, subst IsAccepted (append_assoc front (t ∷ []) v.0) v.1)

closed : (front rest : List Lexeme) (b : Begun front rest) (last : Option Argument) → rest ≡ spell_last last []
    → FitsLast b.listed last → IsViable front
closed front rest b last is fits =
    let t = of_kind CloseParen in (t ∷ [], begun_closed front rest t b last is fits refl)

completes : (front : List Lexeme) (stage : Stage) → StandsAt front stage → IsViable front
completes front AfterName at =
    let o = opened front (of_kind OpenParen) refl at in viable_front front _ (closed _ [] o.0 None refl o.1)
completes front AfterOpen o = closed front [] o.0 None refl o.1
completes front (AfterWord sort at) w = closed front _ w.1 (Some (Only w.0)) refl w.2
completes front AfterLabel l =
    let s = labelled front (of_kind Word) refl l in viable_front front _ (closed _ _ s.1 (Some s.0) refl s.2)
completes front AfterSort s = closed front _ s.1 (Some s.0) refl s.2
completes front AfterComma b =
    let t = of_kind Word in viable_front front t (closed _ _ (begun_more front [] t b) (Some (Only t)) refl refl)

pub stands_viable : (front : List Lexeme) (draft : Option DraftOf) → Stands front draft → IsViable front
stands_viable front draft accepted = grind (arith, append-nil, completes)

-- ---- one token further

abbrev pub Goes : List Lexeme → Lexeme → Result Partial SigFault → Type 0
Goes front t r = layer.Goes IsViable IsCause StandsSo front t r

abbrev pub Further : List Lexeme → Lexeme → Result Partial SigFault → Type 0
Further front t r = layer.Further IsViable IsCause (Syntax t.at) StandsSo front t r

-- within a predicate
module _ (front : List Lexeme) (t : Lexeme) (done : List PredOf) (name : List ℕ) where
  abbrev Moves : Result ProgressOf SigFault → Type 0
  Moves r = Goes front t (r >>= λ progress. Ok (with_progress done name progress))

  abbrev Reaches : ProgressOf → Type 0
  Reaches progress = StandsSo (front ++ t ∷ []) (with_progress done name progress)

  reaches_viable : (progress : ProgressOf) → Reaches progress → IsViable (front ++ t ∷ [])
  reaches_viable progress at = stands_viable (front ++ t ∷ []) (with_progress done name progress).draft at

  moves : (progress : ProgressOf) → Reaches progress → Moves (Ok progress)
  moves progress at = record { viable = reaches_viable progress at; place = at; cause = tt }

  to : (sorts : List Sort) (stage : Stage) → StandsAt (front ++ t ∷ []) stage → Moves (arguments_open sorts stage)
  to sorts stage at = moves (Open (record { sorts = sorts; stage = stage })) at

  with_sort_moves : (sorts : List Sort) (sort : Option Sort) (at : ℕ) (next : List Sort → ProgressOf)
      → ((more : List Sort) → Reaches (next more)) → (sort ≡ None → IsCause front t (UnknownSort at))
      → Moves (with_argument_sort sorts sort at >>= λ more. Ok (next more))
  with_sort_moves sorts None at next place cause = grind (arith, reaches_viable (next sorts) (place sorts))
  with_sort_moves sorts (Some sort) at next place cause = search (moves)

  unknown_only : (sort : Option Sort) (at : ℕ) → (t.kind ≡ Comma) ⊎ (t.kind ≡ CloseParen)
      → StandsAt front (AfterWord sort at) → sort ≡ None → IsCause front t (UnknownSort at)
  unknown_only sort at ends w none = grind arith

  unknown_labelled : t.kind ≡ Word → StandsAt front AfterLabel → sort_of t.text ≡ None
      → IsCause front t (UnknownSort t.at)
  unknown_labelled kind (l, c, begun, labels, divides) unknown = grind arith

  next_moves : (sorts : List Sort) (full : Bool) (b : Begun front []) → t.kind ≡ Word
      → (length sorts ≡ length b.listed) × (length b.listed ≤ max_arguments)
      → nat_le max_arguments (length sorts) ≡ full
      → Moves (cond full (Err (Arity t.at)) (arguments_open sorts (word_stage t)))
  next_moves sorts true b kind count e =
      let over = leb-true max_arguments (length sorts) e in
      record {
        viable = completes (front ++ t ∷ []) (word_stage t) (worded front t kind b);
        place = tt;
        cause = record { begun = b; many = omega (arith, count.0, count.1); kind = kind; place = refl };
      }
  next_moves sorts false b kind count e = to sorts (word_stage t) (worded front t kind b)

  stage_further : (sorts : List Sort) (stage : Stage) (k : Kind) → t.kind ≡ k → StandsAt front stage
      → ((b : Begun front []) → (length sorts ≡ length b.listed) × (length b.listed ≤ max_arguments))
      → Further front t (stage_step sorts t stage k >>= λ progress. Ok (with_progress done name progress))
  stage_further sorts AfterName OpenParen kind at count = inr (to sorts AfterOpen (opened front t kind at))
  stage_further sorts AfterOpen Word kind o count = inr (to sorts (word_stage t) (worded front t kind o.0))
  stage_further sorts AfterOpen CloseParen kind o count =
      inr (moves (Closed sorts) (begun_closed front [] t o.0 None refl o.1 kind))
  stage_further sorts (AfterWord sort at) Colon kind w count =
      inr (to sorts AfterLabel (w.0, t, begun_more front (w.0 ∷ []) t w.1, w.2, kind))
  stage_further sorts (AfterWord sort at) Comma kind w count =
      inr (with_sort_moves sorts sort at (λ more. Open (record { sorts = more; stage = AfterComma }))
      (λ more. begun_listed front (w.0 ∷ []) t w.1 (Only w.0) refl w.2 kind) (unknown_only sort at (inl kind) w))
  stage_further sorts (AfterWord sort at) CloseParen kind w count =
      inr (with_sort_moves sorts sort at Closed
      (λ more. begun_closed front (w.0 ∷ []) t w.1 (Some (Only w.0)) refl w.2 kind)
      (unknown_only sort at (inr kind) w))
  stage_further sorts AfterLabel Word kind l count =
      inr (with_sort_moves sorts (sort_of t.text) t.at (λ more. Open (record { sorts = more; stage = AfterSort }))
      (λ more. labelled front t kind l) (unknown_labelled kind l))
  stage_further sorts AfterSort Comma kind s count =
      inr (to sorts AfterComma (begun_listed front (spell_argument s.0 []) t s.1 s.0 refl s.2 kind))
  stage_further sorts AfterSort CloseParen kind s count =
      inr (moves (Closed sorts) (begun_closed front (spell_argument s.0 []) t s.1 (Some s.0) refl s.2 kind))
  stage_further sorts AfterComma Word kind b count =
      inr (next_moves sorts (nat_le max_arguments (length sorts)) b kind (count b) refl)
  stage_further sorts _ _ kind at count = inl refl

-- a name
module _ (front : List Lexeme) (t : Lexeme) (ws : List WrittenPredicate) (s : Spells front ws) where
  name_moves : t.kind ≡ Word → Finds t.text (numbered 0 ws) ⊎ Lacks t.text (numbered 0 ws) → (full : Bool)
      → nat_le max_predicates (length (numbered 0 ws)) ≡ full
      → StandsAt (front ++ t ∷ []) AfterName → Goes front t (begins (numbered 0 ws) t Word)
  name_moves kind (inl f) full e at = grind (arith, present t.text ws f, completes (front ++ t ∷ []) AfterName)
  name_moves kind (inr l) true e at =
      let over = leb-true max_predicates (length (numbered 0 ws)) e in
      let many : max_predicates ≤ length ws = omega (arith, length-numbered ws 0) in
      let new = absent t.text ws l in
      rw (l.none, e) (record {
        viable = completes (front ++ t ∷ []) AfterName at;
        place = tt;
        cause = record { preds = ws; spelled = s; kind = kind; new = new; many = many; place = refl };
      })
  name_moves kind (inr l) false e at = grind (arith, completes (front ++ t ∷ []) AfterName)

  begins_further : (k : Kind) → t.kind ≡ k → Further front t (begins (numbered 0 ws) t k)
  begins_further k kind = grind (arith, name_moves, look_up)

further_from : (front : List Lexeme) (p : Partial) (t : Lexeme) → run step front nothing_read ≡ Ok p
    → (draft : Option DraftOf) → p.draft ≡ draft → Stands front draft → Further front t (step_from p.done draft t)
further_from front p t ran None is accepted =
    rw ((spelled_read front accepted.0 p accepted.1 ran).1) (begins_further front t accepted.0 accepted.1 t.kind refl)
further_from front p t ran (Some d) is at =
    stage_further front t p.done d.name d.arguments.sorts d.arguments.stage t.kind refl at count
  where
    count : (b : Begun front []) → (length d.arguments.sorts ≡ length b.listed) × (length b.listed ≤ max_arguments)
    count b =
        let q = part_read front [] b p ran in
        let here = at_once (within q.done b.name.text q.sorts (stage_in b.listed)) p q.ran in
        let drafted = λ (o : Option DraftOf). elim o as (λ o. List Sort) [ None ↦ [] | Some d ↦ d.arguments.sorts ] in
        let same : d.arguments.sorts ≡ q.sorts = ap drafted (sym is ∙ ap (λ (x : Partial). x.draft) here) in
        (ap length same ∙ q.count.0, q.count.1)

pub further : (front : List Lexeme) (p : Partial) (t : Lexeme) → run step front nothing_read ≡ Ok p → StandsSo front p
    → Further front t (step p t)
unfolding step
further front p t ran stands = further_from front p t ran p.draft refl stands
