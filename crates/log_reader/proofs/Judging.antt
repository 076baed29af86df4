-- A reading of what a log spells goes on exactly where the rules give a value.
use Rattle.std.proofs.Common.{◌≡◌, inl, inr, ℕ, true, false, List, [], ◌∷◌, ◌++◌, Option, Some, None, Result, Ok, Err}
use Rattle.std.proofs.Common.{refl, ap, subst, ◌∙◌, append_assoc}
use Rattle.std.specs.{BTreeSet.insert_key, Result.result_ok, Prelude.option_and_then}
use Rattle.std.proofs.{lemmas.List.append-nil, lemmas.Bool.cases_Bool}
use Rattle.mfotl_lex.specs.{Lexemes.Lexeme, Numbers.integer_value, Numbers.is_int64, FirstFault.◌>>=◌}
use Rattle.mfotl_lex.specs.declared.{kind.Kind.Kind, kind.Kind.TheVariants.Word, kind.Kind.TheVariants.Text}
use Rattle.mfotl_model.specs.Events.{event_cmp}
use Rattle.mfotl_model.specs.declared.{event.TimePoint.TimePoint, policy.Sort.Sort, value.Value.Value}
use Rattle.mfotl_model.specs.declared.policy.Sort.TheVariants as sorts
use Rattle.mfotl_sig.specs.Preds.{PredOf}
use Rattle.log_reader.specs.declared.{fault.LogFault.LogFault, fault.LogFault.TheVariants.WrongArity}
use Rattle.log_reader.specs.declared.{limits.Limits.Limits, stage.Stage.Stage}
use Rattle.log_reader.specs.declared.stage.Stage.TheVariants.{AfterOpen, AfterValue, AfterComma, AfterClose}
use Rattle.log_reader.specs.Grammar.{spell_more, spell_values, symbols_of}
use Rattle.log_reader.specs.{Partials.Partial, Partials.point_of, Rules.value_of, Rules.values_of, Stages.stage_after}
use Rattle.log_reader.specs.{Stages.completes}
use Rattle.log_reader.specs.Readings.{Reading, Fault, behind, went_on, run}
use Rattle.log_reader.specs.Steps.{step, completed, stepped}
use Rattle.log_reader.specs.Symbols.{Symbol, Closing, Separator, Says, Written, Bare, Quoted, symbol, symbol_of}
use Rattle.log_reader.specs.Symbols.{token_content, written, written_of}
use Rattle.log_reader.specs.ValuesRead.{value_at, integer_at, is_number}

-- ---- symbols and tokens

-- the first token of those that spell a symbol and more
pub record Front (ts : List Lexeme) (x : Symbol) (rest : List Symbol) : Type 0 where
  pub token : Lexeme
  pub others : List Lexeme
  pub parts : ts ≡ token ∷ others
  pub is : symbol token ≡ x
  pub spelled : symbols_of others ≡ rest

pub front_of : (ts : List Lexeme) (x : Symbol) (rest : List Symbol) → symbols_of ts ≡ x ∷ rest → Front ts x rest
front_of [] x rest e = absurd cc
front_of (t ∷ ts) x rest e = record { token = t; others = ts; parts = refl; is = cc; spelled = cc }

says_written : (k : Kind) (c : List ℕ) (w : Written) → symbol_of k c ≡ Says w → written_of k c ≡ w
says_written Word c w e = cc
says_written Text c w e = cc
says_written _ c w e = absurd cc

pub bare_content : (k : Kind) (c word : List ℕ) → symbol_of k c ≡ Says (Bare word) → c ≡ word
bare_content Word c word e = cc
bare_content _ c word e = absurd cc

-- ---- runs

module _ (sig : List PredOf) (limits : Limits) where
  -- the reading goes on at q with tokens that spell the rest
  pub record Passed (p q : Partial) (ts : List Lexeme) (rest : List Symbol) : Type 0 where
    pub others : List Lexeme
    pub spelled : symbols_of others ≡ rest
    pub reads : (last : Partial → Reading) → run sig limits last p ts ≡ run sig limits last q others

  -- the reading stops
  pub record Faulty (p : Partial) (ts : List Lexeme) : Type 0 where
    pub points : List TimePoint
    pub fault : LogFault
    pub reads : (last : Partial → Reading)
        → run sig limits last p ts ≡ record { points = points; ending = Fault fault }

  pub one_step : {s : Stage} {x : Symbol} {ts : List Lexeme} {rest : List Symbol} (p : Partial)
      (r : Result Partial LogFault) (f : Front ts x rest) → p.stage ≡ s → completes s x ≡ false
      → stepped sig limits p f.token (stage_after s x) ≡ r → (last : Partial → Reading)
      → run sig limits last p ts ≡ went_on r (λ q. run sig limits last q f.others)
  unfolding run step completed
  one_step p r f at c e last = ap (run sig limits last p) f.parts ∙ rw (at, f.is, c, e)

  -- a token that completes the present time-point
  pub last_step : {s : Stage} {x : Symbol} {ts : List Lexeme} {rest : List Symbol} (p : Partial)
      (r : Result Partial LogFault) (f : Front ts x rest) → p.stage ≡ s → completes s x ≡ true
      → stepped sig limits p f.token (stage_after s x) ≡ r → (last : Partial → Reading)
      → run sig limits last p ts ≡ behind (point_of p ∷ []) (went_on r (λ q. run sig limits last q f.others))
  unfolding run step completed
  last_step p r f at c e last = ap (run sig limits last p) f.parts ∙ rw (at, f.is, c, e)

  -- a step that leads on, and one that doesn't
  pub passes : {s : Stage} {x : Symbol} {ts : List Lexeme} {rest : List Symbol} (p q : Partial) (f : Front ts x rest)
      → p.stage ≡ s → completes s x ≡ false → stepped sig limits p f.token (stage_after s x) ≡ Ok q → Passed p q ts rest
  passes p q f at c e = record { others = f.others; spelled = f.spelled; reads = one_step p (Ok q) f at c e }

  pub faults : {s : Stage} {x : Symbol} {ts : List Lexeme} {rest : List Symbol} (p : Partial) (fault : LogFault)
      (f : Front ts x rest) → p.stage ≡ s → completes s x ≡ false
      → stepped sig limits p f.token (stage_after s x) ≡ Err fault → Faulty p ts
  faults p fault f at c e = record { points = []; fault = fault; reads = one_step p (Err fault) f at c e }

module _ {sig : List PredOf} {limits : Limits} where
  pub Passed-then : {p q r : Partial} {ts : List Lexeme} {rest more : List Symbol} (a : Passed sig limits p q ts rest)
      → Passed sig limits q r a.others more → Passed sig limits p r ts more
  Passed-then a b = record { others = b.others; spelled = b.spelled; reads = λ last. a.reads last ∙ b.reads last }

  pub Faulty-behind : {p q : Partial} {ts : List Lexeme} {rest : List Symbol} (a : Passed sig limits p q ts rest)
      → Faulty sig limits q a.others → Faulty sig limits p ts
  Faulty-behind a b = record { points = b.points; fault = b.fault; reads = λ last. a.reads last ∙ b.reads last }

-- ---- values

-- where a value stands doesn't matter
same_value : (sort : Sort) (at : ℕ) (w : Written) → result_ok (value_at sort at w) ≡ value_of sort w
unfolding integer_at
same_value sorts.Int at (Bare word) = elim (cases_Bool (is_number word)) [
  | inl number ↦ elim (cases_Bool (is_int64 (integer_value word))) [
    | inl fits ↦ rw (number, fits) refl
    | inr wide ↦ rw (number, wide) refl
  ]
  | inr none ↦ rw none refl
]
same_value sorts.Int at (Quoted text) = refl
same_value sorts.Text at (Bare word) = refl
same_value sorts.Text at (Quoted text) = refl

-- ---- groups

-- a time-point so far, at a stage outside of a group
abbrev pub resting : Partial → Stage → Partial
resting c stage = record c { stage = stage; args = []; due = [] }

-- within a group
abbrev pub within : Partial → Stage → List Sort → List Value → Partial
within c stage due args = record c { stage = stage; args = args; due = due }

-- with one event more, of these values and those behind them
abbrev pub with_event : Partial → List Value → List Value → Partial
with_event c args values = resting (record c {
  events = insert_key event_cmp c.events (record { pred = c.pred; args = args ++ values });
}) AfterClose

module _ (sig : List PredOf) (limits : Limits) where
  -- by a value that there is or isn't, the reading goes on behind it or stops
  abbrev pub Judged : {X : Type 0} → Option X → Partial → (X → Partial) → List Lexeme → List Symbol → Type 0
  Judged (Some x) p next ts rest = Passed sig limits p (next x) ts rest
  Judged None p next ts rest = Faulty sig limits p ts

  pub judged_behind : {X : Type 0} {p q : Partial} {ts : List Lexeme} {mid : List Symbol} (value : Option X)
      (next : X → Partial) (rest : List Symbol) (a : Passed sig limits p q ts mid) → Judged value q next a.others rest
      → Judged value p next ts rest
  judged_behind (Some x) next rest a b = Passed-then a b
  judged_behind None next rest a b = Faulty-behind a b

  pub judged_then : {X Y : Type 0} (ts : List Lexeme) (mid rest : List Symbol) (value : Option X) (f : X → Option Y)
      (p : Partial) (next : X → Partial) (last : Y → Partial) → Judged value p next ts mid
      → ((x : X) (ts : List Lexeme) → symbols_of ts ≡ mid → Judged (f x) (next x) last ts rest)
      → Judged (option_and_then f value) p last ts rest
  judged_then ts mid rest (Some x) f p next last a later = judged_behind (f x) last rest a (later x a.others a.spelled)
  judged_then ts mid rest None f p next last a later = a

  -- by what a token's step finds
  pub token_judged : {X : Type 0} {s : Stage} {x : Symbol} {ts : List Lexeme} {rest : List Symbol} (p : Partial)
      (found : Result X LogFault) (next : X → Partial) (f : Front ts x rest) → p.stage ≡ s → completes s x ≡ false
      → stepped sig limits p f.token (stage_after s x) ≡ (found >>= λ v. Ok (next v))
      → Judged (result_ok found) p next ts rest
  token_judged p (Ok v) next f at c e = passes sig limits p (next v) f at c e
  token_judged p (Err fault) next f at c e = faults sig limits p fault f at c e

  module _ (c : Partial) (rest : List Symbol) where
    value_before : (p : Partial) (args : List Value) (v : Value) (ts : List Lexeme) (found : Option (List Value))
        → Judged found p (with_event c (args ++ v ∷ [])) ts rest
        → Judged (option_and_then (λ vs. Some (v ∷ vs)) found) p (with_event c args) ts rest
    value_before p args v ts (Some vs) j = rw (append_assoc args (v ∷ []) vs) at j
    value_before p args v ts None j = j

    -- the values of a group and its `)` were read; or there is a fault
    abbrev InsideJudged : Stage → List Sort → List Value → List Written → List Lexeme → Type 0
    InsideJudged stage due args ws ts = Judged (values_of due ws) (within c stage due args) (with_event c args) ts rest

    -- a `)` where no value is lacking, and where some are
    closing : (stage : Stage) (due : List Sort) (args : List Value) (ts : List Lexeme)
        → stage_after stage Closing ≡ Some AfterClose → completes stage Closing ≡ false
        → symbols_of ts ≡ Closing ∷ rest → InsideJudged stage due args [] ts
    unfolding values_of
    closing stage [] args ts g h e =
        passes sig limits (within c stage [] args) (with_event c args []) (front_of ts Closing rest e) refl h
        (rw (g, append-nil args) refl)
    closing stage (sort ∷ due) args ts g h e =
        let f = front_of ts Closing rest e in
        faults sig limits (within c stage (sort ∷ due) args) (WrongArity f.token.at) f refl h (rw g refl)

    -- a value, and then those behind it
    value_then : (stage : Stage) (due : List Sort) (args : List Value) (w : Written) (ws : List Written)
        (ts : List Lexeme) → stage_after stage (Says w) ≡ Some AfterValue → completes stage (Says w) ≡ false
        → symbols_of ts ≡ Says w ∷ spell_more ws (Closing ∷ rest)
        → ((due : List Sort) (args : List Value) (ts : List Lexeme) → symbols_of ts ≡ spell_more ws (Closing ∷ rest)
        → InsideJudged AfterValue due args ws ts) → InsideJudged stage due args (w ∷ ws) ts
    unfolding values_of
    value_then stage [] args w ws ts g h e later =
        let f = front_of ts (Says w) _ e in
        faults sig limits (within c stage [] args) (WrongArity f.token.at) f refl h (rw g refl)
    value_then stage (sort ∷ due) args w ws ts g h e later =
        let f = front_of ts (Says w) (spell_more ws (Closing ∷ rest)) e in
        let p = within c stage (sort ∷ due) args in
        let next : Value → Partial = λ v. within c AfterValue due (args ++ v ∷ []) in
        let says : written f.token ≡ w = says_written f.token.kind (token_content f.token) w f.is in
        judged_then ts (spell_more ws (Closing ∷ rest)) rest (value_of sort w)
        (λ v. option_and_then (λ vs. Some (v ∷ vs)) (values_of due ws)) p next (with_event c args)
        (subst (λ (o : Option Value). Judged o p next ts (spell_more ws (Closing ∷ rest)))
        (same_value sort f.token.at w)
        (token_judged p (value_at sort f.token.at w) next f refl h (rw (g, says) refl)))
        (λ v ts e. value_before (next v) args v ts (values_of due ws) (later due (args ++ v ∷ []) ts e))

    more_judged : (due : List Sort) (args : List Value) (ws : List Written) (ts : List Lexeme)
        → symbols_of ts ≡ spell_more ws (Closing ∷ rest) → InsideJudged AfterValue due args ws ts
    more_judged due args [] ts e = closing AfterValue due args ts refl refl e
    more_judged due args (w ∷ ws) ts e =
        let a = passes sig limits (within c AfterValue due args) (within c AfterComma due args)
        (front_of ts Separator _ e) refl refl refl in
        judged_behind (values_of due (w ∷ ws)) (with_event c args) rest a
        (value_then AfterComma due args w ws a.others refl refl a.spelled
        (λ due args ts e. more_judged due args ws ts e))

    pub values_judged : (due : List Sort) (args : List Value) (ws : List Written) (ts : List Lexeme)
        → symbols_of ts ≡ spell_values ws (Closing ∷ rest) → InsideJudged AfterOpen due args ws ts
    values_judged due args [] ts e = closing AfterOpen due args ts refl refl e
    values_judged due args (w ∷ ws) ts e =
        value_then AfterOpen due args w ws ts refl refl e (λ due args ts e. more_judged due args ws ts e)
