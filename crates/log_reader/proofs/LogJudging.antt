-- A reading of what a log spells is read to its end exactly where the rules give a value.
use Rattle.std.proofs.Common.{◌≡◌, ◌⊎◌, inl, inr, ℕ, zero, suc, ◌+◌, Bool, true, false, cond, List, [], ◌∷◌, Option}
use Rattle.std.proofs.Common.{Some, None, Ok, refl, sym, ap, subst, ◌∙◌, arith, nat_lt}
use Rattle.std.specs.{Prelude.option_and_then, List.AllByRecursion}
use Rattle.std.proofs.lemmas.Bool.{cases_lt, lt-ltb, le-ltb}
use Rattle.mfotl_lex.specs.Lexemes.{Lexeme}
use Rattle.mfotl_model.specs.declared.{event.Event.Event, event.TimePoint.TimePoint}
use Rattle.mfotl_sig.specs.Preds.{PredOf}
use Rattle.log_reader.specs.declared.{fault.LogFault.LogFault, limits.Limits.Limits, stage.Stage.Stage}
use Rattle.log_reader.specs.declared.fault.LogFault.TheVariants.{TooManyPoints, TimestampRange, FallingTime}
use Rattle.log_reader.specs.declared.stage.Stage.TheVariants.{Between, AfterAt, AfterStamp, AfterClose}
use Rattle.log_reader.specs.Grammar.{PointText, spell_mentions, spell_end, spell_log, HasStamp, symbols_of}
use Rattle.log_reader.specs.Partials.{Partial, point_of, finished}
use Rattle.log_reader.specs.Readings.{Reading, NoFault, Fault, behind, run, finish_at}
use Rattle.log_reader.specs.Rules.{mentions_value, group_count, point_value, log_value}
use Rattle.log_reader.specs.{Stages.stage_after, Stages.is_whole, ValuesRead.timestamp_of}
use Rattle.log_reader.specs.Steps.{stepped, point_opened, stamped}
use Rattle.log_reader.specs.Symbols.{Symbol, AtSign, Terminator, Says, Bare, token_content}
use Rattle.log_reader.proofs.Judging.{Front, front_of, bare_content, Passed, Faulty, one_step, last_step, passes}
use Rattle.log_reader.proofs.Judging.{faults, resting}
use Rattle.log_reader.proofs.PointJudging.{MentionsJudged, mentions_judged, limited, nothing_limited}
use Rattle.log_reader.proofs.Transitions.{end_goes}

nothing_spelled : (ts : List Lexeme) → symbols_of ts ≡ [] → ts ≡ []
nothing_spelled [] e = refl
nothing_spelled (t ∷ ts) e = absurd cc

module _ (sig : List PredOf) (limits : Limits) (len : ℕ) where
  -- the end of all the bytes
  abbrev pub last : Partial → Reading
  last p = finish_at len p p.stage

  pub whole_finish : (p : Partial) (s : Stage) → is_whole s ≡ true
      → finish_at len p s ≡ record { points = point_of p ∷ []; ending = NoFault }
  whole_finish p AfterStamp e = refl
  whole_finish p AfterClose e = refl
  whole_finish p _ e = absurd cc

  -- the present time-point is completed, and the others follow
  record Settled (p : Partial) (log : List PointText) (ts : List Lexeme) : Type 0 where
    pub others : List Lexeme
    pub spelled : symbols_of others ≡ spell_log log
    pub reads : run sig limits last p ts ≡ behind (point_of p ∷ []) (run sig limits last (finished p) others)

  settled : (q : Partial) (s : Stage) (is_closed : Bool) (log : List PointText) (ts : List Lexeme)
      → is_whole s ≡ true → symbols_of ts ≡ spell_end is_closed (spell_log log) → Settled (resting q s) log ts
  unfolding run
  settled q s true log ts w e =
      let p = resting q s in
      let f = front_of ts Terminator (spell_log log) e in
      record {
        others = f.others;
        spelled = f.spelled;
        reads = last_step sig limits p (Ok (finished p)) f refl (rw w refl)
            (ap (stepped sig limits p f.token) (end_goes s w).1) last;
      }
  settled q s false [] ts w e =
      record { others = ts; spelled = e; reads = rw (nothing_spelled ts e, whole_finish (resting q s) s w) refl }
  settled q s false (point ∷ log) ts w e =
      let p = resting q s in
      let f = front_of ts AtSign _ e in
      let r = point_opened limits f.token.at p in
      record {
        others = ts;
        spelled = e;
        reads =
            last_step sig limits p r f refl (rw w refl) (ap (stepped sig limits p f.token) (end_goes s w).0) last
            ∙ ap (λ (x : Reading). behind (point_of p ∷ []) x)
            (sym (one_step sig limits (finished p) r f refl refl refl last));
      }

  -- ---- the value of a log

  -- the time-points from one on, by its timestamp and its events
  abbrev log_by : ℕ → ℕ → List PointText → ℕ → Option (List Event) → Option (List TimePoint)
  log_by earliest room log time None = None
  log_by earliest room log time (Some events) =
      option_and_then (λ later. Some (record { ts = time; db = events } ∷ later))
      (cond (nat_lt time earliest) None (log_value sig limits time room log))

  log_is : (earliest room : ℕ) (p : PointText) (log : List PointText) (time : Option ℕ) (events : Option (List Event))
      (many : Bool) → timestamp_of p.stamp ≡ time → mentions_value sig [] p.mentions ≡ events
      → nat_lt limits.events (group_count p.mentions) ≡ many → log_value sig limits earliest (suc room) (p ∷ log)
      ≡ option_and_then (λ t. log_by earliest room log t (limited many events)) time
  unfolding log_value point_value
  log_is earliest room p log None events many t e m = rw t refl
  log_is earliest room p log (Some time) None many t e m = rw (t, e, nothing_limited many) refl
  log_is earliest room p log (Some time) (Some events) true t e m = rw (t, e, m) refl
  log_is earliest room p log (Some time) (Some events) false t e m = rw (t, e, m) refl

  -- a falling timestamp, whatever the events
  falls : (earliest room time : ℕ) (log : List PointText) (events : Option (List Event)) → nat_lt time earliest ≡ true
      → log_by earliest room log time events ≡ None
  falls earliest room time log None e = refl
  falls earliest room time log (Some events) e = rw e refl

  -- ---- the reading of a log

  pub record Refused (p : Partial) (ts : List Lexeme) : Type 0 where
    pub points : List TimePoint
    pub fault : LogFault
    pub reads : run sig limits last p ts ≡ record { points = points; ending = Fault fault }

  refused : (p : Partial) (ts : List Lexeme) → Faulty sig limits p ts → Refused p ts
  refused p ts f = record { points = f.points; fault = f.fault; reads = f.reads last }

  -- the tokens of a log were read to their end, or there is a fault
  abbrev Judged : Partial → List Lexeme → Option (List TimePoint) → Type 0
  Judged p ts value =
      ((points : List TimePoint) × (value ≡ Some points) × (run sig limits last p ts
      ≡ record { points = points; ending = NoFault })) ⊎ ((value ≡ None) × Refused p ts)

  abbrev pub LogJudged : Partial → ℕ → List PointText → List Lexeme → Type 0
  LogJudged c room log ts = Judged (resting c Between) ts (log_value sig limits c.time room log)

  abbrev pub Judge : ℕ → List PointText → Type 0
  Judge room log = (c : Partial) (ts : List Lexeme) → c.points + room ≡ limits.points → symbols_of ts ≡ spell_log log
      → LogJudged c room log ts

  -- tokens in front that complete no time-point, and one that is completed
  judged_behind : {p q : Partial} {ts : List Lexeme} {rest : List Symbol} {value : Option (List TimePoint)}
      (a : Passed sig limits p q ts rest) → Judged q a.others value → Judged p ts value
  judged_behind a (inl x) = inl (x.0, x.1, a.reads last ∙ x.2)
  judged_behind a (inr y) =
      inr (y.0, record { points = y.1.points; fault = y.1.fault; reads = a.reads last ∙ y.1.reads })

  judged_point : {p q : Partial} {ts others : List Lexeme} {value : Option (List TimePoint)} (point : TimePoint)
      → run sig limits last p ts ≡ behind (point ∷ []) (run sig limits last q others) → Judged q others value
      → Judged p ts (option_and_then (λ later. Some (point ∷ later)) value)
  judged_point point reads (inl x) = inl (
    point ∷ x.0,
    ap (option_and_then (λ later. Some (point ∷ later))) x.1,
    reads ∙ ap (λ (r : Reading). behind (point ∷ []) r) x.2,
  )
  judged_point point reads (inr y) = inr (
    ap (option_and_then (λ later. Some (point ∷ later))) y.0,
    record {
      points = point ∷ y.1.points;
      fault = y.1.fault;
      reads = reads ∙ ap (λ (r : Reading). behind (point ∷ []) r) y.1.reads;
    },
  )

  -- a time-point behind its `@`, in front of those that are judged
  module _ (c : Partial) (room : ℕ) (p : PointText) (log : List PointText) (sum : c.points + room ≡ limits.points)
      (clear : c.events ≡ []) (none : c.groups ≡ 0) (later : Judge room log) where
    abbrev start : Partial
    start = resting c AfterAt

    abbrev inner : List Symbol
    inner = spell_end p.is_closed (spell_log log)

    abbrev count : ℕ
    count = group_count p.mentions

    -- it was read, and then those behind it
    point_read : (time : ℕ) (ts : List Lexeme) (events : Option (List Event)) → nat_lt time c.time ≡ false
        → MentionsJudged sig limits (record c { time = time }) AfterStamp count events ts inner
        → Judged (resting (record c { time = time }) AfterStamp) ts (log_by c.time room log time events)
    point_read time ts None rises f = inr (refl, refused _ ts f)
    point_read time ts (Some events) rises r =
        let there = record c
        { time = time; groups = count; events = events; pred = r.pred.number; sorts = r.pred.sorts } in
        let s = settled there r.at p.is_closed log r.passed.others r.whole r.passed.spelled in
        rw rises (judged_point (point_of there) (r.passed.reads last ∙ s.reads)
        (later (record there { events = []; groups = 0 }) s.others sum s.spelled))

    module _ (ts : List Lexeme) (stamp : HasStamp p)
        (e : symbols_of ts ≡ Says (Bare p.stamp) ∷ spell_mentions p.mentions inner) where
      f : Front ts (Says (Bare p.stamp)) (spell_mentions p.mentions inner)
      f = front_of ts (Says (Bare p.stamp)) _ e

      steps : (found : Option ℕ) → timestamp_of p.stamp ≡ found
          → stepped sig limits start f.token (stage_after AfterAt (Says (Bare p.stamp))) ≡ stamped f.token.at start
          found
      steps found is =
          let says : token_content f.token ≡ p.stamp = bare_content f.token.kind (token_content f.token) p.stamp f.is in
          rw (stamp, says, is)

      -- by what the stamp stands for
      stamp_then : (found : Option ℕ) → timestamp_of p.stamp ≡ found → Judged start ts
          (option_and_then (λ t. log_by c.time room log t
          (limited (nat_lt limits.events count) (mentions_value sig [] p.mentions))) found)
      stamp_then None found =
          inr (
            refl,
            refused start ts
                (faults sig limits start (TimestampRange f.token.at) f refl refl (steps None found)),
          )
      stamp_then (Some time) found =
          let events = limited (nat_lt limits.events count) (mentions_value sig [] p.mentions) in
          elim (cases_lt time c.time) [
            | inl falling ↦ inr (
              falls c.time room time log events (lt-ltb time c.time falling),
              refused start ts (faults sig limits start (FallingTime c.time time f.token.at) f refl refl
                  (steps (Some time) found ∙ rw (lt-ltb time c.time falling) refl)),
            )
            | inr rises ↦
                let c2 = record c { time = time } in
                let a = passes sig limits start (resting c2 AfterStamp) f refl refl
                (steps (Some time) found ∙ rw (le-ltb time c.time rises) refl) in
                judged_behind a (point_read time a.others events (le-ltb time c.time rises)
                (subst (λ (es : List Event). MentionsJudged sig limits c2 AfterStamp count
                (limited (nat_lt limits.events count) (mentions_value sig es p.mentions)) a.others inner) clear
                (mentions_judged sig limits p.mentions c2 AfterStamp count a.others inner refl a.spelled
                (omega (arith, none)) (omega (arith, none)))))
          ]

  pub log_judged : (log : List PointText) (room : ℕ) → AllByRecursion HasStamp log → Judge room log
  unfolding log_value run
  log_judged [] room stamps c ts sum e =
      inl ([], refl, ap (run sig limits last (resting c Between)) (nothing_spelled ts e))
  log_judged (p ∷ log) zero stamps c ts sum e =
      let f = front_of ts AtSign _ e in
      inr (
        refl,
        refused _ ts (faults sig limits (resting c Between) (TooManyPoints f.token.at) f refl refl
            (rw (le-ltb c.points limits.points (omega arith)) refl)),
      )
  log_judged (p ∷ log) (suc room) stamps c ts sum e =
      let c1 = record c { points = c.points + 1; events = []; groups = 0 } in
      let a = passes sig limits (resting c Between) (resting c1 AfterAt) (front_of ts AtSign _ e) refl refl
      (rw (lt-ltb c.points limits.points (omega arith)) refl) in
      judged_behind a
      (subst (Judged (resting c1 AfterAt) a.others) (sym (log_is c.time room p log _ _ _ refl refl refl))
      (stamp_then c1 room p log (omega arith) refl refl (λ c ts sum e. log_judged log room stamps.1 c ts sum e) a.others
      stamps.0 a.spelled (timestamp_of p.stamp) refl))
