-- Behind tokens that show no fault, the reader shows a fault exactly where the token or the tail is its cause.
use Rattle.std.proofs.Common.{◌≡◌, ◌≢◌, ◌<◌, ◌∙◌, ◌⊎◌, inl, inr, ℕ, false, List, [], ◌∷◌, ◌++◌, Result, Ok, Err, ap}
use Rattle.std.proofs.Common.{refl, sym, subst, arith}
use Rattle.std.proofs.{lemmas.Bool.lt-leb, lemmas.Bool.cases_Bool, lemmas.List.append_assoc}
use Rattle.std.proofs.{lemmas.Bool.Decides.leb_tells}
use Rattle.mfotl_lex.specs.declared.{fault.LexFault.LexFault, kind.Kind.TheVariants.Word, kind.Kind.TheVariants.Comma}
use Rattle.mfotl_lex.specs.FirstFault.{◌>>=◌, Tail, Broken, End, More, run, FollowsGrammar}
use Rattle.mfotl_lex.specs.Lexemes.{Lexeme}
use Rattle.mfotl_lex.proofs.FirstFaultLaws.{holds_behind, run_none, run_behind, run_fault, run_token}
use Rattle.mfotl_lex.proofs.Verdicts.{kept_ok, judged_ok}
use Rattle.mfotl_model.specs.Strategies.{Strategy, workers_of}
use Rattle.mfotl_model.specs.declared.policy.Var.{Var}
use Rattle.slice_strategy.specs.declared.fault.StrategyFault.{StrategyFault}
use Rattle.slice_strategy.specs.declared.fault.StrategyFault.TheVariants.{Syntax, UnknownVariable, RepeatedVariable}
use Rattle.slice_strategy.specs.declared.fault.StrategyFault.TheVariants.{BadCount, CutSort, CutOrder, TooManyWorkers}
use Rattle.slice_strategy.specs.declared.fault.StrategyFault.TheVariants.{Memory}
use Rattle.slice_strategy.specs.declared.stage.Method.TheVariants as method
use Rattle.slice_strategy.specs.Causes.{IsOver, IsClear, IsUnknown, IsRepeated, IsLow, CutsText, IsNotAbove, IsSyntax}
use Rattle.slice_strategy.specs.Causes.{IsEndOfOver, IsCause, IsTold, IsLast}
use Rattle.slice_strategy.specs.Grammar.{Integers, Next, Opening, Entries, NoEntry, Then, Part, Whole, ToName, ToEqual}
use Rattle.slice_strategy.specs.Grammar.{ToMethod, First, ToColon, ToComma, FitsPart, Fits, spell_part, IsPart}
use Rattle.slice_strategy.specs.Grammar.{IsAccepted, IsViable}
use Rattle.slice_strategy.specs.{Limits.max_workers, Rules.strategy_of, ChangeReading.may_begin}
use Rattle.slice_strategy.specs.Reading.{Between, Partial, StageOf, complete, ended, step, nothing_read, at_tail}
use Rattle.slice_strategy.proofs.EntryLaws.{had_or_free, named_low, last_number}
use Rattle.slice_strategy.proofs.Moves.{IsRule, AreFew, head_of, so_far, behind, step_by, stepped, settled_other}
use Rattle.slice_strategy.proofs.Moves.{ended_judged, begins_whole, chosen_by, itself, whole_begins}
use Rattle.slice_strategy.proofs.PartReads.{KeepsPart, known_whole, stands_behind, shows_rule}
use Rattle.slice_strategy.proofs.PartMoves.{Leads, Moves, moves, part_viable, next_fits}

module _ (vars : List Var) where
  abbrev Ran : List Lexeme → Partial → Type 0
  Ran ts s = run (step vars) ts (nothing_read vars) ≡ Ok s

  -- tokens that are a part leave the reader behind it
  pub part_stands : (front : List Lexeme) (s : Partial) (p : Part) → Ran front s → IsPart front p
      → KeepsPart vars p × (s ≡ behind vars p)
  part_stands front s p ran is = stands_behind vars p s is.fits (subst (λ ts. Ran ts s) is.spelled ran)

  -- a part that the tokens are, behind which the reader stands
  pub record Stands (front : List Lexeme) (s : Partial) : Type 0 where
    pub ran : Ran front s
    pub part : Part
    pub is_part : IsPart front part
    pub kept : KeepsPart vars part
    pub here : s ≡ behind vars part

  stood : (ts : List Lexeme) (s : Partial) (p : Part) → Ran ts s → IsPart ts p → Stands ts s
  stood ts s p ran is = grind (arith, part_stands ts s p ran is)

  longer : (front : List Lexeme) (t : Lexeme) (p q : Part) → IsPart front p → FitsPart q
      → spell_part q ≡ spell_part p ++ t ∷ [] → IsPart (front ++ t ∷ []) q
  longer front t p q is fits spelled = grind arith

  further : (front : List Lexeme) (s q : Partial) (t : Lexeme) → Stands front s → step vars s t ≡ Ok q
      → Stands (front ++ t ∷ []) q
  further front s q t r e =
      let leads : Leads vars r.part t q = rw (← r.here, e) at (moves vars r.part t r.is_part.fits r.kept) in
      stood (front ++ t ∷ []) q leads.part
      (run_behind (step vars) front (t ∷ []) (nothing_read vars) s r.ran ∙ run_token (step vars) t [] s q e
      ∙ run_none (step vars) q)
      (longer front t r.part leads.part r.is_part leads.fits leads.spelled)

  pub stands : (ts : List Lexeme) (s : Partial) → Ran ts s → Stands ts s
  stands ts s ran =
      holds_behind (step vars) Stands further [] ts (nothing_read vars) s
      (stood [] (nothing_read vars) (Whole NoEntry) (run_none (step vars) (nothing_read vars))
      (itself (Whole NoEntry) tt)) ran

  pub is_viable : (ts : List Lexeme) (p : Part) → IsPart ts p → IsViable ts
  is_viable ts p is = subst IsViable (sym is.spelled) (part_viable p is.fits)

  -- ---- the end of the last entry

  abbrev pub Closed : Partial → Result Partial StrategyFault
  Closed s = ended s.entries s.stage

  pub over_here : (es : Entries) (o : Opening) (is : Integers) → max_workers < workers_of (strategy_of vars
      (Then es o is)) → Closed (behind vars (Whole (Then es o is))) ≡ Err (TooManyWorkers o.name.at)
  over_here es o is many = rw (lt-leb (workers_of (strategy_of vars (Then es o is))) max_workers many)

  over_closed : (ts : List Lexeme) (s : Partial) (at : ℕ) → Ran ts s → IsOver vars ts at
      → Closed s ≡ Err (TooManyWorkers at)
  over_closed ts s at ran o =
      let here = (part_stands ts s (Whole (Then o.before o.opening o.integers)) ran o.spelled).1 in
      rw (here, over_here o.before o.opening o.integers o.many, o.place)

  -- a token that is no comma: nothing is due but the end of the last entry
  pub few_closed : (es : Entries) → Fits es → AreFew vars es → Closed (behind vars (Whole es)) ≡ Ok
      (so_far vars es Between)
  few_closed es fits few = grind (arith, kept_ok, behind, so_far, ended_judged)

  pub closed_few : (es : Entries) → Fits es → (q : Partial) → Closed (behind vars (Whole es)) ≡ Ok q
      → AreFew vars es × (q ≡ so_far vars es Between)
  closed_few es fits q e =
      let t : Lexeme = record { kind = Word; at = 0; text = [] } in
      judged_ok _ (AreFew vars es) (Closed (behind vars (Whole es))) (so_far vars es Between) q
      (ended_judged vars es fits t (λ comma. cc)) e

  over_step : (front : List Lexeme) (s : Partial) (t : Lexeme) (at : ℕ) → Ran front s → IsOver vars front at
      → t.kind ≢ Comma → step vars s t ≡ Err (TooManyWorkers at)
  unfolding step
  over_step front s t at ran o other = rw (settled_other vars s t.kind other, over_closed front s at ran o)

  -- ---- the grammar goes on

  module _ (front : List Lexeme) (t : Lexeme) where
    one_more : (p q : Part) → IsPart front p → FitsPart q → spell_part q ≡ spell_part p ++ t ∷ []
        → IsViable (front ++ t ∷ [])
    one_more p q is fits spelled = is_viable (front ++ t ∷ []) q (longer front t p q is fits spelled)

    -- of the rules' faults only too many workers are shown by a token with which the grammar may not go on
    pub goes_on_or_over : (fault : StrategyFault) → IsRule fault → IsCause vars front t fault
        → IsViable (front ++ t ∷ []) ⊎ ((at : ℕ) × IsEndOfOver vars front t at)
    goes_on_or_over (Syntax n) rule x = absurd rule
    goes_on_or_over (UnknownVariable n) rule x =
        inl (one_more (Whole x.entries) (ToName x.entries t) x.spelled (x.spelled.fits, x.kind) refl)
    goes_on_or_over (RepeatedVariable n) rule x =
        inl (one_more (Whole x.entries) (ToName x.entries t) x.spelled (x.spelled.fits, x.kind) refl)
    goes_on_or_over (BadCount n) rule x =
        inl (one_more (ToColon x.entries x.opening) (Whole (Then x.entries x.opening (First t))) x.spelled
        (x.spelled.fits.0, x.spelled.fits.1, x.kind) refl)
    goes_on_or_over (CutSort n) rule x =
        inl (one_more (ToEqual x.entries x.name x.equal) (ToMethod x.entries x.name x.equal t method.Cut) x.spelled
        (x.spelled.fits.0, x.spelled.fits.1, x.spelled.fits.2, x.kind, x.cut) refl)
    goes_on_or_over (CutOrder n) rule x =
        inl (one_more (ToComma x.entries x.opening x.integers x.comma)
        (Whole (Then x.entries x.opening (Next x.integers x.comma t))) x.spelled
        (next_fits x.entries x.opening x.integers x.comma t x.spelled.fits x.kind) refl)
    goes_on_or_over (TooManyWorkers n) rule x = inr (n, x)
    goes_on_or_over Memory rule x = absurd x

  -- ---- a token that shows a fault is its cause

  module _ (front : List Lexeme) (s : Partial) (t : Lexeme) (ran : Ran front s) where
    here : Stands front s
    here = stands front s ran

    moved : (r : Result Partial StrategyFault) → step vars s t ≡ r → Moves vars here.part t r
    moved r e = rw (← here.here, e) at (moves vars here.part t here.is_part.fits here.kept)

    unviable : (at : ℕ) → step vars s t ≡ Err (Syntax at) → IsViable (front ++ t ∷ []) → ⊥
    unviable at e v =
        let same = sym v.1.1.spelled ∙ append_assoc front (t ∷ []) v.0 in
        shows_rule vars (Whole v.1.0) (Syntax at) v.1.1.fits
        (rw same (run_behind (step vars) front (t ∷ v.0) (nothing_read vars) s ran
        ∙ run_fault (step vars) t v.0 s (Syntax at) e))

    caused : (fault : StrategyFault) → step vars s t ≡ Err fault → IsCause vars front t fault
    caused (Syntax at) e =
        record {
          ends = record { ends = unviable at e; stands = moved (Err (Syntax at)) e };
          clear = λ other n over. cc (e, over_step front s t n ran over other);
        }
    caused fault e = subst (λ ts. IsCause vars ts t fault) (sym here.is_part.spelled) (moved (Err fault) e)

    -- ---- the cause of a fault shows it

    step_at : (p : Part) → IsPart front p → step vars s t ≡ step_by vars (behind vars p) t t.kind
    step_at p is =
        let at = (part_stands front s p ran is).1 in rw at (stepped vars (behind vars p) t t.kind refl)

    unknown : (at : ℕ) → IsUnknown vars front t at → step vars s t ≡ Err (UnknownVariable at)
    unknown at c = cc (few_closed c.entries c.spelled.fits c.few, step_at (Whole c.entries) c.spelled)

    repeated : (at : ℕ) → IsRepeated vars front t at → step vars s t ≡ Err (RepeatedVariable at)
    repeated at c =
        let es = c.entries in
        let known = known_whole vars es (part_stands front s (Whole es) ran c.spelled).0 in
        let few = few_closed es c.spelled.fits c.few in
        elim (had_or_free vars es c.variable known (named_low vars t.text c.variable c.free)) [
          | inl h ↦ rw (step_at (Whole es) c.spelled, c.kind, few, c.free, h.repeats, c.place)
          | inr f ↦ absurd (f.first c.had)
        ]

    low : (at : ℕ) → IsLow front t at → step vars s t ≡ Err (BadCount at)
    low at c = rw (step_at (ToColon c.entries c.opening) c.spelled, c.kind, c.hash, c.low, c.place)

    cuts_text : (at : ℕ) → CutsText vars front t at → step vars s t ≡ Err (CutSort at)
    cuts_text at c =
        let chosen = chosen_by vars (head_of vars c.name) t in
        rw (step_at (ToEqual c.entries c.name c.equal) c.spelled, c.kind, chosen, c.cut, c.string, c.place)

    not_above : (at : ℕ) → IsNotAbove front t at → step vars s t ≡ Err (CutOrder at)
    not_above at c = cc (last_number c.integers, step_at (ToComma c.entries c.opening c.integers c.comma) c.spelled)

    ends_by : (at : ℕ) → IsSyntax vars front t at → (r : Result Partial StrategyFault)
        → step vars s t ≡ r → Moves vars here.part t r → r ≡ Err (Syntax at)
    ends_by at c (Ok q) e leads =
        absurd (c.ends.ends (one_more front t here.part leads.part here.is_part leads.fits leads.spelled))
    ends_by at c (Err (Syntax n)) e place = rw (place, c.ends.stands)
    ends_by at c (Err fault) e shown =
        elim (goes_on_or_over front t fault tt (caused fault e)) [
          | inl goes ↦ absurd (c.ends.ends goes)
          | inr over ↦ absurd (c.clear over.1.behind over.0 over.1.over)
        ]

    pub shows : (fault : StrategyFault) → IsCause vars front t fault → step vars s t ≡ Err fault
    shows (Syntax at) c = ends_by at c (step vars s t) refl (moved (step vars s t) refl)
    shows (UnknownVariable at) c = unknown at c
    shows (RepeatedVariable at) c = repeated at c
    shows (BadCount at) c = low at c
    shows (CutSort at) c = cuts_text at c
    shows (CutOrder at) c = not_above at c
    shows (TooManyWorkers at) c = over_step front s t at ran c.over c.behind
    shows Memory c = absurd c

  -- ---- behind all tokens

  -- an entry is begun, and can't be at its end
  inside_closed : (entries : Strategy) (stage : StageOf) → may_begin stage ≡ false
      → ended entries stage ≡ Ok (record { entries = entries; stage = stage })
  inside_closed entries stage inside = grind arith

  module _ (ts : List Lexeme) (s : Partial) (ran : Ran ts s) where
    clear : (q : Partial) → Closed s ≡ Ok q → IsClear vars ts
    clear q e at over = cc (e, over_closed ts s at ran over)

    -- what the end of the last entry shows
    abbrev Closes : Result Partial StrategyFault → Type 0
    Closes (Err (TooManyWorkers at)) = IsOver vars ts at
    Closes (Err _) = ⊥
    Closes (Ok q) =
        (IsAccepted ts × (q.stage ≡ Between))
        ⊎ ((IsAccepted ts → ⊥) × ((end : ℕ) → complete end q.entries q.stage ≡ Err (Syntax end)))

    closes : Closes (Closed s)
    closes =
        let here = stands ts s ran in
        elim (cases_Bool (may_begin (behind vars here.part).stage)) [
          | inl begins ↦ grind (arith, begins_whole, behind, leb_tells)
          | inr begun ↦
              let inside = ap (λ (p : Partial). may_begin p.stage) here.here ∙ begun in
              let stage = λ (a : IsAccepted ts).
              ap (λ (p : Partial). may_begin p.stage) (part_stands ts s (Whole a.0) ran a.1).1 in
              rw (inside_closed s.entries s.stage inside)
              (inr (λ a. cc (inside, stage a, whole_begins vars a.0), λ end. (grind arith)))
        ]

    -- tokens behind which a strategy is given are accepted
    pub ends_accepted : (end : ℕ) (q : Partial) (strategy : Strategy) → Closed s ≡ Ok q
        → complete end q.entries q.stage ≡ Ok strategy → IsAccepted ts
    ends_accepted end q strategy is done = grind (arith, closes)

    -- ---- what the tail shows

    abbrev after : Tail LexFault → Result Partial StrategyFault → Result Strategy StrategyFault
    after (Broken x) r = r >>= λ (q : Partial). Err (Syntax x.at)
    after (End end) r = r >>= λ (q : Partial). complete end q.entries q.stage
    after More r = Ok s.entries

    abbrev Shown : Tail LexFault → Result Strategy StrategyFault → Type 0
    Shown tail (Ok strategy) = Unit {0}
    Shown tail (Err fault) = IsLast vars ts tail fault

    shown_by : (tail : Tail LexFault) (r : Result Partial StrategyFault) → Closed s ≡ r → Closes r
        → Shown tail (after tail r)
    shown_by More r is c = tt
    shown_by (Broken x) (Ok q) is c = (refl, clear q is)
    shown_by (Broken x) (Err (TooManyWorkers at)) is over = (over, tt)
    shown_by (End end) (Ok q) is (inl whole) = rw whole.1 tt
    shown_by (End end) (Ok q) is (inr inside) = grind (arith, stands, clear)
    shown_by (End end) (Err (TooManyWorkers at)) is over = (over, tt)
    shown_by tail (Err fault) is never = absurd never

    pub last_shown : (tail : Tail LexFault) (fault : StrategyFault) → at_tail tail s ≡ Err fault
        → IsLast vars ts tail fault
    last_shown More fault e = absurd cc
    last_shown tail fault e = rw e at (shown_by tail (Closed s) refl closes)

    -- ---- and what it is the cause of

    stops_by : (tail : Tail LexFault) (at : ℕ) → IsLast vars ts tail (Syntax at) → (r : Result Partial StrategyFault)
        → Closed s ≡ r → Closes r → at_tail tail s ≡ Err (Syntax at)
    stops_by tail at c r is over = grind arith

    over_tail : (tail : Tail LexFault) (at : ℕ) → IsOver vars ts at → IsTold tail
        → at_tail tail s ≡ Err (TooManyWorkers at)
    over_tail More at over told = absurd told
    over_tail tail at over told = rw (over_closed ts s at ran over)

    pub last_shows : (tail : Tail LexFault) (fault : StrategyFault) → IsLast vars ts tail fault
        → at_tail tail s ≡ Err fault
    last_shows tail (Syntax at) c = stops_by tail at c (Closed s) refl closes
    last_shows tail (TooManyWorkers at) c = over_tail tail at c.0 c.1
    last_shows tail _ c = absurd c

  pub follows : FollowsGrammar (step vars) (nothing_read vars) at_tail IsViable (IsCause vars) (IsLast vars)
  follows = record {
    viable = λ ts s ran. let here = stands ts s ran in is_viable ts here.part here.is_part;
    token = λ front s t fault ran. (λ e. caused front s t ran fault e, λ c. shows front s t ran fault c);
    tail = λ ts s tail fault ran. (λ e. last_shown ts s ran tail fault e, λ c. last_shows ts s ran tail fault c);
  }
