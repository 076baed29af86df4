-- Behind tokens that show no fault, the reader of scripts shows a fault exactly where the token or the tail is
-- its cause.
use Rattle.std.proofs.Common.{◌≡◌, ◌≢◌, ◌∙◌, ◌⊎◌, inl, inr, ℕ, Bool, true, false, ◌&&◌, List, [], ◌∷◌, ◌++◌, length}
use Rattle.std.proofs.Common.{Option, Some, None, Result, Ok, Err, ap, refl, sym, subst, arith}
use Rattle.std.proofs.lemmas.Bool.{le-leb, lt-ltb, le-ltb, cases_Bool}
use Rattle.std.proofs.{lemmas.List.append_assoc, Math.Bool.and-false}
use Rattle.mfotl_lex.specs.declared.{fault.LexFault.LexFault, kind.Kind.Kind}
use Rattle.mfotl_lex.specs.declared.kind.Kind.TheVariants.{Word, Integer, Comma}
use Rattle.mfotl_lex.specs.FirstFault.{Tail, Broken, End, More, run, FollowsGrammar}
use Rattle.mfotl_lex.specs.Lexemes.{Lexeme}
use Rattle.mfotl_lex.proofs.FirstFaultLaws.{holds_behind, run_none, run_behind, run_fault, run_token}
use Rattle.mfotl_model.specs.Strategies.{Strategy as StrategyOf}
use Rattle.mfotl_model.specs.declared.policy.Var.{Var}
use Rattle.slice_strategy.specs.declared.{change.Change.Change as ChangeOf, change.ChangeFault.ChangeFault}
use Rattle.slice_strategy.specs.declared.{fault.StrategyFault.StrategyFault, script.Current.Current}
use Rattle.slice_strategy.specs.declared.change.ChangeFault.TheVariants.{Strategy, FallingChange, TooManyChanges}
use Rattle.slice_strategy.specs.declared.fault.StrategyFault.TheVariants.{Syntax, UnknownVariable, RepeatedVariable}
use Rattle.slice_strategy.specs.declared.fault.StrategyFault.TheVariants.{BadCount, CutSort, CutOrder, TooManyWorkers}
use Rattle.slice_strategy.specs.declared.fault.StrategyFault.TheVariants.{Memory}
use Rattle.slice_strategy.specs.Causes as strategy_causes
use Rattle.slice_strategy.specs.{Causes.IsTold, Limits.max_changes, Reading.Between}
use Rattle.slice_strategy.specs.ChangeCauses.{InChange, IsInterrupted, IsOverIn, IsClear, IsCauseWithin, IsByEqual}
use Rattle.slice_strategy.specs.ChangeCauses.{IsFalling, IsOneTooMany, IsSyntax, IsCause, IsLast, StopsAt}
use Rattle.slice_strategy.specs.ChangeGrammar.{Script, NoChange, Change, is_before, IsNumber, IsScript, SpellsScript}
use Rattle.slice_strategy.specs.ChangeGrammar.{IsViableScript}
use Rattle.slice_strategy.specs.ChangeReading.{ScriptOf, may_begin, falls, last_change, step, nothing_read, at_tail}
use Rattle.slice_strategy.specs.ChangeRules.{point_number, changes_of, IsNotBelow}
use Rattle.slice_strategy.specs.Grammar.{Then, Part, Whole, ToEqual, ToColon, FitsPart, spell, spell_part, IsPart}
use Rattle.slice_strategy.specs.Grammar.{IsAccepted}
use Rattle.slice_strategy.specs.Reading as strategy
use Rattle.slice_strategy.proofs.CauseLaw as law
use Rattle.slice_strategy.proofs.CauseLaw.{few_closed, over_here, goes_on_or_over}
use Rattle.slice_strategy.proofs.Moves as strategies
use Rattle.slice_strategy.proofs.Moves.{so_far, behind, begins_whole, whole_begins}
use Rattle.slice_strategy.proofs.PartReads.{few_of, kept_whole, kept_reads}
use Rattle.slice_strategy.proofs.ChangeMoves.{LeadsTo, Moves, moves, place_in, place_viable, inner_viable}
use Rattle.slice_strategy.proofs.ChangeMoves.{number_viable}
use Rattle.slice_strategy.proofs.ChangeParts.{IsRule, Place, Outside, ToBefore, Inside, FitsPlace, spell_place}
use Rattle.slice_strategy.proofs.ChangeParts.{spell_number, inside_of, at_place, KeepsPlace, current_of, number_due}
use Rattle.slice_strategy.proofs.ChangeParts.{stands_at, shows_rule}
use Rattle.slice_strategy.proofs.ChangeRuns.{IsNoBefore, before_word, word_only, else_step, before_step, equal_step}
use Rattle.slice_strategy.proofs.ChangeRuns.{name_again}

module _ (vars : List Var) where
  abbrev Ran : List Lexeme → ScriptOf → Type 0
  Ran ts s = run (step vars) ts nothing_read ≡ Ok s

  -- the tokens are a place of this form
  pub record IsPlace (ts : List Lexeme) (p : Place) : Type 0 where
    pub fits : FitsPlace p
    pub spelled : ts ≡ spell_place p

  pub place_stands : (front : List Lexeme) (s : ScriptOf) (p : Place) → Ran front s → IsPlace front p
      → KeepsPlace vars p × (s ≡ at_place vars p)
  place_stands front s p ran is = stands_at vars p s is.fits (subst (λ ts. Ran ts s) is.spelled ran)

  -- a place that the tokens are, where the reader stands
  pub record Stands (front : List Lexeme) (s : ScriptOf) : Type 0 where
    pub ran : Ran front s
    pub place : Place
    pub is_place : IsPlace front place
    pub kept : KeepsPlace vars place
    pub here : s ≡ at_place vars place

  stood : (ts : List Lexeme) (s : ScriptOf) (p : Place) → Ran ts s → IsPlace ts p → Stands ts s
  stood ts s p ran is = grind (arith, place_stands ts s p ran is)

  longer : (front : List Lexeme) (t : Lexeme) (p q : Place) → IsPlace front p → FitsPlace q
      → spell_place q ≡ spell_place p ++ t ∷ [] → IsPlace (front ++ t ∷ []) q
  longer front t p q is fits spelled = grind arith

  further : (front : List Lexeme) (s q : ScriptOf) (t : Lexeme) → Stands front s → step vars s t ≡ Ok q
      → Stands (front ++ t ∷ []) q
  further front s q t r e =
      let leads : LeadsTo vars r.place t q = rw (← r.here, e) at (moves vars r.place t r.is_place.fits r.kept) in
      stood (front ++ t ∷ []) q leads.place
      (run_behind (step vars) front (t ∷ []) nothing_read s r.ran ∙ run_token (step vars) t [] s q e
      ∙ run_none (step vars) q)
      (longer front t r.place leads.place r.is_place leads.fits leads.spelled)

  pub stands : (ts : List Lexeme) (s : ScriptOf) → Ran ts s → Stands ts s
  stands ts s ran =
      holds_behind (step vars) Stands further [] ts nothing_read s
      (stood [] nothing_read Outside (run_none (step vars) nothing_read) (record { fits = tt; spelled = refl })) ran

  pub is_viable : (ts : List Lexeme) (p : Place) → IsPlace ts p → IsViableScript ts
  is_viable ts p is = subst IsViableScript (sym is.spelled) (place_viable p is.fits)

  -- ---- the cause of a fault shows it

  -- in a change
  in_change : (front inner : List Lexeme) (c : InChange front inner) (p : Part) → IsPart inner p → IsNoBefore p
      → IsPlace front (Inside c.whole c.word c.count p)
  in_change front inner c p is own = search (spell_number)

  module _ (front : List Lexeme) (s : ScriptOf) (t : Lexeme) (ran : Ran front s) where
    placed : (p : Place) → IsPlace front p → s ≡ at_place vars p
    placed p is = (place_stands front s p ran is).1

    -- what the reader of strategies shows there
    inner_shows : (inner : List Lexeme) (c : InChange front inner) (p : Part) → IsPart inner p → IsNoBefore p
        → (fault : StrategyFault) → strategy_causes.IsCause vars inner t fault
        → strategy.step vars (behind vars p) t ≡ Err fault
    inner_shows inner c p is own fault cause =
        let kept = (place_stands front s (Inside c.whole c.word c.count p) ran
        (in_change front inner c p is own)).0 in
        law.shows vars inner (behind vars p) t
        (ap (λ ts. run (strategy.step vars) ts (strategy.nothing_read vars)) is.spelled
        ∙ kept_reads vars p is.fits kept.2) fault cause

    own_shows : (inner : List Lexeme) (c : InChange front inner) (p : Part) → IsPart inner p → IsNoBefore p
        → (fault : StrategyFault) → strategy_causes.IsCause vars inner t fault
        → (is_before t.kind t.text && may_begin (behind vars p).stage) ≡ false → step vars s t ≡ Err (Strategy fault)
    own_shows inner c p is own fault cause other =
        let other_step = else_step vars (changes_of vars c.whole) (point_number c.count) (behind vars p) t other in
        rw (
          placed (Inside c.whole c.word c.count p) (in_change front inner c p is own),
          other_step,
          inner_shows inner c p is own fault cause,
        )

    of_kind : (k : Kind) (b : Bool) → t.kind ≡ k → k ≢ Word → (is_before t.kind t.text && b) ≡ false
    of_kind k b kind other = ap (λ x. x && b) (word_only t.kind t.text (λ word. other (sym kind ∙ word)))

    over_shows : (at : ℕ) → IsOverIn vars front at → t.kind ≢ Comma → step vars s t ≡ Err (Strategy (TooManyWorkers at))
    over_shows at c other =
        let es = Then c.over.before c.over.opening c.over.integers in
        let q = behind vars (Whole es) in
        let number = point_number c.place.count in
        let here = in_change front c.inner c.place (Whole es) c.over.spelled tt in
        elim (cases_Bool (is_before t.kind t.text)) [
          | inl before ↦
              let stop = before_step vars (changes_of vars c.place.whole) number q t before (whole_begins vars es) in
              let over = over_here vars c.over.before c.over.opening c.over.integers c.over.many in
              rw (placed (Inside c.place.whole c.place.word c.place.count (Whole es)) here, stop, over, c.over.place)
          | inr no_before ↦
              own_shows c.inner c.place (Whole es) c.over.spelled tt (TooManyWorkers at)
              (record { over = c.over; behind = other }) (rw no_before)
        ]

    within_shows : (fault : StrategyFault) → IsCauseWithin vars front t fault → strategies.IsRule fault
        → step vars s t ≡ Err (Strategy fault)
    within_shows (Syntax at) c rule = absurd rule
    within_shows (UnknownVariable at) c rule =
        own_shows c.inner c.place (Whole c.cause.entries) c.cause.spelled tt (UnknownVariable at) c.cause
        (rw c.own)
    within_shows (RepeatedVariable at) c rule =
        own_shows c.inner c.place (Whole c.cause.entries) c.cause.spelled tt (RepeatedVariable at) c.cause
        (rw c.own)
    within_shows (BadCount at) c rule =
        own_shows c.inner c.place (ToColon c.cause.entries c.cause.opening) c.cause.spelled tt (BadCount at) c.cause
        (of_kind Integer _ c.cause.kind (λ e. cc))
    within_shows (CutSort at) c rule = search (own_shows, and-false)
    within_shows (CutOrder at) c rule = search (own_shows, and-false)
    within_shows (TooManyWorkers at) c rule = search (over_shows)
    within_shows Memory c rule = absurd c.cause

    interrupted_place : (script : Script) (word : Lexeme) → IsInterrupted front script word
        → IsPlace front (ToBefore script word)
    interrupted_place script word c = record { fits = (c.fits, c.before); spelled = c.parts }

    equal_shows : (fault : StrategyFault) → IsByEqual vars front t fault → step vars s t ≡ Err (Strategy fault)
    equal_shows fault c =
        let es = c.entries in
        let whole = Change c.script c.first c.count es in
        let is = interrupted_place whole c.word c.spelled in
        let kept = (place_stands front s (ToBefore whole c.word) ran is).0 in
        let done = changes_of vars c.script in
        let word = before_word c.word.kind c.word.text c.spelled.before in
        let fits = c.spelled.fits.3 in
        let again =
        name_again vars done (point_number c.count) es c.word (so_far vars es Between) fits (λ comma. cc (word, comma))
        (few_closed vars es fits (few_of vars es kept.3)) in
        let stop =
        law.shows vars (spell [] es) (behind vars (Whole es)) c.word
        (kept_reads vars (Whole es) fits (kept_whole vars es kept.3)) fault c.cause in
        rw (
          placed (ToBefore whole c.word) is,
          equal_step vars done (point_number c.count) (so_far vars es Between) c.word t c.equal,
          ← again,
          stop,
        )

    falling : (at : ℕ) → IsFalling front t at → step vars s t ≡ Err (FallingChange at)
    falling at c =
        let whole = Change c.script c.first c.count c.entries in
        let low = lt-ltb (point_number t) (point_number c.count) c.low in
        rw (
          placed (ToBefore whole c.word) (interrupted_place whole c.word c.spelled),
          number_due vars whole c.word t c.numbered,
          low,
          c.place,
        )

    no_fall : (script : Script) → IsNotBelow script t → falls (current_of vars script) (point_number t) ≡ false
    no_fall script above = grind (arith, le-ltb)

    one_too_many : (at : ℕ) → IsOneTooMany vars front t at → step vars s t ≡ Err (TooManyChanges at)
    one_too_many at c =
        let here = placed (ToBefore c.script c.word) (interrupted_place c.script c.word c.spelled) in
        let full = le-leb max_changes (length (changes_of vars c.script)) c.many in
        rw (here, number_due vars c.script c.word t c.numbered, no_fall c.script c.kept, full, c.place)

    -- ---- a token that shows a fault is its cause

    here : Stands front s
    here = stands front s ran

    moved : (r : Result ScriptOf ChangeFault) → step vars s t ≡ r → Moves vars here.place t r
    moved r e = rw (← here.here, e) at (moves vars here.place t here.is_place.fits here.kept)

    unviable : (at : ℕ) → step vars s t ≡ Err (Strategy (Syntax at)) → IsViableScript (front ++ t ∷ []) → ⊥
    unviable at e v =
        let same = sym v.1.1.spelled ∙ append_assoc front (t ∷ []) v.0 in
        shows_rule vars v.1.0 (Strategy (Syntax at)) v.1.1.fits
        (rw same (run_behind (step vars) front (t ∷ v.0) nothing_read s ran
        ∙ run_fault (step vars) t v.0 s (Strategy (Syntax at)) e))

    caused : (fault : ChangeFault) → step vars s t ≡ Err fault → IsCause vars front t fault
    caused (Strategy (Syntax at)) e =
        record {
          ends = record { ends = unviable at e; stands = moved (Err (Strategy (Syntax at))) e };
          clear = λ other n over. cc (e, over_shows n over other);
        }
    caused fault e = subst (λ ts. IsCause vars ts t fault) (sym here.is_place.spelled) (moved (Err fault) e)

    -- ---- Syntax

    within_goes : (fault : StrategyFault) → strategies.IsRule fault → IsCauseWithin vars front t fault
        → IsViableScript (front ++ t ∷ []) ⊎ ((at : ℕ) × IsOverIn vars front at × (t.kind ≢ Comma))
    within_goes fault rule c =
        elim (goes_on_or_over vars c.inner t fault rule c.cause) [
          | inl goes ↦
              let base = spell_number c.place.whole c.place.word c.place.count in
              inl (subst IsViableScript
              (sym (ap (λ ts. ts ++ t ∷ []) c.place.parts ∙ append_assoc base c.inner (t ∷ [])))
              (inner_viable c.place.whole c.place.word c.place.count (c.inner ++ t ∷ []) c.place.fits c.place.before
              c.place.numbered goes))
          | inr over ↦
              inr (over.0, record { inner = c.inner; place = c.place; over = over.1.over }, over.1.behind)
        ]

    equal_goes : (fault : StrategyFault) → IsByEqual vars front t fault → IsViableScript (front ++ t ∷ [])
    equal_goes fault c =
        let base = spell_number c.script c.first c.count in
        let es = c.entries in
        let f = c.spelled.fits in
        is_viable (front ++ t ∷ []) (Inside c.script c.first c.count (ToEqual es c.word t))
        (record {
          fits = (f.0, f.1, f.2, (f.3, before_word c.word.kind c.word.text c.spelled.before, c.equal), tt);
          spelled = grind (arith, append_assoc);
        })

    number_goes : (script : Script) (word : Lexeme) → IsInterrupted front script word
        → IsNumber t → IsViableScript (front ++ t ∷ [])
    number_goes script word c numbered = grind (arith, number_viable)

    never : (at : ℕ) → IsSyntax vars front t at → (fault : ChangeFault) → IsRule fault → IsCause vars front t fault → ⊥
    never at c (Strategy (Syntax n)) rule x = absurd rule
    never at c (Strategy Memory) rule x = x
    never at c (Strategy fault) rule (inl x) =
        elim (within_goes fault rule x) [
          | inl goes ↦ c.ends.ends goes
          | inr over ↦ c.clear over.2 over.0 over.1
        ]
    never at c (Strategy fault) rule (inr x) = c.ends.ends (equal_goes fault x)
    never at c (FallingChange n) rule x =
        c.ends.ends (number_goes (Change x.script x.first x.count x.entries) x.word x.spelled x.numbered)
    never at c (TooManyChanges n) rule x = c.ends.ends (number_goes x.script x.word x.spelled x.numbered)

    ends_by : (at : ℕ) → IsSyntax vars front t at → (r : Result ScriptOf ChangeFault)
        → step vars s t ≡ r → Moves vars here.place t r → r ≡ Err (Strategy (Syntax at))
    ends_by at c (Ok q) e leads =
        absurd (c.ends.ends (is_viable (front ++ t ∷ []) leads.place
        (longer front t here.place leads.place here.is_place leads.fits leads.spelled)))
    ends_by at c (Err (Strategy (Syntax n))) e place = rw (place, c.ends.stands)
    ends_by at c (Err fault) e shown = absurd (never at c fault tt (caused fault e))

    shows : (fault : ChangeFault) → IsCause vars front t fault → step vars s t ≡ Err fault
    shows (Strategy (Syntax at)) c = ends_by at c (step vars s t) refl (moved (step vars s t) refl)
    shows (Strategy Memory) c = absurd c
    shows (Strategy fault) (inl c) = within_shows fault c tt
    shows (Strategy fault) (inr c) = equal_shows fault c
    shows (FallingChange at) c = falling at c
    shows (TooManyChanges at) c = one_too_many at c

  -- ---- behind all tokens

  module _ (ts : List Lexeme) (s : ScriptOf) (ran : Ran ts s) where
    abbrev tail_at : Tail LexFault → ScriptOf → Result (List ChangeOf) ChangeFault
    tail_at tail s = at_tail tail s

    here_of : (p : Place) → IsPlace ts p → s ≡ at_place vars p
    here_of p is = (place_stands ts s p ran is).1

    -- too many workers, as the tail shows
    over_tail : (tail : Tail LexFault) (at : ℕ) → IsOverIn vars ts at → IsTold tail
        → at_tail tail s ≡ Err (Strategy (TooManyWorkers at))
    over_tail More at c told = absurd told
    over_tail tail at c told =
        let q = Whole (Then c.over.before c.over.opening c.over.integers) in
        let here = here_of (Inside c.place.whole c.place.word c.place.count q)
        (in_change ts c.inner c.place q c.over.spelled tt) in
        rw (here, over_here vars c.over.before c.over.opening c.over.integers c.over.many, c.over.place)

    -- where Syntax is told, there are not too many workers
    clear_by : (tail : Tail LexFault) (n : ℕ) → IsTold tail → at_tail tail s ≡ Err (Strategy (Syntax n))
        → IsClear vars ts
    clear_by tail n told e at over = cc (e, over_tail tail at over told)

    -- tokens that the grammar accepts leave the reader behind whole entries, or in front of all changes
    accepted_before : IsScript ts → s.before ≡ None
    accepted_before a = by a.0 a.1
      where
        by : (r : Script) → SpellsScript ts r → s.before ≡ None
        by NoChange is =
            ap (λ (x : ScriptOf). x.before) (here_of Outside (record { fits = tt; spelled = is.spelled }))
        by (Change r w n es) is =
            ap (λ (x : ScriptOf). x.before) (here_of (Inside r w n (Whole es))
            (record { fits = (is.fits.0, is.fits.1, is.fits.2, is.fits.3, tt); spelled = is.spelled }))

    abbrev may_of : Option Current → Bool
    may_of None = false
    may_of (Some c) = may_begin c.reader.stage

    accepted_inner : (r : Script) (w n : Lexeme) (p : Part) → FitsPart p → s ≡ inside_of vars r n p → IsScript ts
        → IsAccepted (spell_part p)
    accepted_inner r w n p fits here a =
        let whole = begins_whole vars p (sym (ap (λ (x : ScriptOf). may_of x.current) here) ∙ begins a.0 a.1) in
        (whole.0, record { fits = rw whole.1 at fits; spelled = ap spell_part whole.1 })
      where
        begins : (r' : Script) → SpellsScript ts r' → may_of s.current ≡ true
        begins NoChange is =
            cc (here, ap (λ (x : ScriptOf). x.current) (here_of Outside (record { fits = tt; spelled = is.spelled })))
        begins (Change r' w' n' es) is =
            ap (λ (x : ScriptOf). may_of x.current) (here_of (Inside r' w' n' (Whole es))
            (record { fits = (is.fits.0, is.fits.1, is.fits.2, is.fits.3, tt); spelled = is.spelled }))
            ∙ whole_begins vars es

    pub inner_ran : (r : Script) (w n : Lexeme) (p : Part) → IsPlace ts (Inside r w n p)
        → run (strategy.step vars) (spell_part p) (strategy.nothing_read vars) ≡ Ok (behind vars p)
    inner_ran r w n p is = kept_reads vars p is.fits.3 (place_stands ts s (Inside r w n p) ran is).0.2

    abbrev with_change : Script → Lexeme → Result StrategyOf StrategyFault → Result (List ChangeOf) ChangeFault
    with_change r n x = last_change (changes_of vars r) (point_number n) x

    abbrev Shown : Tail LexFault → Result (List ChangeOf) ChangeFault → Type 0
    Shown tail (Ok changes) = Unit {0}
    Shown tail (Err fault) = IsLast vars ts tail fault

    -- what the tail shows in a change
    inner_shown : (r : Script) (w n : Lexeme) (p : Part) → IsPlace ts (Inside r w n p) → (tail : Tail LexFault)
        → IsTold tail → (x : Result StrategyOf StrategyFault) → strategy.at_tail tail (behind vars p) ≡ x
        → at_tail tail s ≡ with_change r n x → Shown tail (with_change r n x)
    inner_shown r w n p is tail told (Ok v) e so = tt
    inner_shown r w n p is tail told (Err (Syntax at)) e so =
        let c = law.last_shown vars (spell_part p) (behind vars p) (inner_ran r w n p is) tail (Syntax at) e in
        (stops tail c.0, clear_by tail at told so)
      where
        stops : (tail : Tail LexFault) → strategy_causes.StopsAt (spell_part p) tail at → StopsAt ts tail at
        stops (Broken x) x_at = x_at
        stops (End end) early = record {
          unaccepted = λ a. early.unaccepted
              (accepted_inner r w n p is.fits.3 (here_of (Inside r w n p) is) a);
          stands = early.stands;
        }
        stops More none = absurd none
    inner_shown r w n p is tail told (Err (TooManyWorkers at)) e so = grind (arith, behind, inner_ran, place_in)
    inner_shown r w n p is tail told (Err fault) e so = grind (arith, behind, inner_ran)

    shown_by : (p : Place) → IsPlace ts p → (tail : Tail LexFault) → at_tail tail s ≡ at_tail tail (at_place vars p)
        → Shown tail (at_tail tail (at_place vars p))
    shown_by p is More so = tt
    shown_by Outside is (Broken x) so = (refl, clear_by (Broken x) x.at tt so)
    shown_by Outside is (End end) so = tt
    shown_by (ToBefore r w) is (Broken x) so = (refl, clear_by (Broken x) x.at tt so)
    shown_by (ToBefore r w) is (End end) so =
        grind (arith, here, here_of (ToBefore r w) is, accepted_before, stands, clear_by (End end) end tt so)
    shown_by (Inside r w n p) is (Broken x) so = search (inner_shown, behind)
    shown_by (Inside r w n p) is (End end) so = search (inner_shown, behind)

    pub last_shown : (tail : Tail LexFault) (fault : ChangeFault) → at_tail tail s ≡ Err fault
        → IsLast vars ts tail fault
    last_shown tail fault e = grind (arith, here, stands ts s ran, shown_by)

    -- ---- and what it is the cause of

    inner_stops : (r : Script) (w n : Lexeme) (p : Part) → IsPlace ts (Inside r w n p) → (tail : Tail LexFault) (at : ℕ)
        → StopsAt ts tail at → strategy_causes.StopsAt (spell_part p) tail at
    inner_stops r w n p is (Broken x) at place = place
    inner_stops r w n p is (End end) at early = record {
      unaccepted = λ a. early.unaccepted (
        Change r w n a.0,
        record {
          fits = (is.fits.0, is.fits.1, is.fits.2, a.1.fits);
          spelled = is.spelled ∙ ap (λ us. spell_number r w n ++ us) a.1.spelled;
        },
      );
      stands = early.stands;
    }
    inner_stops r w n p is More at never = absurd never

    inner_given : (r : Script) (w n : Lexeme) (p : Part) → IsPlace ts (Inside r w n p) → (tail : Tail LexFault)
        (at : ℕ) → StopsAt ts tail at → IsClear vars ts → strategy.at_tail tail (behind vars p) ≡ Err (Syntax at)
    inner_given r w n p is tail at stops clear =
        let place = place_in ts r w n p is.fits is.spelled in
        law.last_shows vars (spell_part p) (behind vars p) (inner_ran r w n p is) tail (Syntax at) (
          inner_stops r w n p is tail at stops,
          λ m over. clear m (record { inner = spell_part p; place = place; over = over }),
        )

    stops_by : (p : Place) → IsPlace ts p → (tail : Tail LexFault) (at : ℕ) → StopsAt ts tail at → IsClear vars ts
        → at_tail tail (at_place vars p) ≡ Err (Strategy (Syntax at))
    stops_by Outside is (Broken x) at stops clear = rw stops
    stops_by Outside is (End end) at stops clear = grind arith
    stops_by (ToBefore r w) is (Broken x) at stops clear = rw stops
    stops_by (ToBefore r w) is (End end) at stops clear = cc stops.stands
    stops_by (Inside r w n p) is (Broken x) at stops clear =
        ap (with_change r n) (inner_given r w n p is (Broken x) at stops clear)
    stops_by (Inside r w n p) is (End end) at stops clear =
        ap (with_change r n) (inner_given r w n p is (End end) at stops clear)
    stops_by p is More at stops clear = absurd stops

    pub last_shows : (tail : Tail LexFault) (fault : ChangeFault) → IsLast vars ts tail fault → at_tail tail s
        ≡ Err fault
    last_shows tail (Strategy (Syntax at)) c =
        let here = stands ts s ran in
        ap (tail_at tail) here.here ∙ stops_by here.place here.is_place tail at c.0 c.1
    last_shows tail (Strategy (TooManyWorkers at)) c = over_tail tail at c.0 c.1
    last_shows tail _ c = absurd c

  pub follows : FollowsGrammar (step vars) nothing_read at_tail IsViableScript (IsCause vars) (IsLast vars)
  follows = record {
    viable = λ ts s ran. let here = stands ts s ran in is_viable ts here.place here.is_place;
    token = λ front s t fault ran. (λ e. caused front s t ran fault e, λ c. shows front s t ran fault c);
    tail = λ ts s tail fault ran. (λ e. last_shown ts s ran tail fault e, λ c. last_shows ts s ran tail fault c);
  }
