-- In a change the reader of scripts does what the reader of strategies does, but that a `before` waits for a `=`.
use Rattle.std.proofs.Common.{◌≡◌, ◌≢◌, ◌∙◌, ℕ, Bool, true, false, ◌&&◌, List, [], ◌∷◌, ◌++◌, Result, Ok, Err, ap, refl}
use Rattle.std.proofs.Common.{sym, inl, inr, arith}
use Rattle.std.proofs.{Math.Bool.and-false, lemmas.Bool.cases_Bool}
use Rattle.mfotl_lex.specs.declared.kind.Kind.{Kind}
use Rattle.mfotl_lex.specs.declared.kind.Kind.TheVariants.{Word, Integer, Comma, Equal}
use Rattle.mfotl_lex.specs.{FirstFault.◌>>=◌, FirstFault.run, Lexemes.Lexeme}
use Rattle.mfotl_lex.proofs.FirstFaultLaws.{run_none}
use Rattle.mfotl_model.specs.declared.policy.Var.{Var}
use Rattle.slice_strategy.specs.declared.{change.Change.Change, change.ChangeFault.ChangeFault}
use Rattle.slice_strategy.specs.declared.{fault.StrategyFault.StrategyFault, stage.Method.Method}
use Rattle.slice_strategy.specs.ChangeGrammar.{is_before, IsBefore}
use Rattle.slice_strategy.specs.ChangeReading as script
use Rattle.slice_strategy.specs.ChangeReading.{ScriptOf, lifted, may_begin, change_goes_on, interrupted}
use Rattle.slice_strategy.specs.Grammar.{Integers, First, Next, Opening, Entries, NoEntry, Then, Part, Whole, ToName}
use Rattle.slice_strategy.specs.Grammar.{ToEqual, ToMethod, ToColon, ToComma, FitsPart, Fits, FitsOpening, FitsIntegers}
use Rattle.slice_strategy.specs.Grammar.{spell_part}
use Rattle.slice_strategy.specs.Reading.{Partial, Between, ended, with_stage, stage_step, step, nothing_read}
use Rattle.slice_strategy.proofs.{CauseLaw.closed_few, PartReads.stands_behind, PartReads.more_fits, TokenRuns.one_more}
use Rattle.slice_strategy.proofs.Moves.{behind, settled_other, whole_begins}

pub before_word : (k : Kind) (text : List ℕ) → is_before k text ≡ true → k ≡ Word
before_word k text e = grind arith

pub word_only : (k : Kind) (text : List ℕ) → k ≢ Word → is_before k text ≡ false
word_only k text other = grind arith

-- an entry's name is no `before`
abbrev pub IsNoBefore : Part → Type 0
IsNoBefore (ToName es n) = is_before n.kind n.text ≡ false
IsNoBefore _ = Unit {0}

module _ (vars : List Var) (done : List Change) (number : ℕ) where
  -- the same of a script
  abbrev pub within_of : Result Partial StrategyFault → Result ScriptOf ChangeFault
  within_of r = lifted r >>= λ q. Ok (change_goes_on done number q)

  abbrev pub fresh : ScriptOf
  fresh = change_goes_on done number (nothing_read vars)

  -- a token that is no `before`, or not where an entry may begin
  pub else_step : (p : Partial) (t : Lexeme) → (is_before t.kind t.text && may_begin p.stage) ≡ false
      → script.step vars (change_goes_on done number p) t ≡ within_of (step vars p t)
  unfolding script.step
  else_step p t other = rw other

  -- a `before` where an entry may begin
  pub before_step : (p : Partial) (t : Lexeme) → IsBefore t → may_begin p.stage ≡ true
      → script.step vars (change_goes_on done number p) t
      ≡ (lifted (ended p.entries p.stage) >>= λ q. Ok (interrupted done number t q))
  unfolding script.step
  before_step p t is begins = rw (is, begins)

  -- and its `=`
  pub equal_step : (p : Partial) (word t : Lexeme) → t.kind ≡ Equal
      → script.step vars (interrupted done number word p) t ≡ within_of (step vars p word >>= λ q. step vars q t)
  unfolding script.step
  equal_step p word t kind = rw kind

  abbrev Ran : List Lexeme → Result Partial StrategyFault
  Ran ts = run (step vars) ts (nothing_read vars)

  abbrev Told : List Lexeme → Result ScriptOf ChangeFault
  Told ts = run (script.step vars) ts fresh

  more_told : (front : List Lexeme) (t : Lexeme) → Told (front ++ t ∷ []) ≡ (Told front >>= λ s. script.step vars s t)
  more_told front t = one_more (script.step vars) fresh front t

  more_ran : (front : List Lexeme) (t : Lexeme) → Ran (front ++ t ∷ []) ≡ (Ran front >>= λ p. step vars p t)
  more_ran front t = one_more (step vars) (nothing_read vars) front t

  -- the tokens are read alike
  abbrev pub Alike : List Lexeme → Type 0
  Alike ts = Told ts ≡ within_of (Ran ts)

  then_alike : (front : List Lexeme) (t : Lexeme) → Alike front → ((p : Partial) → Ran front ≡ Ok p
      → script.step vars (change_goes_on done number p) t ≡ within_of (step vars p t)) → Alike (front ++ t ∷ [])
  then_alike front t alike same = rw (more_told front t, more_ran front t, alike) (grind arith)

  -- behind a part, a token that is no `before` or not at an entry's place
  part_alike : (p : Part) (t : Lexeme) → FitsPart p → Alike (spell_part p)
      → (is_before t.kind t.text && may_begin (behind vars p).stage) ≡ false → Alike (spell_part p ++ t ∷ [])
  part_alike p t fits alike other = grind (arith, then_alike, stands_behind, else_step)

  -- a name and its `=`, where the name is a `before`
  between_step : (q : Partial) (n : Lexeme) → q.stage ≡ Between → n.kind ≢ Comma
      → step vars q n ≡ with_stage q.entries (stage_step vars q.entries q.stage n n.kind)
  unfolding step
  between_step q n between other = rw (settled_other vars q n.kind other, between)

  ended_step : (p : Partial) (n : Lexeme) → n.kind ≢ Comma
      → step vars p n ≡ (ended p.entries p.stage >>= λ q. with_stage q.entries
      (stage_step vars q.entries q.stage n n.kind))
  unfolding step
  ended_step p n other = rw (settled_other vars p n.kind other)

  -- a name is read behind the end of the last entry as behind the entry
  pub name_again : (es : Entries) (n : Lexeme) (q : Partial) → Fits es → n.kind ≢ Comma
      → ended (behind vars (Whole es)).entries (behind vars (Whole es)).stage ≡ Ok q
      → step vars (behind vars (Whole es)) n ≡ step vars q n
  name_again es n q fits other closed = grind (arith, closed_few, ended_step, behind, between_step)

  unit_by : (es : Entries) (n e : Lexeme) → Fits es → n.kind ≢ Comma → e.kind ≡ Equal
      → (r : Result Partial StrategyFault) → ended (behind vars (Whole es)).entries (behind vars (Whole es)).stage ≡ r
      → ((lifted r >>= λ q. Ok (interrupted done number n q)) >>= λ s. script.step vars s e)
      ≡ within_of (step vars (behind vars (Whole es)) n >>= λ q. step vars q e)
  unit_by es n e fits other kind r closed = grind (arith, name_again, equal_step, ended_step, behind)

  two_by : (es : Entries) (n e : Lexeme) → Fits es → IsBefore n → e.kind ≡ Equal
      → (r : Result Partial StrategyFault) → (Ran (spell_part (Whole es)) ≡ r)
      → ((within_of r >>= λ s. script.step vars s n) >>= λ s. script.step vars s e)
      ≡ within_of ((r >>= λ p. step vars p n) >>= λ p. step vars p e)
  two_by es n e fits before kind (Err fault) ran = refl
  two_by es n e fits before kind (Ok s) ran =
      let at = (stands_behind vars (Whole es) s fits ran).1 in
      let p = behind vars (Whole es) in
      let word = before_word n.kind n.text before in
      grind (arith, before_step, whole_begins, unit_by)

  equal_alike : (es : Entries) (n e : Lexeme) → FitsPart (ToEqual es n e) → Alike (spell_part (Whole es))
      → Alike (spell_part (ToEqual es n e))
  equal_alike es n e fits alike =
      let front = spell_part (Whole es) in
      elim (cases_Bool (is_before n.kind n.text)) [
        | inl before ↦ grind (arith, more_told, more_ran, two_by)
        | inr no_before ↦
            part_alike (ToName es n) e (fits.0, fits.1) (part_alike (Whole es) n fits.0 alike (rw no_before))
            (and-false (is_before e.kind e.text))
      ]

  method_alike : (es : Entries) (n e w : Lexeme) (m : Method) → FitsPart (ToMethod es n e w m)
      → Alike (spell_part (Whole es)) → Alike (spell_part (ToMethod es n e w m))
  method_alike es n e w m fits alike =
      part_alike (ToEqual es n e) w (fits.0, fits.1, fits.2)
      (equal_alike es n e (fits.0, fits.1, fits.2) alike) (and-false (is_before w.kind w.text))

  colon_alike : (es : Entries) (o : Opening) → FitsPart (ToColon es o) → Alike (spell_part (Whole es))
      → Alike (spell_part (ToColon es o))
  colon_alike es o fits alike =
      let f = fits.1 in
      part_alike (ToMethod es o.name o.equal o.word o.method) o.colon (fits.0, f.0, f.1, f.2, f.3)
      (method_alike es o.name o.equal o.word o.method (fits.0, f.0, f.1, f.2, f.3) alike)
      (and-false (is_before o.colon.kind o.colon.text))

  -- no Integer and no comma is a `before`
  of_kind : (t : Lexeme) (k : Kind) (b : Bool) → t.kind ≡ k → k ≢ Word → (is_before t.kind t.text && b) ≡ false
  of_kind t k b kind other = ap (λ x. x && b) (word_only t.kind t.text (λ word. other (sym kind ∙ word)))

  comma_alike : (es : Entries) (o : Opening) (is : Integers) (c : Lexeme) → FitsPart (ToComma es o is c)
      → Alike (spell_part (Whole (Then es o is))) → Alike (spell_part (ToComma es o is c))
  comma_alike es o is c fits alike =
      part_alike (Whole (Then es o is)) c (fits.0, fits.1, fits.3) alike (of_kind c Comma true fits.4 (λ e. cc))

  integers_alike : (es : Entries) (o : Opening) (is : Integers) → Fits es → FitsOpening o → FitsIntegers o.method is
      → Alike (spell_part (Whole es)) → Alike (spell_part (Whole (Then es o is)))
  integers_alike es o (First t) fits opening integers alike =
      part_alike (ToColon es o) t (fits, opening) (colon_alike es o (fits, opening) alike)
      (of_kind t Integer _ integers (λ e. cc))
  integers_alike es o (Next is c t) fits opening integers alike =
      let more = more_fits o.method is c t integers in
      let fit : FitsPart (ToComma es o is c) = (fits, opening, more.0, more.1, more.2) in
      part_alike (ToComma es o is c) t fit
      (comma_alike es o is c fit (integers_alike es o is fits opening more.1 alike))
      (of_kind t Integer _ more.3 (λ e. cc))

  whole_alike : (es : Entries) → Fits es → Alike (spell_part (Whole es))
  whole_alike NoEntry fits = cc (run_none (script.step vars) fresh, run_none (step vars) (nothing_read vars))
  whole_alike (Then es o is) fits = integers_alike es o is fits.0 fits.1 fits.2 (whole_alike es fits.0)

  -- so every part
  pub alike : (p : Part) → FitsPart p → IsNoBefore p → Alike (spell_part p)
  alike (Whole es) fits own = whole_alike es fits
  alike (ToName es n) fits own = part_alike (Whole es) n fits.0 (whole_alike es fits.0) (rw own)
  alike (ToEqual es n e) fits own = equal_alike es n e fits (whole_alike es fits.0)
  alike (ToMethod es n e w m) fits own = method_alike es n e w m fits (whole_alike es fits.0)
  alike (ToColon es o) fits own = colon_alike es o fits (whole_alike es fits.0)
  alike (ToComma es o is c) fits own = search (comma_alike, integers_alike, whole_alike)
