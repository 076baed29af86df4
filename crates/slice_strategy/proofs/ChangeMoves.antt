-- Behind each part of a change script: where a token leads, or of which fault it is the cause.
use Rattle.std.proofs.Common.{◌≡◌, ◌∙◌, ◌⊎◌, inl, inr, ℕ, true, false, ◌&&◌, List, [], ◌∷◌, ◌++◌, Result, Ok, Err, ap}
use Rattle.std.proofs.Common.{refl, sym, subst, arith}
use Rattle.std.proofs.{lemmas.Bool.and_parts, lemmas.Bool.cases_Bool, lemmas.List.append-nil, lemmas.List.append_assoc}
use Rattle.std.proofs.{Math.Bool.and-true, lemmas.Bool.Decides.leb_tells}
use Rattle.std.specs.Prelude.{pos, int_lt}
use Rattle.mfotl_lex.specs.declared.kind.Kind.{Kind}
use Rattle.mfotl_lex.specs.declared.kind.Kind.TheVariants.{Word, Integer, Equal}
use Rattle.mfotl_lex.specs.{FirstFault.◌>>=◌, Lexemes.Lexeme, Numbers.integer_value, Numbers.digits_value}
use Rattle.mfotl_lex.proofs.Verdicts as layer
use Rattle.mfotl_model.specs.Strategies.{workers_of}
use Rattle.mfotl_model.specs.declared.policy.Var.{Var}
use Rattle.slice_strategy.specs.declared.{change.Change.Change as ChangeOf, change.ChangeFault.ChangeFault}
use Rattle.slice_strategy.specs.declared.{change.ChangeFault.TheVariants.Strategy, fault.StrategyFault.StrategyFault}
use Rattle.slice_strategy.specs.declared.{fault.StrategyFault.TheVariants.Syntax}
use Rattle.slice_strategy.specs.ChangeCauses.{InChange, IsCauseWithin, IsByEqual, IsCause}
use Rattle.slice_strategy.specs.ChangeGrammar.{Script, NoChange, Change, is_before, IsBefore, IsNumber, FitsScript}
use Rattle.slice_strategy.specs.ChangeGrammar.{spell_script, IsScript, IsViableScript}
use Rattle.slice_strategy.specs.ChangeReading.{ScriptOf, lifted, may_begin, change_goes_on, interrupted, decided, step}
use Rattle.slice_strategy.specs.ChangeReading.{nothing_read}
use Rattle.slice_strategy.specs.{ChangeRules.point_number, ChangeRules.changes_of, Limits.max_workers, Rules.number}
use Rattle.slice_strategy.specs.{Rules.strategy_of}
use Rattle.slice_strategy.specs.Grammar.{Entries, NoEntry, Then, Part, Whole, ToName, ToEqual, FitsPart, spell_part}
use Rattle.slice_strategy.specs.Grammar.{IsPart, IsViable}
use Rattle.slice_strategy.specs.Reading as strategy
use Rattle.slice_strategy.specs.Reading.{Partial, Between, ended}
use Rattle.slice_strategy.proofs.{CauseLaw.part_stands, CauseLaw.few_closed, PartMoves.part_viable, PartMoves.IsNamedBy}
use Rattle.slice_strategy.proofs.Moves as strategies
use Rattle.slice_strategy.proofs.Moves.{so_far, behind, name_judged, stepped, begins_whole, itself, whole_begins}
use Rattle.slice_strategy.proofs.PartMoves as parts
use Rattle.slice_strategy.proofs.PartReads.{KeepsPart, few_of, kept_whole, known_whole, kept_reads}
use Rattle.slice_strategy.proofs.ChangeParts.{Place, Outside, ToBefore, Inside, FitsPlace, spell_place, spell_number}
use Rattle.slice_strategy.proofs.ChangeParts.{stopped, inside_of, at_place, KeepsPlace, IsCaused, number_judged}
use Rattle.slice_strategy.proofs.ChangeParts.{MayCome}
use Rattle.slice_strategy.proofs.ChangeRuns.{IsNoBefore, before_word, within_of, else_step, before_step, equal_step}
use Rattle.slice_strategy.proofs.ChangeRuns.{name_again}

-- ---- the grammar goes on

number_token : Lexeme
number_token = record { kind = Integer; at = 0; text = [] }

-- what goes on in a strategy goes on in a change
pub inner_viable : (s : Script) (w n : Lexeme) (inner : List Lexeme) → FitsScript s → IsBefore w → IsNumber n
    → IsViable inner → IsViableScript (spell_number s w n ++ inner)
inner_viable s w n inner fits is count v =
    let base = spell_number s w n in (
      v.0,
      (
        Change s w n v.1.0,
        record {
          fits = (fits, is, count, v.1.1.fits);
          spelled = append_assoc base inner v.0 ∙ ap (λ ts. base ++ ts) v.1.1.spelled;
        },
      ),
    )

viable_front : (front : List Lexeme) (t : Lexeme) → IsViableScript (front ++ t ∷ []) → IsViableScript front
viable_front front t v = (t ∷ v.0, subst IsScript (append_assoc front (t ∷ []) v.0) v.1)

-- a `before` and a number
pub number_viable : (s : Script) (w n : Lexeme) → FitsScript s → IsBefore w → IsNumber n
    → IsViableScript (spell_number s w n)
number_viable s w n fits is count =
    subst IsViableScript (append-nil (spell_number s w n))
    (inner_viable s w n [] fits is count (part_viable (Whole NoEntry) tt))

pub place_viable : (p : Place) → FitsPlace p → IsViableScript (spell_place p)
unfolding number_token integer_value digits_value
place_viable Outside fits = grind (arith, append-nil)
place_viable (ToBefore s w) fits =
    viable_front (spell_script s ++ w ∷ []) number_token
    (number_viable s w number_token fits.0 fits.1 (refl, refl))
place_viable (Inside s w n p) fits = search (inner_viable, part_viable)

-- the tokens of a strategy in a change
pub place_in : (ts : List Lexeme) (s : Script) (w n : Lexeme) (p : Part) → FitsPlace (Inside s w n p)
    → ts ≡ spell_place (Inside s w n p) → InChange ts (spell_part p)
place_in ts s w n p fits spelled = grind arith

-- ---- one token more

module _ (vars : List Var) where
  -- the token leads to a place, where the reader stands
  pub record LeadsTo (p : Place) (t : Lexeme) (s : ScriptOf) : Type 0 where
    pub place : Place
    pub fits : FitsPlace place
    pub spelled : spell_place place ≡ spell_place p ++ t ∷ []
    pub stands : s ≡ at_place vars place

  abbrev pub Shows : Place → Lexeme → ChangeFault → Type 0
  Shows p t (Strategy (Syntax at)) = at ≡ t.at
  Shows p t fault = IsCause vars (spell_place p) t fault

  abbrev pub Moves : Place → Lexeme → Result ScriptOf ChangeFault → Type 0
  Moves p t (Ok s) = LeadsTo p t s
  Moves p t (Err fault) = Shows p t fault

  leads_to : (p q : Place) (t : Lexeme) → FitsPlace q → spell_place q ≡ spell_place p ++ t ∷ []
      → Moves p t (Ok (at_place vars q))
  leads_to p q t fits spelled = record { place = q; fits = fits; spelled = spelled; stands = refl }

  shows : (p : Place) (t : Lexeme) (fault : ChangeFault) → IsCaused vars (spell_place p) t fault → Shows p t fault
  shows p t fault c = grind arith

  judged_moves : (p q : Place) (t : Lexeme) (rules : Type 0) (r : Result ScriptOf ChangeFault) → FitsPlace q
      → spell_place q ≡ spell_place p ++ t ∷ []
      → layer.Judged (IsCaused vars (spell_place p) t) rules r (at_place vars q) → Moves p t r
  judged_moves p q t rules r fits spelled h = grind (arith, leads_to, shows)

  -- a fault of a strategy's rules, in the script
  strategy_shows : (p : Place) (t : Lexeme) (fault : StrategyFault) → strategies.IsRule fault
      → IsCauseWithin vars (spell_place p) t fault ⊎ IsByEqual vars (spell_place p) t fault → Shows p t (Strategy fault)
  strategy_shows p t fault rule c = grind arith

  same_at : (n : ℕ) → n ≡ n
  same_at n = refl

  -- in front of all changes
  outside_moves : (t : Lexeme) → Moves Outside t (step vars nothing_read t)
  unfolding step
  outside_moves t =
      elim (cases_Bool (is_before t.kind t.text)) [
        | inl is ↦ rw is (leads_to Outside (ToBefore NoChange t) t (tt, is) refl)
        | inr other ↦ rw other (same_at t.at)
      ]

  -- ---- behind a `before`

  -- a token of this kind
  stopped_step : (s : Script) (w t : Lexeme) (k : Kind) → t.kind ≡ k
      → step vars (stopped vars s w) t ≡ decided vars (stopped vars s w).done (stopped vars s w).current w t k
  unfolding step
  stopped_step s w t k kind = rw kind

  number_moves : (s : Script) (w t : Lexeme) → FitsPlace (ToBefore s w) → t.kind ≡ Integer
      → Moves (ToBefore s w) t (step vars (stopped vars s w) t)
  number_moves s w t fits kind =
      elim (cases_Bool (int_lt (number t) (pos 0))) [
        | inl low ↦ rw (stopped_step s w t Integer kind, low) (same_at t.at)
        | inr high ↦
            judged_moves (ToBefore s w) (Inside s w t (Whole NoEntry)) t (MayCome vars s t) _
            (fits.0, fits.1, (kind, high), tt, tt) (append-nil (spell_number s w t))
            (number_judged vars s w t fits.0 fits.1 (kind, high))
      ]

  -- a `before` that is a name
  renamed_moves : (s : Script) (v n : Lexeme) (es : Entries) (w t : Lexeme) → FitsPlace (ToBefore (Change s v n es) w)
      → KeepsPlace vars (ToBefore (Change s v n es) w) → t.kind ≡ Equal
      → Moves (ToBefore (Change s v n es) w) t (step vars (stopped vars (Change s v n es) w) t)
  renamed_moves s v n es w t fits kept kind =
      let p = behind vars (Whole es) in
      let done = changes_of vars s in
      let word = before_word w.kind w.text fits.1 in
      let few = few_closed vars es fits.0.3 (few_of vars es kept.3) in
      let equal = equal_step vars done (point_number n) (so_far vars es Between) w t kind in
      let again =
      name_again vars done (point_number n) es w (so_far vars es Between) fits.0.3 (λ comma. cc (word, comma)) few in
      let named = stepped vars p w Word word in
      elim (name_judged vars es fits.0.3 (known_whole vars es (kept_whole vars es kept.3)) w word) [
        | inl kept ↦
            rw (equal, ← again, named ∙ kept.1, stepped vars (behind vars (ToName es w)) t Equal kind)
            (leads_to (ToBefore (Change s v n es) w) (Inside s v n (ToEqual es w t)) t
            (fits.0.0, fits.0.1, fits.0.2, (fits.0.3, word, kind), tt) (simp (append_assoc)))
        | inr b ↦
            rw (equal, ← again, named ∙ b.shown)
            (strategy_shows (ToBefore (Change s v n es) w) t b.fault b.is_rule.0
            (inr (record {
              script = s;
              first = v;
              count = n;
              entries = es;
              word = w;
              spelled = record { fits = fits.0; before = fits.1; parts = refl };
              equal = kind;
              cause = b.is_rule.1;
            })))
      ]

  stopped_moves : (s : Script) (w t : Lexeme) (k : Kind) → t.kind ≡ k → FitsPlace (ToBefore s w)
      → KeepsPlace vars (ToBefore s w) → Moves (ToBefore s w) t (step vars (stopped vars s w) t)
  stopped_moves s w t Integer kind fits kept = number_moves s w t fits kind
  stopped_moves NoChange w t Equal kind fits kept = rw (stopped_step NoChange w t Equal kind) (same_at t.at)
  stopped_moves (Change s v n es) w t Equal kind fits kept = renamed_moves s v n es w t fits kept kind
  stopped_moves s w t k kind fits kept = rw (stopped_step s w t k kind) (same_at t.at)

  -- ---- in a change

  module _ (s : Script) (w n : Lexeme) where
    abbrev Here : Part → Place
    Here p = Inside s w n p

    abbrev done : List ChangeOf
    done = changes_of vars s

    -- a `before` behind whole entries
    stop_moves : (es : Entries) (t : Lexeme) → FitsPlace (Here (Whole es)) → IsBefore t → Moves (Here (Whole es)) t
        (lifted (ended (behind vars (Whole es)).entries (behind vars (Whole es)).stage)
        >>= λ q. Ok (interrupted done (point_number n) t q))
    stop_moves NoEntry t fits is =
        leads_to (Here (Whole NoEntry)) (ToBefore (Change s w n NoEntry) t) t
        ((fits.0, fits.1, fits.2, tt), is) refl
    stop_moves (Then es o is) t fits before =
        let ts = spell_part (Whole (Then es o is)) in
        let here = itself (Whole (Then es o is)) fits.3 in
        elim (leb_tells (workers_of (strategy_of vars (Then es o is))) max_workers) [
          | inl few ↦
              rw few.0 (leads_to (Here (Whole (Then es o is))) (ToBefore (Change s w n (Then es o is)) t) t
              ((fits.0, fits.1, fits.2, fits.3), before) refl)
          | inr many ↦ grind (arith, behind, before_word, place_in, spell_place)
        ]

    before_moves : (p : Part) (t : Lexeme) → FitsPlace (Here p) → IsBefore t → may_begin (behind vars p).stage ≡ true
        → Moves (Here p) t (lifted (ended (behind vars p).entries (behind vars p).stage) >>= λ q. Ok
        (interrupted done (point_number n) t q))
    before_moves p t fits is begins = grind (arith, begins_whole, stop_moves)

    -- the fault of a name is its own
    own_by : (p : Part) (t : Lexeme) (es : Entries) → FitsPart p → KeepsPart vars p → IsPart (spell_part p) (Whole es)
        → (is_before t.kind t.text && may_begin (behind vars p).stage) ≡ false → is_before t.kind t.text ≡ false
    own_by p t es fits kept is other =
        let same = (part_stands vars (spell_part p) (behind vars p) (Whole es) (kept_reads vars p fits kept) is).1 in
        let begins = ap (λ (x : Partial). may_begin x.stage) same ∙ whole_begins vars es in
        sym (and-true (is_before t.kind t.text)) ∙ rw begins at other

    named_own : (p q : Part) (t : Lexeme) → IsNamedBy vars p t q
        → (is_before t.kind t.text && may_begin (behind vars p).stage) ≡ false → IsNoBefore q
    named_own p q t name other = grind (arith, and-true, whole_begins)

    other_moves : (p : Part) (t : Lexeme) → FitsPlace (Here p) → KeepsPlace vars (Here p)
        → (is_before t.kind t.text && may_begin (behind vars p).stage) ≡ false
        → (r : Result Partial StrategyFault) → parts.Moves vars p t r → Moves (Here p) t (within_of vars done
        (point_number n) r)
    other_moves p t fits kept other (Ok q) leads = record {
      place = Here leads.part;
      fits = (fits.0, fits.1, fits.2, leads.fits, named_own p leads.part t leads.name other);
      spelled = grind (arith, spell_number, append_assoc);
      stands = ap (change_goes_on done (point_number n)) leads.stands;
    }
    other_moves p t fits kept other (Err (Syntax at)) place = place
    other_moves p t fits kept other (Err fault) cause =
        strategy_shows (Here p) t fault tt
        (inl (record {
          inner = spell_part p;
          place = place_in _ s w n p fits refl;
          cause = cause;
          own = grind (arith, own_by);
        }))

    inside_moves : (p : Part) (t : Lexeme) → FitsPlace (Here p) → KeepsPlace vars (Here p)
        → Moves (Here p) t (step vars (inside_of vars s n p) t)
    inside_moves p t fits kept =
        let q = behind vars p in
        elim (cases_Bool (is_before t.kind t.text && may_begin q.stage)) [
          | inl both ↦
              let each = and_parts (is_before t.kind t.text) (may_begin q.stage) both in
              rw (before_step vars done (point_number n) q t each.0 each.1) (before_moves p t fits each.0 each.1)
          | inr other ↦
              rw (else_step vars done (point_number n) q t other)
              (other_moves p t fits kept other (strategy.step vars q t) (parts.moves vars p t fits.3 kept.2))
        ]

  -- at every place
  pub moves : (p : Place) (t : Lexeme) → FitsPlace p → KeepsPlace vars p → Moves p t (step vars (at_place vars p) t)
  moves p t fits kept = grind (arith, outside_moves, stopped_moves, inside_moves)
