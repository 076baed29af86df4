-- What the reader makes of the tokens of each part of a strategy: it stands behind the part, or shows a fault
-- of a rule.
use Rattle.std.proofs.Common.{◌≡◌, inl, true, List, [], ◌∷◌, ◌++◌, Result, Ok, Err, refl, arith}
use Rattle.std.specs.Prelude.{int_lt}
use Rattle.mfotl_lex.specs.declared.kind.Kind.TheVariants.{Word, Integer, Comma, Colon}
use Rattle.mfotl_lex.specs.{FirstFault.run, Lexemes.Lexeme}
use Rattle.mfotl_lex.proofs.FirstFaultLaws.{run_none}
use Rattle.mfotl_lex.proofs.Verdicts as layer
use Rattle.mfotl_lex.proofs.Verdicts.{judged_ok, kept_ok, judged_rule}
use Rattle.mfotl_model.specs.declared.policy.Var.{Var}
use Rattle.slice_strategy.specs.declared.{fault.StrategyFault.StrategyFault, stage.Method.Method}
use Rattle.slice_strategy.specs.declared.stage.Method.TheVariants as method
use Rattle.slice_strategy.specs.Causes.{IsCause}
use Rattle.slice_strategy.specs.Grammar.{Integers, First, Next, Opening, Entries, NoEntry, Then, Part, Whole, ToName}
use Rattle.slice_strategy.specs.Grammar.{ToEqual, ToMethod, ToColon, ToComma, FitsPart, Fits, FitsOpening, FitsIntegers}
use Rattle.slice_strategy.specs.Grammar.{spell_part}
use Rattle.slice_strategy.specs.Reading.{Partial, step, nothing_read}
use Rattle.slice_strategy.specs.Rules.{last_of, number, KeepsRules, IsNew, SuitsSort, AreInOrder}
use Rattle.slice_strategy.proofs.EntryLaws.{AreKnown, kept_known, one_worker}
use Rattle.slice_strategy.proofs.Moves.{IsRule, IsCaused, AreFew, behind, stepped, name_judged, method_judged}
use Rattle.slice_strategy.proofs.Moves.{first_judged, next_judged, comma_step, step_by}
use Rattle.slice_strategy.proofs.TokenRuns.{then_token, told}
use Rattle.mfotl_lex.specs.declared.kind.Kind.{Kind}

-- what the grammar asks of one more integer
pub more_fits : (m : Method) (is : Integers) (c t : Lexeme) → FitsIntegers m (Next is c t)
    → (m ≡ method.Cut) × FitsIntegers m is × (c.kind ≡ Comma) × (t.kind ≡ Integer)
more_fits m is c t f = grind arith

module _ (vars : List Var) where
  -- the rules that a part keeps, where the last entry isn't at its end
  abbrev pub KeepsPart : Part → Type 0
  KeepsPart (Whole NoEntry) = Unit {0}
  KeepsPart (Whole (Then es o is)) =
      KeepsRules vars es × IsNew vars es o.name × SuitsSort vars o.name o.method × AreInOrder o.method is
  KeepsPart (ToName es n) = KeepsRules vars es × IsNew vars es n
  KeepsPart (ToEqual es n e) = KeepsRules vars es × IsNew vars es n
  KeepsPart (ToMethod es n e w m) = KeepsRules vars es × IsNew vars es n × SuitsSort vars n m
  KeepsPart (ToColon es o) = KeepsRules vars es × IsNew vars es o.name × SuitsSort vars o.name o.method
  KeepsPart (ToComma es o is comma) =
      KeepsRules vars es × IsNew vars es o.name × SuitsSort vars o.name o.method × AreInOrder o.method is

  pub known_whole : (es : Entries) → KeepsPart (Whole es) → AreKnown vars es
  known_whole es k = grind (arith, kept_known)

  -- the end of the last entry
  pub few_kept : (es : Entries) → KeepsPart (Whole es) → AreFew vars es → KeepsRules vars es
  few_kept es k few = grind arith

  pub kept_whole : (es : Entries) → KeepsRules vars es → KeepsPart (Whole es)
  kept_whole es k = grind arith

  pub few_of : (es : Entries) → KeepsRules vars es → AreFew vars es
  few_of NoEntry k = one_worker vars
  few_of (Then es o is) k = k.4

  abbrev Ran : List Lexeme → Result Partial StrategyFault
  Ran ts = run (step vars) ts (nothing_read vars)

  -- what the tokens of a part show
  abbrev pub Reads : Part → Type 0
  Reads p = layer.Judged IsRule (KeepsPart p) (Ran (spell_part p)) (behind vars p)

  module _ (p q : Part) (t : Lexeme) (k : Kind) (kind : t.kind ≡ k) (spelled : spell_part q ≡ spell_part p ++ t ∷ [])
    where
      -- one token more
      reads_more : (more : Type 0) → (KeepsPart p → more → KeepsPart q) → (KeepsPart q → KeepsPart p × more) → Reads p
          → (KeepsPart p → layer.Judged (IsCaused vars (spell_part p) t) more (step_by vars (behind vars p) t k)
          (behind vars q)) → Reads q
      reads_more more to from before next =
          rw spelled
          (then_token (step vars) (nothing_read vars) IsRule (spell_part p) t (KeepsPart p) more (KeepsPart q)
          (behind vars p) (behind vars q) to from before
          (λ kept. rw (stepped vars (behind vars p) t k kind)
          (told IsRule (IsCause vars (spell_part p) t) more _ _ (next kept))))

      -- a token that no rule speaks of
      reads_on : (KeepsPart p → KeepsPart q) → (KeepsPart q → KeepsPart p) → Reads p
          → step_by vars (behind vars p) t k ≡ Ok (behind vars q) → Reads q
      reads_on to from before is =
          reads_more (Unit {0}) (λ kept u. to kept) (λ kept. (from kept, tt)) before (λ kept. inl (tt, is))

  name_read : (es : Entries) (n : Lexeme) → FitsPart (ToName es n) → Reads (Whole es) → Reads (ToName es n)
  name_read es n fits before =
      reads_more (Whole es) (ToName es n) n Word fits.1 refl (AreFew vars es × IsNew vars es n)
      (λ k both. (few_kept es k both.0, both.1)) (λ k. (kept_whole es k.0, (few_of es k.0, k.1))) before
      (λ k. name_judged vars es fits.0 (known_whole es k) n fits.1)

  equal_read : (es : Entries) (n e : Lexeme) → FitsPart (ToEqual es n e) → Reads (ToName es n) → Reads (ToEqual es n e)
  equal_read es n e fits before = search (reads_on)

  method_read : (es : Entries) (n e w : Lexeme) (m : Method) → FitsPart (ToMethod es n e w m)
      → Reads (ToEqual es n e) → Reads (ToMethod es n e w m)
  method_read es n e w m fits before =
      reads_more (ToEqual es n e) (ToMethod es n e w m) w Word fits.3 refl (SuitsSort vars n m)
      (λ k suits. (k.0, k.1, suits)) (λ k. ((k.0, k.1), k.2)) before
      (λ k. method_judged vars es n e (fits.0, fits.1, fits.2) w m fits.3 fits.4)

  opening_read : (es : Entries) (o : Opening) → FitsPart (ToColon es o) → Reads (Whole es) → Reads (ToColon es o)
  opening_read es o fits before =
      let f = fits.1 in
      reads_on (ToMethod es o.name o.equal o.word o.method) (ToColon es o) o.colon Colon f.4 refl (λ k. k) (λ k. k)
      (method_read es o.name o.equal o.word o.method (fits.0, f.0, f.1, f.2, f.3)
      (equal_read es o.name o.equal (fits.0, f.0, f.1)
      (name_read es o.name (fits.0, f.0) before))) refl

  comma_read : (es : Entries) (o : Opening) (is : Integers) (c : Lexeme) → FitsPart (ToComma es o is c)
      → Reads (Whole (Then es o is)) → Reads (ToComma es o is c)
  comma_read es o is c fits before = search (reads_on, comma_step)

  more_in_order : (m : Method) (is : Integers) (c t : Lexeme) → m ≡ method.Cut
      → (AreInOrder m is → int_lt (last_of is) (number t) ≡ true → AreInOrder m (Next is c t))
      × (AreInOrder m (Next is c t) → AreInOrder m is × (int_lt (last_of is) (number t) ≡ true))
  more_in_order m is c t cut = grind arith

  integers_read : (es : Entries) (o : Opening) (is : Integers) → Fits es → FitsOpening o → FitsIntegers o.method is
      → Reads (ToColon es o) → Reads (Whole (Then es o is))
  integers_read es o (First t) fits opening integers before =
      reads_more (ToColon es o) (Whole (Then es o (First t))) t Integer integers refl
      (AreInOrder o.method (First t)) (λ k low. (k.0, k.1, k.2, low)) (λ k. ((k.0, k.1, k.2), k.3)) before
      (λ k. first_judged vars es o (fits, opening) t integers)
  integers_read es o (Next is c t) fits opening integers before =
      let more = more_fits o.method is c t integers in
      let p = ToComma es o is c in
      let fit : FitsPart p = (fits, opening, more.0, more.1, more.2) in
      let order = more_in_order o.method is c t more.0 in
      reads_more p (Whole (Then es o (Next is c t))) t Integer more.3 refl (int_lt (last_of is) (number t) ≡ true)
      (λ k above. (k.0, k.1, k.2, order.0 k.3 above))
      (λ k. let parts = order.1 k.3 in ((k.0, k.1, k.2, parts.0), parts.1))
      (comma_read es o is c fit (integers_read es o is fits opening more.1 before))
      (λ k. next_judged vars es o is c fit t more.3)

  whole_read : (es : Entries) → Fits es → Reads (Whole es)
  whole_read NoEntry fits = inl (tt, run_none (step vars) (nothing_read vars))
  whole_read (Then es o is) fits = search (integers_read, opening_read, whole_read es fits.0)

  -- every part
  pub part_read : (p : Part) → FitsPart p → Reads p
  part_read (Whole es) fits = whole_read es fits
  part_read (ToName es n) fits = name_read es n fits (whole_read es fits.0)
  part_read (ToEqual es n e) fits = search (equal_read, name_read, whole_read)
  part_read (ToMethod es n e w m) fits = search (method_read, equal_read, name_read, whole_read)
  part_read (ToColon es o) fits = opening_read es o fits (whole_read es fits.0)
  part_read (ToComma es o is c) fits = search (comma_read, integers_read, opening_read, whole_read)

  -- where the reader stands that shows no fault
  pub stands_behind : (p : Part) (s : Partial) → FitsPart p → Ran (spell_part p) ≡ Ok s
      → KeepsPart p × (s ≡ behind vars p)
  stands_behind p s fits ran = grind (arith, judged_ok, behind, part_read)

  -- and what keeps the rules shows none
  pub kept_reads : (p : Part) → FitsPart p → KeepsPart p → Ran (spell_part p) ≡ Ok (behind vars p)
  kept_reads p fits kept = kept_ok IsRule (KeepsPart p) (Ran (spell_part p)) (behind vars p) (part_read p fits) kept

  -- the tokens of a part show no Syntax
  pub shows_rule : (p : Part) (fault : StrategyFault) → FitsPart p → Ran (spell_part p) ≡ Err fault → IsRule fault
  shows_rule p fault fits ran = grind (arith, judged_rule, behind, part_read)
