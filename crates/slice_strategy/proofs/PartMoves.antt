-- Behind each part of a strategy: to which part a token leads, or of which fault it is the cause.
use Rattle.std.proofs.Common.{◌≡◌, inl, inr, ℕ, List, [], ◌∷◌, ◌++◌, Result, Ok, Err, refl, subst, arith}
use Rattle.std.specs.Prelude.{codes}
use Rattle.std.proofs.{lemmas.List.append-nil, lemmas.List.append_assoc, lemmas.Grind.common_steps}
use Rattle.mfotl_lex.specs.declared.kind.Kind.{Kind}
use Rattle.mfotl_lex.specs.declared.kind.Kind.TheVariants.{Word, Integer, Comma, Colon, Equal}
use Rattle.mfotl_lex.specs.Lexemes.{Lexeme}
use Rattle.mfotl_lex.proofs.Verdicts as layer
use Rattle.mfotl_model.specs.declared.policy.Var.{Var}
use Rattle.slice_strategy.specs.declared.{fault.StrategyFault.StrategyFault, fault.StrategyFault.TheVariants.Syntax}
use Rattle.slice_strategy.specs.declared.{stage.Method.Method}
use Rattle.slice_strategy.specs.declared.stage.Method.TheVariants as method
use Rattle.slice_strategy.specs.{Causes.IsCause, Reading.Partial, Reading.step}
use Rattle.slice_strategy.specs.Grammar.{Integers, First, Next, Opening, Entries, NoEntry, Then, Part, Whole, ToName}
use Rattle.slice_strategy.specs.Grammar.{ToEqual, ToMethod, ToColon, ToComma, FitsPart, Fits, spell_part, method_of}
use Rattle.slice_strategy.specs.Grammar.{IsAccepted, IsViable}
use Rattle.slice_strategy.proofs.Moves.{IsCaused, head_of, behind, step_by, stepped, ended_judged, name_judged}
use Rattle.slice_strategy.proofs.Moves.{method_judged, first_judged, next_judged, comma_step, chosen_by}
use Rattle.slice_strategy.proofs.{PartReads.KeepsPart, PartReads.known_whole, EntryLaws.cases_Option}

-- ---- the grammar goes on

of_kind : Kind → List ℕ → Lexeme
of_kind k text = record { kind = k; at = 0; text = text }

viable_front : (front : List Lexeme) (t : Lexeme) → IsViable (front ++ t ∷ []) → IsViable front
viable_front front t v = (t ∷ v.0, subst IsAccepted (append_assoc front (t ∷ []) v.0) v.1)

whole_viable : (es : Entries) → Fits es → IsViable (spell_part (Whole es))
whole_viable es fits = grind (arith, append-nil)

colon_viable : (es : Entries) (o : Opening) → FitsPart (ToColon es o) → IsViable (spell_part (ToColon es o))
unfolding of_kind
colon_viable es o fits =
    let t = of_kind Integer [] in
    viable_front (spell_part (ToColon es o)) t
    (whole_viable (Then es o (First t)) (fits.0, fits.1, refl))

method_viable : (es : Entries) (n e w : Lexeme) (m : Method) → FitsPart (ToMethod es n e w m)
    → IsViable (spell_part (ToMethod es n e w m))
unfolding of_kind
method_viable es n e w m fits =
    let t = of_kind Colon [] in
    viable_front (spell_part (ToMethod es n e w m)) t
    (colon_viable es (record { name = n; equal = e; word = w; method = m; colon = t })
    (fits.0, (fits.1, fits.2, fits.3, fits.4, refl)))

equal_viable : (es : Entries) (n e : Lexeme) → FitsPart (ToEqual es n e) → IsViable (spell_part (ToEqual es n e))
unfolding of_kind
equal_viable es n e fits =
    let t = of_kind Word (codes "hash") in
    viable_front (spell_part (ToEqual es n e)) t
    (method_viable es n e t method.Hash (fits.0, fits.1, fits.2, refl, refl))

-- the entries with one more integer
pub next_fits : (es : Entries) (o : Opening) (is : Integers) (c t : Lexeme) → FitsPart (ToComma es o is c)
    → t.kind ≡ Integer → Fits (Then es o (Next is c t))
next_fits es o is c t fits kind = (fits.0, fits.1, grind arith)

pub part_viable : (p : Part) → FitsPart p → IsViable (spell_part p)
unfolding of_kind
part_viable (Whole es) fits = whole_viable es fits
part_viable (ToName es n) fits =
    let t = of_kind Equal [] in
    viable_front (spell_part (ToName es n)) t (equal_viable es n t (fits.0, fits.1, refl))
part_viable (ToEqual es n e) fits = equal_viable es n e fits
part_viable (ToMethod es n e w m) fits = method_viable es n e w m fits
part_viable (ToColon es o) fits = colon_viable es o fits
part_viable (ToComma es o is c) fits =
    let t = of_kind Integer [] in
    viable_front (spell_part (ToComma es o is c)) t
    (whole_viable (Then es o (Next is c t)) (next_fits es o is c t fits refl))

-- ---- one token more

module _ (vars : List Var) where
  -- an entry's name stands behind whole entries
  abbrev pub IsNamedBy : Part → Lexeme → Part → Type 0
  IsNamedBy p t (ToName es n) = (p ≡ Whole es) × (n ≡ t)
  IsNamedBy p t _ = Unit {0}

  -- the token leads to a part, behind which the reader stands
  pub record Leads (p : Part) (t : Lexeme) (s : Partial) : Type 0 where
    pub part : Part
    pub fits : FitsPart part
    pub spelled : spell_part part ≡ spell_part p ++ t ∷ []
    pub stands : s ≡ behind vars part
    pub name : IsNamedBy p t part

  abbrev pub Shows : Part → Lexeme → StrategyFault → Type 0
  Shows p t (Syntax at) = at ≡ t.at
  Shows p t fault = IsCause vars (spell_part p) t fault

  abbrev pub Moves : Part → Lexeme → Result Partial StrategyFault → Type 0
  Moves p t (Ok s) = Leads p t s
  Moves p t (Err fault) = Shows p t fault

  leads : (p q : Part) (t : Lexeme) → FitsPart q → spell_part q ≡ spell_part p ++ t ∷ [] → IsNamedBy p t q
      → Moves p t (Ok (behind vars q))
  leads p q t fits spelled name = grind arith

  shows : (p : Part) (t : Lexeme) (fault : StrategyFault) → IsCaused vars (spell_part p) t fault → Shows p t fault
  shows p t fault c = grind arith

  judged_moves : (p q : Part) (t : Lexeme) (rules : Type 0) (r : Result Partial StrategyFault) → FitsPart q
      → spell_part q ≡ spell_part p ++ t ∷ [] → IsNamedBy p t q
      → layer.Judged (IsCaused vars (spell_part p) t) rules r (behind vars q) → Moves p t r
  judged_moves p q t rules r fits spelled name h = grind (arith, leads, shows)

  -- a comma behind integers
  comma_moves : (es : Entries) (o : Opening) (is : Integers) (t : Lexeme) → Fits (Then es o is) → t.kind ≡ Comma
      → (m : Method) → o.method ≡ m
      → Moves (Whole (Then es o is)) t (step_by vars (behind vars (Whole (Then es o is))) t Comma)
  comma_moves es o is t fits kind method.Hash hash = rw hash refl
  comma_moves es o is t fits kind method.Cut cut = search (comma_step, leads)

  part_moves : (p : Part) (t : Lexeme) (k : Kind) → t.kind ≡ k → FitsPart p → KeepsPart vars p
      → Moves p t (step_by vars (behind vars p) t k)
  part_moves (Whole es) t Word kind fits kept =
      judged_moves (Whole es) (ToName es t) t _ _ (fits, kind) refl (refl, refl)
      (name_judged vars es fits (known_whole vars es kept) t kind)
  part_moves (Whole NoEntry) t Comma kind fits kept = refl
  part_moves (Whole (Then es o is)) t Comma kind fits kept = comma_moves es o is t fits kind o.method refl
  part_moves (Whole es) t k kind fits kept = grind (arith, common_steps, ended_judged, shows)
  part_moves (ToName es n) t Equal kind fits kept =
      leads (ToName es n) (ToEqual es n t) t (fits.0, fits.1, kind) refl tt
  part_moves (ToName es n) t _ kind fits kept = refl
  part_moves (ToEqual es n e) t Word kind fits kept =
      elim (cases_Option (method_of t.text)) [
        | inl none ↦ rw (chosen_by vars (head_of vars n) t, none) refl
        | inr found ↦
            judged_moves (ToEqual es n e) (ToMethod es n e t found.0) t _ _ (fits.0, fits.1, fits.2, kind, found.1) refl
            tt (method_judged vars es n e fits t found.0 kind found.1)
      ]
  part_moves (ToEqual es n e) t _ kind fits kept = refl
  part_moves (ToMethod es n e w m) t Colon kind fits kept =
      leads (ToMethod es n e w m) (ToColon es (record { name = n; equal = e; word = w; method = m; colon = t })) t
      (fits.0, (fits.1, fits.2, fits.3, fits.4, kind)) refl tt
  part_moves (ToMethod es n e w m) t _ kind fits kept = refl
  part_moves (ToColon es o) t Integer kind fits kept =
      judged_moves (ToColon es o) (Whole (Then es o (First t))) t _ _ (fits.0, fits.1, kind) refl tt
      (first_judged vars es o fits t kind)
  part_moves (ToColon es o) t k kind fits kept = grind arith
  part_moves (ToComma es o is c) t Integer kind fits kept =
      judged_moves (ToComma es o is c) (Whole (Then es o (Next is c t))) t _ _
      (next_fits es o is c t fits kind) refl tt
      (next_judged vars es o is c fits t kind)
  part_moves (ToComma es o is c) t _ kind fits kept = refl

  -- behind every part
  pub moves : (p : Part) (t : Lexeme) → FitsPart p → KeepsPart vars p → Moves p t (step vars (behind vars p) t)
  moves p t fits kept = rw (stepped vars (behind vars p) t t.kind refl) (part_moves p t t.kind refl fits kept)
