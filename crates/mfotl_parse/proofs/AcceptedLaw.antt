-- All tokens that the reader accepts are a formula.
use Rattle.std.proofs.Common.{◌≡◌, ℕ, zero, suc, ◌≤◌, Bool, true, List, [], ◌∷◌, ◌++◌, length, map, refl, ap, sym}
use Rattle.std.proofs.Common.{subst, ◌∙◌, arith}
use Rattle.std.proofs.lemmas.List.{append-nil, append_assoc}
use Rattle.mfotl_lex.specs.Lexemes.{Lexeme}
use Rattle.mfotl_model.specs.Formulas.{Form}
use Rattle.mfotl_sig.specs.Preds.{PredOf}
use Rattle.mfotl_parse.specs.declared.class.Operator.{Operator}
use Rattle.mfotl_parse.specs.declared.class.Class.TheVariants as classes
use Rattle.mfotl_parse.specs.{Classes.class_of, Intervals.any_distance, Operands.operand_move, Reading.transition}
use Rattle.mfotl_parse.specs.{Reading.is_closed, Viability.if_moved, Viability.accepts}
use Rattle.mfotl_parse.specs.Grammar.{Number, Quoted, WrittenInterval, Tree, Truth, Enclosed, interval_spelling}
use Rattle.mfotl_parse.specs.Grammar.{spelling, FitsOperator, is_shut, Fits, IsFormula, precedence, right_precedence}
use Rattle.mfotl_parse.specs.Grammar.{is_timed}
use Rattle.mfotl_parse.specs.Operators.{have_move, joined_move, enclosed_move, around, now_behind}
use Rattle.mfotl_parse.specs.Reduction.{Reduced, reduce, hold}
use Rattle.mfotl_parse.specs.States.{Frame, Parens, Moment, Left, SymbolTable, Context, nothing_read}
use Rattle.mfotl_parse.proofs.{SpelledMoves.at_place, SpelledMoves.context_at, OperatorLevels.levels}
use Rattle.mfotl_parse.proofs.AcceptedParts.{refused, Turns, Behind, Primary, compared_back, marked_one, word_one}
use Rattle.mfotl_parse.proofs.AcceptedParts.{blank_one, by_token}
use Rattle.mfotl_parse.proofs.AcceptedIntervals.{Wanting, fresh_back, push_ones, binder_back}
use Rattle.mfotl_parse.proofs.AcceptedTrees.{Held, HeldParens, HeldNot, HeldTimed, HeldBound, HeldLeft, own_tokens}
use Rattle.mfotl_parse.proofs.AcceptedTrees.{held_tokens, holds_of, wanted, FitAll, drop_tight, holds_reduced}
use Rattle.mfotl_parse.proofs.AcceptedTrees.{first_one, Closed, close}

-- the same tokens
formula_as : (ts us : List Lexeme) → ts ≡ us → IsFormula us → IsFormula ts
formula_as ts us same formula = subst IsFormula (sym same) formula

-- an operand that may stand anywhere
record Operand (tree : Tree) : Type 0 where
  fits : (rule : ℕ) → Fits rule tree
  shut : is_shut tree ≡ true

HaveLater : List PredOf → ℕ → Type 0
HaveLater sig n =
    (hs : List Held) (stack : List Frame) (tree : Tree) (ts : List Lexeme) → length ts ≤ n → FitAll hs
    → map hold stack ≡ holds_of hs → Operand tree → Behind sig stack ts
    → IsFormula (held_tokens hs ++ (spelling tree ++ ts))

WantLater : List PredOf → ℕ → Type 0
WantLater sig n =
    (hs : List Held) (ts : List Lexeme) → length ts ≤ n → FitAll hs → Wanting sig (holds_of hs) ts
    → IsFormula (held_tokens hs ++ ts)

-- ---- the end

nothing_held : (hs : List Held) → holds_of hs ≡ [] → hs ≡ []
nothing_held [] e = refl
nothing_held (HeldBound token quantifier variables dot ∷ hs) e =
    let f = first_one variables (holds_of hs) in absurd (cc (e, f.1))
nothing_held (_ ∷ hs) e = absurd cc

none_open : (stack : List Frame) → is_closed stack ≡ true → map hold stack ≡ []
none_open stack e = grind arith

heads : (m n : ℕ) (ms ns : List ℕ) → m ∷ ms ≡ n ∷ ns → m ≡ n
heads m n ms ns e = cc

-- what is held, closed for a rule, and the stack reduced for it
closed_alike : (rule : ℕ) (f : Form) (stack : List Frame) (hs : List Held) (tree : Tree) (c : Closed rule hs tree)
    → map hold stack ≡ holds_of hs → map hold (reduce rule f stack).stack ≡ holds_of c.around
closed_alike rule f stack hs tree c held = holds_reduced rule f stack ∙ ap (drop_tight rule) held ∙ c.holds

close_all : (hs : List Held) (tree : Tree) → FitAll hs → Operand tree → Closed 0 hs tree
close_all hs tree fit operand = grind (arith, close, wanted)

end_formula : (hs : List Held) (tree : Tree) (c : Closed 0 hs tree) → c.around ≡ []
    → IsFormula (held_tokens hs ++ spelling tree)
end_formula hs tree c none = grind arith

module _ (sig : List PredOf) where
  at_end : (hs : List Held) (stack : List Frame) (tree : Tree) → FitAll hs → map hold stack ≡ holds_of hs
      → Operand tree → Behind sig stack [] → IsFormula (held_tokens hs ++ (spelling tree ++ []))
  unfolding accepts
  at_end hs stack tree fit held operand b =
      let c = close_all hs tree fit operand in
      let empty : holds_of c.around ≡ [] = sym (closed_alike 0 b.form stack hs tree c held) ∙ none_open _ b.accepted in
      formula_as _ _ (ap (λ (ts : List Lexeme). held_tokens hs ++ ts) (append-nil (spelling tree)))
      (end_formula hs tree c (nothing_held c.around empty))

  -- ---- a `)`

  record Parenthesis (hs : List Held) (holds : List ℕ) : Type 0 where
    opening : Lexeme
    outer : List Held
    is : hs ≡ HeldParens opening ∷ outer
    held : holds ≡ holds_of outer

  parenthesis : (hs : List Held) (holds : List ℕ) → 0 ∷ holds ≡ holds_of hs → Parenthesis hs holds
  parenthesis [] holds e = absurd cc
  parenthesis (HeldParens opening ∷ hs) holds e = record { opening = opening; outer = hs; is = refl; held = cc }
  parenthesis (HeldNot token ∷ hs) holds e = absurd (omega (arith, heads 0 6 holds (holds_of hs) e))
  parenthesis (HeldTimed token operator interval ∷ hs) holds e = grind arith
  parenthesis (HeldBound token quantifier variables dot ∷ hs) holds e =
      let f = first_one variables (holds_of hs) in absurd (omega (arith, heads 0 1 holds f.0 (e ∙ f.1)))
  parenthesis (HeldLeft left token operator interval ∷ hs) holds e = grind arith

  timing_of : (timed : Bool) (stack : List Frame) (nodes : ℕ) (names : SymbolTable) (ts : List Lexeme)
      → accepts sig ts (at_place (now_behind timed) stack nodes names) ≡ true
      → (i : WrittenInterval) × (rest : List Lexeme) × FitsOperator timed i × (ts ≡ interval_spelling i ++ rest)
      × (length rest ≤ length ts) × Wanting sig (map hold stack) rest
  timing_of timed stack nodes names ts h = grind (arith, fresh_back)

  module _ (n : ℕ) (have : HaveLater sig n) (want : WantLater sig n) (hs : List Held) (fit : FitAll hs) where
    closes_parens : (tree : Tree) (c : Closed 0 hs tree) (t : Lexeme) (ts : List Lexeme) (stack : List Frame)
        (b : Behind sig stack ts) → length ts ≤ n → class_of t ≡ classes.CloseParen
        → Parenthesis c.around (map hold stack) → IsFormula (held_tokens hs ++ (spelling tree ++ t ∷ ts))
    unfolding HaveLater
    closes_parens tree c t ts stack b few class p =
        let fit_all : FitAll (HeldParens p.opening ∷ p.outer) = subst FitAll p.is c.fit_all in
        let fits : Fits 1 c.whole = subst (λ (xs : List Held). Fits (wanted xs) c.whole) p.is c.fits in
        formula_as _ _
        (grind (arith, append_assoc, held_tokens))
        (have p.outer stack (Enclosed p.opening c.whole t) ts few fit_all.2 p.held
        (record { fits = λ rule. (fit_all.0, fits, class); shut = refl }) b)

    at_paren : (tree : Tree) (c : Closed 0 hs tree) (t : Lexeme) (ts : List Lexeme) (p : Context) (f : Form)
        (reduced : List Frame) → length ts ≤ n → class_of t ≡ classes.CloseParen → map hold reduced ≡ holds_of c.around
        → if_moved (enclosed_move p f (around reduced)) (accepts sig ts) ≡ true
        → IsFormula (held_tokens hs ++ (spelling tree ++ t ∷ ts))
    at_paren tree c t ts p f [] few class held h = refused h _
    at_paren tree c t ts p f (Parens ∷ stack) few class held h =
        closes_parens tree c t ts stack (record { form = f; nodes = p.nodes; names = p.names; accepted = h }) few class
        (parenthesis c.around (map hold stack) held)
    at_paren tree c t ts p f (_ ∷ stack) few class held h = refused h _

    -- ---- an operator

    at_operator : (tree : Tree) (o : Operator) (t : Lexeme) (ts : List Lexeme) (p : Context) (reduced : Reduced)
        (c : Closed (precedence o) hs tree) → length ts ≤ n → class_of t ≡ classes.Operator o
        → map hold reduced.stack ≡ holds_of c.around → if_moved (joined_move p o reduced t.at) (accepts sig ts) ≡ true
        → IsFormula (held_tokens hs ++ (spelling tree ++ t ∷ ts))
    unfolding WantLater
    at_operator tree o t ts p reduced c few class held h =
        let timing = timing_of (is_timed o) (Left o any_distance reduced.form ∷ reduced.stack)
        (suc p.nodes) p.names ts h in
        formula_as _ _ (grind (arith, append_assoc, held_tokens))
        (want (HeldLeft c.whole t o timing.0 ∷ c.around) timing.1 (omega (arith, few, timing.4))
        ((c.left o refl, c.shut (levels o).least, class, timing.2), grind arith, c.fit_all)
        (subst (λ (ns : List ℕ). Wanting sig (right_precedence o ∷ ns) timing.1) held timing.5))

    have_one : (stack : List Frame) (tree : Tree) (f : Form) (nodes : ℕ) (names : SymbolTable)
        → map hold stack ≡ holds_of hs → Operand tree → Turns sig (have_move (context_at stack nodes names) f)
        (λ us. length us ≤ suc n → IsFormula (held_tokens hs ++ (spelling tree ++ us)))
    have_one stack tree f nodes names held operand t ts (classes.Operator o) class h few =
        let c = close (precedence o) (omega (arith, (levels o).most)) hs tree fit (operand.fits (wanted hs))
        (λ p e. operand.fits _) (λ some. operand.shut) in
        at_operator tree o t ts (context_at stack nodes names) (reduce (precedence o) f stack) c (omega (arith, few))
        class
        (closed_alike (precedence o) f stack hs tree c held) h
    have_one stack tree f nodes names held operand t ts classes.CloseParen class h few =
        let c = close_all hs tree fit operand in
        at_paren tree c t ts (context_at stack nodes names) (reduce 0 f stack).form (reduce 0 f stack).stack
        (omega (arith, few)) class (closed_alike 0 f stack hs tree c held) h
    have_one stack tree f nodes names held operand t ts _ class h few = refused h _

    -- ---- where an operand is due

    primary_then : (stack : List Frame) (ts : List Lexeme) → length ts ≤ suc n → map hold stack ≡ holds_of hs
        → Primary sig stack ts → IsFormula (held_tokens hs ++ ts)
    unfolding HaveLater
    primary_then stack ts few held p = grind arith

    held_then : (h : Held) (ts rest : List Lexeme) → length rest ≤ n → FitAll (h ∷ hs) → ts ≡ own_tokens h ++ rest
        → Wanting sig (holds_of (h ∷ hs)) rest → IsFormula (held_tokens hs ++ ts)
    unfolding WantLater
    held_then h ts rest few all parts w =
        formula_as _ _ (grind (arith, append_assoc, parts)) (want (h ∷ hs) rest few all w)

    want_one : (stack : List Frame) (nodes : ℕ) (names : SymbolTable) → map hold stack ≡ holds_of hs
        → Turns sig (operand_move (context_at stack nodes names))
        (λ us. length us ≤ suc n → IsFormula (held_tokens hs ++ us))
    want_one stack nodes names held t ts (classes.Truth which) class h few =
        primary_then stack (t ∷ ts) few held
        (record {
          tree = Truth t which;
          rest = ts;
          fits = λ rule. class;
          shut = refl;
          parts = refl;
          shorter = omega arith;
          behind = record { form = _; nodes = _; names = _; accepted = h };
        })
    want_one stack nodes names held t ts classes.Not class h few =
        held_then (HeldNot t) (t ∷ ts) ts (omega (arith, few)) (class, tt, fit) refl
        (record { stack = _; nodes = _; names = _; accepted = h; held = ap (λ (ns : List ℕ). 6 ∷ ns) held })
    want_one stack nodes names held t ts (classes.Temporal operator) class h few =
        let timing = fresh_back sig (Moment operator any_distance ∷ stack) (suc nodes) names ts h in
        held_then (HeldTimed t operator timing.interval) (t ∷ ts) timing.rest
        (omega (arith, few, timing.shorter)) ((class, timing.fits), tt, fit)
        (ap (λ (xs : List Lexeme). t ∷ xs) timing.parts)
        (subst (λ (ns : List ℕ). Wanting sig (6 ∷ ns) timing.rest) held timing.wanting)
    want_one stack nodes names held t ts (classes.Quantifier q) class h few =
        let r = binder_back sig q stack nodes names ts h in
        held_then (HeldBound t q r.variables r.dot) (t ∷ ts) r.rest (omega (arith, few, r.shorter))
        ((class, r.fits, r.dots), tt, fit) (grind (arith, append_assoc, r.parts))
        (subst (λ (ns : List ℕ). Wanting sig (push_ones r.variables ns) r.rest) held r.wanting)
    want_one stack nodes names held t ts classes.Name class h few =
        primary_then stack (t ∷ ts) few held
        (by_token sig (λ us. Primary sig stack (t ∷ us)) _ refl (word_one sig stack t t.at t.text nodes names class) ts
        h)
    want_one stack nodes names held t ts classes.Blank class h few =
        primary_then stack (t ∷ ts) few held
        (by_token sig (λ us. Primary sig stack (t ∷ us)) _ refl (blank_one sig stack t t.at nodes names class) ts h)
    want_one stack nodes names held t ts (classes.Integer z) class h few =
        primary_then stack (t ∷ ts) few held (compared_back sig stack (Number t z) _ ts nodes names class h)
    want_one stack nodes names held t ts classes.Text class h few =
        primary_then stack (t ∷ ts) few held (compared_back sig stack (Quoted t) _ ts nodes names class h)
    want_one stack nodes names held t ts classes.OpenParen class h few =
        held_then (HeldParens t) (t ∷ ts) ts (omega (arith, few)) (class, tt, fit) refl
        (record { stack = _; nodes = _; names = _; accepted = h; held = ap (λ (ns : List ℕ). 0 ∷ ns) held })
    want_one stack nodes names held t ts classes.Question class h few =
        primary_then stack (t ∷ ts) few held
        (by_token sig (λ us. Primary sig stack (t ∷ us)) _ refl (marked_one sig stack t t.at nodes names class) ts h)
    want_one stack nodes names held t ts _ class h few = refused h _

  -- ---- all tokens

  have_all : (n : ℕ) → ((m : ℕ) → n ≡ suc m → HaveLater sig m × WantLater sig m) → HaveLater sig n
  unfolding HaveLater accepts transition
  have_all n later hs stack tree [] few fit held operand b = at_end hs stack tree fit held operand b
  have_all zero later hs stack tree (t ∷ ts) few fit held operand b = absurd (omega (arith, few))
  have_all (suc n) later hs stack tree (t ∷ ts) few fit held operand b =
      have_one n (later n refl).0 (later n refl).1 hs fit stack tree b.form b.nodes b.names held operand t ts
      (class_of t)
      refl b.accepted few

  want_all : (n : ℕ) → ((m : ℕ) → n ≡ suc m → HaveLater sig m × WantLater sig m) → WantLater sig n
  unfolding WantLater accepts transition
  want_all n later hs [] few fit w = refused w.accepted _
  want_all zero later hs (t ∷ ts) few fit w = absurd (omega (arith, few))
  want_all (suc n) later hs (t ∷ ts) few fit w =
      want_one n (later n refl).0 (later n refl).1 hs fit w.stack w.nodes w.names w.held t ts (class_of t) refl
      w.accepted few

  all : (n : ℕ) → HaveLater sig n × WantLater sig n
  all zero = (have_all 0 (λ m e. absurd (omega (arith, e))), want_all 0 (λ m e. absurd (omega (arith, e))))
  all (suc n) = grind (arith, HaveLater, WantLater, have_all, want_all, all n)

  pub accepted_formula : (ts : List Lexeme) → accepts sig ts nothing_read ≡ true → IsFormula ts
  unfolding WantLater
  accepted_formula ts h =
      (all (length ts)).1 [] ts (omega arith) tt
      (record { stack = []; nodes = 0; names = _; accepted = h; held = refl })
