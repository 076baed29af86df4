-- Tokens that the reader accepts begin with what the grammar spells there: terms, atoms, comparisons.
use Rattle.std.proofs.Common.{◌≡◌, ℕ, zero, suc, ◌<◌, ◌≤◌, true, false, List, [], ◌∷◌, ◌++◌, length, refl, Option}
use Rattle.std.proofs.Common.{arith}
use Rattle.std.proofs.lemmas.List.{append_assoc, length-append}
use Rattle.mfotl_lex.specs.Lexemes.{Lexeme}
use Rattle.mfotl_model.specs.declared.term.Sign.{Sign}
use Rattle.mfotl_model.specs.Formulas.{Form}
use Rattle.mfotl_sig.specs.Preds.{PredOf}
use Rattle.mfotl_parse.specs.declared.{class.Class.Class, term.Side.Side}
use Rattle.mfotl_parse.specs.declared.class.Class.TheVariants as classes
use Rattle.mfotl_parse.specs.Arguments.{argument_move, first_move, taken_move, argument_marked_move}
use Rattle.mfotl_parse.specs.{Classes.class_of, Operands.word_move, Operands.blank_move, Reading.transition}
use Rattle.mfotl_parse.specs.{Reading.transition_at, Transitions.Transition}
use Rattle.mfotl_parse.specs.Grammar.{Bare, Asked, WrittenTerm, Named, Number, Quoted, WrittenArgument, Given, Hidden}
use Rattle.mfotl_parse.specs.Grammar.{WrittenArguments, LastArgument, MoreArguments, Tree, BareAtom, AtomOf, Comparison}
use Rattle.mfotl_parse.specs.Grammar.{term_spelling, argument_spelling, arguments_spelling, spelling, FitsTerm}
use Rattle.mfotl_parse.specs.Grammar.{FitsArgument, FitsArguments, IsAtomName, Fits, is_shut}
use Rattle.mfotl_parse.specs.Comparisons.{against_move, against_marked_move, compared_move, marked_move}
use Rattle.mfotl_parse.specs.States.{Frame, Call, SymbolTable, AfterOperand, ExpectSign, AfterSign, FirstArgument}
use Rattle.mfotl_parse.specs.States.{NextArgument, AfterArgument, Partial}
use Rattle.mfotl_parse.specs.Viability.{if_moved, is_whole, accepts}
use Rattle.mfotl_parse.proofs.SpelledMoves.{at_place, context_at}

pub refused : false ≡ true → (P : Type 0) → P
refused h P = absurd cc

-- tokens that are accepted behind this move of the first
abbrev pub Turns : List PredOf → (Lexeme → Class → Option Transition) → (List Lexeme → Type 0) → Type 0
Turns sig move P =
    (t : Lexeme) (ts : List Lexeme) (c : Class) → class_of t ≡ c → if_moved (move t c) (accepts sig ts) ≡ true
    → P (t ∷ ts)

-- where the text can't end, accepted tokens begin with one that the grammar goes on with
pub by_token : (sig : List PredOf) (P : List Lexeme → Type 0) (p : Partial) → is_whole p.now p.context.stack ≡ false
    → Turns sig (transition_at p.now sig p.context) P → (ts : List Lexeme) → accepts sig ts p ≡ true → P ts
unfolding accepts transition
by_token sig P p unfinished one [] h = absurd cc
by_token sig P p unfinished one (t ∷ ts) h = one t ts (class_of t) refl h

-- behind an operand, with these frames open
pub record Behind (sig : List PredOf) (stack : List Frame) (rest : List Lexeme) : Type 0 where
  pub form : Form
  pub nodes : ℕ
  pub names : SymbolTable
  pub accepted : accepts sig rest (at_place (AfterOperand form) stack nodes names) ≡ true

-- an operand that is no operator's, and what stands behind it
pub record Primary (sig : List PredOf) (stack : List Frame) (ts : List Lexeme) : Type 0 where
  pub tree : Tree
  pub rest : List Lexeme
  pub fits : (rule : ℕ) → Fits rule tree
  pub shut : is_shut tree ≡ true
  pub parts : ts ≡ spelling tree ++ rest
  pub shorter : length rest < length ts
  pub behind : Behind sig stack rest

-- a comparison's right side
record RightSide (sig : List PredOf) (stack : List Frame) (ts : List Lexeme) : Type 0 where
  right : WrittenTerm
  rest : List Lexeme
  fits : FitsTerm right
  parts : ts ≡ term_spelling right ++ rest
  shorter : length rest < length ts
  behind : Behind sig stack rest

-- arguments up to their `)`
record Inside (sig : List PredOf) (stack : List Frame) (ts : List Lexeme) : Type 0 where
  arguments : WrittenArguments
  closing : Lexeme
  rest : List Lexeme
  fits : FitsArguments arguments
  closes : class_of closing ≡ classes.CloseParen
  parts : ts ≡ arguments_spelling arguments ++ closing ∷ rest
  shorter : length rest < length ts
  behind : Behind sig stack rest

module _ (sig : List PredOf) (stack : List Frame) where
  -- ---- comparisons

  right_side : (form : Form) (nodes : ℕ) (names : SymbolTable) (right : WrittenTerm) (ts : List Lexeme)
      → FitsTerm right → accepts sig ts (at_place (AfterOperand form) stack nodes names) ≡ true
      → RightSide sig stack (term_spelling right ++ ts)
  right_side form nodes names right ts fits h = grind arith

  against_marked_one : (left : Side) (at : ℕ) (sign : Sign) (mark : Lexeme) (nodes : ℕ) (names : SymbolTable)
      → class_of mark ≡ classes.Question
      → Turns sig (against_marked_move (context_at stack nodes names) left at sign mark.at)
      (λ us. RightSide sig stack (mark ∷ us))
  against_marked_one left at sign mark nodes names marks t ts classes.Name class h =
      right_side _ _ _ (Named (Asked mark t)) ts (marks, class) h
  against_marked_one left at sign mark nodes names marks t ts _ class h = refused h _

  against_one : (left : Side) (at : ℕ) (sign : Sign) (nodes : ℕ) (names : SymbolTable)
      → Turns sig (against_move (context_at stack nodes names) left at sign) (RightSide sig stack)
  against_one left at sign nodes names t ts classes.Name class h = right_side _ _ _ (Named (Bare t)) ts class h
  against_one left at sign nodes names t ts classes.Question class h =
      by_token sig (λ us. RightSide sig stack (t ∷ us)) _ refl (against_marked_one left at sign t nodes names class) ts
      h
  against_one left at sign nodes names t ts (classes.Integer z) class h = right_side _ _ _ (Number t z) ts class h
  against_one left at sign nodes names t ts classes.Text class h = right_side _ _ _ (Quoted t) ts class h
  against_one left at sign nodes names t ts _ class h = refused h _

  -- a comparison's sign, with what stands before it
  pub sign_back : (left : WrittenTerm) (side : Side) (at : ℕ) (t : Lexeme) (sign : Sign) (ts : List Lexeme)
      (nodes : ℕ) (names : SymbolTable) → FitsTerm left → class_of t ≡ classes.Sign sign
      → accepts sig ts (at_place (AfterSign side at sign) stack nodes names) ≡ true
      → Primary sig stack (term_spelling left ++ t ∷ ts)
  sign_back left side at t sign ts nodes names fits class h =
      let r = by_token sig (RightSide sig stack) _ refl (against_one side at sign nodes names) ts h in
      record {
        tree = Comparison left t sign r.right;
        rest = r.rest;
        fits = λ rule. (fits, class, r.fits);
        shut = refl;
        parts = grind (arith, append_assoc, r.parts);
        shorter = omega (arith, r.shorter, length-append (term_spelling left) (t ∷ ts));
        behind = r.behind;
      }

  compared_one : (left : WrittenTerm) (side : Side) (nodes : ℕ) (names : SymbolTable) → FitsTerm left
      → Turns sig (compared_move (context_at stack nodes names) side)
      (λ us. Primary sig stack (term_spelling left ++ us))
  compared_one left side nodes names fits t ts c class h = grind (arith, sign_back, refused)

  pub compared_back : (left : WrittenTerm) (side : Side) (ts : List Lexeme) (nodes : ℕ) (names : SymbolTable)
      → FitsTerm left → accepts sig ts (at_place (ExpectSign side) stack nodes names) ≡ true
      → Primary sig stack (term_spelling left ++ ts)
  compared_back left side ts nodes names fits h =
      by_token sig (λ us. Primary sig stack (term_spelling left ++ us)) _ refl
      (compared_one left side nodes names fits) ts h

  pub marked_one : (mark : Lexeme) (at nodes : ℕ) (names : SymbolTable) → class_of mark ≡ classes.Question
      → Turns sig (marked_move (context_at stack nodes names) at) (λ us. Primary sig stack (mark ∷ us))
  marked_one mark at nodes names marks t ts classes.Name class h =
      compared_back (Named (Asked mark t)) _ ts nodes _ (marks, class) h
  marked_one mark at nodes names marks t ts _ class h = refused h _

  -- ---- arguments

  -- how arguments behind the first tokens are read, where at most so many tokens are left
  abbrev Later : ℕ → Type 0
  Later n = (call : Call) (ts : List Lexeme) (nodes : ℕ) (names : SymbolTable) → length ts ≤ n
      → accepts sig ts (at_place (NextArgument call) stack nodes names) ≡ true → Inside sig stack ts

  taken_one : (n : ℕ) (a : WrittenArgument) (call : Call) (nodes : ℕ) (names : SymbolTable) → Later n → FitsArgument a
      → Turns sig (taken_move (context_at stack nodes names) call)
      (λ us. length us ≤ suc n → Inside sig stack (argument_spelling a ++ us))
  taken_one n a call nodes names later fits t ts classes.CloseParen class h few =
      record {
        arguments = LastArgument a;
        closing = t;
        rest = ts;
        fits = fits;
        closes = class;
        parts = refl;
        shorter = omega (arith, length-append (argument_spelling a) (t ∷ ts));
        behind = record { form = _; nodes = _; names = _; accepted = h };
      }
  taken_one n a call nodes names later fits t ts classes.Comma class h few =
      let more = later call ts nodes names (omega (arith, few)) h in
      record {
        arguments = MoreArguments a t more.arguments;
        closing = more.closing;
        rest = more.rest;
        fits = (fits, class, more.fits);
        closes = more.closes;
        parts = grind (arith, append_assoc, more.parts);
        shorter = omega (arith, more.shorter, length-append (argument_spelling a) (t ∷ ts));
        behind = more.behind;
      }
  taken_one n a call nodes names later fits t ts _ class h few = refused h _

  taken_back : (n : ℕ) (a : WrittenArgument) (call : Call) (ts : List Lexeme) (nodes : ℕ) (names : SymbolTable)
      → Later n → length ts ≤ suc n → FitsArgument a
      → accepts sig ts (at_place (AfterArgument call) stack nodes names) ≡ true
      → Inside sig stack (argument_spelling a ++ ts)
  taken_back n a call ts nodes names later few fits h =
      by_token sig (λ us. length us ≤ suc n → Inside sig stack (argument_spelling a ++ us)) _ refl
      (taken_one n a call nodes names later fits) ts h few

  argument_marked_one : (n : ℕ) (call : Call) (mark : Lexeme) (nodes : ℕ) (names : SymbolTable) → Later n
      → class_of mark ≡ classes.Question → Turns sig (argument_marked_move (context_at stack nodes names) call mark.at)
      (λ us. length us ≤ suc n → Inside sig stack (mark ∷ us))
  argument_marked_one n call mark nodes names later marks t ts classes.Name class h few =
      taken_back n (Given (Named (Asked mark t))) _ ts nodes _ later (omega (arith, few)) (marks, class) h
  argument_marked_one n call mark nodes names later marks t ts _ class h few = refused h _

  argument_one : (n : ℕ) (call : Call) (nodes : ℕ) (names : SymbolTable) → Later n
      → Turns sig (argument_move (context_at stack nodes names) call) (λ us. length us ≤ suc n → Inside sig stack us)
  argument_one n call nodes names later t ts classes.Name class h few =
      taken_back n (Given (Named (Bare t))) _ ts nodes _ later (omega (arith, few)) class h
  argument_one n call nodes names later t ts classes.Question class h few =
      by_token sig (λ us. length us ≤ suc n → Inside sig stack (t ∷ us)) _ refl
      (argument_marked_one n call t nodes names later class) ts h (omega (arith, few))
  argument_one n call nodes names later t ts (classes.Integer z) class h few =
      taken_back n (Given (Number t z)) _ ts nodes _ later (omega (arith, few)) class h
  argument_one n call nodes names later t ts classes.Text class h few =
      taken_back n (Given (Quoted t)) _ ts nodes _ later (omega (arith, few)) class h
  argument_one n call nodes names later t ts classes.Blank class h few =
      taken_back n (Hidden t) _ ts (suc nodes) _ later (omega (arith, few)) class h
  argument_one n call nodes names later t ts _ class h few = refused h _

  next_back : (n : ℕ) → Later n
  unfolding accepts transition
  next_back n call [] nodes names few h = refused h _
  next_back zero call (t ∷ ts) nodes names few h = absurd (omega (arith, few))
  next_back (suc n) call (t ∷ ts) nodes names few h =
      argument_one n call nodes names (next_back n) t ts (class_of t) refl h few

  first_one : (name opening : Lexeme) (call : Call) (nodes : ℕ) (names : SymbolTable) → IsAtomName name
      → class_of opening ≡ classes.OpenParen
      → Turns sig (first_move (context_at stack nodes names) call) (λ us. Primary sig stack (name ∷ opening ∷ us))
  first_one name opening call nodes names named opens t ts classes.CloseParen class h =
      record {
        tree = BareAtom name opening t;
        rest = ts;
        fits = λ rule. (named, opens, class);
        shut = refl;
        parts = refl;
        shorter = omega arith;
        behind = record { form = _; nodes = _; names = _; accepted = h };
      }
  first_one name opening call nodes names named opens t ts c class h =
      let r = argument_one (length ts) call nodes names (next_back (length ts)) t ts c class h (omega arith) in
      record {
        tree = AtomOf name opening r.arguments r.closing;
        rest = r.rest;
        fits = λ rule. (named, opens, r.fits, r.closes);
        shut = refl;
        parts = grind (arith, append_assoc, r.parts);
        shorter = omega (arith, r.shorter);
        behind = r.behind;
      }

  first_back : (name opening : Lexeme) (call : Call) (ts : List Lexeme) (nodes : ℕ) (names : SymbolTable)
      → IsAtomName name → class_of opening ≡ classes.OpenParen
      → accepts sig ts (at_place (FirstArgument call) stack nodes names) ≡ true
      → Primary sig stack (name ∷ opening ∷ ts)
  first_back name opening call ts nodes names named opens h =
      by_token sig (λ us. Primary sig stack (name ∷ opening ∷ us)) _ refl
      (first_one name opening call nodes names named opens) ts h

  pub word_one : (name : Lexeme) (at : ℕ) (text : List ℕ) (nodes : ℕ) (names : SymbolTable)
      → class_of name ≡ classes.Name
      → Turns sig (word_move sig (context_at stack nodes names) at text) (λ us. Primary sig stack (name ∷ us))
  word_one name at text nodes names named t ts classes.OpenParen class h = grind (arith, first_back)
  word_one name at text nodes names named t ts (classes.Sign sign) class h =
      sign_back (Named (Bare name)) _ t.at t sign ts (suc nodes) _ named class h
  word_one name at text nodes names named t ts _ class h = refused h _

  pub blank_one : (name : Lexeme) (at nodes : ℕ) (names : SymbolTable) → class_of name ≡ classes.Blank
      → Turns sig (λ t. blank_move sig (context_at stack nodes names) at) (λ us. Primary sig stack (name ∷ us))
  blank_one name at nodes names named t ts c class h = grind (arith, first_back, refused)
