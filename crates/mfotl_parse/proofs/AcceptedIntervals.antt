-- Intervals and quantified variables at the head of tokens that the reader accepts.
use Rattle.std.proofs.Common.{◌≡◌, ℕ, ℤ, zero, suc, ◌<◌, ◌≤◌, pos, negsuc, true, List, [], ◌∷◌, ◌++◌, length, map}
use Rattle.std.proofs.Common.{Option, Some, None, refl, ap, sym, ◌∙◌, arith}
use Rattle.std.proofs.lemmas.List.{append_assoc, length-append}
use Rattle.mfotl_lex.specs.Lexemes.{Lexeme}
use Rattle.mfotl_model.specs.declared.interval.Interval.{Interval}
use Rattle.mfotl_sig.specs.Preds.{PredOf}
use Rattle.mfotl_parse.specs.declared.{class.Class.Class, class.Quantifier.Quantifier}
use Rattle.mfotl_parse.specs.declared.class.Class.TheVariants as classes
use Rattle.mfotl_parse.specs.{Classes.class_of, Classes.unit_of, Operands.fresh_move, Reading.transition}
use Rattle.mfotl_parse.specs.{Reading.transition_at, Reduction.hold, Viability.if_moved, Viability.accepts}
use Rattle.mfotl_parse.specs.Grammar.{WrittenVariable, Bare, Asked, WrittenVariables, LastVariable, MoreVariables}
use Rattle.mfotl_parse.specs.Grammar.{WrittenBound, Count, Counted, WrittenEnd, Included, Excluded, Unbounded}
use Rattle.mfotl_parse.specs.Grammar.{WrittenInterval, From, Above, variable_spelling, variables_spelling}
use Rattle.mfotl_parse.specs.Grammar.{bound_spelling, end_spelling, interval_spelling, FitsVariable, FitsVariables}
use Rattle.mfotl_parse.specs.Grammar.{FitsBound, FitsEnd, FitsInterval}
use Rattle.mfotl_parse.specs.Intervals.{with_interval, low_move, low_unit, low_number_move, low_done_move, high_move}
use Rattle.mfotl_parse.specs.Intervals.{high_unit, high_number_move, bracket, endless_move}
use Rattle.mfotl_parse.specs.Lookahead.{maybe_move, maybe_number_move, maybe_word, maybe_unit, maybe_low}
use Rattle.mfotl_parse.specs.Quantifiers.{binder_move, binder_marked_move, bound_move}
use Rattle.mfotl_parse.specs.States.{Frame, Parens, Binding, SymbolTable, Partial, ExpectOperand, AfterTemporal}
use Rattle.mfotl_parse.specs.States.{ExpectVariable, AfterVariable, ExpectSign, ExpectHigh}
use Rattle.mfotl_parse.proofs.{SpelledForms.number_side, SpelledMoves.at_place, SpelledMoves.context_at}
use Rattle.mfotl_parse.proofs.AcceptedParts.{refused, Turns, by_token}

-- where an operand is due, behind frames that hold so tightly
pub record Wanting (sig : List PredOf) (holds : List ℕ) (rest : List Lexeme) : Type 0 where
  pub stack : List Frame
  pub nodes : ℕ
  pub names : SymbolTable
  pub accepted : accepts sig rest (at_place ExpectOperand stack nodes names) ≡ true
  pub held : map hold stack ≡ holds

-- ---- intervals

record UpTo (sig : List PredOf) (holds : List ℕ) (ts : List Lexeme) : Type 0 where
  end : WrittenEnd
  rest : List Lexeme
  fits : FitsEnd end
  parts : ts ≡ end_spelling end ++ rest
  shorter : length rest < length ts
  wanting : Wanting sig holds rest

record FromLow (sig : List PredOf) (holds : List ℕ) (ts : List Lexeme) : Type 0 where
  low : WrittenBound
  comma : Lexeme
  end : WrittenEnd
  rest : List Lexeme
  fits : FitsBound low
  commas : class_of comma ≡ classes.Comma
  fits_end : FitsEnd end
  parts : ts ≡ (bound_spelling low ++ comma ∷ end_spelling end) ++ rest
  shorter : length rest < length ts
  wanting : Wanting sig holds rest

-- an interval or none, and an operand behind it
pub record Timing (sig : List PredOf) (holds : List ℕ) (ts : List Lexeme) : Type 0 where
  pub interval : WrittenInterval
  pub rest : List Lexeme
  pub fits : FitsInterval interval
  pub parts : ts ≡ interval_spelling interval ++ rest
  pub shorter : length rest ≤ length ts
  pub wanting : Wanting sig holds rest

module _ (sig : List PredOf) (stack : List Frame) (nodes : ℕ) (names : SymbolTable) where
  up_to : (end : WrittenEnd) (i : Interval) (ts : List Lexeme) → FitsEnd end
      → accepts sig ts (at_place ExpectOperand (with_interval i stack) nodes names) ≡ true
      → UpTo sig (map hold stack) (end_spelling end ++ ts)
  up_to end i ts fits h = grind arith

  bracket_one : (high : WrittenBound) (at low top : ℕ) → FitsBound high
      → Turns sig (λ t. bracket (context_at stack nodes names) at low top)
      (λ us. UpTo sig (map hold stack) (bound_spelling high ++ us))
  bracket_one high at low top fits t ts classes.CloseBracket class h =
      rw (← append_assoc (bound_spelling high) (t ∷ []) ts) (up_to (Included high t) _ ts (fits, class) h)
  bracket_one high at low top fits t ts classes.CloseParen class h =
      rw (← append_assoc (bound_spelling high) (t ∷ []) ts) (up_to (Excluded high t) _ ts (fits, class) h)
  bracket_one high at low top fits t ts _ class h = refused h _

  high_units : (token unit : Lexeme) (at low number_at n : ℕ) (ts : List Lexeme) (seconds : Option ℕ)
      → class_of token ≡ classes.Integer (pos n) → class_of unit ≡ classes.Name → unit_of unit.text ≡ seconds
      → if_moved (high_unit (context_at stack nodes names) at low number_at n seconds) (accepts sig ts) ≡ true
      → UpTo sig (map hold stack) (token ∷ unit ∷ ts)
  high_units token unit at low number_at n ts None number class lasts h = refused h _
  high_units token unit at low number_at n ts (Some seconds) number class lasts h =
      by_token sig (λ us. UpTo sig (map hold stack) (token ∷ unit ∷ us)) _ refl
      (bracket_one (Counted token n unit seconds) at low _ (number, class, lasts)) ts h

  high_number_one : (token : Lexeme) (at low n : ℕ) → class_of token ≡ classes.Integer (pos n)
      → Turns sig (high_number_move (context_at stack nodes names) at low token.at n)
      (λ us. UpTo sig (map hold stack) (token ∷ us))
  high_number_one token at low n number t ts classes.Name class h = search (high_units)
  high_number_one token at low n number t ts c class h = bracket_one (Count token n) at low n number t ts c class h

  endless_one : (star : Lexeme) (low : ℕ) → class_of star ≡ classes.Star
      → Turns sig (λ t. endless_move (context_at stack nodes names) low) (λ us. UpTo sig (map hold stack) (star ∷ us))
  endless_one star low stars t ts classes.CloseParen class h = up_to (Unbounded star t) _ ts (stars, class) h
  endless_one star low stars t ts _ class h = refused h _

  high_one : (at low : ℕ) → Turns sig (high_move (context_at stack nodes names) at low) (UpTo sig (map hold stack))
  high_one at low t ts (classes.Integer (pos n)) class h =
      by_token sig (λ us. UpTo sig (map hold stack) (t ∷ us)) _ refl (high_number_one t at low n class) ts h
  high_one at low t ts classes.Star class h =
      by_token sig (λ us. UpTo sig (map hold stack) (t ∷ us)) _ refl (endless_one t low class) ts h
  high_one at low t ts _ class h = refused h _

  -- a lower bound, its comma and the rest
  comma_back : (low : WrittenBound) (at from : ℕ) (t : Lexeme) (ts : List Lexeme) → FitsBound low → class_of t
      ≡ classes.Comma → accepts sig ts (at_place (ExpectHigh at from) stack nodes names) ≡ true
      → FromLow sig (map hold stack) (bound_spelling low ++ t ∷ ts)
  comma_back low at from t ts fits class h =
      let u = by_token sig (UpTo sig (map hold stack)) _ refl (high_one at from) ts h in
      record {
        low = low;
        comma = t;
        end = u.end;
        rest = u.rest;
        fits = fits;
        commas = class;
        fits_end = u.fits;
        parts = grind (arith, append_assoc, u.parts);
        shorter = omega (arith, u.shorter, length-append (bound_spelling low) (t ∷ ts));
        wanting = u.wanting;
      }

  low_done_one : (low : WrittenBound) (at from : ℕ) → FitsBound low
      → Turns sig (λ t. low_done_move (context_at stack nodes names) at from)
      (λ us. FromLow sig (map hold stack) (bound_spelling low ++ us))
  low_done_one low at from fits t ts c class h = grind (arith, comma_back, refused)

  low_units : (token unit : Lexeme) (at number_at n : ℕ) (ts : List Lexeme) (seconds : Option ℕ) → class_of token
      ≡ classes.Integer (pos n) → class_of unit ≡ classes.Name → unit_of unit.text ≡ seconds
      → if_moved (low_unit (context_at stack nodes names) at number_at n seconds) (accepts sig ts) ≡ true
      → FromLow sig (map hold stack) (token ∷ unit ∷ ts)
  low_units token unit at number_at n ts None number class lasts h = refused h _
  low_units token unit at number_at n ts (Some seconds) number class lasts h =
      by_token sig (λ us. FromLow sig (map hold stack) (token ∷ unit ∷ us)) _ refl
      (low_done_one (Counted token n unit seconds) at _ (number, class, lasts)) ts h

  low_number_one : (token : Lexeme) (at n : ℕ) → class_of token ≡ classes.Integer (pos n)
      → Turns sig (low_number_move (context_at stack nodes names) at token.at n)
      (λ us. FromLow sig (map hold stack) (token ∷ us))
  low_number_one token at n number t ts classes.Comma class h = grind (arith, comma_back (Count token n))
  low_number_one token at n number t ts classes.Name class h = search (low_units)
  low_number_one token at n number t ts _ class h = refused h _

  low_one : (at : ℕ) → Turns sig (low_move (context_at stack nodes names) at) (FromLow sig (map hold stack))
  low_one at t ts (classes.Integer (pos n)) class h =
      by_token sig (λ us. FromLow sig (map hold stack) (t ∷ us)) _ refl (low_number_one t at n class) ts h
  low_one at t ts _ class h = refused h _

-- ---- behind a temporal operator

-- a token of this class
accepts_is : (sig : List PredOf) (p : Partial) (t : Lexeme) (ts : List Lexeme) (c : Class) → class_of t ≡ c
    → accepts sig (t ∷ ts) p ≡ if_moved (transition_at p.now sig p.context t c) (accepts sig ts)
unfolding accepts transition
accepts_is sig p t ts c e = ap (λ (x : Class). if_moved (transition_at p.now sig p.context t x) (accepts sig ts)) e

module _ (sig : List PredOf) (stack : List Frame) (nodes : ℕ) (names : SymbolTable) where
  no_interval : (ts : List Lexeme) → accepts sig ts (at_place ExpectOperand stack nodes names) ≡ true
      → Timing sig (map hold stack) ts
  no_interval ts h = grind arith

  from_low : (interval : WrittenInterval) (t : Lexeme) (ts : List Lexeme) (f : FromLow sig (map hold stack) ts)
      → FitsInterval interval → interval_spelling interval ≡ t ∷ (bound_spelling f.low ++ f.comma ∷ end_spelling f.end)
      → Timing sig (map hold stack) (t ∷ ts)
  from_low interval t ts f fits spelled = grind arith

  from_paren : (t : Lexeme) (ts : List Lexeme) → class_of t ≡ classes.OpenParen → FromLow sig (map hold stack) ts
      → Timing sig (map hold stack) (t ∷ ts)
  from_paren t ts class f = from_low (Above t f.low f.comma f.end) t ts f (class, f.fits, f.commas, f.fits_end) refl

  maybe_units : (t number unit : Lexeme) (at number_at n : ℕ) (ts : List Lexeme) (seconds : Option ℕ) → class_of t
      ≡ classes.OpenParen → class_of number ≡ classes.Integer (pos n) → class_of unit ≡ classes.Name
      → unit_of unit.text ≡ seconds
      → if_moved (maybe_unit (context_at stack nodes names) at number_at n seconds) (accepts sig ts) ≡ true
      → Timing sig (map hold stack) (t ∷ number ∷ unit ∷ ts)
  maybe_units t number unit at number_at n ts None opens counts class lasts h = refused h _
  maybe_units t number unit at number_at n ts (Some seconds) opens counts class lasts h =
      from_paren t (number ∷ unit ∷ ts) opens
      (by_token sig (λ us. FromLow sig (map hold stack) (number ∷ unit ∷ us)) _ refl
      (low_done_one sig stack nodes names (Counted number n unit seconds) at _ (counts, class, lasts)) ts h)

  maybe_words : (t number unit : Lexeme) (at number_at : ℕ) (z : ℤ) (ts : List Lexeme) → class_of t
      ≡ classes.OpenParen → class_of number ≡ classes.Integer z → class_of unit ≡ classes.Name
      → if_moved (maybe_word (context_at stack nodes names) at number_at z unit.text) (accepts sig ts) ≡ true
      → Timing sig (map hold stack) (t ∷ number ∷ unit ∷ ts)
  maybe_words t number unit at number_at z ts opens counts class h = grind (arith, pos, maybe_units, negsuc, refused)

  maybe_commas : (t number comma : Lexeme) (at number_at : ℕ) (z : ℤ) (ts : List Lexeme) → class_of t
      ≡ classes.OpenParen → class_of number ≡ classes.Integer z → class_of comma ≡ classes.Comma
      → if_moved (maybe_low (context_at stack nodes names) at number_at z) (accepts sig ts) ≡ true
      → Timing sig (map hold stack) (t ∷ number ∷ comma ∷ ts)
  maybe_commas t number comma at number_at (pos n) ts opens counts class h =
      from_paren t (number ∷ comma ∷ ts) opens
      (comma_back sig stack nodes names (Count number n) at _ comma ts counts class h)
  maybe_commas t number comma at number_at (negsuc n) ts opens counts class h = refused h _

  maybe_numbers : (t number : Lexeme) (z : ℤ) → class_of t ≡ classes.OpenParen → class_of number ≡ classes.Integer z
      → Turns sig (maybe_number_move (context_at stack nodes names) t.at number.at z)
      (λ us. Timing sig (map hold stack) (t ∷ number ∷ us))
  maybe_numbers t number z opens counts next ts classes.Comma class h = search (maybe_commas)
  maybe_numbers t number z opens counts next ts classes.Name class h = search (maybe_words)
  maybe_numbers t number z opens counts next ts (classes.Sign sign) class h =
      no_interval (t ∷ number ∷ next ∷ ts)
      (accepts_is sig (at_place ExpectOperand stack nodes names) t (number ∷ next ∷ ts) classes.OpenParen opens
      ∙ accepts_is sig (at_place ExpectOperand (Parens ∷ stack) nodes names) number (next ∷ ts)
      (classes.Integer z) counts
      ∙ accepts_is sig (at_place (ExpectSign (number_side number.at z)) (Parens ∷ stack) nodes names) next ts
      (classes.Sign sign) class
      ∙ h)
  maybe_numbers t number z opens counts next ts _ class h = refused h _

  maybe_one : (t : Lexeme) → class_of t ≡ classes.OpenParen
      → Turns sig (maybe_move (context_at stack nodes names) t.at) (λ us. Timing sig (map hold stack) (t ∷ us))
  maybe_one t opens u ts (classes.Integer z) class h =
      by_token sig (λ us. Timing sig (map hold stack) (t ∷ u ∷ us)) _ refl (maybe_numbers t u z opens class) ts h
  maybe_one t opens u ts c class h =
      no_interval (t ∷ u ∷ ts)
      (accepts_is sig (at_place ExpectOperand stack nodes names) t (u ∷ ts) classes.OpenParen opens
      ∙ accepts_is sig (at_place ExpectOperand (Parens ∷ stack) nodes names) u ts c class
      ∙ sym (grind arith) ∙ h)

  fresh_one : Turns sig (fresh_move (context_at stack nodes names)) (Timing sig (map hold stack))
  fresh_one t ts classes.OpenBracket class h =
      let f = by_token sig (FromLow sig (map hold stack)) _ refl (low_one sig stack nodes names t.at) ts h in
      from_low (From t f.low f.comma f.end) t ts f (class, f.fits, f.commas, f.fits_end) refl
  fresh_one t ts classes.OpenParen class h =
      by_token sig (λ us. Timing sig (map hold stack) (t ∷ us)) _ refl (maybe_one t class) ts h
  fresh_one t ts c class h =
      no_interval (t ∷ ts) (accepts_is sig (at_place ExpectOperand stack nodes names) t ts c class ∙ h)

  pub fresh_back : (ts : List Lexeme) → accepts sig ts (at_place AfterTemporal stack nodes names) ≡ true
      → Timing sig (map hold stack) ts
  fresh_back ts h = by_token sig (Timing sig (map hold stack)) _ refl fresh_one ts h

-- ---- quantified variables

-- behind so many variables of a quantifier
abbrev pub push_ones : WrittenVariables → List ℕ → List ℕ
push_ones (LastVariable v) holds = 1 ∷ holds
push_ones (MoreVariables v comma rest) holds = push_ones rest (1 ∷ holds)

pub record Quantifying (sig : List PredOf) (holds : List ℕ) (ts : List Lexeme) : Type 0 where
  pub variables : WrittenVariables
  pub dot : Lexeme
  pub rest : List Lexeme
  pub fits : FitsVariables variables
  pub dots : class_of dot ≡ classes.Dot
  pub parts : ts ≡ variables_spelling variables ++ dot ∷ rest
  pub shorter : length rest < length ts
  pub wanting : Wanting sig (push_ones variables holds) rest

module _ (sig : List PredOf) (q : Quantifier) where
  abbrev LaterVariables : ℕ → Type 0
  LaterVariables n = (stack : List Frame) (nodes : ℕ) (names : SymbolTable) (ts : List Lexeme) → length ts ≤ n
      → accepts sig ts (at_place (ExpectVariable q) stack nodes names) ≡ true → Quantifying sig (map hold stack) ts

  bound_one : (n : ℕ) (x : WrittenVariable) (variable : ℕ) (name : List ℕ) (stack : List Frame) (nodes : ℕ)
      (names : SymbolTable) → LaterVariables n → FitsVariable x
      → Turns sig (λ t. bound_move (context_at (Binding q variable name ∷ stack) nodes names) q)
      (λ us. length us ≤ suc n → Quantifying sig (map hold stack) (variable_spelling x ++ us))
  bound_one n x variable name stack nodes names later fits t ts classes.Comma class h few =
      let more = later (Binding q variable name ∷ stack) nodes names ts (omega (arith, few)) h in
      record {
        variables = MoreVariables x t more.variables;
        dot = more.dot;
        rest = more.rest;
        fits = (fits, class, more.fits);
        dots = more.dots;
        parts = grind (arith, append_assoc, more.parts);
        shorter = omega (arith, more.shorter, length-append (variable_spelling x) (t ∷ ts));
        wanting = more.wanting;
      }
  bound_one n x variable name stack nodes names later fits t ts classes.Dot class h few =
      record {
        variables = LastVariable x;
        dot = t;
        rest = ts;
        fits = fits;
        dots = class;
        parts = refl;
        shorter = omega (arith, length-append (variable_spelling x) (t ∷ ts));
        wanting = record { stack = _; nodes = _; names = _; accepted = h; held = refl };
      }
  bound_one n x variable name stack nodes names later fits t ts _ class h few = refused h _

  bound_back : (n : ℕ) (x : WrittenVariable) (variable : ℕ) (name : List ℕ) (stack : List Frame) (nodes : ℕ)
      (names : SymbolTable) (ts : List Lexeme) → LaterVariables n → length ts ≤ suc n → FitsVariable x
      → accepts sig ts (at_place (AfterVariable q) (Binding q variable name ∷ stack) nodes names) ≡ true
      → Quantifying sig (map hold stack) (variable_spelling x ++ ts)
  bound_back n x variable name stack nodes names ts later few fits h =
      by_token sig (λ us. length us ≤ suc n → Quantifying sig (map hold stack) (variable_spelling x ++ us)) _ refl
      (bound_one n x variable name stack nodes names later fits) ts h few

  binder_marked_one : (n : ℕ) (mark : Lexeme) (stack : List Frame) (nodes : ℕ) (names : SymbolTable)
      → LaterVariables n → class_of mark ≡ classes.Question
      → Turns sig (binder_marked_move (context_at stack nodes names) q)
      (λ us. length us ≤ suc n → Quantifying sig (map hold stack) (mark ∷ us))
  binder_marked_one n mark stack nodes names later marks t ts classes.Name class h few =
      bound_back n (Asked mark t) _ _ stack nodes _ ts later (omega (arith, few)) (marks, class) h
  binder_marked_one n mark stack nodes names later marks t ts _ class h few = refused h _

  binder_one : (n : ℕ) (stack : List Frame) (nodes : ℕ) (names : SymbolTable) → LaterVariables n
      → Turns sig (binder_move (context_at stack nodes names) q)
      (λ us. length us ≤ suc n → Quantifying sig (map hold stack) us)
  binder_one n stack nodes names later t ts classes.Name class h few =
      bound_back n (Bare t) _ _ stack (suc nodes) _ ts later (omega (arith, few)) class h
  binder_one n stack nodes names later t ts classes.Question class h few =
      by_token sig (λ us. length us ≤ suc n → Quantifying sig (map hold stack) (t ∷ us)) _ refl
      (binder_marked_one n t stack (suc nodes) names later class) ts h (omega (arith, few))
  binder_one n stack nodes names later t ts _ class h few = refused h _

  binder_fuel : (n : ℕ) → LaterVariables n
  unfolding accepts transition
  binder_fuel n stack nodes names [] few h = refused h _
  binder_fuel zero stack nodes names (t ∷ ts) few h = absurd (omega (arith, few))
  binder_fuel (suc n) stack nodes names (t ∷ ts) few h =
      binder_one n stack nodes names (binder_fuel n) t ts (class_of t) refl h few

  pub binder_back : (stack : List Frame) (nodes : ℕ) (names : SymbolTable) (ts : List Lexeme)
      → accepts sig ts (at_place (ExpectVariable q) stack nodes names) ≡ true → Quantifying sig (map hold stack) ts
  binder_back stack nodes names ts h = binder_fuel (length ts) stack nodes names ts (omega arith) h
