-- The tokens of bytes, in order, up to the first fault.
use Rattle.std.specs.Prelude.{◌≡◌, ℕ, zero, suc, ◌+◌, List, [], ◌∷◌, length, take, Option, Some, None, Result, Ok, Err}
use Rattle.mfotl_lex.specs.declared.fault.LexFault.{LexFault}
use Rattle.mfotl_lex.specs.declared.kind.Kind.{Kind}
use Rattle.mfotl_lex.specs.declared.scan.Scan.{Scan}
use Rattle.mfotl_lex.specs.declared.scan.Scan.TheVariants.{Unshown, Takes, Fails}
use Rattle.mfotl_lex.specs.declared.token.Token.{Token}
use Rattle.mfotl_lex.specs.Blanks.{blank_len}
use Rattle.mfotl_lex.specs.Scans.{scan}
use Rattle.mfotl_lex.specs.Places.{Place, further_on, in_mode, mode_behind}

-- a token, without where it lies in memory
pub record Lexeme : Type 0 where
  pub kind : Kind
  pub at : ℕ
  pub text : List ℕ

-- the same of a token that a call returned
abbrev pub lexeme : Token → Lexeme
lexeme t = record { kind = t.kind; at = t.at; text = t.text.now }

-- what a call returned, without where it lies in memory
abbrev pub seen : Result (Option Token) LexFault → Result (Option Lexeme) LexFault
seen (Ok (Some t)) = Ok (Some (lexeme t))
seen (Ok None) = Ok None
seen (Err fault) = Err fault

-- the place behind the blanks
abbrev pub past_blanks : Place → Place
past_blanks p = further_on p (blank_len p.ended p.rest)

-- what was scanned at a place: a token is the slice that begins there
abbrev pub token_at : Place → Scan → Result (Option Lexeme) LexFault
token_at p Unshown = Ok None
token_at p (Takes kind n) = Ok (Some (record { kind = kind; at = p.at; text = take n p.rest }))
token_at p (Fails fault n) = Err (record { kind = fault; at = p.at + n })

-- the next whole token, or the fault; none where neither is shown
unfoldable pub next_token : Place → Result (Option Lexeme) LexFault
next_token p = token_at (past_blanks p) (scan p.mode p.ended (past_blanks p).rest)

-- behind what was scanned, where the place behind the blanks is q
abbrev pub place_after : Place → Place → Scan → Place
place_after p q Unshown = q
place_after p q (Takes kind n) = in_mode (mode_behind q.mode kind) (further_on q n)
place_after p q (Fails fault n) = p

-- behind the next token; behind the blanks where none is shown; unchanged by a fault
unfoldable pub after : Place → Place
after p = place_after p (past_blanks p) (scan p.mode p.ended (past_blanks p).rest)

-- no token changes the mode
abbrev pub ModesStay : Type 0
ModesStay = (p : Place) → (after p).mode ≡ p.mode

-- whole tokens in order, and at most one fault behind them
pub record Tokens : Type 0 where
  pub list : List Lexeme
  pub fault : Option LexFault

-- a token, and what follows it
abbrev pub followed : Result (Option Lexeme) LexFault → Tokens → Tokens
followed (Ok (Some t)) more = record { list = t ∷ more.list; fault = more.fault }
followed (Ok None) more = record { list = []; fault = None }
followed (Err fault) more = record { list = []; fault = Some fault }

-- at most n tokens
unfoldable pub tokens_within : ℕ → Place → Tokens
tokens_within zero p = record { list = []; fault = None }
tokens_within (suc n) p = followed (next_token p) (tokens_within n (after p))

-- all tokens: each takes a byte
unfoldable pub tokens : Place → Tokens
tokens p = tokens_within (suc (length p.rest)) p
