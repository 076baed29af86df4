-- More bytes never change a token or a fault that is shown.
use Rattle.std.specs.Prelude.{◌≡◌, ℕ, zero, suc, Bool, false, List, ◌++◌, length, Option, Some, None, Result, Ok, Err}
use Rattle.mfotl_lex.specs.declared.fault.LexFault.{LexFault}
use Rattle.mfotl_lex.specs.Places.{Place}
use Rattle.mfotl_lex.specs.Lexemes.{Lexeme, Tokens, next_token, after, tokens}

-- the place with more bytes behind its own; `ended` says whether these are all
abbrev pub grown : Place → List ℕ → Bool → Place
grown p more ended = record { mode = p.mode; at = p.at; rest = p.rest ++ more; ended = ended }

-- how a place whose end isn't told reads on with more bytes
pub record ReadsOn (p : Place) (more : List ℕ) (ended : Bool) : Type 0 where
  -- a token stays, and so does what stands behind it
  pub token : (t : Lexeme) → next_token p ≡ Ok (Some t) → next_token (grown p more ended) ≡ Ok (Some t)
  pub behind : (t : Lexeme) → next_token p ≡ Ok (Some t) → after (grown p more ended) ≡ grown (after p) more ended
  -- a fault stays
  pub fault : (f : LexFault) → next_token p ≡ Err f → next_token (grown p more ended) ≡ Err f
  -- the bytes up to where nothing was shown aren't needed again
  pub none : next_token p ≡ Ok None → tokens (grown p more ended) ≡ tokens (grown (after p) more ended)

-- where reading stops: before a fault, or where nothing further is shown
abbrev pub stop_or : Result (Option Lexeme) LexFault → Place → Place → Place
stop_or (Ok (Some t)) here further = further
stop_or (Ok None) here further = here
stop_or (Err fault) here further = here

-- the same behind at most n tokens
unfoldable pub stopped_within : ℕ → Place → Place
stopped_within zero p = p
stopped_within (suc n) p = stop_or (next_token p) (after p) (stopped_within n (after p))

-- behind all tokens: each takes a byte
unfoldable pub stopped : Place → Place
stopped p = stopped_within (suc (length p.rest)) p

-- tokens, and those behind them, unless a fault stands between
abbrev pub joined_at : Option LexFault → List Lexeme → Tokens → Tokens
joined_at None list more = record { list = list ++ more.list; fault = more.fault }
joined_at (Some fault) list more = record { list = list; fault = Some fault }

-- the same of all that a place shows
abbrev pub tokens_joined : Tokens → Tokens → Tokens
tokens_joined front more = joined_at front.fault front.list more

-- the place reads on so, and its tokens stay
abbrev pub MoreBytesChangeNothing : Type 0
MoreBytesChangeNothing = (p : Place) (more : List ℕ) (ended : Bool) → p.ended ≡ false →
    ReadsOn p more ended
    × (tokens (grown p more ended) ≡ tokens_joined (tokens p) (tokens (grown (stopped p) more ended)))
