-- A log's bytes as a text: its whole tokens, and what stands behind them.
use Rattle.std.specs.Prelude.{ℕ, List, length, take, drop, Bool, not, ◌&&◌, nat_lt, Option, Some, None, if◌then◌else◌}
use Rattle.mfotl_lex.specs.FirstFault.{Tail, Broken, End, More, Text}
use Rattle.mfotl_lex.specs.Lexemes.{Lexeme, Tokens, tokens}
use Rattle.mfotl_lex.specs.Places.{Place}
use Rattle.mfotl_lex.specs.declared.kind.Mode.TheVariants.{Log}
use Rattle.mfotl_lex.specs.declared.fault.LexFault.{LexFault}
use Rattle.log_reader.specs.declared.fault.LogFault.{LogFault}
use Rattle.log_reader.specs.declared.fault.LogFault.TheVariants.{Lex, TooLong}
use Rattle.log_reader.specs.declared.limits.Limits.{Limits}

-- whether there is a byte at the limit
abbrev pub is_long : Limits → List ℕ → Bool
is_long limits bytes = nat_lt limits.bytes (length bytes)

-- the offset `at` within the bytes that are looked at: those below the limit
abbrev pub place_at : Limits → List ℕ → Bool → ℕ → Place
place_at limits bytes ended at = record {
  mode = Log;
  at = at;
  rest = drop at (take limits.bytes bytes);
  ended = ended && not (is_long limits bytes);
}

-- the tokens of the bytes below the limit
abbrev pub tokens_of : Limits → List ℕ → Bool → Tokens
tokens_of limits bytes ended = tokens (place_at limits bytes ended 0)

-- bytes that are no token, a byte at the limit, or the end where it is told
abbrev pub tail_behind : Limits → List ℕ → Bool → Option LexFault → Tail LogFault
tail_behind limits bytes ended (Some fault) = Broken (Lex fault)
tail_behind limits bytes ended None =
    if is_long limits bytes then Broken (TooLong limits.bytes) else (if ended then End (length bytes) else More)

-- the whole tokens, and what stands behind them
abbrev pub log_text : Limits → List ℕ → Bool → Text Lexeme LogFault
log_text limits bytes ended = record {
  list = (tokens_of limits bytes ended).list;
  tail = tail_behind limits bytes ended (tokens_of limits bytes ended).fault;
}
