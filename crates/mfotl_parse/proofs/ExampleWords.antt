-- What a worked text's reading computes through: the reader and the lexer below it.
use Rattle.std.specs.{Char.encode_utf8, Str.is_utf8, Str.chars}
use Rattle.mfotl_lex.specs.FirstFault as layer
use Rattle.mfotl_lex.specs.{FirstFault.run, Numbers.digits_value, Numbers.integer_value, Blanks.blank_len}
use Rattle.mfotl_lex.specs.{Blanks.comment_len, Places.mode_behind}
use Rattle.mfotl_lex.specs.Lexemes.{tokens, tokens_within, next_token, after}
use Rattle.mfotl_lex.specs.Scans.{plain_scan, log_scan, minus_scan, closed_text, text_end, text_scan, order_scan}
use Rattle.mfotl_parse.specs.Classes.{word_class, operator_class, temporal_class}
use Rattle.mfotl_parse.specs.Reading.{reading, reading_on, step, transition, ended_at}
use Rattle.mfotl_parse.specs.{SymbolTable.binder_of, SymbolTable.vars_of, States.depth, Reduction.reduce}

-- to unfold this is to unfold them all
unfoldable pub whole_reading : Unit {0}
unfolding depth binder_of vars_of reading reading_on layer.reading run step transition ended_at reduce word_class
    operator_class temporal_class tokens tokens_within next_token after plain_scan log_scan minus_scan
    closed_text text_end text_scan order_scan digits_value integer_value blank_len comment_len is_utf8 chars
    encode_utf8 mode_behind
whole_reading = tt
