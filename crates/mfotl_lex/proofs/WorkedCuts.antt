-- The worked texts, computed.
use Rattle.std.specs.Char.{encode_utf8}
use Rattle.std.specs.Str.{chars, is_utf8}
use Rattle.mfotl_lex.specs.{Blanks.blank_len, Blanks.comment_len, Numbers.digits_value, Numbers.integer_value}
use Rattle.mfotl_lex.specs.{Places.mode_behind, WorkedTexts.WorkedTexts}
use Rattle.mfotl_lex.specs.Lexemes.{next_token, after, tokens, tokens_within}
use Rattle.mfotl_lex.specs.Scans.{minus_scan, closed_text, text_end, text_scan, order_scan, plain_scan, log_scan}
use Rattle.std.proofs.Common.{arith}

pub worked_texts : WorkedTexts
unfolding tokens tokens_within next_token after mode_behind blank_len comment_len text_scan text_end closed_text
    plain_scan log_scan minus_scan order_scan digits_value integer_value chars encode_utf8 is_utf8
worked_texts = grind arith
