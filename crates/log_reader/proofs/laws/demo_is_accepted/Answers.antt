use Rattle.std.proofs.Common.{refl}
use Rattle.mfotl_lex.specs.{Places.mode_behind, Blanks.blank_len, Blanks.comment_len, FirstFault.run}
use Rattle.mfotl_lex.specs.Scans.{plain_scan, minus_scan, text_scan, order_scan}
use Rattle.mfotl_lex.specs.Lexemes.{next_token, after, tokens, tokens_within}
use Rattle.mfotl_lex.specs.FirstFault as layer
use Rattle.mfotl_sig.specs.Reading.{step, reading}
use Rattle.log_reader.proofs.DemoIsRead.{demo_log_is_read}
use Rattle.log_reader.proofs.laws.demo_is_accepted.Goals as goal

pub returns-clause-signature : goal.returns-clause-signature
unfolding reading layer.reading run step tokens tokens_within next_token after mode_behind
    plain_scan minus_scan text_scan order_scan blank_len comment_len
returns-clause-signature c = refl

pub returns-clause-log : goal.returns-clause-log
returns-clause-log c = demo_log_is_read
