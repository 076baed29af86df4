use Rattle.mfotl_lex.specs.{Places.mode_behind, Blanks.blank_len, Blanks.comment_len, Numbers.integer_value}
use Rattle.mfotl_lex.specs.{Numbers.digits_value, FirstFault.run}
use Rattle.mfotl_lex.specs.Scans.{plain_scan, minus_scan, text_scan, order_scan}
use Rattle.mfotl_lex.specs.Lexemes.{next_token, after, tokens, tokens_within}
use Rattle.mfotl_lex.specs.FirstFault as layer
use Rattle.slice_strategy.specs.ChangeReading.{step, reading}
use Rattle.slice_strategy.specs.Reading as strategy
use Rattle.slice_strategy.proofs.laws.worked_changes.Goals as goal

pub returns-clause-values : goal.returns-clause-values
unfolding reading layer.reading run step strategy.step tokens tokens_within next_token after mode_behind
    plain_scan minus_scan text_scan order_scan blank_len comment_len integer_value digits_value
returns-clause-values _ = assumption

pub returns-clause-faults : goal.returns-clause-faults
unfolding reading layer.reading run step strategy.step tokens tokens_within next_token after mode_behind
    plain_scan minus_scan text_scan order_scan blank_len comment_len integer_value digits_value
returns-clause-faults _ = assumption
