use Rattle.std.specs.Fmt.{digits}
use Rattle.mfotl_lex.specs.{Blanks.blank_len, Blanks.comment_len, Places.mode_behind, Numbers.digits_value}
use Rattle.mfotl_lex.specs.{Numbers.integer_value}
use Rattle.mfotl_lex.specs.Lexemes.{next_token, after, tokens, tokens_within}
use Rattle.mfotl_lex.specs.Scans.{log_scan, text_scan, closed_text, text_end}
use Rattle.log_reader.specs.DemoEvents.{moments, events_behind, state_behind_all}
use Rattle.log_reader.specs.{Readings.run, Readings.reading, Steps.step, Steps.completed, ValuesRead.integer_at}
use Rattle.log_reader.proofs.laws.worked_texts.Goals as goal

pub returns-clause-values : goal.returns-clause-values
unfolding mode_behind reading run step completed integer_at tokens tokens_within next_token after log_scan
    text_scan closed_text text_end digits_value integer_value blank_len comment_len
returns-clause-values c = search

pub returns-clause-faults : goal.returns-clause-faults
unfolding mode_behind reading run step completed integer_at tokens tokens_within next_token after log_scan
    text_scan closed_text text_end digits_value integer_value blank_len comment_len
returns-clause-faults c = search

pub returns-clause-fronts : goal.returns-clause-fronts
unfolding mode_behind reading run step completed integer_at tokens tokens_within next_token after log_scan
    text_scan closed_text text_end digits_value integer_value blank_len comment_len
returns-clause-fronts c = search

pub returns-clause-prints : goal.returns-clause-prints
unfolding digits
returns-clause-prints c = search

pub returns-clause-demo : goal.returns-clause-demo
unfolding digits moments events_behind state_behind_all
returns-clause-demo c = search
