use Rattle.log_reader.proofs.MarkLemmas.{front_took, front_completed, front_halted}
use Rattle.log_reader.proofs.cursor.Cursor.take_token.Goals as goal

pub returns-in-Ok-Took : goal.returns-in-Ok-Took
returns-in-Ok-Took c =
    front_took _ _ _ _ _ _ _ _ c.requires.counted c.requires.within _ _ _ c.split_at.ensures.back
    c.blank_before-blanks.ensures.is
    c.split_at-2.ensures.back c.in-Ok-Took.field-0-is c.in-Ok-Took.ensures

pub returns-in-Ok-Completed : goal.returns-in-Ok-Completed
returns-in-Ok-Completed c =
    front_completed _ _ _ _ _ _ _ _ c.requires.counted c.requires.within _ _ _ c.split_at.ensures.back
    c.blank_before-blanks.ensures.is
    c.split_at-2.ensures.back c.in-Ok-Completed.field-0-is c.in-Ok-Completed.ensures

pub returns-in-Err : goal.returns-in-Err
returns-in-Err c =
    front_halted _ _ _ _ _ _ _ _ c.requires.counted c.requires.within _ _ _ c.split_at.ensures.back
    c.blank_before-blanks.ensures.is
    c.split_at-2.ensures.back c.in-Err.fault c.in-Err.ensures
