use Rattle.log_reader.proofs.MarkLemmas.{name_takes, name_halts, plain_word}
use Rattle.log_reader.proofs.partial.Partial.take_name.Goals as goal

pub returns-in-Ok : goal.returns-in-Ok
returns-in-Ok c = λ limits.
    name_takes _ _ _ _ _ _ _
    (plain_word c.in-Some.word c.in-Some.ensures.is c.in-Some.ensures.kind c.in-Some.ensures.at) c.requires
    c.in-Ok.ensures

pub returns-in-Err : goal.returns-in-Err
returns-in-Err c = λ limits.
    name_halts _ _ _ _ _ _ _
    (plain_word c.in-Some.word c.in-Some.ensures.is c.in-Some.ensures.kind c.in-Some.ensures.at) c.requires
    c.in-Err.fault c.in-Err.ensures
