use Rattle.log_reader.proofs.{GroupLemmas.plain_word_text, MarkLemmas.plain_word}
use Rattle.log_reader.proofs.plain_values.plain_text.Goals as goal

pub returns-in_ok-text-in-Some : goal.returns-in_ok-text-in-Some
returns-in_ok-text-in-Some c =
    plain_word_text c.args.at c.args.bytes.now c.in-Some.word.text.now c.in_ok-text-in-Some.text
    (plain_word c.in-Some.word c.in-Some.ensures.is c.in-Some.ensures.kind c.in-Some.ensures.at)
    c.in_ok-text-in-Some.ensures
