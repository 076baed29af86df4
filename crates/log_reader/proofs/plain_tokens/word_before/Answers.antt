use Rattle.log_reader.proofs.TokenFronts.{word_at}
use Rattle.log_reader.proofs.plain_tokens.word_before.Goals as goal

pub returns-clause-is : goal.returns-clause-is
returns-clause-is c =
    word_at c.args.bytes.now c.args.at c.log_word_len-count.result _ c.log_word_len-count.ensures.count
    c.if-count-eq0.false c.if-count-gt-MAX_LOG_WORD.false c.if-count-bytes.false
    c.log_word_len-count.ensures.within c.split_at.ensures.front
