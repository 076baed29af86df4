use Rattle.std.proofs.Common.{sym, ◌∙◌}
use Rattle.log_reader.proofs.TokenFronts.{mark_at}
use Rattle.log_reader.proofs.plain_tokens.bare_before.Goals as goal

pub returns-in-Some : goal.returns-in-Some
returns-in-Some c =
    mark_at c.args.bytes.now c.args.at c.in-Some.kind _ c.in-len1-up.len_at_least
    (sym c.log_mark.ensures ∙ c.in-Some.is) c.split_at.ensures.front
