use Rattle.log_reader.proofs.GroupLemmas.{group_reads}
use Rattle.log_reader.proofs.groups.group_at.Goals as goal

pub returns-in-len1-up : goal.returns-in-len1-up
returns-in-len1-up c =
    group_reads _ _ _ _ _ _ _ _ c.requires.within c.split_at.ensures.back c.blank_before-blanks.ensures.is
    c.split_at-2.ensures.back
    c.in-len1-up.len_at_least c.if-mark-eq40.true c.values_at.result c.values_at.ensures
