use Rattle.std.proofs.Common.{◌∙◌, ◌++◌, option_to_list, ap}
use Rattle.verdict_merge.proofs.MergedLists.{alone}
use Rattle.verdict_merge.proofs.merge.only.Goals as goal

pub returns-in-Some : goal.returns-in-Some
returns-in-Some c =
    alone c.args.lists.items c.pop.new.self.items c.in-Some.list c.requires
    (c.pop.ensures.items ∙ ap (λ o. c.pop.new.self.items ++ option_to_list o) c.in-Some.is)
