use Rattle.std.proofs.Common.{◌∙◌, rules, tests}
use Rattle.std.proofs.{lemmas.Iterator.Adapters.YieldsList-from_rev_slice, lemmas.Iterator.Search.find_from_yields_List}
use Rattle.verdict_merge.specs.Gathers.{is_generation}
use Rattle.verdict_merge.proofs.BegunLemmas.{found_back}
use Rattle.verdict_merge.proofs.gather.Gather.generation.Goals as goal

pub returns : goal.returns
returns c =
    rw (← c.self.view_is) (find_from_yields_List (is_generation c.args.number) _ _ c.find.result c.find.ensures.ran
    (YieldsList-from_rev_slice c.self.inside.begun.items cc) (λ x b q k. search (rules, tests))
    ∙ found_back c.self.inside.begun.items c.args.number c.self.invariant.apart)
