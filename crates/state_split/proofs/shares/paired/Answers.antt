use Rattle.std.proofs.{Common.◌∙◌, lemmas.Iterator.YieldsList-from_zip, lemmas.Iterator.items_from_collect}
use Rattle.std.proofs.{lemmas.Iterator.Adapters.YieldsList-from_vec, lemmas.Iterator.Consumers.YieldsList-at}
use Rattle.state_split.proofs.shares.paired.Goals as goal

pub returns : goal.returns
returns g c =
    items_from_collect _ c.collect.ensures.ran
    (YieldsList-from_zip
    (YieldsList-at c.zip.ensures.first
    (YieldsList-from_vec c.args.first.items c.into_iter.ensures.rest (c.into_iter.ensures.len ∙ c.args.first.ok.0)))
    (YieldsList-from_vec c.args.second.items c.zip.ensures.second.0 (c.zip.ensures.second.1 ∙ c.args.second.ok.0)))
