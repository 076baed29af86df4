use Rattle.std.proofs.Common.{rules, ◌∙◌, arith, refl}
use Rattle.std.proofs.lemmas.Iterator.{YieldsList-from_map, YieldsList-from_range, YieldsList-from_zip}
use Rattle.std.proofs.lemmas.Iterator.{items_from_collect}
use Rattle.std.proofs.{lemmas.Iterator.Adapters.YieldsList-from_vec, lemmas.Iterator.Consumers.YieldsList-at}
use Rattle.state_split.proofs.ShareLemmas.{each_numbered}
use Rattle.state_split.proofs.split.pieces_of.Goals as goal

pub returns : goal.returns
returns g c =
    let n = c.workers-workers.result in
    let states = c.in_ok-states.states in
    each_numbered n _ _ _ (λ e. record {
      generation = c.args.generation;
      from = c.args.from;
      to = e.0;
      count = c.workers-count.result;
      state = e.1;
    }) states.items c.collect.result c.workers-workers.ensures.count
    (items_from_collect _ c.collect.ensures.ran
    (YieldsList-from_map _ _
    (YieldsList-at c.map.ensures.source
    (YieldsList-from_zip (YieldsList-from_range 0 n n c.zip.ensures.first (omega arith))
    (YieldsList-from_vec states.items c.zip.ensures.second.0 (c.zip.ensures.second.1 ∙ states.ok.0))))
    c.map.ensures.closure (λ x y q k. search rules)))
    (λ to x is. (
      record { generation = refl; from = refl; to = refl; count = c.workers-count.ensures.count },
      is,
    ))
    c.in_ok-states.ensures
