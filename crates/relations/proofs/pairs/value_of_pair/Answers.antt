use Rattle.std.proofs.Common.{sym, ap, ◌∙◌}
use Rattle.mfotl_model.specs.Tables.{valuation}
use Rattle.relations.proofs.TwiceLemmas.{first_read, second_read}
use Rattle.relations.proofs.pairs.value_of_pair.Goals as goal

pub returns-then-is_among : goal.returns-then-is_among
returns-then-is_among c =
    let ca = c.args.columns.now in
    let ra = c.args.first.now in
    c.in_ok-value.ensures ∙ ap (λ r. valuation ca r c.args.x) c.values.ensures
    ∙ first_read ca c.args.other.now ra c.args.second.now c.args.x c.requires.sized c.args._more.now
    (sym c.is_among.ensures ∙ c.if-is_among.true)

pub returns : goal.returns
returns c =
    let cb = c.args.other.now in
    let rb = c.args.second.now in
    c.in_ok-value-2.ensures ∙ ap (λ r. valuation cb r c.args.x) c.values-2.ensures
    ∙ second_read c.args.columns.now cb c.args.first.now rb c.args.x c.requires.sized c.args._more.now c.requires.more
    (sym c.is_among.ensures ∙ c.if-is_among.false)
