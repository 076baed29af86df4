use Rattle.std.proofs.Common.{◌∙◌, ap, option_map}
use Rattle.mfotl_sig.specs.Preds.{pred_of, named}
use Rattle.mfotl_sig.proofs.{NamedLemmas.is_lent, PredLemmas.lookup_named, PredLemmas.first_named}
use Rattle.mfotl_sig.proofs.signature.Signature.find.Goals as goal

pub returns-then-len-gt-FEW : goal.returns-then-len-gt-FEW
returns-then-len-gt-FEW c =
    let found =
    ap (option_map pred_of) c.get.ensures.value
    ∙ lookup_named c.self.inside.preds.entries c.args.name.now c.self.invariant
    ∙ ap (named c.args.name.now) c.self.view_is in
    let lent = is_lent c.get.result c.args.name.now c.args.self.now found in
    record { found = found; none = lent.none; name = lent.name_is; member = lent.member }

pub returns-else-len-gt-FEW : goal.returns-else-len-gt-FEW
returns-else-len-gt-FEW c =
    let found =
    ap (option_map pred_of) c.first_named.ensures
    ∙ first_named c.self.inside.preds.entries c.args.name.now
    ∙ ap (named c.args.name.now) c.self.view_is in
    let lent = is_lent c.first_named.result c.args.name.now c.args.self.now found in
    record { found = found; none = lent.none; name = lent.name_is; member = lent.member }
