use Rattle.std.proofs.Common.{None, ◌≡◌, ◌∙◌, sym}
use Rattle.mfotl_sig.specs.Preds.{named}
use Rattle.mfotl_sig.proofs.PredLemmas.{GoesLast, preds_of, insert_new}
use Rattle.mfotl_sig.proofs.signature.Signature.add.Goals as goal

goes_last : (c : goal.Joined-branch-4)
    → GoesLast c.self.inside.preds.entries c.insert.new.self.entries
    (record { number = c.len-number.result; name = c.in_ok-text.text; sorts = c.args.sorts })
goes_last c =
    let name = c.in_ok-text.ensures in
    let absent : named c.in_ok-text.text (preds_of c.self.inside.preds.entries) ≡ None =
    rw (c.self.view_is, name) c.requires.absent in
    rw c.in_ok-insert.ensures.entries
    (insert_new _ c.in_ok-key.key _ c.self.invariant (c.in_ok-key.ensures.items ∙ sym name) absent)

pub invariant_of-self-2 : goal.invariant_of-self-2
invariant_of-self-2 c = (goes_last c).keyed

pub returns : goal.returns
returns c = (goes_last c).preds ∙ rw (c.self.view_is, c.len-number.ensures, c.in_ok-text.ensures)
