use Rattle.std.proofs.Common.{◌∙◌, sym, ap, ap₂, nat_cmp}
use Rattle.std.specs.Ordering.{ordering_then}
use Rattle.mfotl_model.specs.Values.{text_cmp}
use Rattle.mfotl_model.proofs.TextLemmas.{first_eight, bytes_behind, stands}
use Rattle.mfotl_model.proofs.text_order.by_eights.Goals as goal

pub returns-in_default-cmp : goal.returns-in_default-cmp
returns-in_default-cmp c =
    let (same, ours, theirs) = c.loop-front.invariant in
    sym (first_eight _ _ _ _ _ _ c.in-Some-Some.ensures.cases c.in-Some-Some.ensures'.cases ours theirs c.cmp.result
    (c.cmp.ensures ∙ ap₂ nat_cmp c.from_be_bytes.ensures c.from_be_bytes-in-Some-Some.ensures)
    ∙ stands _ _ c.in_default-cmp.not-Equal)
    ∙ same

pub loop-front-preserved : goal.loop-front-preserved
loop-front-preserved c =
    let (same, ours, theirs) = c.loop-front.invariant in (
      sym (first_eight _ _ _ _ _ _ c.in-Some-Some.ensures.cases c.in-Some-Some.ensures'.cases ours theirs c.cmp.result
          (c.cmp.ensures ∙ ap₂ nat_cmp c.from_be_bytes.ensures c.from_be_bytes-in-Some-Some.ensures)
          ∙ ap (λ r. ordering_then r (text_cmp c.in-Some-Some.rest.now c.in-Some-Some.more.now)) c.in-Equal.is)
          ∙ same,
      bytes_behind _ _ _ c.in-Some-Some.ensures.cases ours,
      bytes_behind _ _ _ c.in-Some-Some.ensures'.cases theirs,
    )
