use Rattle.std.proofs.Common.{◌≡◌, true, sym, ap, ◌∙◌, inl, inr}
use Rattle.log_reader.specs.{Partials.Partial, Quick.is_value_due}
use Rattle.log_reader.proofs.QuickLemmas.{value_takes}
use Rattle.log_reader.proofs.partial.Partial.take_straight.Goals as goal

pub returns-in_ok-take_integer-in-AfterOpen : goal.returns-in_ok-take_integer-in-AfterOpen
returns-in_ok-take_integer-in-AfterOpen c =
    let same : is_value_due c.args.self.now.stage ≡ is_value_due c.self.inside.stage =
    ap (λ (p : Partial). is_value_due p.stage) (sym c.self.view_is) in
    let due : is_value_due c.args.self.now.stage ≡ true = elim c.in-AfterOpen.is [
      | inl e ↦ same ∙ ap is_value_due e
      | inr e ↦ same ∙ ap is_value_due e
    ] in
    value_takes c.args.sig.now c.args.limits.now c.args.self.now c.take_integer.new.self c.args.at c.args.bytes.now
    c.in_ok-take_integer-in-AfterOpen.field-0 due c.in_ok-take_integer-in-AfterOpen.ensures
