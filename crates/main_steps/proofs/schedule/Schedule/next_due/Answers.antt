use Rattle.std.proofs.Common.{◌≡◌, ◌∙◌, ◌++◌, ap, option_to_list, refl, rules, subst, true}
use Rattle.slice_strategy.specs.declared.change.Change.{Change}
use Rattle.main_steps.specs.{Changes.DueTells, Changes.IsDue}
use Rattle.main_steps.proofs.ChangeLemmas.{first_is}
use Rattle.main_steps.proofs.schedule.Schedule.next_due.Goals as goal

-- the change that was taken out is the one that is due
pub returns-in-Some : goal.returns-in-Some
returns-in-Some c =
    let told : c.is_due.result ≡ true = search rules in
    let due : IsDue c.args.self.now = subst (DueTells c.args.self.now) told c.is_due.ensures in
    let both = first_is c.args.self.now due c.in-Some.change c.pop_front.new.self.items
    (c.pop_front.ensures.items ∙ ap (λ o. option_to_list o ++ c.pop_front.new.self.items) c.in-Some.is) in
    (due, ap (λ (x : Change). x.strategy) both.0, both.1, refl)
