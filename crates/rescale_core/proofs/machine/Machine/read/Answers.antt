use Rattle.std.proofs.Common.{refl, ap, ◌∷◌, ◌∙◌}
use Rattle.rescale_core.specs.{Worlds.world_after, Worlds.Step.Read}
use Rattle.rescale_worker.specs.declared.item.Entry.TheVariants.{Change, Point}
use Rattle.rescale_core.proofs.MachineLemmas.{machine_read, next_may}
use Rattle.rescale_core.proofs.machine.Machine.read.Goals as goal

pub returns-in_ok-read_point-in-Some-Point : goal.returns-in_ok-read_point-in-Some-Point
returns-in_ok-read_point-in-Some-Point c = λ entries w is.
    let p = c.in-Some-Point.point in
    let r = machine_read c.args.self.now _ entries w (Point p) is
    (c.in-Some-Point.ensures.items ∙ ap (λ e. e ∷ c.pop_front.new.self.items) c.in-Some-Point.field-0-is) refl refl
    (λ may. c.in_ok-read_point-in-Some-Point.ensures w is.router may) in
    (world_after w (Read (Point p)), (Point p, r.0, refl), r.1)

pub read_change-requires : goal.read_change-requires
read_change-requires c =
    let r = c.requires in (
      r.1,
      r.2.router,
      next_may c.args.self.now r.0 r.1 (Change c.in-Some-Change.strategy) c.pop_front.new.self.items r.2
          (c.in-Some-Change.ensures.items ∙ ap (λ e. e ∷ c.pop_front.new.self.items) c.in-Some-Change.field-0-is),
    )

pub returns-in_ok-read_change-in-Some-Change : goal.returns-in_ok-read_change-in-Some-Change
returns-in_ok-read_change-in-Some-Change c = λ entries w is.
    let s = c.in-Some-Change.strategy in
    let r = machine_read c.args.self.now _ entries w (Change s) is
    (c.in-Some-Change.ensures.items ∙ ap (λ e. e ∷ c.pop_front.new.self.items) c.in-Some-Change.field-0-is) refl refl
    (λ may. c.in_ok-read_change-in-Some-Change.ensures w is.router may) in
    (world_after w (Read (Change s)), (Change s, r.0, refl), r.1)
