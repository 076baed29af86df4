use Rattle.rescale_core.proofs.driver.Driver.turn.Goals as goal

pub returns-in_ok-handed-in-Ok-clause-did : goal.returns-in_ok-handed-in-Ok-clause-did
returns-in_ok-handed-in-Ok-clause-did c =
    let back = rw c.in-Ok.is at c.in_ok-back.ensures.did in (
      (λ w is. let r = back.0 w is in (r.0, r.1, c.in_ok-handed-in-Ok.ensures.did r.0 r.2)),
      c.in_ok-handed-in-Ok.ensures.looked c.args.self.now back.2,
    )
