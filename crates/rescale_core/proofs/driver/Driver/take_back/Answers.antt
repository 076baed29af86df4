use Rattle.std.proofs.Common.{refl, arith}
use Rattle.rescale_core.proofs.{DriverLemmas.may_nothing, Taking.moves_none}
use Rattle.rescale_core.proofs.TurnLemmas.{moves_back, moves_none_back, taken_back}
use Rattle.rescale_core.proofs.driver.Driver.take_back.Goals as goal

pub swap-requires-clause-may : goal.swap-requires-clause-may
swap-requires-clause-may c =
    let m = c.requires.main in
    let e = m.0.4 in
    let low = m.1 in
    may_nothing c.args.self.now c.args.worker c.new.result.items c.new.ensures.items (omega arith) c.requires.stands.0
    c.requires.stands.1

pub returns-in-NotYet-clause-did : goal.returns-in-NotYet-clause-did
returns-in-NotYet-clause-did c =
    let s = c.in-NotYet.ensures.did in
    (moves_none c.args.self.now _ refl s.2, s.0)

pub returns-in-Broken-clause-did : goal.returns-in-Broken-clause-did
returns-in-Broken-clause-did c =
    let s = c.in-Broken.ensures.did in
    (moves_none c.args.self.now _ refl s.2, s.0)

pub collect-requires : goal.collect-requires
collect-requires c =
    let d = c.args.self.now in
    record {
      taken = taken_back d (record { router = d.router; main = c.swap.new.main }) c.args.worker c.in-Back.given
          c.in-Back.outs.items (rw c.new.ensures.items at c.in-Back.ensures.did.1) c.requires.stands.0
          c.requires.stands.1;
    }

pub returns-in_ok-collect-in-Back-clause-did : goal.returns-in_ok-collect-in-Back-clause-did
returns-in_ok-collect-in-Back-clause-did c =
    moves_back c.args.self.now _ c.args.worker c.in-Back.given c.in-Back.outs.items
    (rw c.new.ensures.items at c.in-Back.ensures.did.1) c.in-Back.ensures.did.0 (λ z. (omega arith))
    c.in_ok-collect-in-Back.ensures

pub returns-else-given-ne0-clause-did : goal.returns-else-given-ne0-clause-did
returns-else-given-ne0-clause-did c =
    moves_none_back c.args.self.now _ c.args.worker c.in-Back.given c.in-Back.outs.items
    (rw c.new.ensures.items at c.in-Back.ensures.did.1) c.in-Back.ensures.did.0 (omega arith) refl
