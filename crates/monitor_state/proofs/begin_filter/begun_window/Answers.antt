use Rattle.std.proofs.Common.{◌≡◌}
use Rattle.monitorable.specs.CoreForms.{node_form, Since, Until}
use Rattle.monitorable.specs.declared.role.Role.TheVariants as role
use Rattle.monitor_state.proofs.GuardLemmas.{since_parts, until_parts}
use Rattle.monitor_state.proofs.begin_filter.begun_window.Goals as goal

pub begun_since-requires : goal.begun_since-requires
begun_since-requires c =
    let same : node_form c.args.core.now ≡ Since c.in-Since.interval (node_form c.deref.result.now)
    (node_form c.deref-in-Since.result.now) = rw (c.in-Since.is, c.deref.ensures, c.deref-in-Since.ensures) in
    (since_parts role.Part (node_form c.args.core.now) c.in-Since.interval (node_form c.deref.result.now)
    (node_form c.deref-in-Since.result.now) same c.requires.accepted).2

pub begun_until-requires : goal.begun_until-requires
begun_until-requires c =
    let same : node_form c.args.core.now ≡ Until c.in-Until.interval (node_form c.deref-in-Until.result.now)
    (node_form c.deref-in-Until-2.result.now) =
    rw (c.in-Until.is, c.deref-in-Until.ensures, c.deref-in-Until-2.ensures) in
    (until_parts role.Part (node_form c.args.core.now) c.in-Until.interval (node_form c.deref-in-Until.result.now)
    (node_form c.deref-in-Until-2.result.now) same c.requires.accepted).2
