use Rattle.std.proofs.Common.{◌&&◌, ◌≡◌, true, sym, ap, refl, ◌∙◌, arith}
use Rattle.std.proofs.lemmas.Result.{on_ok_weaker}
use Rattle.monitorable.specs.CoreForms.{node_form, Exists, Since, Until}
use Rattle.monitorable.specs.{Fragment.fault_in, NodeCount.nodes}
use Rattle.monitorable.specs.declared.role.Role.TheVariants as role
use Rattle.monitor_state.proofs.BeginLemmas.{adds_one, adds_then, and_adds, filter_adds, not_adds}
use Rattle.monitor_state.proofs.FilterBegins.{filtered_whole, is_filter_window, operand_accepted, operand_nodes}
use Rattle.monitor_state.proofs.GuardLemmas.{and_left, and_own, and_right, exists_under_at, not_own_at, not_under_at}
use Rattle.monitor_state.proofs.GuardLemmas.{or_parts, since_parts, until_parts}
use Rattle.monitor_state.proofs.{MonitorSteps.last_off, SizeLemmas.operand_no_larger}
use Rattle.monitor_nodes.specs.Operands.{filters}
use Rattle.monitor_state.specs.Nodes.{nodes_in}
use Rattle.monitor_state.proofs.compile.+add_nodes.Goals as goal

pub add_nodes-returns-in-True : goal.add_nodes-returns-in-True
unfolding nodes_in
add_nodes-returns-in-True t c = rw c.in-True.is c.add_true.ensures

pub add_nodes-returns-in-False : goal.add_nodes-returns-in-False
unfolding nodes_in
add_nodes-returns-in-False t c = rw c.in-False.is c.add_false.ensures

pub add_nodes-returns-in-Atom : goal.add_nodes-returns-in-Atom
unfolding nodes_in
add_nodes-returns-in-Atom t c = rw c.in-Atom.is c.add_atom.ensures

pub add_nodes-add_comparison-requires : goal.add_nodes-add_comparison-requires
add_nodes-add_comparison-requires t c = rw c.in-Compare.is at c.requires

pub add_nodes-returns-in-Compare : goal.add_nodes-returns-in-Compare
unfolding nodes_in
add_nodes-returns-in-Compare t c = rw c.in-Compare.is c.add_comparison.ensures

pub add_nodes-add_whole_exists-requires : goal.add_nodes-add_whole_exists-requires
add_nodes-add_whole_exists-requires t c =
    (omega arith, (rw (c.in-Exists.is, c.deref.ensures), (c.args.role, c.requires)))

pub add_whole_exists-add_nodes-requires : goal.add_whole_exists-add_nodes-requires
unfolding nodes
add_whole_exists-add_nodes-requires t c = (
  omega (arith, ap nodes c.requires.operand),
  exists_under_at c.requires.accepted.0 _ _ _ c.requires.operand c.requires.accepted.1,
)

pub add_whole_exists-returns : goal.add_whole_exists-returns
unfolding nodes_in
add_whole_exists-returns t c =
    λ role. on_ok_weaker c.add_exists.result
    (λ own. rw c.requires.operand (adds_then _ _ _ _ _ c.in_ok-add_nodes.ensures
    (adds_one (Exists c.args.bound.now (node_form c.args.inner.now)) _ _ _ own refl (λ view empty. tt))))
    c.add_exists.ensures

pub add_nodes-add_not-requires : goal.add_nodes-add_not-requires
add_nodes-add_not-requires t c = (omega arith, (rw (c.in-Not.is, c.deref-in-Not.ensures), c.requires))

pub add_not-add_nodes-requires : goal.add_not-add_nodes-requires
unfolding nodes
add_not-add_nodes-requires t c = (
  omega (arith, ap nodes c.requires.operand),
  not_under_at c.args.role c.under_not.result _ _ c.requires.operand c.under_not.ensures c.requires.accepted,
)

pub add_not-add_join-requires-clause-guarded : goal.add_not-add_join-requires-clause-guarded
add_not-add_join-requires-clause-guarded t c =
    not_own_at c.args.role _ _ c.judges_not.result c.requires.operand c.judges_not.ensures c.requires.accepted

pub add_not-returns : goal.add_not-returns
add_not-returns t c =
    on_ok_weaker c.add_join.result
    (not_adds c.args.role c.under_not.result _ _ c.judges_not.result _ _ _ c.requires.operand c.judges_not.ensures
    c.under_not.ensures c.in_ok-add_nodes.ensures) c.add_join.ensures

pub add_nodes-add_whole_previous-requires : goal.add_nodes-add_whole_previous-requires
add_nodes-add_whole_previous-requires t c =
    (omega arith, (rw (c.in-Previous.is, c.deref-in-Previous.ensures), (c.args.role, c.requires)))

pub add_whole_previous-add_nodes-requires : goal.add_whole_previous-add_nodes-requires
unfolding fault_in nodes
add_whole_previous-add_nodes-requires t c = (
  omega (arith, ap nodes c.requires.operand),
  (c.requires.accepted.1.0, rw c.requires.operand at c.requires.accepted.1.1),
)

pub add_whole_previous-returns : goal.add_whole_previous-returns
unfolding nodes_in
add_whole_previous-returns t c =
    λ role. on_ok_weaker c.add_previous.result
    (λ own. rw c.requires.operand (adds_then _ _ _ _ _ c.in_ok-add_nodes.ensures own)) c.add_previous.ensures

pub add_nodes-add_whole_next-requires : goal.add_nodes-add_whole_next-requires
add_nodes-add_whole_next-requires t c =
    (omega arith, (rw (c.in-Next.is, c.deref-in-Next.ensures), (c.args.role, c.requires)))

pub add_whole_next-add_nodes-requires : goal.add_whole_next-add_nodes-requires
unfolding fault_in nodes
add_whole_next-add_nodes-requires t c = (
  omega (arith, ap nodes c.requires.operand),
  (c.requires.accepted.1.0, rw c.requires.operand at c.requires.accepted.1.1),
)

pub add_whole_next-returns : goal.add_whole_next-returns
unfolding nodes_in
add_whole_next-returns t c =
    λ role. on_ok_weaker c.add_next.result
    (λ own. rw c.requires.operand (adds_then _ _ _ _ _ c.in_ok-add_nodes.ensures own)) c.add_next.ensures

pub add_nodes-add_whole_since-requires : goal.add_nodes-add_whole_since-requires
add_nodes-add_whole_since-requires t c =
    (omega arith, (rw (c.in-Since.is, c.deref-in-Since.ensures, c.deref-in-Since-2.ensures), (c.args.role, c.requires)))

pub add_whole_since-add_both-requires : goal.add_whole_since-add_both-requires
unfolding nodes
add_whole_since-add_both-requires t c =
    let parts = since_parts c.requires.accepted.0 _ _ _ _ c.requires.operands c.requires.accepted.1 in
    (omega (arith, ap nodes c.requires.operands), (parts.0, parts.1))

pub add_whole_since-add_since-requires : goal.add_whole_since-add_since-requires
add_whole_since-add_since-requires t c =
    (since_parts c.requires.accepted.0 _ _ _ _ c.requires.operands c.requires.accepted.1).2

pub add_whole_since-returns : goal.add_whole_since-returns
unfolding nodes_in
add_whole_since-returns t c =
    λ role. on_ok_weaker c.add_since.result
    (λ own. rw c.requires.operands (adds_then _ _ _ _ _ c.in_ok-add_both.ensures
    (rw c.requires.operands at (own c.requires.operands)))) c.add_since.ensures

pub add_nodes-add_whole_until-requires : goal.add_nodes-add_whole_until-requires
add_nodes-add_whole_until-requires t c =
    (omega arith, (rw (c.in-Until.is, c.deref-in-Until.ensures, c.deref-in-Until-2.ensures), (c.args.role, c.requires)))

pub add_whole_until-add_both-requires : goal.add_whole_until-add_both-requires
unfolding nodes
add_whole_until-add_both-requires t c =
    let parts = until_parts c.requires.accepted.0 _ _ _ _ c.requires.operands c.requires.accepted.1 in
    (omega (arith, ap nodes c.requires.operands), (parts.0, parts.1))

pub add_whole_until-add_until-requires : goal.add_whole_until-add_until-requires
add_whole_until-add_until-requires t c =
    (until_parts c.requires.accepted.0 _ _ _ _ c.requires.operands c.requires.accepted.1).2

pub add_whole_until-returns : goal.add_whole_until-returns
unfolding nodes_in
add_whole_until-returns t c =
    λ role. on_ok_weaker c.add_until.result
    (λ own. rw c.requires.operands (adds_then _ _ _ _ _ c.in_ok-add_both.ensures
    (rw c.requires.operands at (own c.requires.operands)))) c.add_until.ensures

pub add_nodes-add_whole_or-requires : goal.add_nodes-add_whole_or-requires
add_nodes-add_whole_or-requires t c =
    (omega arith, (rw (c.in-Or.is, c.deref-in-Or.ensures, c.deref-in-Or-2.ensures), (c.args.role, c.requires)))

pub add_whole_or-add_both-requires : goal.add_whole_or-add_both-requires
unfolding nodes
add_whole_or-add_both-requires t c =
    let parts = or_parts c.requires.accepted.0 _ _ _ c.requires.operands c.requires.accepted.1 in
    (omega (arith, ap nodes c.requires.operands), (parts.0, parts.1))

pub add_whole_or-add_or-requires : goal.add_whole_or-add_or-requires
add_whole_or-add_or-requires t c = (or_parts c.requires.accepted.0 _ _ _ c.requires.operands c.requires.accepted.1).2

pub add_whole_or-returns : goal.add_whole_or-returns
unfolding nodes_in
add_whole_or-returns t c =
    λ role. on_ok_weaker c.add_or.result
    (λ own. rw c.requires.operands (adds_then _ _ _ _ _ c.in_ok-add_both.ensures own)) c.add_or.ensures

pub add_nodes-add_and-requires : goal.add_nodes-add_and-requires
add_nodes-add_and-requires t c = (
  omega arith,
  (
    rw (c.in-And.is, c.deref-in-And.ensures, c.deref-in-And-2.ensures),
    rw (c.in-And.is, ← c.deref-in-And.ensures, ← c.deref-in-And-2.ensures) at c.requires,
  ),
)

pub add_both-add_nodes-requires : goal.add_both-add_nodes-requires
add_both-add_nodes-requires t c = (omega arith, c.requires.left)

pub add_both-add_nodes-requires-2 : goal.add_both-add_nodes-requires-2
add_both-add_nodes-requires-2 t c = (omega arith, c.requires.right)

pub add_both-returns : goal.add_both-returns
add_both-returns t c =
    on_ok_weaker c.add_nodes-2.result (λ second. adds_then _ _ _ _ _ c.in_ok-add_nodes.ensures second)
    c.add_nodes-2.ensures

pub add_and-add_nodes-requires : goal.add_and-add_nodes-requires
unfolding nodes
add_and-add_nodes-requires t c = (
  omega (arith, ap nodes c.requires.sides),
  filtered_whole c.args.role _ _ c.is_conjunction-own.result c.is_conjunction-own.ensures
      (sym c.in_ok-is_filtered.ensures ∙ c.if-branch.true) c.requires.accepted,
)

pub add_and-add_operands-requires : goal.add_and-add_operands-requires
unfolding nodes
add_and-add_operands-requires t c =
    let window = is_filter_window c.is_conjunction-own.result (node_form c.args.left.now) (node_form c.args.right.now)
    (sym c.in_ok-is_filtered.ensures ∙ c.if-branch.true) in (
      omega (arith, ap nodes c.requires.sides, ap nodes (c.without_not.ensures.operand window), operand_no_larger),
      (
        c.without_not.ensures.window ∙ window,
        rw (c.without_not.ensures.operand window)
            (operand_accepted (node_form c.args.right.now) window (and_right c.args.role _ _ c.requires.accepted)),
      ),
    )

pub add_and-add_filter-requires-clause-accepted : goal.add_and-add_filter-requires-clause-accepted
add_and-add_filter-requires-clause-accepted t c = and_right c.args.role _ _ c.requires.accepted

pub add_and-returns-then-branch : goal.add_and-returns-then-branch
add_and-returns-then-branch t c =
    let only : (c.is_conjunction-own.result && filters (node_form c.args.left.now) (node_form c.args.right.now)) ≡
    true = sym c.in_ok-is_filtered.ensures ∙ c.if-branch.true in
    let window = is_filter_window c.is_conjunction-own.result (node_form c.args.left.now) (node_form c.args.right.now)
    only in
    on_ok_weaker c.add_filter.result
    (filter_adds c.args.role _ _ _ _ _ _ _ c.requires.sides (rw (← c.is_conjunction-own.ensures) only)
    c.in_ok-add_nodes.ensures (rw (
      ← operand_nodes (node_form c.args.right.now) window,
      ← c.without_not.ensures.operand window,
    ) c.in_ok-add_operands.ensures)) c.add_filter.ensures

pub add_and-add_both-requires : goal.add_and-add_both-requires
unfolding nodes
add_and-add_both-requires t c = (
  omega (arith, ap nodes c.requires.sides),
  (and_left c.args.role _ _ c.requires.accepted, and_right c.args.role _ _ c.requires.accepted),
)

pub add_and-add_join-requires-clause-guarded : goal.add_and-add_join-requires-clause-guarded
add_and-add_join-requires-clause-guarded t c =
    λ holds. rw c.requires.sides
    (and_own c.args.role _ _ c.requires.accepted (sym c.is_conjunction-own.ensures ∙ holds))

pub add_and-returns : goal.add_and-returns
add_and-returns t c =
    on_ok_weaker c.add_join.result
    (and_adds c.args.role _ _ _ c.is_conjunction-own.result _ _ _ c.requires.sides c.is_conjunction-own.ensures
    (rw (← c.is_conjunction-own.ensures) (sym c.in_ok-is_filtered.ensures ∙ c.if-branch.false))
    c.in_ok-add_both.ensures) c.add_join.ensures

pub add_operands-add_both-requires : goal.add_operands-add_both-requires
unfolding nodes
add_operands-add_both-requires t c =
    let same : node_form c.args.window.now ≡ Since c.in-Since._interval (node_form c.deref.result.now)
    (node_form c.deref-in-Since.result.now) = rw (c.in-Since.is, c.deref.ensures, c.deref-in-Since.ensures) in
    let parts = since_parts role.Part _ _ _ _ same c.requires.accepted in
    (omega (arith, ap nodes same), (parts.0, parts.1))

pub add_operands-returns-in-Since : goal.add_operands-returns-in-Since
unfolding nodes_in
add_operands-returns-in-Since t c =
    rw (c.in-Since.is, last_off, ← c.deref.ensures, ← c.deref-in-Since.ensures) c.add_both.ensures

pub add_operands-add_both-requires-in-Until : goal.add_operands-add_both-requires-in-Until
unfolding nodes
add_operands-add_both-requires-in-Until t c =
    let same : node_form c.args.window.now ≡ Until c.in-Until._interval (node_form c.deref-in-Until.result.now)
    (node_form c.deref-in-Until-2.result.now) =
    rw (c.in-Until.is, c.deref-in-Until.ensures, c.deref-in-Until-2.ensures) in
    let parts = until_parts role.Part _ _ _ _ same c.requires.accepted in
    (omega (arith, ap nodes same), (parts.0, parts.1))

pub add_operands-returns-in-Until : goal.add_operands-returns-in-Until
unfolding nodes_in
add_operands-returns-in-Until t c =
    rw (c.in-Until.is, last_off, ← c.deref-in-Until.ensures, ← c.deref-in-Until-2.ensures) c.add_both-in-Until.ensures
