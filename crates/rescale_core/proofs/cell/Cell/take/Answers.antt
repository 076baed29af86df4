use Rattle.std.proofs.Common.{◌≡◌, ◌++◌, ◌∷◌, [], length, arith, refl, sym, ap, ◌∙◌}
use Rattle.std.proofs.lemmas.List.{nil_from_length}
use Rattle.rescale_core.proofs.CellLemmas.{may_take, same_cell, took}
use Rattle.rescale_worker.proofs.Leading.{leads_seen, takes_by}
use Rattle.rescale_core.proofs.cell.Cell.take.Goals as goal

pub returns-in_default : goal.returns-in_default
returns-in_default c =
    let q = c.args.self.now.items in
    let none : q.len ≡ 0 = c.in_default.ensures.cases.0 in
    let len : q.len ≡ length q.items = q.ok.0 in (
      nil_from_length q.items (omega arith),
      λ w k is. same_cell w k c.args.self.now _ is
          (sym c.in_default.ensures.items) refl refl refl,
    )

pub work-requires : goal.work-requires
work-requires c =
    let w = c.requires.0 in
    let k = c.requires.1 in
    let is = c.requires.3 in
    let may = may_take w k is.before c.in-Some.item c.pop_front.new.self.items c.requires.2
    (is.fed ∙ ap (λ x. is.before ++ x) c.in-Some.ensures.items) in
    takes_by c.args.self.now.worker (c.in-Some.item ∷ []) (_, is.before, _, is.stands, may.1)

pub returns : goal.returns
returns c = λ w k sound is.
    let g = c.in_ok-work.ensures.did in
    let r = took w k c.args.self.now _ c.in-Some.item g.0 sound is c.in-Some.ensures.items
    c.in_ok-self.ensures g.1 (leads_seen c.args.self.now.worker (c.in-Some.item ∷ []) _ g.0 g.2) in
    (g.0, r.0, r.1)
