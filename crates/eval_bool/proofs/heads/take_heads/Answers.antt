use Rattle.std.proofs.Common.{◌≡◌, ◌+◌, ◌∷◌, ◌++◌, [], ◌∙◌, ap, drop, get_or, false, subst, sym, true, arith}
use Rattle.eval_bool.proofs.HeadLemmas.{all_taken, drop_at, one_more, over_more, taken_more}
use Rattle.eval_bool.specs.{Heads.FirstsOver, Heads.heads_of, JoinView.ChildOf, JoinView.child_advanced}
use Rattle.eval_bool.proofs.heads.take_heads.Goals as goal

pub returns-in_err-move_head-clause-some : goal.returns-in_err-move_head-clause-some
returns-in_err-move_head-clause-some c =
    let old = c.child-item.result in
    let now : ChildOf = get_or c.loop-child.children c.loop-child.child-index old in
    let advanced : c.move_head.new.child ≡ child_advanced now = c.in_err-move_head.ensures.advanced in (
      c.loop-child.child-index + 1,
      one_more c.args.children.now c.loop-child.children c.loop-child.child-index old c.move_head.new.child
          (omega arith) c.loop-child.invariant.items c.child-item.is
          (advanced ∙ ap child_advanced (sym c.child-item.is)),
    )

pub loop-child-preserved : goal.loop-child-preserved
loop-child-preserved c =
    let xs = c.args.children.now in
    let i = c.loop-child.child-index in
    let old = c.child-item.result in
    let before = c.loop-child.invariant in
    let now : ChildOf = get_or c.loop-child.children i old in
    let is : old ≡ now = c.child-item.is in
    let advanced : c.move_head.new.child ≡ child_advanced now = c.in_ok-move_head.ensures.advanced in
    let plain : c.move_head.new.heads.plain.items ≡ c.loop-child.heads.plain.items ++ heads_of false (now ∷ []) =
    c.in_ok-move_head.ensures.plain in
    let negated : c.move_head.new.heads.negated.items ≡ c.loop-child.heads.negated.items ++ heads_of true (now ∷ []) =
    c.in_ok-move_head.ensures.negated in
    let over : FirstsOver (now ∷ []) = c.in_ok-move_head.ensures.over in
    let at : drop i xs ≡ old ∷ drop (i + 1) xs =
    drop_at xs c.loop-child.children i old (omega arith) before.items is in
    record {
      items = one_more xs c.loop-child.children i old c.move_head.new.child (omega arith) before.items is
          (advanced ∙ ap child_advanced (sym is));
      plain = taken_more false xs (drop (i + 1) xs) i old c.loop-child.heads.plain.items
          c.move_head.new.heads.plain.items at
          (plain ∙ ap (λ z. c.loop-child.heads.plain.items ++ heads_of false (z ∷ [])) (sym is)) before.plain;
      negated = taken_more true xs (drop (i + 1) xs) i old c.loop-child.heads.negated.items
          c.move_head.new.heads.negated.items at
          (negated ∙ ap (λ z. c.loop-child.heads.negated.items ++ heads_of true (z ∷ [])) (sym is)) before.negated;
      over = over_more xs (drop (i + 1) xs) i old at (subst (λ z. FirstsOver (z ∷ [])) (sym is) over) before.over;
    }

pub returns-clause-all : goal.returns-clause-all
returns-clause-all c =
    all_taken c.args.children.now c.loop-child.children c.loop-child.child-index (omega arith)
    c.loop-child.invariant.items
