-- The operands of a conjunction whose right side is asked for the left one's rows are not all its conjuncts.
use Rattle.std.proofs.Common.{◌≡◌, ◌+◌, ◌*◌, ◌<◌, true, cond, List, [], ◌∷◌, ◌++◌, length, refl, sym, ap, ◌∙◌, arith}
use Rattle.core_arranging.specs.Windows.{left_operand}
use Rattle.monitorable.specs.{Conjuncts.conjuncts_of, NodeCount.nodes}
use Rattle.monitorable.specs.CoreForms.{CoreForm, Not, And, Since, Until}
use Rattle.monitor_nodes.specs.Operands.{children, filters, operands, window_operands}
use Rattle.monitor_state.proofs.{MonitorSteps.children_append, SizeLemmas.since_both_smaller}
use Rattle.monitor_state.proofs.{SizeLemmas.until_both_smaller}

last_of : CoreForm → List CoreForm → CoreForm
last_of d [] = d
last_of d (f ∷ fs) = last_of f fs

last_there : (d : CoreForm) (fs : List CoreForm) (w : CoreForm) → last_of d (fs ++ w ∷ []) ≡ w
unfolding last_of
last_there d [] w = refl
last_there d (f ∷ fs) w = last_there f fs w

opened : (f g : CoreForm) → filters f g ≡ true → operands (And f g) ≡ f ∷ window_operands (left_operand g)
opened f g on = ap (λ b. cond b (f ∷ window_operands (left_operand g)) (children (conjuncts_of (And f g)))) on

-- the last operand would be the window itself
itself : (f g l e w : CoreForm) → 2 * (nodes l + nodes e) < 2 * nodes w
    → window_operands (left_operand g) ≡ left_operand l ∷ e ∷ [] → children (conjuncts_of g) ≡ w ∷ []
    → filters f g ≡ true → operands (And f g) ≡ children (conjuncts_of (And f g)) → ⊥
unfolding conjuncts_of last_of
itself f g l e w low window only on whole =
    let parts = children_append (conjuncts_of f) (conjuncts_of g) in
    let all = rw (opened f g on, window, parts, only) at whole in
    let size = ap (λ fs. nodes (last_of f fs)) all in
    let last = ap nodes (last_there f (children (conjuncts_of f)) w) in
    omega arith

pub filters_alone : (f g : CoreForm) → filters f g ≡ true → operands (And f g) ≡ children (conjuncts_of (And f g)) → ⊥
unfolding conjuncts_of
filters_alone f (Since i l e) on whole =
    itself f (Since i l e) l e (Since i l e) (since_both_smaller (Since i l e) i l e refl) refl refl on whole
filters_alone f (Until i l e) on whole =
    itself f (Until i l e) l e (Until i l e) (until_both_smaller (Until i l e) i l e refl) refl refl on whole
filters_alone f (Not (Since i l e)) on whole =
    itself f (Not (Since i l e)) l e (Since i l e) (since_both_smaller (Since i l e) i l e refl) refl refl on whole
filters_alone f (Not (Until i l e)) on whole =
    itself f (Not (Until i l e)) l e (Until i l e) (until_both_smaller (Until i l e) i l e refl) refl refl on whole
filters_alone f g on whole = absurd cc

pub bare_filters : (f g : CoreForm) → filters f g ≡ true → operands (And f g) ≡ [] → ⊥
bare_filters f g on bare = let w : f ∷ window_operands (left_operand g) ≡ [] = sym (opened f g on) ∙ bare in absurd (cc)

pub bare_joins : (f : CoreForm) → 0 < length (children (conjuncts_of f)) → operands f ≡ children (conjuncts_of f)
    → operands f ≡ [] → ⊥
bare_joins f some whole bare =
    let none : length (children (conjuncts_of f)) ≡ 0 = ap length (sym whole ∙ bare) in
    omega arith
