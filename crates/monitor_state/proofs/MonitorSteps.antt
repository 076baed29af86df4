-- The nodes of a monitor take a time-point one after the other.
use Rattle.std.proofs.Common.{subst, ◌≡◌, ℕ, Bool, true, false, ◌&&◌, cond, ◌+◌, ◌<◌, ◌≤◌, List, [], ◌∷◌, ◌++◌, length}
use Rattle.std.proofs.Common.{take, drop, get_or, set, refl, sym, ap, ◌∙◌, inl, inr, arith, append_assoc, append-nil}
use Rattle.std.proofs.{lemmas.Bool.and_parts, lemmas.Bool.cases_Bool, Math.Seq.take-suc-set, Math.Seq.drop-cons}
use Rattle.std.proofs.{lemmas.Grind.common_steps}
use Rattle.mfotl_model.specs.{FreeVariables.fv, Tables.all_among, Tables.TableOf, Exact.View}
use Rattle.std.proofs.lemmas.List.{drop-set-lt, drop_all, take_all}
use Rattle.mfotl_model.specs.declared.{event.TimePoint.TimePoint, term.Comparison.Comparison}
use Rattle.monitorable.specs.CoreForms.{CoreForm, meaning, True, False, Atom, Compare, Not, And, Or, Exists, Previous}
use Rattle.monitorable.specs.CoreForms.{Next, Since, Until}
use Rattle.monitorable.specs.Conjuncts.{PartForm, conjuncts_of, negated_part}
use Rattle.monitorable.specs.{Conjuncts.PartForm.Child as ChildPart, Conjuncts.PartForm.Test as TestPart}
use Rattle.monitorable.specs.{Soundness.IsWellFormedIn}
use Rattle.monitorable.specs.Fragment.{binds, bound_by, is_conjunction, under_not}
use Rattle.monitorable.specs.declared.role.Role.{Role}
use Rattle.monitorable.specs.declared.role.Role.TheVariants as role
use Rattle.core_arranging.specs.Windows.{left_operand}
use Rattle.core_arranging.specs.Arranging.{posed}
use Rattle.monitor_state.proofs.PosedSteps.{news_posed, premises_posed}
use Rattle.monitor_state.specs.{Constants.stands_alone, Stands.NodesStand}
use Rattle.monitor_state.specs.Going.{AllPremises, Going, Works}
use Rattle.monitor_nodes.specs.Operands.{children, filters, operands, window_operands}
use Rattle.monitor_state.specs.Nodes.{nodes_in, nodes_of}
use Rattle.monitor_state.specs.Nodes.{without_last}
use Rattle.monitor_nodes.specs.Steps.{TakesPoint, News, Premises, SameNear, StackNews, longer}
use Rattle.monitor_nodes.specs.declared.node.Node.{Node}

-- what a core in its role puts on the stack
abbrev roots : Role → CoreForm → List CoreForm
roots role.Whole f = f ∷ []
roots role.Part f = children (conjuncts_of f)
roots role.Negated f = children (negated_part f ∷ [])
roots role.Left f = left_operand f ∷ []

pub children_append : (ps qs : List PartForm) → children (ps ++ qs) ≡ children ps ++ children qs
children_append [] qs = refl
children_append (ChildPart f n ∷ ps) qs = ap (λ fs. f ∷ fs) (children_append ps qs)
children_append (TestPart c w ∷ ps) qs = children_append ps qs

-- one core's node after its operands' ones
works_one : (goal f : CoreForm) (pending rest : List CoreForm) → operands f ≡ [] → Works goal (pending ++ f ∷ []) rest
    → Works goal pending (f ∷ rest)
works_one goal f pending rest none works = grind (arith, append-nil)

-- the last one is put off
pub last_off : (fs : List CoreForm) (f : CoreForm) → without_last (fs ++ f ∷ []) ≡ fs
last_off [] f = refl
last_off (g ∷ []) f = refl
last_off (g ∷ h ∷ fs) f = ap (λ gs. g ∷ gs) (last_off (h ∷ fs) f)

no_window : (own inside : Bool) → (own && (false && inside)) ≡ false
no_window own inside = grind arith

module _ (goal : CoreForm) where
  works_nothing : (pending rest : List CoreForm) → Works goal (pending ++ []) rest → Works goal pending ([] ++ rest)
  works_nothing pending rest works = rw append-nil at works

  -- what the roots are of a core that is evaluated whole in each role
  roots_whole : (r : Role) (f : CoreForm) → (roots role.Part f ≡ f ∷ []) → (roots role.Negated f ≡ f ∷ [])
      → left_operand f ≡ f → roots r f ≡ f ∷ []
  roots_whole r f part negated left = grind arith

  -- a comparison: an equation with a constant is a node, but where it is negated
  compare_part : (c : Comparison) (b : Bool) (pending rest : List CoreForm)
      → Works goal (pending ++ children (cond b (ChildPart (Compare c) false) (TestPart c true) ∷ [])) rest
      → Works goal pending (cond b (Compare c ∷ []) [] ++ rest)
  compare_part c b pending rest works = grind (arith, works_one, works_nothing)

  after_two : (h : CoreForm) (pending rest xs ys : List CoreForm) → operands h ≡ xs ++ ys
      → Works goal (pending ++ h ∷ []) rest → Works goal ((pending ++ xs) ++ ys) (h ∷ rest)
  after_two h pending rest xs ys is works = grind (arith, append_assoc)

  work_both : (h : CoreForm) (ns ms xs ys : List CoreForm) (pending rest : List CoreForm) → operands h ≡ xs ++ ys
      → Works goal (pending ++ h ∷ []) rest
      → (Works goal (pending ++ xs) (ms ++ (h ∷ rest)) → Works goal pending (ns ++ (ms ++ (h ∷ rest))))
      → (Works goal ((pending ++ xs) ++ ys) (h ∷ rest) → Works goal (pending ++ xs) (ms ++ (h ∷ rest)))
      → Works goal pending ((ns ++ ms ++ h ∷ []) ++ rest)
  work_both h ns ms xs ys pending rest is works first second = search (append_assoc, after_two)

  -- a conjunction whose conjuncts are all its node's operands
  and_work : (r : Role) (f g : CoreForm) (pending rest : List CoreForm) → Works goal (pending ++ roots r (And f g)) rest
      → ((more : List CoreForm) → Works goal (pending ++ children (conjuncts_of f)) more
      → Works goal pending (nodes_in role.Part f ++ more))
      → ((more : List CoreForm) → Works goal ((pending ++ children (conjuncts_of f)) ++ children (conjuncts_of g)) more
      → Works goal (pending ++ children (conjuncts_of f)) (nodes_in role.Part g ++ more))
      → (is_conjunction r && filters f g) ≡ false
      → Works goal pending ((nodes_in role.Part f ++ nodes_in role.Part g ++ cond (is_conjunction r) (And f g ∷ []) [])
      ++ rest)
  unfolding conjuncts_of
  and_work r f g pending rest works first second joins = grind (arith, append_assoc, children_append, after_two)

  joined_work : (r : Role) (f g : CoreForm) (pending rest : List CoreForm) → (is_conjunction r && filters f g) ≡ false
      → ((is_conjunction r && filters f g) ≡ false
      → Works goal pending ((nodes_in role.Part f ++ nodes_in role.Part g ++ cond (is_conjunction r) (And f g ∷ []) [])
      ++ rest)) → Works goal pending (nodes_in r (And f g) ++ rest)
  unfolding nodes_in
  joined_work r f g pending rest none works = rw none (works none)

  -- a conjunction whose right side is a window or the NOT of one: either it only filters, or it doesn't
  window_work : (r : Role) (f g w : CoreForm) (ns ms : List CoreForm) (a b : CoreForm) (pending rest : List CoreForm)
      → nodes_in role.Part g ≡ ns ++ ms ++ w ∷ [] → window_operands (left_operand g) ≡ a ∷ b ∷ []
      → Works goal (pending ++ roots r (And f g)) rest → ((more : List CoreForm) → Works goal (pending ++ f ∷ []) more
      → Works goal pending (nodes_in role.Whole f ++ more))
      → ((below more : List CoreForm) → Works goal (below ++ a ∷ []) more → Works goal below (ns ++ more))
      → ((below more : List CoreForm) → Works goal (below ++ b ∷ []) more → Works goal below (ms ++ more))
      → ((is_conjunction r && filters f g) ≡ false
      → Works goal pending ((nodes_in role.Part f ++ nodes_in role.Part g ++ cond (is_conjunction r) (And f g ∷ []) [])
      ++ rest)) → Works goal pending (nodes_in r (And f g) ++ rest)
  unfolding nodes_in
  window_work r f g w ns ms a b pending rest nodes ops works first left right joins =
      elim (cases_Bool (is_conjunction r && filters f g)) [
        | inl only ↦
            rw (only, nodes, last_off, append_assoc, append_assoc, append_assoc)
            (first (ns ++ (ms ++ (And f g ∷ rest)))
            (left (pending ++ f ∷ []) (ms ++ (And f g ∷ rest))
            (right ((pending ++ f ∷ []) ++ a ∷ []) (And f g ∷ rest) (taken only))))
        | inr none ↦ joined_work r f g pending rest none joins
      ]
    where
      own_root : (r : Role) → (is_conjunction r && filters f g) ≡ true → Works goal (pending ++ roots r (And f g)) rest
          → Works goal (pending ++ And f g ∷ []) rest
      own_root role.Whole e h = h
      own_root role.Negated e h = h
      own_root role.Left e h = h
      own_root role.Part e h = absurd (let clash : true ≡ false = sym e in cc)

      taken : (is_conjunction r && filters f g) ≡ true
          → Works goal (((pending ++ f ∷ []) ++ a ∷ []) ++ b ∷ []) (And f g ∷ rest)
      taken only = (
        pending,
        append_assoc (pending ++ f ∷ []) (a ∷ []) (b ∷ [])
            ∙ append_assoc pending (f ∷ []) (a ∷ b ∷ [])
            ∙ ap (λ fs. pending ++ (f ∷ fs)) (sym ops)
            ∙ ap (λ c. pending ++ cond c (f ∷ window_operands (left_operand g)) (children (conjuncts_of (And f g))))
            (sym (and_parts (is_conjunction r) (filters f g) only).1),
        own_root r only works,
      )

  -- the nodes of a core put its roots on the stack
  pub nodes_work : (r : Role) (f : CoreForm) (pending rest : List CoreForm) → Works goal (pending ++ roots r f) rest
      → Works goal pending (nodes_in r f ++ rest)
  unfolding nodes_in conjuncts_of
  nodes_work role.Whole (Compare c) pending rest works = works_one goal (Compare c) pending rest refl works
  nodes_work role.Left (Compare c) pending rest works = works_one goal (Compare c) pending rest refl works
  nodes_work role.Negated (Compare c) pending rest works = works_nothing pending rest works
  nodes_work role.Part (Compare c) pending rest works = compare_part c (binds c) pending rest works
  nodes_work r (Exists x f) pending rest works =
      grind (arith, common_steps, append_assoc, roots_whole, nodes_work role.Whole f pending (Exists x f ∷ rest))
  nodes_work r (Previous i f) pending rest works =
      grind (arith, common_steps, append_assoc, roots_whole, nodes_work role.Whole f pending (Previous i f ∷ rest))
  nodes_work r (Next i f) pending rest works =
      grind (arith, common_steps, append_assoc, roots_whole, nodes_work role.Whole f pending (Next i f ∷ rest))
  nodes_work r (Or f g) pending rest works =
      work_both (Or f g) (nodes_in role.Whole f) (nodes_in role.Whole g) (f ∷ []) (g ∷ []) pending rest refl
      (subst (λ fs. Works goal (pending ++ fs) rest) (roots_whole r (Or f g) refl refl refl) works)
      (nodes_work role.Whole f pending (nodes_in role.Whole g ++ (Or f g ∷ rest)))
      (nodes_work role.Whole g (pending ++ f ∷ []) (Or f g ∷ rest))
  nodes_work r (Since i f g) pending rest works =
      work_both (Since i f g) (nodes_in role.Left f) (nodes_in role.Whole g) (left_operand f ∷ []) (g ∷ []) pending rest
      refl
      (subst (λ fs. Works goal (pending ++ fs) rest) (roots_whole r (Since i f g) refl refl refl) works)
      (nodes_work role.Left f pending (nodes_in role.Whole g ++ (Since i f g ∷ rest)))
      (nodes_work role.Whole g (pending ++ left_operand f ∷ []) (Since i f g ∷ rest))
  nodes_work r (Until i f g) pending rest works =
      work_both (Until i f g) (nodes_in role.Left f) (nodes_in role.Whole g) (left_operand f ∷ []) (g ∷ []) pending rest
      refl
      (subst (λ fs. Works goal (pending ++ fs) rest) (roots_whole r (Until i f g) refl refl refl) works)
      (nodes_work role.Left f pending (nodes_in role.Whole g ++ (Until i f g ∷ rest)))
      (nodes_work role.Whole g (pending ++ left_operand f ∷ []) (Until i f g ∷ rest))
  nodes_work r (And f (Since i a b)) pending rest works =
      window_work r f (Since i a b) (Since i a b) (nodes_in role.Left a) (nodes_in role.Whole b) (left_operand a) b
      pending rest
      refl refl works (nodes_work role.Whole f pending) (λ below. nodes_work role.Left a below)
      (λ below. nodes_work role.Whole b below)
      (and_work r f (Since i a b) pending rest works (nodes_work role.Part f pending)
      (nodes_work role.Part (Since i a b) (pending ++ children (conjuncts_of f))))
  nodes_work r (And f (Until i a b)) pending rest works =
      window_work r f (Until i a b) (Until i a b) (nodes_in role.Left a) (nodes_in role.Whole b) (left_operand a) b
      pending rest
      refl refl works (nodes_work role.Whole f pending) (λ below. nodes_work role.Left a below)
      (λ below. nodes_work role.Whole b below)
      (and_work r f (Until i a b) pending rest works (nodes_work role.Part f pending)
      (nodes_work role.Part (Until i a b) (pending ++ children (conjuncts_of f))))
  nodes_work r (And f (Not (Since i a b))) pending rest works =
      window_work r f (Not (Since i a b)) (Since i a b) (nodes_in role.Left a) (nodes_in role.Whole b) (left_operand a)
      b pending rest
      (append-nil (nodes_in role.Negated (Since i a b))) refl works (nodes_work role.Whole f pending)
      (λ below. nodes_work role.Left a below) (λ below. nodes_work role.Whole b below)
      (and_work r f (Not (Since i a b)) pending rest works (nodes_work role.Part f pending)
      (nodes_work role.Part (Not (Since i a b)) (pending ++ children (conjuncts_of f))))
  nodes_work r (And f (Not (Until i a b))) pending rest works =
      window_work r f (Not (Until i a b)) (Until i a b) (nodes_in role.Left a) (nodes_in role.Whole b) (left_operand a)
      b pending rest
      (append-nil (nodes_in role.Negated (Until i a b))) refl works (nodes_work role.Whole f pending)
      (λ below. nodes_work role.Left a below) (λ below. nodes_work role.Whole b below)
      (and_work r f (Not (Until i a b)) pending rest works (nodes_work role.Part f pending)
      (nodes_work role.Part (Not (Until i a b)) (pending ++ children (conjuncts_of f))))
  nodes_work r (And f g) pending rest works =
      joined_work r f g pending rest
      (no_window (is_conjunction r) (all_among (fv (meaning g)) (bound_by f)))
      (and_work r f g pending rest works (nodes_work role.Part f pending)
      (nodes_work role.Part g (pending ++ children (conjuncts_of f))))
  nodes_work role.Whole (Not f) pending rest works =
      search (append_assoc, nodes_work role.Negated f pending (Not f ∷ rest) (pending, refl, works))
  nodes_work role.Negated (Not f) pending rest works =
      search (append_assoc, nodes_work role.Negated f pending (Not f ∷ rest) (pending, refl, works))
  nodes_work role.Part (Not f) pending rest works = search (append-nil, nodes_work role.Negated f pending rest works)
  nodes_work role.Left (Not f) pending rest works = search (append-nil, nodes_work role.Whole f pending rest works)
  nodes_work role.Whole True pending rest works = works_one goal True pending rest refl works
  nodes_work role.Part True pending rest works = works_one goal True pending rest refl works
  nodes_work role.Negated True pending rest works = works_one goal True pending rest refl works
  nodes_work role.Left True pending rest works = works_one goal False pending rest refl works
  nodes_work r False pending rest works = grind (arith, works_one, roots_whole)
  nodes_work r (Atom a) pending rest works = grind (arith, works_one, roots_whole)

module _ (view : View) (point given : TimePoint) (whole : CoreForm) where
  premises_append : (fs gs : List CoreForm) → AllPremises view point given whole fs
      → AllPremises view point given whole gs → AllPremises view point given whole (fs ++ gs)
  premises_append [] gs first second = second
  premises_append (f ∷ fs) gs first second = (first.0, premises_append fs gs first.1 second)

  premises_if : (b : Bool) (f : CoreForm) → Premises view point given whole f
      → AllPremises view point given whole (cond b (f ∷ []) [])
  premises_if b f p = grind arith

  premises_two : (ns ms : List CoreForm) (h : CoreForm) → AllPremises view point given whole ns
      → AllPremises view point given whole ms
      → AllPremises view point given whole (h ∷ []) → AllPremises view point given whole (ns ++ ms ++ h ∷ [])
  premises_two ns ms h first second own = premises_append (ns ++ ms) (h ∷ []) (premises_append ns ms first second) own

  premises_either : (b : Bool) (fs gs : List CoreForm) → AllPremises view point given whole fs
      → AllPremises view point given whole gs → AllPremises view point given whole (cond b fs gs)
  premises_either b fs gs first second = grind arith

  premises_fewer : (fs : List CoreForm) → AllPremises view point given whole fs
      → AllPremises view point given whole (without_last fs)
  premises_fewer [] all = tt
  premises_fewer (f ∷ []) all = tt
  premises_fewer (f ∷ g ∷ fs) all = (all.0, premises_fewer (g ∷ fs) all.1)

  -- what the step takes for granted of a core it does of a part of it
  premises_of : {f g : CoreForm} → Premises view point given whole f → IsWellFormedIn whole g
      → SameNear view g given.db point.db → Premises view point given whole g
  premises_of p sound same = assumption

  -- and so of each part
  pub premises_all : (r : Role) (f : CoreForm) → Premises view point given whole f
      → AllPremises view point given whole (nodes_in r f)
  unfolding nodes_in
  premises_all r (Exists x f) p = search (premises_append, premises_all role.Whole f (premises_of p p.sound.4 p.same))
  premises_all r (Previous i f) p = search (premises_append, premises_all role.Whole f (premises_of p p.sound p.same))
  premises_all r (Next i f) p = search (premises_append, premises_all role.Whole f (premises_of p p.sound p.same))
  premises_all r (And f g) p =
      let left = premises_of {g = f} p p.sound.0 p.same.0 in
      let right = premises_of {g = g} p p.sound.1 p.same.1 in
      premises_either (is_conjunction r && filters f g)
      (nodes_in role.Whole f ++ without_last (nodes_in role.Part g) ++ And f g ∷ [])
      (nodes_in role.Part f ++ nodes_in role.Part g ++ cond (is_conjunction r) (And f g ∷ []) [])
      (premises_two (nodes_in role.Whole f) (without_last (nodes_in role.Part g)) (And f g)
      (premises_all role.Whole f left) (premises_fewer (nodes_in role.Part g) (premises_all role.Part g right)) (p, tt))
      (premises_append (nodes_in role.Part f ++ nodes_in role.Part g) (cond (is_conjunction r) (And f g ∷ []) [])
      (premises_append (nodes_in role.Part f) (nodes_in role.Part g) (premises_all role.Part f left)
      (premises_all role.Part g right))
      (premises_if (is_conjunction r) (And f g) p))
  premises_all r (Or f g) p =
      premises_two (nodes_in role.Whole f) (nodes_in role.Whole g) (Or f g)
      (premises_all role.Whole f (premises_of p p.sound.2 p.same.0))
      (premises_all role.Whole g (premises_of p p.sound.3 p.same.1)) (p, tt)
  premises_all r (Not f) p =
      search (premises_append, premises_if, premises_all (under_not r) f (premises_of p p.sound p.same))
  premises_all r (Since i f g) p =
      premises_two (nodes_in role.Left f) (nodes_in role.Whole g) (Since i f g)
      (premises_all role.Left f (premises_of p p.sound.1 p.same.0))
      (premises_all role.Whole g (premises_of p p.sound.2 p.same.1)) (p, tt)
  premises_all r (Until i f g) p =
      premises_two (nodes_in role.Left f) (nodes_in role.Whole g) (Until i f g)
      (premises_all role.Left f (premises_of p p.sound.1 p.same.0))
      (premises_all role.Whole g (premises_of p p.sound.2 p.same.1)) (p, tt)
  premises_all r (Compare c) p = premises_if (stands_alone r (binds c)) (Compare c) p
  premises_all role.Left True p = (premises_of p p.sound p.same, tt)
  premises_all r f p = (p, tt)

pub nodes_append : (view : View) (fs gs : List CoreForm) (ns ms : List Node) → NodesStand view fs ns
    → NodesStand view gs ms → NodesStand view (fs ++ gs) (ns ++ ms)
nodes_append view [] gs [] ms first second = second
nodes_append view (f ∷ fs) gs (n ∷ ns) ms first second = search (nodes_append view fs gs ns ms first.2 second)
nodes_append view fs gs ns ms first second = absurd assumption

stack_append : (view : View) (point : TimePoint) (fs : List CoreForm) (f : CoreForm) (stack : List (List TableOf))
    (tables : List TableOf) → StackNews view point fs stack → News view point f tables
    → StackNews view point (fs ++ f ∷ []) (stack ++ tables ∷ [])
stack_append view point [] f [] tables first one = (one, tt)
stack_append view point (g ∷ fs) f (ts ∷ stack) tables first one =
    (first.0, stack_append view point fs f stack tables first.1 one)
stack_append view point fs f stack tables first one = absurd assumption

top_only : (view : View) (point : TimePoint) (f : CoreForm) (rest : List (List TableOf)) (top : List TableOf)
    → StackNews view point (f ∷ []) (rest ++ top ∷ []) → News view point f top
top_only view point f rest top news = grind (arith, common_steps)

module _ (view : View) (point given : TimePoint) (whole : CoreForm) where
  -- the step begins
  pub going_begins : (nodes : List Node) → Premises view point given whole whole
      → NodesStand view (nodes_of whole) nodes → Going view point given whole [] nodes []
  going_begins nodes premises stand =
      record {
        old = [];
        next = nodes_of whole;
        pending = [];
        all = refl;
        took = tt;
        take = stand;
        works = rw (append-nil (nodes_of whole)) at (nodes_work (posed whole) role.Whole (posed whole) [] [] refl);
        premises = search (premises_all, premises_posed);
        news = tt;
      }

  turn : (done todo : List Node) (stack rest items : List (List TableOf)) (tables : List TableOf) (node new : Node)
      (old next pending : List CoreForm) → nodes_of whole ≡ old ++ next
      → NodesStand (longer view point) old done → NodesStand view next (node ∷ todo)
      → Works (posed whole) pending next → AllPremises view point given whole next → StackNews view point pending stack
      → TakesPoint node given stack new rest tables → items ≡ rest ++ tables ∷ []
      → Going view point given whole (done ++ new ∷ []) todo items
  turn done todo stack rest items tables node new old [] pending all took take works premises news advances is =
      absurd take
  turn done todo stack rest items tables node new old (f ∷ next) pending all took take works premises news advances is =
      let took_one = advances view point whole f works.0 premises.0 take.0 take.1
      (subst (λ fs. StackNews view point fs stack) works.1 news) in
      record {
        old = old ++ f ∷ [];
        next = next;
        pending = works.0 ++ f ∷ [];
        all = all ∙ sym (append_assoc old (f ∷ []) next);
        took = nodes_append (longer view point) old (f ∷ []) done (new ∷ []) took (took_one.0, took_one.1, tt);
        take = take.2;
        works = works.2;
        premises = premises.1;
        news = rw is (stack_append view point works.0 f rest tables took_one.2 took_one.3);
      }

  -- one node more takes the time-point
  pub going_turns : (nodes behind : List Node) (n : ℕ) (stack rest items : List (List TableOf)) (tables : List TableOf)
      (default new : Node) → n < length nodes
      → Going view point given whole (take n nodes) (drop n nodes ++ behind) stack
      → TakesPoint (get_or nodes n default) given stack new rest tables → items ≡ rest ++ tables ∷ []
      → Going view point given whole (take (n + 1) (set nodes n new)) (drop (n + 1) (set nodes n new) ++ behind) items
  going_turns nodes behind n stack rest items tables default new inside going advances pushed =
      grind (arith, drop-cons nodes n default inside, take-suc-set nodes n new inside, drop-set-lt, turn)

  -- all nodes of a list took the time-point, and those behind are still to
  pub going_behind : (nodes behind : List Node) (n : ℕ) (stack : List (List TableOf)) → length nodes ≤ n
      → Going view point given whole (take n nodes) (drop n nodes ++ behind) stack
      → Going view point given whole nodes behind stack
  going_behind nodes behind n stack all going = rw (take_all n nodes all, drop_all n nodes all) at going

  ended : (done : List Node) (rest : List (List TableOf)) (top : List TableOf) (old next pending : List CoreForm)
      → nodes_of whole ≡ old ++ next → NodesStand (longer view point) old done → NodesStand view next []
      → Works (posed whole) pending next → StackNews view point pending (rest ++ top ∷ [])
      → NodesStand (longer view point) (nodes_of whole) done × News view point whole top
  ended done rest top old (f ∷ next) pending all took take works news = absurd take
  ended done rest top old [] pending all took take works news = grind (arith, append-nil, news_posed, top_only)

  -- the last node takes the time-point, and the step ends
  pub going_ends : (before : List Node) (last new : Node) (stack rest : List (List TableOf)) (top : List TableOf)
      → Going view point given whole before (last ∷ []) stack → TakesPoint last given stack new rest top
      → NodesStand (longer view point) (nodes_of whole) (before ++ new ∷ []) × News view point whole top
  going_ends before last new stack rest top going advances =
      let turned = turn before [] stack rest (rest ++ top ∷ []) top last new going.old going.next going.pending
      going.all going.took going.take going.works going.premises going.news advances refl in
      grind (arith, ended)

  idle : (next pending : List CoreForm) → NodesStand view next [] → Works (posed whole) pending next
      → StackNews view point pending [] → ⊥
  idle (f ∷ next) pending take works news = take
  idle [] pending take works news = rw works at news

  -- a core has a node
  pub going_somewhere : Going view point given whole [] [] [] → ⊥
  going_somewhere going = idle going.next going.pending going.take going.works going.news
