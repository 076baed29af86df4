-- A conjunction's state over one step.
use Rattle.std.proofs.Common.{◌≡◌, ℕ, ◌+◌, ◌<◌, Bool, true, false, not, cond, ◌&&◌, nat_lt, nat_le, List, [], ◌∷◌, ◌++◌}
use Rattle.std.proofs.Common.{length, map, refl, sym, ap, ap₂, ◌∙◌, arith, length-append}
use Rattle.std.proofs.Math.Bool.{beq, and-true, and_assoc}
use Rattle.std.proofs.lemmas.Bool.{lt-ltb, ltb-true, leb-true, le-leb, and_parts, and_from}
use Rattle.std.proofs.{lemmas.List.length-drop, lemmas.List.Folds.list_all-append}
use Rattle.std.specs.List.{list_all}
use Rattle.mfotl_model.proofs.{CountLemmas.counted_settled, LogicLemmas.and_moved}
use Rattle.mfotl_model.proofs.VariableLemmas.{joined_assoc, joined_none, joined_nothing}
use Rattle.mfotl_model.specs.Exact.{View, Covers, AllExact}
use Rattle.mfotl_model.specs.FreeVariables.{joined, fv, variables_in}
use Rattle.mfotl_model.specs.{Log.times, Regions.Passes, Settled.settled, Tables.TableOf, Tables.has, Times.NeverFalls}
use Rattle.mfotl_model.specs.Satisfaction.{Valuation, sat, compares, term_value}
use Rattle.mfotl_model.specs.declared.{event.TimePoint.TimePoint, term.Comparison.Comparison, value.Value.Value}
use Rattle.eval_bool.specs.Firsts.{first_has}
use Rattle.eval_bool.specs.JoinView.{ChildOf, JoinOf, child_holds, children_of, conjunct_columns, join_due, joins}
use Rattle.eval_bool.specs.JoinView.{test_holds, tests_of}
use Rattle.monitorable.proofs.{ConjunctsLaw.conjuncts_mean, SettledLemmas.settled_in_log}
use Rattle.monitorable.specs.CoreForms.{CoreForm, meaning, Compare, Not, And}
use Rattle.monitorable.specs.Conjuncts.{PartForm, conjuncts_of, negated_part, part_holds}
use Rattle.monitorable.specs.{Conjuncts.PartForm.Child as ChildPart, Conjuncts.PartForm.Test as TestPart}
use Rattle.monitorable.specs.{Fragment.binds}
use Rattle.relations.specs.{Operations.chosen, Pushed.turned}
use Rattle.monitor_nodes.proofs.CountLemmas.{count_below, count_is, count_within}
use Rattle.monitor_nodes.proofs.ExactLemmas.{exact_drop, shifted, stand_exact}
use Rattle.monitor_nodes.proofs.{GrowthLemmas.exact_more, GrowthLemmas.first_exact, RegionLemmas.near_left}
use Rattle.monitor_nodes.proofs.{RegionLemmas.near_right}
use Rattle.monitor_nodes.specs.JoinFeeding.{JoinTakes, child_dropped, children_fed, join_fed, join_pulled}
use Rattle.monitor_nodes.specs.{Operands.children, Operands.operands, Views.reached}
use Rattle.monitor_nodes.specs.Stands.{ChildrenStand, IsConjunction, JoinStands, bare, conjunct_as}
use Rattle.monitor_nodes.specs.Steps.{News, StackNews, longer}

-- the columns of conjuncts in a row
columns_append : (ps qs : List PartForm)
    → conjunct_columns (map conjunct_as (ps ++ qs)) ≡ joined (conjunct_columns (map conjunct_as ps))
    (conjunct_columns (map conjunct_as qs))
columns_append [] qs = sym (joined_none (conjunct_columns (map conjunct_as qs)))
columns_append (ChildPart f negated ∷ ps) qs = simp (joined_assoc, columns_append ps qs)
columns_append (TestPart c wanted ∷ ps) qs = simp (joined_assoc, columns_append ps qs)

negated_columns : (f : CoreForm) → conjunct_columns (map conjunct_as (negated_part f ∷ [])) ≡ fv (meaning f)
unfolding fv
negated_columns f = grind (arith, joined_nothing)

compared_columns : (c : Comparison) (b : Bool)
    → conjunct_columns (map conjunct_as (cond b (ChildPart (Compare c) false) (TestPart c true) ∷ [])) ≡ variables_in
    (c.left ∷ c.right ∷ [])
unfolding fv
compared_columns c b = grind arith

-- the columns of a conjunction are its free variables
pub columns_are : (f : CoreForm) → conjunct_columns (map conjunct_as (conjuncts_of f)) ≡ fv (meaning f)
unfolding fv conjuncts_of
columns_are (And f g) = columns_append (conjuncts_of f) (conjuncts_of g) ∙ ap₂ joined (columns_are f) (columns_are g)
columns_are (Not f) = negated_columns f
columns_are (Compare c) = compared_columns c (binds c)
columns_are f = joined_nothing (fv (meaning f))

-- a comparison that is wanted to come out so
pub chosen_is : (wanted b : Bool) → beq wanted b ≡ cond wanted b (not b)
chosen_is wanted b = grind arith

module _ (view : View) (passes : Passes (fv view.whole) view.near) where
  -- what joins of exact tables is what the conjuncts mean
  joins_mean : (i : ℕ) (parts : List PartForm) (cs : List ChildOf)
      → map bare cs ≡ children_of (map conjunct_as parts) → ChildrenStand view i (children parts) cs
      → list_all (λ c. nat_lt 0 (length c.tables)) cs ≡ true → (dom : List Value) (v : Valuation) → Covers view dom
      → view.near (conjunct_columns (map conjunct_as parts)) v ≡ true
      → (list_all (child_holds v) cs && list_all (test_holds v) (tests_of (map conjunct_as parts)))
      ≡ list_all (part_holds view.log dom v i) parts
  unfolding sat chosen
  joins_mean i [] [] is stand ready dom v covers near = refl
  joins_mean i (ChildPart f negated ∷ parts) (c ∷ cs) is stand ready dom v covers near =
      let readies = and_parts (nat_lt 0 (length c.tables)) (list_all (λ c. nat_lt 0 (length c.tables)) cs) ready in
      let head : bare c ≡ record { columns = fv (meaning f); negated = negated; tables = [] } = cc in
      let own : c.negated ≡ negated = ap (λ (x : ChildOf). x.negated) head in
      let rest : map bare cs ≡ children_of (map conjunct_as parts) = cc in
      and_assoc (turned c.negated (first_has v c.tables)) (list_all (child_holds v) cs)
      (list_all (test_holds v) (tests_of (map conjunct_as parts)))
      ∙ ap₂ (λ b r. b && r)
      (ap₂ turned own
      (first_exact view (meaning f) i c.tables dom v covers
      (near_left (fv view.whole) view.near passes (fv (meaning f)) (conjunct_columns (map conjunct_as parts)) v near)
      (ltb-true 0 (length c.tables) readies.0) stand.0.exact))
      (joins_mean i parts cs rest stand.1 readies.1 dom v covers
      (near_right (fv view.whole) view.near passes (fv (meaning f)) (conjunct_columns (map conjunct_as parts)) v near))
  joins_mean i (TestPart c wanted ∷ parts) cs is stand ready dom v covers near =
      and_moved (list_all (child_holds v) cs)
      (beq wanted (compares c.sign (term_value v c.left) (term_value v c.right)))
      (list_all (test_holds v) (tests_of (map conjunct_as parts)))
      ∙ ap₂ (λ b r. b && r) (chosen_is wanted (compares c.sign (term_value v c.left) (term_value v c.right)))
      (joins_mean i parts cs is stand ready dom v covers
      (near_right (fv view.whole) view.near passes (variables_in (c.left ∷ c.right ∷ []))
      (conjunct_columns (map conjunct_as parts)) v near))
  joins_mean i parts cs is stand ready dom v covers near = absurd assumption

bare_dropped : (n : ℕ) (cs : List ChildOf) → map bare (map (child_dropped n) cs) ≡ map bare cs
bare_dropped n [] = refl
bare_dropped n (c ∷ cs) = ap (λ ds. bare c ∷ ds) (bare_dropped n cs)

bare_fed : (cs : List ChildOf) (lists : List (List TableOf)) → map bare (children_fed cs lists) ≡ map bare cs
bare_fed [] lists = refl
bare_fed (c ∷ cs) [] = refl
bare_fed (c ∷ cs) (l ∷ lists) = ap (λ ds. bare c ∷ ds) (bare_fed cs lists)

-- children from which tables were taken
dropped_stand : (view : View) (i k : ℕ) (fs : List CoreForm) (cs : List ChildOf)
    → list_all (λ c. nat_le k (length c.tables)) cs ≡ true
    → ChildrenStand view i fs cs → ChildrenStand view (i + k) fs (map (child_dropped k) cs)
dropped_stand view i k [] [] room stand = tt
dropped_stand view i k (f ∷ fs) (c ∷ cs) room stand =
    let parts = and_parts (nat_le k (length c.tables)) (list_all (λ c. nat_le k (length c.tables)) cs) room in (
      record {
        pushed = omega (arith, leb-true k (length c.tables) parts.0, length-drop k c.tables, stand.0.pushed);
        exact = exact_drop view (meaning f) i k c.tables stand.0.exact;
      },
      dropped_stand view i k fs cs parts.1 stand.1,
    )
dropped_stand view i k fs cs room stand = absurd assumption

-- less room is enough, and some is left then
less_room : (k n : ℕ) (cs : List ChildOf) → k < n → list_all (λ c. nat_le n (length c.tables)) cs ≡ true
    → (list_all (λ c. nat_le k (length c.tables)) cs ≡ true)
    × (list_all (λ c. nat_lt 0 (length c.tables)) (map (child_dropped k) cs) ≡ true)
less_room k n [] low room = (refl, refl)
less_room k n (c ∷ cs) low room =
    let parts = and_parts (nat_le n (length c.tables)) (list_all (λ c. nat_le n (length c.tables)) cs) room in
    let high = leb-true n (length c.tables) parts.0 in
    grind (arith, and_from, le-leb, lt-ltb, length-drop, less_room k n cs low parts.1)

children_append : (ps qs : List PartForm) → children (ps ++ qs) ≡ children ps ++ children qs
children_append [] qs = refl
children_append (ChildPart f n ∷ ps) qs = ap (λ fs. f ∷ fs) (children_append ps qs)
children_append (TestPart c w ∷ ps) qs = children_append ps qs

-- whether each of the cores is settled at a position
abbrev all_settled : List ℕ → ℕ → List CoreForm → Bool
all_settled t j fs = list_all (λ f. settled t (meaning f) j) fs

module _ (t : List ℕ) (j : ℕ) (inside : nat_lt j (length t) ≡ true) where
  negated_settled : (f : CoreForm) → settled t (meaning f) j ≡ all_settled t j (children (negated_part f ∷ []))
  unfolding settled
  negated_settled f = grind arith

  compared_settled : (c : Comparison) (b : Bool) → settled t (meaning (Compare c)) j
      ≡ all_settled t j (children (cond b (ChildPart (Compare c) false) (TestPart c true) ∷ []))
  unfolding settled
  compared_settled c b = grind arith

  -- a conjunction is settled where its children are
  parts_settled : (f : CoreForm) → settled t (meaning f) j ≡ all_settled t j (children (conjuncts_of f))
  unfolding settled conjuncts_of
  parts_settled (And f g) = simp (children_append, list_all-append, parts_settled f, parts_settled g)
  parts_settled (Not f) = negated_settled f
  parts_settled (Compare c) = compared_settled c (binds c)
  parts_settled f = sym (and-true (settled t (meaning f) j))

-- a conjunction of tests alone is settled wherever the log is
pub tests_settled : (t : List ℕ) (j : ℕ) (f : CoreForm) → children (conjuncts_of f) ≡ []
    → settled t (meaning f) j ≡ nat_lt j (length t)
tests_settled t j f none = grind (arith, lt-ltb, settled_in_log, parts_settled)

-- how far the children's tables go
module _ (view : View) (rising : NeverFalls (times view.log)) where
  children_settled : (n j : ℕ) (fs : List CoreForm) (cs : List ChildOf) → j < n → ChildrenStand view n fs cs
      → all_settled (times view.log) j fs ≡ true
  children_settled n j [] [] low stand = refl
  children_settled n j (f ∷ fs) (c ∷ cs) low stand =
      grind (arith, and_from, counted_settled, children_settled n j fs cs low stand.1)
  children_settled n j fs cs low stand = absurd assumption

  all_due : (n : ℕ) (fs : List CoreForm) (cs : List ChildOf) → ChildrenStand view n fs cs
      → all_settled (times view.log) n fs ≡ true → list_all (λ c. nat_lt 0 (length c.tables)) cs ≡ true
  all_due n [] [] stand all = refl
  all_due n (f ∷ fs) (c ∷ cs) stand all =
      let parts = and_parts (settled (times view.log) (meaning f) n) (all_settled (times view.log) n fs) all in
      let low = count_below (times view.log) rising (meaning f) n parts.0 in
      grind (arith, and_from, lt-ltb, all_due n fs cs stand.1 parts.1)
  all_due n fs cs stand all = absurd assumption

  in_log : (n j : ℕ) (fs : List CoreForm) (cs : List ChildOf) → 0 < length fs → j < n → ChildrenStand view n fs cs
      → nat_lt j (length (times view.log)) ≡ true
  in_log n j [] cs some low stand = absurd (omega arith)
  in_log n j (f ∷ fs) [] some low stand = absurd stand
  in_log n j (f ∷ fs) (c ∷ cs) some low stand = omega (arith, lt-ltb, count_within (times view.log) (meaning f))

  join_count : (f : CoreForm) (s : JoinOf) → 0 < length (children (conjuncts_of f))
      → ChildrenStand view s.pulled (children (conjuncts_of f)) s.children
      → join_due s ≡ false → s.pulled ≡ reached view f
  join_count f s some stand done =
      count_is (times view.log) rising (meaning f) s.pulled
      (λ j low.
      parts_settled (times view.log) j (in_log s.pulled j (children (conjuncts_of f)) s.children some low stand) f
      ∙ children_settled s.pulled j (children (conjuncts_of f)) s.children low stand)
      (λ h.
      let inside = lt-ltb s.pulled (length (times view.log))
      (settled_in_log (times view.log) (meaning f) s.pulled h) in
      let clash : true ≡ false = grind (arith, all_due, parts_settled) in
      cc)

module _ (view : View) (point : TimePoint) (rising : NeverFalls (times (longer view point).log))
    (passes : Passes (fv view.whole) view.near) where
  -- the children's tables were pushed
  fed_stand : (i : ℕ) (fs : List CoreForm) (cs : List ChildOf) (lists : List (List TableOf))
      → ChildrenStand view i fs cs
      → StackNews view point fs lists → ChildrenStand (longer view point) i fs (children_fed cs lists)
  fed_stand i [] [] [] stand news = tt
  fed_stand i (f ∷ fs) (c ∷ cs) (tables ∷ lists) stand news =
      grind (arith, length-append, exact_more, fed_stand i fs cs lists stand.1 news.1)
  fed_stand i fs cs lists stand news = absurd assumption

  module _ {f : CoreForm} {old new : JoinOf} {lists : List (List TableOf)} {tables : List TableOf}
      (is : IsConjunction f old) (stands : JoinStands view f old) (news : StackNews view point (operands f) lists)
      (takes : JoinTakes old lists new tables) where
    bare_is : map bare (children_fed old.children lists) ≡ children_of (map conjunct_as (conjuncts_of f))
    bare_is = bare_fed old.children lists ∙ is.parts

    stand_fed : ChildrenStand (longer view point) old.pulled (children (conjuncts_of f))
        (children_fed old.children lists)
    stand_fed = rw is.whole at (fed_stand old.pulled (operands f) old.children lists stands.children news)

    new_stand : ChildrenStand (longer view point) new.pulled (children (conjuncts_of f)) new.children
    new_stand = grind (arith, dropped_stand, stand_fed)

    count : new.pulled ≡ reached (longer view point) f
    count = join_count (longer view point) rising f new is.some new_stand takes.ends

    -- what is pulled at each place is what the conjunction means there
    row_means : (dom : List Value) (v : Valuation) → Covers (longer view point) dom
        → view.near (fv (meaning f)) v ≡ true → (k : ℕ) → k < length tables
        → joins (join_pulled k (join_fed old lists)) v ≡ sat (longer view point).log dom v (old.pulled + k) (meaning f)
    row_means dom v covers near k low =
        let room = less_room k (length tables) (children_fed old.children lists) low takes.pulls.room in
        ap (λ ts. list_all (child_holds v) (map (child_dropped k) (children_fed old.children lists)) && list_all
        (test_holds v) ts) is.tests
        ∙ joins_mean (longer view point) passes (old.pulled + k) (conjuncts_of f)
        (map (child_dropped k) (children_fed old.children lists))
        (bare_dropped k (children_fed old.children lists) ∙ bare_is)
        (dropped_stand (longer view point) old.pulled k (children (conjuncts_of f)) (children_fed old.children lists)
        room.0 stand_fed)
        room.1 dom v covers (rw (columns_are f) near)
        ∙ sym (conjuncts_mean (longer view point).log dom f v (old.pulled + k))

    join_exact : AllExact (longer view point) (meaning f) old.pulled tables
    join_exact =
        stand_exact (longer view point) (meaning f) old.columns old.pulled tables (is.columns ∙ columns_are f)
        takes.pulls.over
        (λ dom v covers near.
        let start : old.pulled + 0 ≡ old.pulled = omega arith in
        rw start at (shifted (λ k table. has table v ≡ joins (join_pulled k (join_fed old lists)) v)
        (λ k table. has table v ≡ sat (longer view point).log dom v k (meaning f)) old.pulled 0 tables
        (λ k table low high row. row ∙ row_means dom v covers near k (omega arith)) (takes.pulls.rows v)))

    pub join_steps : IsConjunction f new × JoinStands (longer view point) f new × News view point f tables
    join_steps = grind (arith, bare_dropped, bare_is, count, new_stand, join_exact)
