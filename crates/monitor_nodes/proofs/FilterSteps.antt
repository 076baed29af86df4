-- The state of a conjunction whose right side is asked for the left one's rows, over one step.
use Rattle.std.proofs.Common.{◌≡◌, ℕ, ◌+◌, ◌≤◌, Bool, true, false, ◌&&◌, nat_eq, Option, Some, None, List, [], ◌∷◌}
use Rattle.std.proofs.Common.{length, map, refl, sym, ap, ap₂, ◌∙◌, inl, inr, arith, length-append}
use Rattle.std.proofs.lemmas.Bool.{or_cases, or_left, or_right}
use Rattle.std.proofs.lemmas.List.Folds.{list_any-append}
use Rattle.mfotl_model.proofs.{CountLemmas.counted_settled, LogicLemmas.among_joined, ColumnLemmas.read_own}
use Rattle.mfotl_model.specs.Exact.{View, AllExact, Exact}
use Rattle.mfotl_model.specs.FreeVariables.{among, fv, joined}
use Rattle.mfotl_model.specs.{Log.times, Regions.Passes, Satisfaction.Valuation, Satisfaction.sat, Times.NeverFalls}
use Rattle.mfotl_model.specs.Tables.{TableOf, all_among, has, has_row, valuation}
use Rattle.mfotl_model.specs.declared.event.TimePoint.{TimePoint}
use Rattle.monitorable.proofs.Coincidence.{coincidence}
use Rattle.monitorable.specs.CoreForms.{CoreForm, meaning, Compare, Not, And, Since, Until}
use Rattle.monitorable.specs.{Fragment.bound_by, Soundness.IsWellFormedIn}
use Rattle.relations.proofs.{JoinLemmas.member_of_all, InsideLemmas.joined_within}
use Rattle.relations.specs.Pushed.{turned}
use Rattle.core_arranging.specs.Windows.{left_operand}
use Rattle.monitor_nodes.proofs.CountLemmas.{and_below, count_and, count_below}
use Rattle.monitor_nodes.proofs.ExactLemmas.{reached_grows, reached_within, rising_before}
use Rattle.monitor_nodes.proofs.{GrowthLemmas.exact_more, SinceSteps.reached_operand, SinceSteps.turned_sat}
use Rattle.monitor_nodes.proofs.RegionLemmas.{all_from_each, joined_inside, near_left, near_right, right_inside}
use Rattle.monitor_nodes.proofs.WindowSteps.{window_due_at, window_fed, window_gone, window_means, window_settled}
use Rattle.monitor_nodes.specs.FilterFeeding.{FilterPulled, FilterStep, FilterStops, FilterTakes, FiltersOrJoins, Joins}
use Rattle.monitor_nodes.specs.FilterFeeding.{Sifts}
use Rattle.monitor_nodes.specs.FilterNode.{FilterStands, GivenAs, IsFilter}
use Rattle.monitor_nodes.specs.Operands.{adds_none, is_negated, window_operands}
use Rattle.monitor_nodes.specs.Steps.{News, StackNews, longer}
use Rattle.monitor_nodes.specs.Views.{reached}
use Rattle.monitor_nodes.specs.WindowNode.{IsWindow, WindowStands, window_columns, window_due}
use Rattle.monitor_nodes.specs.declared.{filter.FilterState.FilterState, window.Window.Window}
use Rattle.monitor_nodes.specs.declared.window.Window.TheVariants as window

-- what a core binds is free in it
pub bound_free : (f : CoreForm) (y : ℕ) → among y (bound_by f) ≡ true → among y (fv (meaning f)) ≡ true
unfolding fv bound_by
bound_free (Compare c) y h = grind arith
bound_free (Not f) y h = absurd (let clash : true ≡ false = sym h in cc)
bound_free (And f g) y h =
    among_joined y (fv (meaning f)) (fv (meaning g))
    ∙ elim (or_cases (among y (bound_by f)) (among y (bound_by g))
    (sym (list_any-append (λ z. nat_eq y z) (bound_by f) (bound_by g)) ∙ h)) [
      | inl e ↦ or_left (among y (fv (meaning f))) (among y (fv (meaning g))) (bound_free f y e)
      | inr e ↦ or_right (among y (fv (meaning f))) (among y (fv (meaning g))) (bound_free g y e)
    ]
bound_free f y h = h

-- the columns of a window's rows are its variables
columns_within : (whole w : CoreForm) (s : Window) → IsWellFormedIn whole w → IsWindow w s
    → (all_among (window_columns s) (fv (meaning w)) ≡ true) × (all_among (fv (meaning w)) (window_columns s) ≡ true)
unfolding fv
columns_within whole (Since i f g) (window.Since s) sound is =
    rw is.right (
      right_inside (fv (meaning f)) (fv (meaning g)),
      joined_inside (fv (meaning f)) (fv (meaning g)) sound.0,
    )
columns_within whole (Until i f g) (window.Until s) sound is =
    rw is.right (
      right_inside (fv (meaning f)) (fv (meaning g)),
      joined_inside (fv (meaning f)) (fv (meaning g)) sound.0,
    )
columns_within whole w s sound is = absurd is

joined_among : (xs ys zs : List ℕ) → all_among ys zs ≡ true → all_among (joined xs ys) (joined xs zs) ≡ true
joined_among xs ys zs all =
    all_from_each (joined xs ys) (joined xs zs)
    (λ y m.
    among_joined y xs zs
    ∙ elim (or_cases (among y xs) (among y ys) (sym (among_joined y xs ys) ∙ m)) [
      | inl first ↦ or_left (among y xs) (among y zs) first
      | inr second ↦ or_right (among y xs) (among y zs) (member_of_all (λ z. among z zs) ys y all second)
    ])

has_is : (table : TableOf) (columns : List ℕ) (v : Valuation) → table.columns ≡ columns
    → has table v ≡ has_row table.rows (map v columns)
unfolding has
has_is table columns v same = ap (λ cs. has_row table.rows (map v cs)) same

-- a state that stands with p positions pulled
record StandsAt (view : View) (f g : CoreForm) (p : ℕ) (s : FilterState) : Type 0 where
  turns : s.negated ≡ is_negated g
  gives : GivenAs f g s.order
  pushed : p + length s.tables ≡ reached view f
  inside : p ≤ reached view g
  exact : AllExact view (meaning f) p s.tables
  asks : IsWindow (left_operand g) s.window
  behind : WindowStands view p (left_operand g) s.window

module _ (view : View) (rising : NeverFalls (times view.log)) (passes : Passes (fv view.whole) view.near)
    (whole f g : CoreForm) (sound : IsWellFormedIn whole (left_operand g)) where
  -- a table without what the window filters out is exact for the conjunction
  sifted_exact : (p : ℕ) (s : Window) (negated : Bool) (table kept : TableOf) → adds_none f g ≡ true
      → negated ≡ is_negated g → IsWindow (left_operand g) s → WindowStands view p (left_operand g) s
      → Exact view (meaning f) p table
      → kept.columns ≡ table.columns → Sifts s negated table.columns table.rows kept.rows
      → Exact view (meaning (And f g)) p kept
  unfolding fv sat
  sifted_exact p s negated table kept none turns is stands exact over sifts =
      record {
        columns = grind (arith, joined_within, all_from_each, bound_free, member_of_all);
        rows = λ dom v covers near.
            let own : Valuation = valuation table.columns (map v table.columns) in
            let agree : (y : ℕ) → among y (fv (meaning (left_operand g))) ≡ true
            → (among y (fv (meaning f)) ≡ true) × (own y ≡ v y) = λ y m.
            let inner : among y (fv (meaning f)) ≡ true =
            (grind (arith, bound_free, member_of_all)) in
            (inner, read_own v table.columns y (ap (among y) exact.columns ∙ inner)) in
            has_is kept table.columns v over
            ∙ sifts (map v table.columns) (sat view.log dom v p (meaning (left_operand g)))
            (λ answer answers.
            window_means view rising passes (left_operand g) s p is stands dom own covers
            (passes (joined (fv (meaning f)) (fv (meaning g))) (fv (meaning (left_operand g))) v own
            (λ y m free. (
              among_joined y (fv (meaning f)) (fv (meaning g))
                  ∙ or_left (among y (fv (meaning f))) (among y (fv (meaning g))) (agree y m).0,
              sym (agree y m).1,
            )) near) answer answers
            ∙ coincidence view.log dom (meaning (left_operand g)) own v p (λ y m. (agree y m).1))
            ∙ ap₂ (λ a b. a && b)
            (sym (has_is table table.columns v refl)
            ∙ exact.rows dom v covers
            (near_left (fv view.whole) view.near passes (fv (meaning f)) (fv (meaning g)) v near))
            (ap (λ n. turned n (sat view.log dom v p (meaning (left_operand g)))) turns ∙ turned_sat view dom v p g);
      }

  -- so is a table that was joined with the window's rows
  joined_exact : (p : ℕ) (s : Window) (order table kept : TableOf) → is_negated g ≡ false
      → order.columns ≡ fv (meaning (And f g)) → IsWindow (left_operand g) s → WindowStands view p (left_operand g) s
      → Exact view (meaning f) p table → Joins s order table kept → Exact view (meaning (And f g)) p kept
  unfolding fv sat
  joined_exact p s order table kept plain ordered is stands exact joins =
      let own : left_operand g ≡ g = (grind arith) in
      let within = columns_within whole (left_operand g) s sound is in
      let both : joined table.columns (window_columns s) ≡ joined (fv (meaning f)) (window_columns s) = cc in
      record {
        columns = joins.over ∙ ordered;
        rows = λ dom v covers near.
            joins.rows
            (ap₂ all_among ordered both
            ∙ joined_among (fv (meaning f)) (fv (meaning g)) (window_columns s)
            (rw own at within.1))
            (ap₂ all_among both ordered
            ∙ joined_among (fv (meaning f)) (window_columns s) (fv (meaning g))
            (rw own at within.0))
            v (sat view.log dom v p (meaning (left_operand g)))
            (window_means view rising passes (left_operand g) s p is stands dom v covers
            (rw own (near_right (fv view.whole) view.near passes (fv (meaning f)) (fv (meaning g)) v near)))
            ∙ ap₂ (λ a b. a && b)
            (exact.rows dom v covers
            (near_left (fv view.whole) view.near passes (fv (meaning f)) (fv (meaning g)) v near))
            (ap (λ w. sat view.log dom v p (meaning w)) own);
      }

  given_exact : (p : ℕ) (s : Window) (negated : Bool) (order : Option TableOf) (table kept : TableOf)
      → negated ≡ is_negated g → GivenAs f g order → IsWindow (left_operand g) s
      → WindowStands view p (left_operand g) s → Exact view (meaning f) p table
      → FiltersOrJoins s negated order table kept → Exact view (meaning (And f g)) p kept
  given_exact p s negated None table kept turns none is stands exact gives = search (sifted_exact)
  given_exact p s negated (Some order) table kept turns as_ is stands exact gives = search (joined_exact)

  step_stands : (p : ℕ) (old new : FilterState) (kept : TableOf) → StandsAt view f g p old → FilterStep old new kept
      → StandsAt view f g (p + 1) new × Exact view (meaning (And f g)) p kept
  step_stands p old new kept stands step =
      let ready = window_settled view (left_operand g) old.window step.ready p stands.asks stands.behind step.settles in
      let within = reached_within view f in
      let front = ap length step.front in
      let low = count_below (times view.log) rising (meaning (left_operand g)) p
      (sym (window_due_at view rising (left_operand g) step.ready p (omega arith) ready.0 ready.1) ∙ step.was_due) in
      let gone = window_gone view (left_operand g) step.ready new.window p ready.0 ready.1 step.was_due step.goes in
      grind (arith, reached_operand, given_exact)

  steps_stand : (p : ℕ) (old new : FilterState) (tables : List TableOf) → StandsAt view f g p old
      → FilterPulled old new tables
      → StandsAt view f g (p + length tables) new × AllExact view (meaning (And f g)) p tables
  steps_stand p old new [] stands same = grind arith
  steps_stand p old new (kept ∷ tables) stands pulled =
      let one = step_stands p old pulled.0 kept stands pulled.1 in
      let rest = steps_stand (p + 1) pulled.0 new tables one.0 pulled.2 in
      let here : p + 1 + length tables ≡ p + length (kept ∷ tables) = omega arith in
      (rw here at rest.0, (one.1, rest.1))

  stops_stand : (p : ℕ) (old new : FilterState) → StandsAt view f g p old → FilterStops old new
      → StandsAt view f g p new
  stops_stand p old new stands stops = grind (arith, window_settled)

  -- where no more can be pulled, all settled positions are
  all_pulled : (p : ℕ) (s : FilterState) → StandsAt view f g p s → (window_due s.window ≡ true → s.tables ≡ [])
      → p ≡ reached view (And f g)
  all_pulled p s stands done =
      let within = reached_within view f in
      count_and (times view.log) rising (meaning f) (meaning g) p (omega arith) stands.inside
      (λ low high.
      let ready = counted_settled (times view.log) (meaning (left_operand g)) p
      (omega (arith, reached_operand view g)) in
      let none : length s.tables ≡ 0 = grind (arith, window_due_at) in
      omega arith)

module _ {view : View} {point : TimePoint} (whole : CoreForm) {f g : CoreForm} {old new : FilterState} {ts : ℕ}
    {fs ls rs tables : List TableOf} (is : IsFilter f g old) (stands : FilterStands view f g old)
    (news : News view point f fs)
    (operands_news : StackNews view point (window_operands (left_operand g)) (ls ∷ rs ∷ []))
    (takes : FilterTakes old ts fs ls rs new tables) (ts_is : ts ≡ point.ts)
    (rising : NeverFalls (times (longer view point).log)) (passes : Passes (fv view.whole) view.near)
    (sound : IsWellFormedIn whole (left_operand g)) where
  fed_stands : StandsAt (longer view point) f g (reached view (And f g)) takes.fed
  fed_stands =
      let fed = window_fed view point whole (left_operand g) old.window takes.fed.window (reached view (And f g)) ts ls
      rs is.asks stands.behind (reached_within view (And f g)) operands_news takes.feeds ts_is rising passes sound in
      record {
        turns = takes.turns ∙ is.turns;
        gives = rw takes.orders is.gives;
        pushed = rw takes.pushed (omega (arith, length-append old.tables fs));
        inside = omega (
          arith,
          reached_grows view point rising g,
          and_below (times view.log) (rising_before view point rising) (meaning f) (meaning g),
        );
        exact = rw takes.pushed
            (exact_more news rising (reached view (And f g)) old.tables stands.pushed stands.exact);
        asks = fed.0;
        behind = fed.1;
      }

  last_stands : StandsAt (longer view point) f g (reached view (And f g) + length tables) takes.last
      × AllExact (longer view point) (meaning (And f g)) (reached view (And f g)) tables
  last_stands =
      steps_stand (longer view point) rising passes whole f g sound (reached view (And f g)) takes.fed takes.last tables
      fed_stands takes.pulls

  new_stands : StandsAt (longer view point) f g (reached view (And f g) + length tables) new
  new_stands =
      stops_stand (longer view point) rising passes whole f g sound (reached view (And f g) + length tables)
      takes.last new last_stands.0 takes.stops

  count : reached view (And f g) + length tables ≡ reached (longer view point) (And f g)
  count = search (all_pulled, new_stands)

  pub filter_steps : IsFilter f g new × FilterStands (longer view point) f g new × News view point (And f g) tables
  filter_steps =
      let now = rw count at new_stands in (
        record { only = is.only; turns = now.turns; asks = now.asks; gives = now.gives },
        record { pushed = now.pushed; exact = now.exact; behind = now.behind; all = takes.stops.all },
        record { count = count; exact = last_stands.1 },
      )
