-- The data of two SINCEs united stands for both regions, has nothing outside them, and keeps its rule.
use Rattle.std.proofs.Common.{◌≡◌, ℕ, ◌-◌, ◌≤◌, ◌<◌, Bool, true, ◌||◌, cond, nat_eq, List, [], ◌∷◌, length, map, Option}
use Rattle.std.proofs.Common.{Some, refl, sym, ap, ap₂, ◌∙◌}
use Rattle.std.proofs.{lemmas.Bool.and_parts, Math.Bool.or_self}
use Rattle.std.specs.{Cmp.eq_by_cmp_equiv, List.AllByRecursion, Option.unwrap_or}
use Rattle.mfotl_model.specs.{Exact.Covers, Exact.View, FreeVariables.fv, Regions.Region, Satisfaction.Valuation}
use Rattle.mfotl_model.specs.{Satisfaction.time_at, Tables.all_sized, Values.row_total}
use Rattle.mfotl_model.specs.declared.{interval.Interval.Interval, value.Value.Value}
use Rattle.row_times.specs.{KeptTimes.times_for, KeptTimes.times_kept}
use Rattle.eval_since.specs.{SinceBefore.since_before, SinceData.KeepsTimes}
use Rattle.row_times.specs.{Times.reaches}
use Rattle.row_times.specs.declared.kept_row.KeptRow.{KeptRow}
use Rattle.monitorable.specs.CoreForms.{CoreForm, meaning}
use Rattle.relations.specs.KeptRows.{kept_for}
use Rattle.monitor_nodes.specs.{Views.Dates, Views.Tells}
use Rattle.monitor_state.specs.{JoinedRows.RowsUnion, JoinedRows.times_joined, StateInside.WindowInside}
use Rattle.monitor_state.specs.{StateLaws.seen_in, StateRules.SinceKeeps, StateStands.SinceDataStands}
use Rattle.monitor_state.specs.{StateTimes.KeptTimes, StateTimes.time_before, StateUnions.SinceUnion}
use Rattle.monitor_state.specs.declared.state.SinceKept.{SinceKept}
use Rattle.monitor_state.specs.declared.state.WindowData.TheVariants as window
use Rattle.state_merge.proofs.JoinedLemmas.{pooled, times_right}
use Rattle.state_merge.proofs.KeepingLemmas.{each_united, found_each, times_keep}
use Rattle.state_merge.proofs.TablesUnited.{over_union, rows_inside, tables_at, union_length}

-- what the rule says of a row with its times
pub record TimesRow (n : ℕ) (hi : Option ℕ) (past : ℕ) (u : List Value) (ts : List ℕ) : Type 0 where
  pub sized : nat_eq (length u) n ≡ true
  pub keeps : KeepsTimes hi past ts

module _ (n : ℕ) (hi : Option ℕ) (past : ℕ) where
  pairs_keep : (rows : List KeptRow) → all_sized n (map (λ (k : KeptRow). k.row) rows) ≡ true
      → AllByRecursion (λ (k : KeptRow). KeepsTimes hi past k.times.items) rows
      → AllByRecursion (λ (e : List Value × List ℕ). TimesRow n hi past e.0 e.1) (times_kept rows)
  pairs_keep [] sized each = tt
  pairs_keep (k ∷ ks) sized each =
      let parts = and_parts (nat_eq (length k.row) n) (all_sized n (map (λ (k : KeptRow). k.row) ks)) sized in
      (record { sized = parts.0; keeps = each.0 }, pairs_keep ks parts.1 each.1)

  -- and back
  pairs_rule : (rows : List KeptRow) → AllByRecursion (λ (e : List Value × List ℕ). TimesRow n hi past e.0 e.1)
      (times_kept rows) → (all_sized n (map (λ (k : KeptRow). k.row) rows) ≡ true)
      × AllByRecursion (λ (k : KeptRow). KeepsTimes hi past k.times.items) rows
  pairs_rule [] all = (refl, tt)
  pairs_rule (k ∷ ks) all = search (pairs_rule ks all.1)

  row_joined : (u : List Value) (xs ys : List ℕ) → TimesRow n hi past u xs → TimesRow n hi past u ys
      → TimesRow n hi past u (times_joined hi xs ys)
  row_joined u xs ys kx ky = record { sized = kx.sized; keeps = times_keep hi past xs ys kx.keeps ky.keeps }

-- where neither keeps a row, none is kept
pub none_united : (hi : Option ℕ) (a b c : List KeptRow) → a ≡ [] → b ≡ []
    → RowsUnion (times_joined hi) (times_kept a) (times_kept b) (times_kept c) → c ≡ []
none_united hi a b [] ea eb u = refl
none_united hi a b (k ∷ ks) ea eb u =
    let here : kept_for (times_kept (k ∷ ks)) k.row ≡ Some k.times.items =
    ap (λ b. cond b (Some k.times.items) (kept_for (times_kept ks) k.row)) ((eq_by_cmp_equiv row_total).refl k.row) in
    let none = rw (ea, eb) at (u.each k.row) in
    absurd cc

module _ (view : View) (r q all : Region) (union : (vs : List ℕ) (v : Valuation) → all vs v ≡ (r vs v || q vs v))
    (k : KeptTimes) (p : ℕ) (i : Interval) (f g : CoreForm) (a b c : SinceKept)
    (ka : SinceKeeps k i f g a) (sa : SinceDataStands (seen_in view r) p i f g a.kept)
    (ia : WindowInside r (window.Since a)) (kb : SinceKeeps k i f g b)
    (sb : SinceDataStands (seen_in view q) p i f g b.kept) (ib : WindowInside q (window.Since b))
    (u : SinceUnion a b c) where
  abbrev columns : List ℕ
  columns = fv (meaning g)

  abbrev past : ℕ
  past = time_before k a.kept.pulled

  abbrev first : List (List Value × List ℕ)
  first = times_kept a.kept.rows.items

  abbrev second : List (List Value × List ℕ)
  second = times_kept b.kept.rows.items

  abbrev Row : List Value → List ℕ → Type 0
  Row = TimesRow (length columns) i.hi past

  same : b.kept.pulled ≡ a.kept.pulled
  same = sb.pulled ∙ sym sa.pulled

  rows : RowsUnion (times_joined i.hi) first second (times_kept c.kept.rows.items)
  rows = rw ka.interval at u.rows

  first_rows : AllByRecursion (λ e. Row e.0 e.1) first
  first_rows = pairs_keep (length columns) i.hi past a.kept.rows.items ka.rule.sized ka.rule.each

  second_rows : AllByRecursion (λ e. Row e.0 e.1) second
  second_rows = pairs_keep (length columns) i.hi past b.kept.rows.items kb.rule.sized (rw same at kb.rule.each)

  rule : (all_sized (length columns) (map (λ (k : KeptRow). k.row) c.kept.rows.items) ≡ true)
      × AllByRecursion (λ (e : KeptRow). KeepsTimes i.hi past e.times.items) c.kept.rows.items
  rule =
      pairs_rule (length columns) i.hi past c.kept.rows.items
      (each_united Row (times_joined i.hi) first second (times_kept c.kept.rows.items) rows first_rows second_rows
      (row_joined (length columns) i.hi past))

  window_right : (dom : List Value) (v : Valuation) → Covers view dom → all columns v ≡ true → (t : List ℕ)
      (la lb : List Bool) → Dates view t → Tells view dom v f la → Tells view dom v g lb → (x : ℕ)
      → (0 < c.kept.pulled → time_at t (c.kept.pulled - 1) ≤ x)
      → reaches i (times_for c.kept.rows.items (map v columns)) x ≡ since_before i t la lb c.kept.pulled x
  window_right dom v covers n t la lb dates ta tb x late =
      let w = map v columns in
      let truth = since_before i t la lb a.kept.pulled x in
      let early = rw u.pulled at late in
      rw (u.pulled, rows.each w)
      (pooled (times_joined i.hi) (λ o. reaches i (unwrap_or o []) x) (r columns v) (q columns v) truth
      (kept_for first w) (kept_for second w)
      (λ xs ys ea eb rx ry. times_right i x xs ys (found_each Row first first_rows w xs ea).keeps.alone
      (found_each Row second second_rows w ys eb).keeps.alone ∙ ap₂ (λ s t. s || t) rx ry ∙ or_self truth)
      (λ near. sa.window dom v covers near t la lb dates ta tb x early) ((rw ka.columns at ia.2) v)
      (λ near. (rw same at (sb.window dom v covers near t la lb dates ta tb x)) early) ((rw kb.columns at ib.2) v)
      (sym (union columns v) ∙ n))

  pub since_united : SinceKeeps k i f g c × SinceDataStands (seen_in view all) p i f g c.kept
      × WindowInside all (window.Since c)
  since_united =
      let lefts = tables_at view r q all union _ _ _ _ _ _ _ same u.pulled sa.lefts ia.0 sb.lefts ib.0 u.lefts in
      let rights = tables_at view r q all union _ _ _ _ _ _ _ same u.pulled sa.rights ia.1 sb.rights ib.1 u.rights in (
        record {
          interval = u.interval ∙ ka.interval;
          columns = u.columns ∙ ka.columns;
          rule = rw u.pulled (record {
            few = ka.rule.few;
            climbs = ka.rule.climbs;
            lefts = over_union _ _ _ _ ka.rule.lefts u.lefts;
            rights = over_union _ _ _ _ ka.rule.rights u.rights;
            rows = u.rows.ascend;
            sized = rule.0;
            each = rule.1;
            begins = λ none. none_united i.hi a.kept.rows.items b.kept.rows.items c.kept.rows.items
                (ka.rule.begins none) (kb.rule.begins (same ∙ none)) rows;
          });
        },
        record {
          pulled = u.pulled ∙ sa.pulled;
          left_pushed = rw (u.pulled, union_length _ _ _ u.lefts) sa.left_pushed;
          right_pushed = rw (u.pulled, union_length _ _ _ u.rights) sa.right_pushed;
          lefts = lefts.0;
          rights = rights.0;
          window = window_right;
        },
        (
          lefts.1,
          rights.1,
          rw (u.columns, ka.columns)
              (rows_inside view r q all union (times_joined i.hi) columns first second (times_kept c.kept.rows.items)
              (rw ka.columns at ia.2) (rw kb.columns at ib.2) rows),
        ),
      )
