-- Regions of workers, and what their slices see.
use Rattle.std.proofs.Common.{◌≡◌, ◌∙◌, ap, sym, refl, arith, ℕ, ◌+◌, ◌<◌, ◌≤◌, ◌/◌, ◌%◌, Bool, true, false, not, ◌||◌}
use Rattle.std.proofs.Common.{nat_eq, List, [], ◌∷◌, ◌++◌, length}
use Rattle.std.proofs.lemmas.Bool.{and_parts, and_from, or_left, or_right}
use Rattle.std.proofs.{lemmas.Cmp.tied_itself, lemmas.List.Folds.list_any-append, lemmas.Map.Views.any-filter_same}
use Rattle.std.proofs.{lemmas.Map.Views.tells_apart}
use Rattle.std.specs.{List.flat_map, List.list_any, Ordering.eq_by_cmp, Ordering.is_eq}
use Rattle.mfotl_model.proofs.{LogicLemmas.among_distinct, MatchingLemmas.reads_own, MatchingLemmas.same_event_of}
use Rattle.mfotl_model.proofs.{RowLemmas.event_exact}
use Rattle.mfotl_model.specs.{Events.event_cmp, Events.event_total, Matching.is_match, Matching.reads, Slices.sees}
use Rattle.mfotl_model.specs.{Slices.slice}
use Rattle.mfotl_model.specs.FreeVariables.{among, variable_in, variables_in}
use Rattle.mfotl_model.specs.Laws.{BothPass, EverywherePasses, SliceSees, StrategyPasses}
use Rattle.mfotl_model.specs.Regions.{Passes, Region, near_from}
use Rattle.mfotl_model.specs.Satisfaction.{Valuation, event_of, has_event}
use Rattle.mfotl_model.specs.Strategies.{Strategy, strategy_part, workers_of}
use Rattle.mfotl_model.specs.declared.{value.Value.Value, event.Event.Event, term.Atom.Atom as OneAtom}

-- a part is kept where the row binds no more variables, and those alike
has_part : (bound binds a b : Bool) → (binds ≡ true → (bound ≡ true) × (a ≡ b))
    → (not bound || a) ≡ true → (not binds || b) ≡ true
has_part bound false a b same h = refl
has_part true true a b same h = sym (same refl).1 ∙ h
has_part false true a b same h = absurd (let e : false ≡ true = (same refl).0 in cc)

passes_from : (y : ℕ) (entries : Strategy) (k : ℕ) (free vs ws : List ℕ) (v w : Valuation)
    → ((x : ℕ) → y ≤ x → x < y + length entries → among x free ≡ true)
    → ((x : ℕ) → among x ws ≡ true → among x free ≡ true → (among x vs ≡ true) × (v x ≡ w x))
    → near_from y entries k vs v ≡ true → near_from y entries k ws w ≡ true
passes_from y [] k free vs ws v w covers same h = h
passes_from y (e ∷ es) k free vs ws v w covers same h =
    let part : Value → Bool = λ a. nat_eq (strategy_part e a) (k / workers_of es) in
    let parts = and_parts (not (among y vs) || part (v y)) (near_from (y + 1) es (k % workers_of es) vs v) h in
    and_from (not (among y ws) || part (w y)) (near_from (y + 1) es (k % workers_of es) ws w)
    (has_part (among y vs) (among y ws) (part (v y)) (part (w y))
    (λ m.
    let both = same y m (covers y (omega arith) (omega arith)) in
    (both.0, ap part both.1))
    parts.0)
    (passes_from (y + 1) es (k % workers_of es) free vs ws v w
    (λ x low high. covers x (omega arith) (omega arith)) same parts.1)

pub strategy_passes : StrategyPasses
strategy_passes strategy free k covers vs ws v w same h =
    passes_from 0 strategy k free vs ws v w (λ x low high. covers x (omega arith)) same h

pub everywhere_passes : EverywherePasses
everywhere_passes free vs ws v w same h = refl

pub both_pass : BothPass
both_pass free a b first second vs ws v w same h =
    let parts = and_parts (a vs v) (b vs v) h in
    and_from (a ws w) (b ws w) (first vs ws v w same parts.0) (second vs ws v w same parts.1)

module _ (free : List ℕ) (near : Region) (passes : Passes free near) (atom : OneAtom) (v : Valuation) where
  own : (y : ℕ) → among y (flat_map variable_in atom.args) ≡ true → reads atom (event_of v atom) y ≡ v y
  own y m = reads_own v atom.args y m

  stands : is_match atom (event_of v atom) ≡ true
  unfolding is_match
  stands =
      ap (λ e. eq_by_cmp event_cmp e (event_of v atom))
      (same_event_of (reads atom (event_of v atom)) v atom own)
      ∙ ap is_eq (tied_itself event_total (event_of v atom))

  -- the event of a near row is seen
  pub near_seen : near (variables_in atom.args) v ≡ true → sees near (event_of v atom) atom ≡ true
  near_seen h =
      and_from (is_match atom (event_of v atom)) (near (variables_in atom.args) (reads atom (event_of v atom)))
      stands
      (passes (variables_in atom.args) (variables_in atom.args) v (reads atom (event_of v atom))
      (λ y m is_free. (m, sym (own y (sym (among_distinct y (flat_map variable_in atom.args)) ∙ m)))) h)

  seen_among : (before after : List OneAtom) → sees near (event_of v atom) atom ≡ true
      → list_any (sees near (event_of v atom)) (before ++ atom ∷ after) ≡ true
  seen_among before after seen =
      let finds : OneAtom → Bool = sees near (event_of v atom) in
      list_any-append finds before (atom ∷ after)
      ∙ or_right (list_any finds before) (finds atom || list_any finds after)
      (or_left (finds atom) (list_any finds after) seen)

  pub slice_has : (before after : List OneAtom) (db : List Event) → near (variables_in atom.args) v ≡ true
      → has_event (slice near (before ++ atom ∷ after) db) (event_of v atom) ≡ has_event db (event_of v atom)
  slice_has before after db h =
      let atoms : List OneAtom = before ++ atom ∷ after in
      any-filter_same (eq_by_cmp event_cmp (event_of v atom)) (λ event. list_any (sees near event) atoms) true
      (λ z is. ap (λ x. list_any (sees near x) atoms) (sym (tells_apart event_exact (event_of v atom) z is))
      ∙ seen_among before after (near_seen h)) db

pub slice_sees : SliceSees
slice_sees free near before after atom db v passes h = slice_has free near passes atom v before after db h
