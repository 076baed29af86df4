-- An OR's state over one step.
use Rattle.std.proofs.Common.{◌≡◌, ℕ, ◌+◌, ◌<◌, true, false, ◌&&◌, ◌||◌, nat_lt, List, ◌++◌, length, drop, ap₂, ◌∙◌}
use Rattle.std.proofs.Common.{arith, length-append}
use Rattle.std.proofs.{lemmas.Bool.Decides.nat_tests, lemmas.List.length-drop}
use Rattle.mfotl_model.specs.Exact.{View, Covers, AllExact}
use Rattle.mfotl_model.specs.{FreeVariables.fv, Log.times, Regions.Passes, Satisfaction.Valuation, Satisfaction.sat}
use Rattle.mfotl_model.specs.{Tables.TableOf, Tables.has, Times.NeverFalls}
use Rattle.mfotl_model.specs.declared.{event.TimePoint.TimePoint, value.Value.Value}
use Rattle.eval_bool.specs.{Firsts.first_has, OrView.OrOf}
use Rattle.monitorable.specs.CoreForms.{CoreForm, meaning, Or}
use Rattle.monitor_nodes.proofs.{CountLemmas.count_or, GrowthLemmas.exact_more, GrowthLemmas.first_exact}
use Rattle.monitor_nodes.proofs.{RegionLemmas.near_left, RegionLemmas.near_right}
use Rattle.monitor_nodes.proofs.ExactLemmas.{exact_drop, shifted, stand_exact}
use Rattle.monitor_nodes.specs.{OrFeeding.OrTakes, Stands.IsOr, Stands.OrStands, Steps.News, Steps.longer}
use Rattle.monitor_nodes.specs.{Views.reached}

-- where none is due, an operand's table is missing
none_due : (n m : ℕ) → (nat_lt 0 n && nat_lt 0 m) ≡ false → 0 < n → 0 < m → ⊥
none_due n m ends left right = grind (arith, nat_tests)

module _ {view : View} {point : TimePoint} {f g : CoreForm} {old new : OrOf} {ls rs tables : List TableOf}
    (left : News view point f ls) (right : News view point g rs) (is : IsOr f g old) (stands : OrStands view f g old)
    (takes : OrTakes old ls rs new tables) (rising : NeverFalls (times (longer view point).log))
    (passes : Passes (fv view.whole) view.near) where
  fed_lefts : AllExact (longer view point) (meaning f) old.pulled (old.lefts ++ ls)
  fed_lefts = exact_more left rising old.pulled old.lefts stands.left_pushed stands.lefts

  fed_rights : AllExact (longer view point) (meaning g) old.pulled (old.rights ++ rs)
  fed_rights = exact_more right rising old.pulled old.rights stands.right_pushed stands.rights

  -- what was pushed and not pulled
  kept_lefts : new.pulled + length new.lefts ≡ reached (longer view point) f
  kept_lefts = grind (arith, length-append, length-drop)

  kept_rights : new.pulled + length new.rights ≡ reached (longer view point) g
  kept_rights = grind (arith, length-append, length-drop)

  all_pulled : new.pulled ≡ reached (longer view point) (Or f g)
  all_pulled =
      count_or (times (longer view point).log) rising (meaning f) (meaning g) new.pulled (omega (arith, kept_lefts))
      (omega (arith, kept_rights))
      (λ low high.
      none_due (length new.lefts) (length new.rights) takes.ends (omega (arith, kept_lefts))
      (omega (arith, kept_rights)))

  -- what is pulled at each place is what the OR means there
  row_means : (dom : List Value) (v : Valuation) → Covers (longer view point) dom
      → view.near (fv (meaning (Or f g))) v ≡ true → (k : ℕ) → k < length tables
      → (first_has v (drop k (old.lefts ++ ls)) || first_has v (drop k (old.rights ++ rs)))
      ≡ sat (longer view point).log dom v (old.pulled + k) (meaning (Or f g))
  unfolding fv sat
  row_means dom v covers near k low =
      ap₂ (λ x y. x || y)
      (first_exact (longer view point) (meaning f) (old.pulled + k) (drop k (old.lefts ++ ls)) dom v covers
      (near_left (fv view.whole) view.near passes (fv (meaning f)) (fv (meaning g)) v near)
      (omega (arith, takes.pulls.in_lefts, length-drop k (old.lefts ++ ls)))
      (exact_drop (longer view point) (meaning f) old.pulled k (old.lefts ++ ls) fed_lefts))
      (first_exact (longer view point) (meaning g) (old.pulled + k) (drop k (old.rights ++ rs)) dom v covers
      (near_right (fv view.whole) view.near passes (fv (meaning f)) (fv (meaning g)) v near)
      (omega (arith, takes.pulls.in_rights, length-drop k (old.rights ++ rs)))
      (exact_drop (longer view point) (meaning g) old.pulled k (old.rights ++ rs) fed_rights))

  or_exact : AllExact (longer view point) (meaning (Or f g)) old.pulled tables
  or_exact =
      stand_exact (longer view point) (meaning (Or f g)) old.left old.pulled tables is.columns takes.pulls.over
      (λ dom v covers near.
      let start : old.pulled + 0 ≡ old.pulled = omega arith in
      rw start at (shifted (λ k table. has table v ≡ (first_has v (drop k (old.lefts ++ ls)) || first_has v
      (drop k (old.rights ++ rs))))
      (λ k table. has table v ≡ sat (longer view point).log dom v k (meaning (Or f g))) old.pulled 0 tables
      (λ k table low high row. row ∙ row_means dom v covers near k (omega arith)) (takes.pulls.rows v)))

  pub or_steps : IsOr f g new × OrStands (longer view point) f g new × News view point (Or f g) tables
  or_steps = grind (arith, all_pulled, kept_lefts, kept_rights, exact_drop, fed_lefts, fed_rights, or_exact)
