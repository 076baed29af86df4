-- A window that is asked by the values that a table has of some of its columns.
use Rattle.std.proofs.Common.{◌≡◌, ℕ, ◌-◌, ◌<◌, Bool, true, false, ◌&&◌, ◌||◌, List, [], ap₂, ◌∙◌, arith}
use Rattle.mfotl_model.specs.{FreeVariables.among, FreeVariables.joined, Times.NeverFalls}
use Rattle.mfotl_model.specs.Satisfaction.{Valuation, since, until}
use Rattle.mfotl_model.specs.Tables.{TableOf, all_among, has}
use Rattle.mfotl_model.proofs.LogicLemmas.{among_joined, with_true}
use Rattle.relations.proofs.JoinLemmas.{all_members, member_of_all}
use Rattle.eval_bool.proofs.ConjunctLemmas.{same_among}
use Rattle.eval_since.specs.SinceView.{Advances, Follows, SinceOf}
use Rattle.eval_until.specs.UntilView.{Follows as FollowsUntil, UntilOf}
use Rattle.monitor_nodes.specs.{FilterFeeding.Finds, FilterFeeding.Joins, WindowNode.window_columns}
use Rattle.monitor_nodes.specs.declared.window.Window.{Window}
use Rattle.monitor_nodes.specs.declared.window.Window.TheVariants as window

pub since_finds : (old new : SinceOf) (keys found : TableOf) → Advances old new
    → ((t : List ℕ) (a b : List Bool) (v : Valuation) → Follows old t a b v → Follows new t a b v)
    → found.columns ≡ new.window.right
    → ((t : List ℕ) (a b : List Bool) (v : Valuation) → Follows new t a b v → 0 < new.pulled
    → has found v ≡ (since new.window.interval t a b (new.pulled - 1) && has keys v))
    → Finds (window.Since old) keys found
since_finds old new keys found moves follows over rows =
    let last : new.pulled - 1 ≡ old.pulled = omega arith in
    record {
      over = over ∙ moves.right;
      rows = λ v key t a b f.
          rows t a b v (follows t a b v f) (omega arith)
          ∙ with_true (since new.window.interval t a b (new.pulled - 1)) (has keys v) key
          ∙ ap₂ (λ i p. since i t a b p) moves.interval last;
    }

pub until_finds : (s : UntilOf) (keys found : TableOf) → found.columns ≡ s.ahead.right
    → ((t : List ℕ) (a b : List Bool) (v : Valuation) → FollowsUntil s t a b v → NeverFalls t → has keys v ≡ true
    → has found v ≡ until s.ahead.interval t a b s.ahead.pulled) → Finds (window.Until s) keys found
until_finds s keys found over rows = grind arith

-- a table without rows is joined with nothing
pub none_join : (w : Window) (order table kept : TableOf) → table.rows ≡ [] → kept.columns ≡ order.columns
    → ((v : Valuation) → has kept v ≡ false) → Joins w order table kept
unfolding has
none_join w order table kept empty over none =
    record {
      over = over;
      rows = grind arith;
    }

pub found_joins : (w : Window) (order table found both kept : TableOf) → Finds w table found
    → ((y : ℕ) → among y both.columns ≡ (among y table.columns || among y found.columns))
    → ((v : Valuation) → has both v ≡ (has table v && has found v)) → kept.columns ≡ order.columns
    → (all_among order.columns both.columns ≡ true → all_among both.columns order.columns ≡ true
    → (v : Valuation) → has kept v ≡ has both v) → Joins w order table kept
found_joins w order table found both kept finds over rows ordered same =
    let all = joined table.columns (window_columns w) in
    let each : (y : ℕ) → among y both.columns ≡ among y (joined table.columns (window_columns w)) =
    grind (arith, among_joined) in
    grind (arith, same_among, all_members, member_of_all)
