use Rattle.std.proofs.Common.{◌≡◌, ℕ, Bool, ◌&&◌, ◌||◌, List}
use Rattle.std.specs.List.{list_all}
use Rattle.mfotl_model.specs.declared.value.Value.{Value}
use Rattle.eval_until.specs.{Keeping.breaks_before, Keeping.names, Recalled.is_recalled}
use Rattle.eval_until.specs.declared.contents.Taken.{Taken}
use Rattle.until_rows.specs.declared.entries.Entry.{Entry}
use Rattle.eval_until.proofs.rebuild.push_rows.Given as goal

abbrev pub invariant-loop-row : goal.invariant-loop-row
invariant-loop-row l = record {
  names : (u : List Value) (j : ℕ) → (names l.out.items u j || is_recalled l.row-iterator u j)
      ≡ (names l.fn.out.items u j || is_recalled l.rows.entries u j);
  breaks : (w : List Value) (s : ℕ) → breaks_before l.out.items w s ≡ breaks_before l.fn.out.items w s;
  all : (test : ℕ → Bool) → (list_all (λ (q : Taken). test q.place) l.out.items
      && list_all (λ (r : List Value × List Entry). list_all (λ (e : Entry). test e.place) r.1) l.row-iterator)
      ≡ (list_all (λ (q : Taken). test q.place) l.fn.out.items
      && list_all (λ (r : List Value × List Entry). list_all (λ (e : Entry). test e.place) r.1) l.rows.entries);
}
