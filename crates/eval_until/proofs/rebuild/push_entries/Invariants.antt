use Rattle.std.proofs.Common.{◌≡◌, ℕ, Bool, nat_eq, ◌&&◌, ◌||◌, List, [], ◌∷◌, drop}
use Rattle.std.specs.List.{list_all, list_any}
use Rattle.mfotl_model.specs.Tables.{has_row}
use Rattle.mfotl_model.specs.declared.value.Value.{Value}
use Rattle.eval_until.specs.Keeping.{breaks_before, names}
use Rattle.eval_until.specs.declared.contents.Taken.{Taken}
use Rattle.until_rows.specs.declared.entries.Entry.{Entry}
use Rattle.eval_until.proofs.rebuild.push_entries.Given as goal

abbrev pub invariant-loop-k : goal.invariant-loop-k
invariant-loop-k l = record {
  names : (u : List Value) (j : ℕ) → (names l.out.items u j
      || list_any (λ (e : Entry). nat_eq e.place j && has_row (l.row ∷ []) u) (drop l.k l.entries))
      ≡ (names l.fn.out.items u j
      || list_any (λ (e : Entry). nat_eq e.place j && has_row (l.row ∷ []) u) l.entries);
  breaks : (w : List Value) (s : ℕ) → breaks_before l.out.items w s ≡ breaks_before l.fn.out.items w s;
  all : (test : ℕ → Bool) → (list_all (λ (q : Taken). test q.place) l.out.items
      && list_all (λ (e : Entry). test e.place) (drop l.k l.entries))
      ≡ (list_all (λ (q : Taken). test q.place) l.fn.out.items
      && list_all (λ (e : Entry). test e.place) l.entries);
}
