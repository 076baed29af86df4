use Rattle.std.proofs.Common.{◌≡◌, Bool, nat_eq, ◌&&◌, ◌||◌, List, [], ◌∷◌, sym, ap, ◌∙◌, rules}
use Rattle.std.proofs.Math.Bool.{or_assoc, and_assoc, and-true}
use Rattle.std.specs.List.{list_all, list_any}
use Rattle.mfotl_model.specs.Tables.{has_row}
use Rattle.mfotl_model.specs.declared.value.Value.{Value}
use Rattle.eval_until.specs.{Keeping.names, Recalled.is_recalled}
use Rattle.eval_until.specs.declared.contents.Taken.{Taken}
use Rattle.until_rows.specs.declared.entries.Entry.{Entry}
use Rattle.eval_until.proofs.rebuild.push_rows.Goals as goal

pub loop-row-preserved : goal.loop-row-preserved
loop-row-preserved c =
    let rest : c.loop-row.row-iterator ≡ (c.in-Some.row.now, c.in-Some.entries.now) ∷ c.next.new.self = search rules in
    record {
      names = λ u j.
          ap (λ b. b || is_recalled c.next.new.self u j) (c.in_ok-push_entries.ensures.names u j)
          ∙ or_assoc (names c.loop-row.out.items u j)
          (list_any (λ (e : Entry). nat_eq e.place j && has_row (c.in-Some.row.now ∷ []) u) c.in-Some.entries.now)
          (is_recalled c.next.new.self u j)
          ∙ sym (ap (λ rs. names c.loop-row.out.items u j || is_recalled rs u j) rest)
          ∙ c.loop-row.invariant.names u j;
      breaks = λ w s. c.in_ok-push_entries.ensures.breaks w s ∙ c.loop-row.invariant.breaks w s;
      all = λ test.
          let passes : List (List Value × List Entry) → Bool =
          λ rs. list_all (λ (r : List Value × List Entry). list_all (λ (e : Entry). test e.place) r.1) rs in
          ap (λ b. b && passes c.next.new.self) (c.in_ok-push_entries.ensures.all test)
          ∙ and_assoc (list_all (λ (q : Taken). test q.place) c.loop-row.out.items)
          (list_all (λ (e : Entry). test e.place) c.in-Some.entries.now) (passes c.next.new.self)
          ∙ sym (ap (λ rs. list_all (λ (q : Taken). test q.place) c.loop-row.out.items && passes rs) rest)
          ∙ c.loop-row.invariant.all test;
    }

pub returns-clause-all : goal.returns-clause-all
returns-clause-all c = λ test.
    let end : c.loop-row.row-iterator ≡ [] = search rules in
    sym (and-true (list_all (λ (q : Taken). test q.place) c.loop-row.out.items))
    ∙ sym (ap (λ rs. list_all (λ (q : Taken). test q.place) c.loop-row.out.items
    && list_all (λ (r : List Value × List Entry). list_all (λ (e : Entry). test e.place) r.1) rs) end)
    ∙ c.loop-row.invariant.all test
