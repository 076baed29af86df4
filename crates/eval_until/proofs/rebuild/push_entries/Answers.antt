use Rattle.std.proofs.Common.{◌≡◌, ◌&&◌, [], drop, sym, ap, ◌∙◌, arith}
use Rattle.std.proofs.{lemmas.List.drop_all, Math.Bool.and-true}
use Rattle.std.specs.List.{list_all}
use Rattle.eval_until.specs.declared.contents.Taken.{Taken}
use Rattle.until_rows.specs.declared.entries.Entry.{Entry}
use Rattle.eval_until.proofs.rebuild.push_entries.Goals as goal

pub returns-clause-all : goal.returns-clause-all
returns-clause-all c = λ test.
    let end : drop c.loop-k.k c.args.entries.now ≡ [] =
    drop_all c.loop-k.k c.args.entries.now (omega arith) in
    sym (and-true (list_all (λ (q : Taken). test q.place) c.loop-k.out.items))
    ∙ sym (ap (λ es. list_all (λ (q : Taken). test q.place) c.loop-k.out.items
    && list_all (λ (e : Entry). test e.place) es) end)
    ∙ c.loop-k.invariant.all test
