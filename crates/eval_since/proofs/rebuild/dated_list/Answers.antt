use Rattle.std.proofs.Common.{◌≡◌, [], drop, sym, ◌∙◌, arith}
use Rattle.std.proofs.{lemmas.List.drop_all, Math.Bool.and-true}
use Rattle.std.specs.List.{list_all}
use Rattle.eval_since.specs.declared.contents.Dated.{Dated}
use Rattle.eval_since.proofs.rebuild.dated_list.Goals as goal

pub returns-clause-all : goal.returns-clause-all
returns-clause-all c = λ test.
    let end : drop c.loop-kept.kept-index c.args.rows.now ≡ [] = drop_all c.loop-kept.kept-index c.args.rows.now
    (omega arith) in
    sym (and-true (list_all (λ (d : Dated). test d.ts) c.loop-kept.list.items))
    ∙ (rw end at (c.loop-kept.invariant.all test))
