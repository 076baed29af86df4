use Rattle.std.proofs.Common.{◌≡◌, ◌++◌, drop, false, true}
use Rattle.eval_bool.specs.Heads.{FirstsOver, advanced_to, heads_of}
use Rattle.eval_bool.proofs.heads.take_heads.Given as goal

abbrev pub invariant-loop-child : goal.invariant-loop-child
invariant-loop-child l =
    record {
      items : l.children ≡ advanced_to l.child-index l.fn.children;
      plain : l.heads.plain.items ++ heads_of false (drop l.child-index l.fn.children)
          ≡ heads_of false l.fn.children;
      negated : l.heads.negated.items ++ heads_of true (drop l.child-index l.fn.children)
          ≡ heads_of true l.fn.children;
      over : FirstsOver (drop l.child-index l.fn.children) → FirstsOver l.fn.children;
    }
