-- The limits of the words, worked out in numbers.
use Rattle.std.specs.Prelude.{◌≡◌, [], ◌∷◌, codes}
use Rattle.command_line.specs.Limits.{default_threads, max_threads}
use Rattle.command_line.specs.Words.{threads_rule}

-- how many threads a run may have
abbrev pub MostThreads : Type 0
MostThreads = max_threads ≡ 64

-- how many threads a run has where the words say nothing of it, and a demo
abbrev pub ThreadsByDefault : Type 0
ThreadsByDefault = (threads_rule.defaults ≡ codes "4" ∷ []) × (default_threads ≡ 4)
