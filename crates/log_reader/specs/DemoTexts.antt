-- The four texts of the demo.
use Rattle.std.specs.Prelude.{ℕ, List, codes, ◌++◌}
use Rattle.std.specs.List.{flat_map}
use Rattle.log_reader.specs.DemoEvents.{moments, line_of}

-- requests, grants and drops, of things by their numbers
abbrev pub signature_text : List ℕ
signature_text = codes "req(id:int,who:string) grant(id:int) drop(id:int)\n"

-- what is requested, and was not dropped shortly before, is granted soon
abbrev pub policy_text : List ℕ
policy_text = codes "(req(i,w) AND NOT ONCE[0,50] drop(i)) IMPLIES EVENTUALLY[0,20] grant(i)\n"

-- 2,000 time-points, drawn from the seed on
abbrev pub log_text : ℕ → List ℕ
log_text seed = flat_map line_of (moments 2000 0 seed)

-- six changes of the strategy
abbrev pub changes_text : List ℕ
changes_text =
    codes "before 250 i=hash:4\n"
    ++ codes "before 500 i=hash:2 w=hash:3\n"
    ++ codes "before 750 w=hash:5\n"
    ++ codes "before 1000 i=cut:25,50,75\n"
    ++ codes "before 1250 i=hash:1\n"
    ++ codes "before 1500 i=hash:8\n"
