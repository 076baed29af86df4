-- Files and a sink in memory, which fail at the calls that they are told to fail at.
use Rattle.std.specs.Prelude.{ℕ, ◌+◌, ◌-◌, ◌^◌, min, Bool, List, [], map, if◌then◌else◌, ◌==◌, string_bytes}
use Rattle.std.specs.List.{list_any}
use Rattle.std.specs.declared.option.Option.{Option}
use Rattle.mon_outside.specs.declared.mem_inputs.NamedFile.{NamedFile}
use Rattle.mon_outside.specs.Files.{Files}

-- the names and the bytes of these files
abbrev pub as_files : List NamedFile → Files
as_files = map (λ file. (string_bytes file.name, file.bytes.items))

-- one more, up to the last value of the count's type
abbrev pub one_more : ℕ → ℕ
one_more count = min (count + 1) (2 ^ 64 - 1)

-- Which calls fail, by their numbers from 0, how many calls there were, and how many of them failed.
pub record Plan : Type 0 where
  pub fail : List ℕ
  pub calls : ℕ
  pub faults : ℕ

-- the next call is one of those that fail
abbrev pub fails_next : Plan → Bool
fails_next plan = list_any (λ number. number == plan.calls) plan.fail

-- the plan after a call that failed or did not
abbrev pub after_call : Plan → Bool → Plan
after_call plan failed =
    record {
      fail = plan.fail;
      calls = one_more plan.calls;
      faults = if failed then one_more plan.faults else plan.faults;
    }

-- Files in memory: at most `piece` bytes come a read, and `rest` is what is left of the open file.
pub record MemoryFiles : Type 0 where
  pub files : Files
  pub piece : ℕ
  pub plan : Plan
  pub rest : Option (List ℕ)

-- Files in memory of which no call fails.
pub record SureFiles : Type 0 where
  pub files : Files
  pub piece : ℕ
  pub rest : Option (List ℕ)

-- A sink in memory: it takes each piece whole.
pub record MemoryBytes : Type 0 where
  pub written : List ℕ
  pub plan : Plan

-- it holds nothing back
abbrev pub none_held : MemoryBytes → List ℕ
none_held sink = []
