-- What contracts see of inputs and of a sink at one moment, each as one value.
use Rattle.std.specs.Prelude.{ℕ, Bool, List}
use Rattle.std.specs.declared.option.Option.{Option}
use Rattle.mon_outside.specs.Files.{Files}
use Rattle.mon_outside.specs.Inputs.{Name}
use Rattle.mon_outside.specs.declared.inputs.Inputs.{Ghosts as InputsGhosts}
use Rattle.mon_outside.specs.declared.sink.Sink.{Ghosts as SinkGhosts}

-- the files, what is open and left of it, the names asked for, and the count of faults
pub record InputsView : Type 0 where
  pub files : Option Files
  pub is_open : Bool
  pub rest : Option (List ℕ)
  pub asked : Option (List Name)
  pub faults : ℕ

-- these inputs, by what their type tells
abbrev pub inputs_view : {I : Type 0} → InputsGhosts I → I → InputsView
inputs_view ghosts inputs = record {
  files = ghosts.files inputs;
  is_open = ghosts.is_open inputs;
  rest = ghosts.rest inputs;
  asked = ghosts.asked inputs;
  faults = ghosts.faults inputs;
}

-- the bytes written, those of them that are held back, and the count of faults
pub record SinkView : Type 0 where
  pub written : Option (List ℕ)
  pub held : List ℕ
  pub faults : ℕ

-- this sink, by what its type tells
abbrev pub sink_view : {K : Type 0} → SinkGhosts K → K → SinkView
sink_view ghosts sink = record {
  written = ghosts.written sink;
  held = ghosts.held sink;
  faults = ghosts.faults sink;
}
