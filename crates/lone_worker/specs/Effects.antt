-- What a call did to the inputs and to the output.
use Rattle.mon_outside.specs.Views.{InputsView, SinkView, inputs_view, sink_view}
use Rattle.mon_outside.specs.declared.inputs.Inputs.{Ghosts as InputsGhosts}
use Rattle.mon_outside.specs.declared.sink.Sink.{Ghosts as SinkGhosts}

-- How the inputs and the output stood before a call, and how behind it.
pub record Effect : Type 0 where
  pub before : InputsView
  pub after : InputsView
  pub old : SinkView
  pub new : SinkView

-- the effect of a call on these
abbrev pub effect : {I O : Type 0} → InputsGhosts I → SinkGhosts O → I → I → O → O → Effect
effect ins outs before after old new = record {
  before = inputs_view ins before;
  after = inputs_view ins after;
  old = sink_view outs old;
  new = sink_view outs new;
}
