use Rattle.std.proofs.Common.{refl}
use Rattle.monitor_state.proofs.ResumeNodes.{filter_fits, filter_resumed}
use Rattle.monitor_state.proofs.resume_nodes.filter_resumed.Goals as goal

pub window_resumed-requires : goal.window_resumed-requires
window_resumed-requires c =
    record {
      fits = filter_fits c.args.times.now c.args.state c.args.tables c.args.kept c.requires.0 c.requires.1 c.requires.2;
    }

pub returns : goal.returns
returns c =
    filter_resumed c.args.times.now c.args.state
    (record {
      tables = c.from_vec.result;
      window = c.in_ok-window.window;
      negated = c.args.state.negated;
      order = c.args.state.order;
    })
    c.args.tables c.args.kept c.from_vec.ensures refl refl c.in_ok-window.ensures
