-- How the text on a log grows with it.
use Rattle.std.specs.Prelude.{◌≡◌, None, List, [], ◌∷◌, ◌++◌}
use Rattle.mfotl_model.specs.Formulas.{Form}
use Rattle.mfotl_model.specs.Log.{times}
use Rattle.mfotl_model.specs.Times.{NeverFalls}
use Rattle.mfotl_model.specs.VerdictText.{verdicts}
use Rattle.mfotl_model.specs.declared.event.TimePoint.{TimePoint}
use Rattle.monitorable.specs.Fragment.{Names, frag_fault}
use Rattle.monitorable.specs.Laws.{log_of}
use Rattle.monitor_main.specs.Verdicts.{news}

-- with one time-point more, the verdicts stay, and those on the positions that it settles come behind them,
-- none skipped
abbrev pub VerdictsGrow : Type 0
VerdictsGrow =
    (log : List TimePoint) (point : TimePoint) (names : Names) (policy : Form)
    → NeverFalls (times (log ++ point ∷ [])) → frag_fault names policy ≡ None
    → verdicts (log_of (log ++ point ∷ [])) policy ≡ verdicts (log_of log) policy ++ news policy log point
