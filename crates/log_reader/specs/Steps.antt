-- One token further: what has been read then, or the fault that the token shows. A token that the
-- grammar can't go on with is a syntax fault; the rules of each other one are those of its kind.
use Rattle.std.specs.Prelude.{ℕ, ◌+◌, List, [], ◌∷◌, ◌++◌, Option, Some, None, Result, Ok, Err, nat_lt, if◌then◌else◌}
use Rattle.std.specs.BTreeSet.{insert_key}
use Rattle.mfotl_lex.specs.Lexemes.{Lexeme}
use Rattle.mfotl_model.specs.Events.{event_cmp}
use Rattle.mfotl_model.specs.declared.event.TimePoint.{TimePoint}
use Rattle.mfotl_model.specs.declared.policy.Sort.{Sort}
use Rattle.mfotl_sig.specs.Preds.{PredOf, named}
use Rattle.log_reader.specs.declared.fault.LogFault.{LogFault}
use Rattle.log_reader.specs.declared.fault.LogFault.TheVariants.{Syntax, UnknownPredicate, WrongArity, TimestampRange}
use Rattle.log_reader.specs.declared.fault.LogFault.TheVariants.{FallingTime, TooManyEvents, TooManyPoints}
use Rattle.log_reader.specs.declared.limits.Limits.{Limits}
use Rattle.log_reader.specs.declared.stage.Stage.{Stage}
use Rattle.log_reader.specs.declared.stage.Stage.TheVariants.{Between, AfterAt, AfterStamp, AfterName, AfterOpen}
use Rattle.log_reader.specs.declared.stage.Stage.TheVariants.{AfterValue, AfterComma, AfterClose}
use Rattle.log_reader.specs.Partials.{Partial, point_of, finished}
use Rattle.mfotl_lex.specs.FirstFault.{◌>>=◌}
use Rattle.log_reader.specs.Stages.{stage_after, completes}
use Rattle.log_reader.specs.Symbols.{Written, symbol, token_content, written}
use Rattle.log_reader.specs.ValuesRead.{value_at, timestamp_of}

-- behind the `@` of a time-point
abbrev pub point_opened : Limits → ℕ → Partial → Result Partial LogFault
point_opened limits at p =
    if nat_lt p.points limits.points
    then Ok (record p { stage = AfterAt; points = p.points + 1; events = []; groups = 0 })
    else Err (TooManyPoints at)

-- behind a timestamp, if it is in range
abbrev pub stamped : ℕ → Partial → Option ℕ → Result Partial LogFault
stamped at p None = Err (TimestampRange at)
stamped at p (Some time) =
    if nat_lt time p.time then Err (FallingTime p.time time at)
    else Ok (record p { stage = AfterStamp; time = time })

-- behind the name of a predicate, if there is one
abbrev pub naming : ℕ → Partial → Option PredOf → Result Partial LogFault
naming at p None = Err (UnknownPredicate at)
naming at p (Some q) = Ok (record p { stage = AfterName; pred = q.number; sorts = q.sorts })

-- behind the `(` of a group
abbrev pub grouped : Limits → ℕ → Partial → Result Partial LogFault
grouped limits at p =
    if nat_lt p.groups limits.events
    then Ok (record p { stage = AfterOpen; groups = p.groups + 1; due = p.sorts })
    else Err (TooManyEvents at)

-- behind a value, by the sorts that the group lacks
abbrev pub valued : ℕ → Written → Partial → List Sort → Result Partial LogFault
valued at written p [] = Err (WrongArity at)
valued at written p (sort ∷ due) =
    value_at sort at written >>= λ v. Ok (record p { stage = AfterValue; due = due; args = p.args ++ v ∷ [] })

-- behind the `)` of a group, by the sorts that the group lacks
abbrev pub group_closed : ℕ → Partial → List Sort → Result Partial LogFault
group_closed at p (sort ∷ due) = Err (WrongArity at)
group_closed at p [] = Ok (record p {
  stage = AfterClose;
  events = insert_key event_cmp p.events (record { pred = p.pred; args = p.args });
  args = [];
})

-- behind the token at this offset that leads to a stage
abbrev pub stepped : List PredOf → Limits → Partial → Lexeme → Option Stage → Result Partial LogFault
stepped sig limits p t None = Err (Syntax t.at)
stepped sig limits p t (Some AfterAt) = point_opened limits t.at p
stepped sig limits p t (Some AfterStamp) = stamped t.at p (timestamp_of (token_content t))
stepped sig limits p t (Some AfterName) = naming t.at p (named (token_content t) sig)
stepped sig limits p t (Some AfterOpen) = grouped limits t.at p
stepped sig limits p t (Some AfterValue) = valued t.at (written t) p p.due
stepped sig limits p t (Some AfterComma) = Ok (record p { stage = AfterComma })
stepped sig limits p t (Some AfterClose) = group_closed t.at p p.due
stepped sig limits p t (Some Between) = Ok (finished p)

-- what a token makes of what was read
unfoldable pub step : List PredOf → Limits → Partial → Lexeme → Result Partial LogFault
step sig limits p t = stepped sig limits p t (stage_after p.stage (symbol t))

-- the time-point that a token completes, if it does: also one that shows a fault then
unfoldable pub completed : Partial → Lexeme → List TimePoint
completed p t = if completes p.stage (symbol t) then point_of p ∷ [] else []
