-- The grammar of logs as an automaton over symbols: where each symbol may stand, and what it leads to.
use Rattle.std.specs.Prelude.{ℕ, Bool, true, false, ◌&&◌, Option, Some, None, if◌then◌else◌}
use Rattle.mfotl_lex.specs.declared.kind.Kind.{Kind}
use Rattle.mfotl_lex.specs.declared.kind.Kind.TheVariants.{Semicolon}
use Rattle.log_reader.specs.declared.stage.Stage.{Stage}
use Rattle.log_reader.specs.declared.stage.Stage.TheVariants.{Between, AfterAt, AfterStamp, AfterName, AfterOpen}
use Rattle.log_reader.specs.declared.stage.Stage.TheVariants.{AfterValue, AfterComma, AfterClose}
use Rattle.log_reader.specs.Symbols.{Symbol, AtSign, Opening, Closing, Separator, Terminator, Says, Bare, ends_point}
use Rattle.log_reader.specs.Symbols.{is_digits}

-- the stage behind a symbol; none where the grammar can't go on with it
abbrev pub stage_after : Stage → Symbol → Option Stage
stage_after Between AtSign = Some AfterAt
stage_after AfterAt (Says (Bare word)) = if is_digits word then Some AfterStamp else None
stage_after AfterStamp (Says (Bare word)) = Some AfterName
stage_after AfterStamp Terminator = Some Between
stage_after AfterStamp AtSign = Some AfterAt
stage_after AfterName Opening = Some AfterOpen
stage_after AfterOpen (Says value) = Some AfterValue
stage_after AfterOpen Closing = Some AfterClose
stage_after AfterValue Separator = Some AfterComma
stage_after AfterValue Closing = Some AfterClose
stage_after AfterComma (Says value) = Some AfterValue
stage_after AfterClose Opening = Some AfterOpen
stage_after AfterClose (Says (Bare word)) = Some AfterName
stage_after AfterClose Terminator = Some Between
stage_after AfterClose AtSign = Some AfterAt
stage_after _ _ = None

-- whether the present time-point is whole, if nothing more of it comes
abbrev pub is_whole : Stage → Bool
is_whole AfterStamp = true
is_whole AfterClose = true
is_whole _ = false

-- whether a symbol completes the present time-point
abbrev pub completes : Stage → Symbol → Bool
completes stage symbol = is_whole stage && ends_point symbol

-- where reading goes on behind a time-point that a token completes: an `@` is read again
abbrev pub read_on : Kind → ℕ → ℕ → ℕ
read_on Semicolon before behind = behind
read_on _ before behind = before
