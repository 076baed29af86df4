-- The lines in which refusals are told, worked out in full: each kind once.
use Rattle.std.specs.Prelude.{◌≡◌, [], ◌∷◌, ◌++◌, codes, map}
use Rattle.mfotl_lex.specs.declared.fault.LexFaultKind.TheVariants.{BadByte, OpenText, NumberRange, TextLong, BadUtf8}
use Rattle.mfotl_sig.specs.declared.fault.SigFault.TheVariants as sig
use Rattle.mfotl_parse.specs.declared.fault.PolicyFault.TheVariants as policy
use Rattle.monitorable.specs.declared.fault.FragmentFault.TheVariants as fragment
use Rattle.monitorable.specs.declared.fault.Variable.{Variable}
use Rattle.slice_strategy.specs.declared.fault.StrategyFault.TheVariants as strategy
use Rattle.slice_strategy.specs.declared.change.ChangeFault.TheVariants as change
use Rattle.log_reader.specs.declared.fault.LogFault.TheVariants as log
use Rattle.monitor_main.specs.declared.refusal.InputFile.TheVariants as file
use Rattle.monitor_main.specs.declared.refusal.Refusal.TheVariants.{Usage, LongSignature, Signature}
use Rattle.monitor_main.specs.declared.refusal.Refusal.TheVariants.{LongPolicy, Policy, Fragment}
use Rattle.monitor_main.specs.declared.refusal.Refusal.TheVariants.{LongStrategy, Strategy}
use Rattle.monitor_main.specs.declared.refusal.Refusal.TheVariants.{LongChanges, Changes}
use Rattle.monitor_main.specs.declared.refusal.Refusal.TheVariants.{Log, Read, Write, Memory}
use Rattle.monitor_main.specs.declared.status.Status.TheVariants as status
use Rattle.monitor_main.specs.Refusals.{line_of, status_of}

-- the variable x
abbrev pub x : Variable
x = record { number = 0; name = codes "x" }

-- the status that a run ends with at each kind of refusal
abbrev pub RefusalStatuses : Type 0
RefusalStatuses =
    map status_of
    (Usage ∷ LongSignature ∷ Signature (sig.Syntax 7) ∷ LongPolicy ∷ Policy (policy.Syntax 7)
    ∷ Fragment (fragment.Unguarded x) ∷ LongStrategy ∷ Strategy (strategy.Syntax 7) ∷ LongChanges
    ∷ Changes (change.FallingChange 7) ∷ Log (log.Syntax 7) ∷ Read file.Log ∷ Write ∷ Memory ∷ [])
    ≡ status.Usage ∷ status.Signature ∷ status.Signature ∷ status.Policy ∷ status.Policy
    ∷ status.Policy ∷ status.Strategy ∷ status.Strategy ∷ status.Strategy
    ∷ status.Strategy ∷ status.Log ∷ status.Read ∷ status.Write ∷ status.Memory ∷ []

-- of words that are no command line
abbrev pub UsageInFull : Type 0
UsageInFull =
    line_of Usage
    ≡ codes "usage: run --sig F --policy F --log F [--strategy S] [--changes F] [--threads T] or check --sig F"
    ++ codes " --policy F or demo SEED\n"

-- of a signature
pub record SignatureLines : Type 0 where
  pub lexical : line_of (Signature (sig.Lex (record { kind = BadByte; at = 4 })))
      ≡ codes "signature: Lex BadByte at 4\n"
  pub syntax : line_of (Signature (sig.Syntax 26)) ≡ codes "signature: Syntax at 26\n"
  pub name : line_of (Signature (sig.RepeatedName 7)) ≡ codes "signature: RepeatedName at 7\n"
  pub sort : line_of (Signature (sig.UnknownSort 10)) ≡ codes "signature: UnknownSort at 10\n"
  pub arity : line_of (Signature (sig.Arity 90)) ≡ codes "signature: Arity at 90\n"
  pub many : line_of (Signature (sig.TooMany 4096)) ≡ codes "signature: TooMany at 4096\n"
  pub long : line_of LongSignature ≡ codes "signature: TooLong at 1048576\n"

-- of a policy's text
pub record PolicyLines : Type 0 where
  pub lexical : line_of (Policy (policy.Lex (record { kind = OpenText; at = 0 })))
      ≡ codes "policy: Lex OpenText at 0\n"
  pub syntax : line_of (Policy (policy.Syntax 26)) ≡ codes "policy: Syntax at 26\n"
  pub interval : line_of (Policy (policy.EmptyInterval 4)) ≡ codes "policy: EmptyInterval at 4\n"
  pub bound : line_of (Policy (policy.BoundRange 5)) ≡ codes "policy: BoundRange at 5\n"
  pub unknown : line_of (Policy (policy.UnknownPredicate 3)) ≡ codes "policy: UnknownPredicate at 3\n"
  pub arity : line_of (Policy (policy.WrongArity 13)) ≡ codes "policy: WrongArity at 13\n"
  pub sort : line_of (Policy (policy.SortClash 16)) ≡ codes "policy: SortClash at 16\n"
  pub variables : line_of (Policy (policy.TooManyVariables 70)) ≡ codes "policy: TooManyVariables at 70\n"
  pub deep : line_of (Policy (policy.TooDeep 64)) ≡ codes "policy: TooDeep at 64\n"
  pub nodes : line_of (Policy (policy.TooManyNodes 8192)) ≡ codes "policy: TooManyNodes at 8192\n"
  pub long : line_of LongPolicy ≡ codes "policy: TooLong at 1048576\n"

-- of a policy that can't be monitored
pub record FragmentLines : Type 0 where
  pub large : line_of (Fragment fragment.TooLarge) ≡ codes "policy: TooLarge\n"
  pub future : line_of (Fragment fragment.UnboundedFuture) ≡ codes "policy: UnboundedFuture\n"
  pub unguarded : line_of (Fragment (fragment.Unguarded x)) ≡ codes "policy: Unguarded x\n"
  pub uneven : line_of (Fragment fragment.Uneven) ≡ codes "policy: Uneven\n"
  pub left : line_of (Fragment (fragment.LooseLeft x)) ≡ codes "policy: LooseLeft x\n"
  pub bound : line_of (Fragment (fragment.UnusedBound x)) ≡ codes "policy: UnusedBound x\n"

-- of a strategy
pub record StrategyLines : Type 0 where
  pub syntax : line_of (Strategy (strategy.Syntax 2)) ≡ codes "strategy: Syntax at 2\n"
  pub unknown : line_of (Strategy (strategy.UnknownVariable 0)) ≡ codes "strategy: UnknownVariable at 0\n"
  pub repeated : line_of (Strategy (strategy.RepeatedVariable 9)) ≡ codes "strategy: RepeatedVariable at 9\n"
  pub count : line_of (Strategy (strategy.BadCount 7)) ≡ codes "strategy: BadCount at 7\n"
  pub sort : line_of (Strategy (strategy.CutSort 2)) ≡ codes "strategy: CutSort at 2\n"
  pub order : line_of (Strategy (strategy.CutOrder 8)) ≡ codes "strategy: CutOrder at 8\n"
  pub workers : line_of (Strategy (strategy.TooManyWorkers 10)) ≡ codes "strategy: TooManyWorkers at 10\n"
  pub long : line_of LongStrategy ≡ codes "strategy: TooLong at 1048576\n"

-- of a change script
pub record ChangesLines : Type 0 where
  pub within : line_of (Changes (change.Strategy (strategy.CutOrder 8))) ≡ codes "changes: CutOrder at 8\n"
  pub falling : line_of (Changes (change.FallingChange 25)) ≡ codes "changes: FallingChange at 25\n"
  pub many : line_of (Changes (change.TooManyChanges 40961)) ≡ codes "changes: TooManyChanges at 40961\n"
  pub long : line_of LongChanges ≡ codes "changes: TooLong at 1048576\n"

-- of a log
pub record LogLines : Type 0 where
  pub lexical : line_of (Log (log.Lex (record { kind = BadUtf8; at = 12 }))) ≡ codes "log: Lex BadUtf8 at 12\n"
  pub number : line_of (Log (log.Lex (record { kind = NumberRange; at = 3 }))) ≡ codes "log: Lex NumberRange at 3\n"
  pub text : line_of (Log (log.Lex (record { kind = TextLong; at = 5 }))) ≡ codes "log: Lex TextLong at 5\n"
  pub syntax : line_of (Log (log.Syntax 26)) ≡ codes "log: Syntax at 26\n"
  pub unknown : line_of (Log (log.UnknownPredicate 3)) ≡ codes "log: UnknownPredicate at 3\n"
  pub arity : line_of (Log (log.WrongArity 13)) ≡ codes "log: WrongArity at 13\n"
  pub sort : line_of (Log (log.WrongSort 11)) ≡ codes "log: WrongSort at 11\n"
  pub wide : line_of (Log (log.IntRange 11)) ≡ codes "log: IntRange at 11\n"
  pub late : line_of (Log (log.TimestampRange 1)) ≡ codes "log: TimestampRange at 1\n"
  pub falling : line_of (Log (log.FallingTime 9 5 15)) ≡ codes "log: FallingTime 9 5 at 15\n"
  pub events : line_of (Log (log.TooManyEvents 24)) ≡ codes "log: TooManyEvents at 24\n"
  pub points : line_of (Log (log.TooManyPoints 5)) ≡ codes "log: TooManyPoints at 5\n"
  pub long : line_of (Log (log.TooLong 1099511627776)) ≡ codes "log: TooLong at 1099511627776\n"

-- of what failed outside
pub record OutsideLines : Type 0 where
  pub signature : line_of (Read file.Signature) ≡ codes "read: signature\n"
  pub policy : line_of (Read file.Policy) ≡ codes "read: policy\n"
  pub changes : line_of (Read file.Changes) ≡ codes "read: changes\n"
  pub log : line_of (Read file.Log) ≡ codes "read: log\n"
  pub write : line_of Write ≡ codes "write\n"
  pub memory : line_of Memory ≡ codes "memory\n"
