-- What is refused, and what a run answers where it refuses: the status, and the line that says why.
use Rattle.std.specs.Prelude.{ℕ, List, ◌++◌, codes}
use Rattle.monitor_main.specs.declared.status.Status.{Status}
use Rattle.monitor_main.specs.declared.status.Status.TheVariants as status
use Rattle.monitor_main.specs.declared.refusal.Refusal.{Refusal}
use Rattle.monitor_main.specs.declared.refusal.Refusal.TheVariants.{Usage, LongSignature, Signature}
use Rattle.monitor_main.specs.declared.refusal.Refusal.TheVariants.{LongPolicy, Policy, Fragment}
use Rattle.monitor_main.specs.declared.refusal.Refusal.TheVariants.{LongStrategy, Strategy}
use Rattle.monitor_main.specs.declared.refusal.Refusal.TheVariants.{LongChanges, Changes}
use Rattle.monitor_main.specs.declared.refusal.Refusal.TheVariants.{Log, Read, Write, Memory}
use Rattle.monitor_main.specs.FaultLines.{fault_line, file_text, too_long}
use Rattle.mfotl_sig.specs.FaultTexts.{fault_text as sig_text}
use Rattle.mfotl_parse.specs.FaultTexts.{fault_text as policy_text}
use Rattle.monitorable.specs.FaultTexts.{fault_text as fragment_text}
use Rattle.slice_strategy.specs.FaultTexts.{change_fault_text as changes_text, fault_text as strategy_text}
use Rattle.log_reader.specs.FaultTexts.{fault_text as log_text}
use Rattle.mfotl_sig.specs.declared.fault.SigFault.{SigFault}
use Rattle.mfotl_sig.specs.declared.fault.SigFault.TheVariants as sig
use Rattle.mfotl_parse.specs.declared.fault.PolicyFault.{PolicyFault}
use Rattle.mfotl_parse.specs.declared.fault.PolicyFault.TheVariants as policy
use Rattle.monitorable.specs.declared.fault.FragmentFault.{FragmentFault}
use Rattle.monitorable.specs.declared.fault.FragmentFault.TheVariants as fragment
use Rattle.slice_strategy.specs.declared.fault.StrategyFault.{StrategyFault}
use Rattle.slice_strategy.specs.declared.fault.StrategyFault.TheVariants as strategy
use Rattle.slice_strategy.specs.declared.change.ChangeFault.{ChangeFault}
use Rattle.slice_strategy.specs.declared.change.ChangeFault.TheVariants as change
use Rattle.log_reader.specs.declared.fault.LogFault.{LogFault}
use Rattle.log_reader.specs.declared.fault.LogFault.TheVariants as log
use Rattle.command_line.specs.declared.words.WordsFault.{WordsFault}
use Rattle.command_line.specs.declared.words.WordsFault.TheVariants as words

-- the refusal for words
abbrev pub words_refusal : WordsFault → Refusal
words_refusal words.Usage = Usage
words_refusal words.Memory = Memory

-- the refusal for a signature's fault
abbrev pub sig_refusal : SigFault → Refusal
sig_refusal sig.Memory = Memory
sig_refusal fault = Signature fault

-- the refusal for a policy's fault
abbrev pub policy_refusal : PolicyFault → Refusal
policy_refusal policy.Memory = Memory
policy_refusal fault = Policy fault

-- the refusal for a policy that can't be monitored
abbrev pub fragment_refusal : FragmentFault → Refusal
fragment_refusal fragment.Memory = Memory
fragment_refusal fault = Fragment fault

-- the refusal for a strategy's fault
abbrev pub strategy_refusal : StrategyFault → Refusal
strategy_refusal strategy.Memory = Memory
strategy_refusal fault = Strategy fault

-- the refusal for a change script's fault
abbrev pub changes_refusal : ChangeFault → Refusal
changes_refusal (change.Strategy strategy.Memory) = Memory
changes_refusal fault = Changes fault

-- the refusal for a log's fault
abbrev pub log_refusal : LogFault → Refusal
log_refusal log.Memory = Memory
log_refusal fault = Log fault

-- the status that a run ends with
abbrev pub status_of : Refusal → Status
status_of Usage = status.Usage
status_of LongSignature = status.Signature
status_of (Signature fault) = status.Signature
status_of LongPolicy = status.Policy
status_of (Policy fault) = status.Policy
status_of (Fragment fault) = status.Policy
status_of LongStrategy = status.Strategy
status_of (Strategy fault) = status.Strategy
status_of LongChanges = status.Strategy
status_of (Changes fault) = status.Strategy
status_of (Log fault) = status.Log
status_of (Read file) = status.Read
status_of Write = status.Write
status_of Memory = status.Memory

-- the line for words that are no command line
unfoldable pub usage_line : List ℕ
usage_line =
    codes "usage: run --sig F --policy F --log F [--strategy S] [--changes F] [--threads T]"
    ++ codes " or check --sig F --policy F or demo SEED\n"

-- the line that says why
unfoldable pub line_of : Refusal → List ℕ
line_of Usage = usage_line
line_of LongSignature = fault_line (codes "signature") too_long
line_of (Signature fault) = fault_line (codes "signature") (sig_text fault)
line_of LongPolicy = fault_line (codes "policy") too_long
line_of (Policy fault) = fault_line (codes "policy") (policy_text fault)
line_of (Fragment fault) = fault_line (codes "policy") (fragment_text fault)
line_of LongStrategy = fault_line (codes "strategy") too_long
line_of (Strategy fault) = fault_line (codes "strategy") (strategy_text fault)
line_of LongChanges = fault_line (codes "changes") too_long
line_of (Changes fault) = fault_line (codes "changes") (changes_text fault)
line_of (Log fault) = fault_line (codes "log") (log_text fault)
line_of (Read file) = codes "read: " ++ file_text file ++ codes "\n"
line_of Write = codes "write\n"
line_of Memory = codes "memory\n"
