use Rattle.mfotl_lex.specs.declared.kind.Mode.TheVariants.{Plain, Log}
use Rattle.mfotl_lex.proofs.ScanLemmas.{scan_within}
use Rattle.mfotl_lex.proofs.scan.scan_front.Goals as goal

pub returns-in-Plain-clause-within : goal.returns-in-Plain-clause-within
returns-in-Plain-clause-within c = rw c.plain_scan.ensures (scan_within Plain c.args.ended c.args.bytes.now)

pub returns-in-Log-clause-within : goal.returns-in-Log-clause-within
returns-in-Log-clause-within c = rw c.log_scan.ensures (scan_within Log c.args.ended c.args.bytes.now)
