use Rattle.mfotl_parse.proofs.ColumnsLaw.{sorted_given}
use Rattle.mfotl_parse.proofs.PolicyLaws.{value_given, shown_given, few_given}
use Rattle.mfotl_parse.proofs.reading.read_policy.Goals as goal

pub returns-clause-value : goal.returns-clause-value
returns-clause-value c = value_given c.args.bytes.now c.args.signature.now c.read.result c.read.ensures

pub returns-clause-shown : goal.returns-clause-shown
returns-clause-shown c = shown_given c.args.bytes.now c.args.signature.now c.read.result c.read.ensures

pub returns-clause-columns : goal.returns-clause-columns
returns-clause-columns c = sorted_given c.args.bytes.now c.args.signature.now c.read.result c.read.ensures

pub returns-clause-few : goal.returns-clause-few
returns-clause-few c = few_given c.args.bytes.now c.args.signature.now c.read.result c.read.ensures
