-- How a fault is printed: `BadByte at 4`.
use Rattle.std.specs.Prelude.{ℕ, List, ◌++◌, codes}
use Rattle.std.specs.Fmt.{decimal}
use Rattle.mfotl_lex.specs.declared.fault.LexFault.{LexFault}
use Rattle.mfotl_lex.specs.declared.fault.LexFaultKind.{LexFaultKind}
use Rattle.mfotl_lex.specs.declared.fault.LexFaultKind.TheVariants.{BadByte, OpenText, NumberRange, TextLong, BadUtf8}

-- the name of what is wrong
abbrev pub kind_name : LexFaultKind → List ℕ
kind_name BadByte = codes "BadByte"
kind_name OpenText = codes "OpenText"
kind_name NumberRange = codes "NumberRange"
kind_name TextLong = codes "TextLong"
kind_name BadUtf8 = codes "BadUtf8"

-- the name, and the offset
abbrev pub fault_text : LexFault → List ℕ
fault_text fault = kind_name fault.kind ++ codes " at " ++ decimal fault.at
