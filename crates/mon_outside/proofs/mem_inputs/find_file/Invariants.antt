use Rattle.std.proofs.Common.{◌≡◌, drop}
use Rattle.mon_outside.specs.{Files.find_file, Memory.as_files}
use Rattle.mon_outside.proofs.mem_inputs.find_file.Given as goal

abbrev pub invariant-loop-file : goal.invariant-loop-file
invariant-loop-file l = find_file (as_files (drop l.file-index l.files)) l.name ≡ find_file (as_files l.files) l.name
