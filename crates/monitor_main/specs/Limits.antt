-- How much the files may ask for. The words' limits are command_line's, and a log's are log_reader's.
use Rattle.std.specs.Prelude.{ℕ, ◌^◌}

-- the most bytes of a signature, of a policy, of a strategy's text, and of a change script
abbrev pub max_file : ℕ
max_file = 2 ^ 20
