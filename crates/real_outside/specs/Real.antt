-- What is told of a real source, and how its failures are counted.
use Rattle.std.specs.Prelude.{ℕ, Bool, true, false, List, [], Option, None, if◌then◌else◌, is_err}
use Rattle.std.specs.declared.result.Result.{Result}
use Rattle.mon_outside.specs.Memory.{one_more}
use Rattle.real_outside.specs.declared.real_inputs.Source.{Source}
use Rattle.real_outside.specs.declared.real_inputs.Source.TheVariants.{Closed, Input, File}

-- whether a file or standard input is open
abbrev pub is_opened : {F : Type 0} → Source F → Bool
is_opened Closed = false
is_opened Input = true
is_opened (File f) = true

-- whether standard input is open
abbrev pub is_input : {F : Type 0} → Source F → Bool
is_input Closed = false
is_input Input = true
is_input (File f) = false

-- nothing is told of the bytes
abbrev pub untold : {X : Type 0} → X → Option (List ℕ)
untold x = None

-- a real sink holds nothing back
abbrev pub none_held : {X : Type 0} → X → List ℕ
none_held x = []

-- what standard input or the open file has left, where its reader tells that
abbrev pub rest_told : {S F : Type 0} → (S → Option (List ℕ)) → (F → Option (List ℕ)) → S → Source F → Option (List ℕ)
rest_told of_input of_file input Closed = None
rest_told of_input of_file input Input = of_input input
rest_told of_input of_file input (File f) = of_file f

-- the count of failures behind a call: one more where the call failed, and otherwise as it was
abbrev pub count_after : {T E : Type 0} → ℕ → Result T E → ℕ
count_after before result = if is_err result then one_more before else before
