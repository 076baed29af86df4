-- Words worked out by hand, and the commands that they give.
use Rattle.std.specs.Prelude.{◌≡◌, ℕ, ◌+◌, ◌<◌, List, ◌∷◌, [], codes, true, Some, None, IfSome}
use Rattle.std.specs.Str.Parse.{digits_value}
use Rattle.clap.specs.ValueTests.{is_unsigned_in}
use Rattle.clap.specs.Words.{Text, subcommand_of}
use Rattle.command_line.specs.Limits.{default_threads, max_seed}
use Rattle.command_line.specs.Words.{Run, Check, Demo, IsThreadCount, command_of, monitor_app}

-- `run` with all of its options
abbrev pub RunIsTaken : Type 0
RunIsTaken =
    command_of
    (codes "monitor" ∷ codes "run" ∷ codes "--sig" ∷ codes "s" ∷ codes "--policy" ∷ codes "p" ∷ codes "--log=-"
    ∷ codes "--strategy" ∷ codes "x=hash:2" ∷ codes "--changes" ∷ codes "c" ∷ codes "--threads" ∷ codes "2" ∷ [])
    ≡ Some (Run (record { sig = codes "s"; policy = codes "p" })
    (record { strategy = codes "x=hash:2"; changes = Some (codes "c"); log = codes "-" }))

-- without a strategy there is no text, and without changes no name
abbrev pub OptionsMayBeLeftOut : Type 0
OptionsMayBeLeftOut =
    command_of
    (codes "monitor" ∷ codes "run" ∷ codes "--sig" ∷ codes "s" ∷ codes "--policy" ∷ codes "p" ∷ codes "--log"
    ∷ codes "l" ∷ [])
    ≡ Some (Run (record { sig = codes "s"; policy = codes "p" })
    (record { strategy = []; changes = None; log = codes "l" }))

-- the options of these words give this number of threads, and no other
abbrev pub GiveThreads : List Text → ℕ → Type 0
GiveThreads words threads =
    (count : ℕ) → IfSome (subcommand_of monitor_app words) (λ found. IsThreadCount found.1 count) → count ≡ threads

-- a run without a strategy and changes, and with these words behind it
abbrev pub short_run : List Text → List Text
short_run more =
    codes "monitor" ∷ codes "run" ∷ codes "--sig" ∷ codes "s" ∷ codes "--policy" ∷ codes "p" ∷ codes "--log"
    ∷ codes "l" ∷ more

-- with `--threads 2` there are two threads, and without the option as many as by default
abbrev pub ThreadsAreTaken : Type 0
ThreadsAreTaken =
    GiveThreads (short_run (codes "--threads" ∷ codes "2" ∷ [])) 2 × GiveThreads (short_run []) default_threads

-- `check`
abbrev pub CheckIsTaken : Type 0
CheckIsTaken =
    command_of (codes "monitor" ∷ codes "check" ∷ codes "--sig" ∷ codes "s" ∷ codes "--policy" ∷ codes "p" ∷ [])
    ≡ Some (Check (record { sig = codes "s"; policy = codes "p" }))

-- the text that begins with a digit from 0 to 9
abbrev pub digit_text : ℕ → List ℕ → Text
digit_text digit rest = (48 + digit) ∷ rest

-- `demo`, with whatever digits write a number from 0 to 2^64 - 1
abbrev pub DemoIsTaken : Type 0
DemoIsTaken =
    (program : Text) (digit : ℕ) (rest : List ℕ) → digit < 10
    → is_unsigned_in 0 max_seed (digit_text digit rest) ≡ true
    → command_of (program ∷ codes "demo" ∷ digit_text digit rest ∷ [])
    ≡ Some (Demo (digits_value 10 (digit_text digit rest)))

-- with the greatest
abbrev pub GreatestSeedIsTaken : Type 0
GreatestSeedIsTaken =
    command_of (codes "monitor" ∷ codes "demo" ∷ codes "18446744073709551615" ∷ [])
    ≡ Some (Demo 18446744073709551615)

-- and with one that is too great
abbrev pub SeedsHaveAnEnd : Type 0
SeedsHaveAnEnd = command_of (codes "monitor" ∷ codes "demo" ∷ codes "18446744073709551616" ∷ []) ≡ None

-- standard input stands for no two files
abbrev pub InputIsNotShared : Type 0
InputIsNotShared =
    command_of
    (codes "monitor" ∷ codes "run" ∷ codes "--sig" ∷ codes "s" ∷ codes "--policy" ∷ codes "p" ∷ codes "--log=-"
    ∷ codes "--changes=-" ∷ [])
    ≡ None
