-- What a reader has read stays sound, token by token.
use Rattle.std.proofs.Common.{◌≡◌, ◌∙◌, ℕ, zero, suc, ◌-◌, ◌^◌, ◌<◌, ◌≤◌, min, List, [], ◌∷◌, length, replicate, Option}
use Rattle.std.proofs.Common.{Result, Ok, Err, slice_get, slice_set, refl, arith}
use Rattle.std.specs.Prelude.{ℤ}
use Rattle.std.proofs.lemmas.Bool.{le-leb, leb-true, lt-leb}
use Rattle.std.proofs.{lemmas.Option.slice_get_within, lemmas.List.map-set, Math.Nat.one-mul, Math.Nat.one-le-mul}
use Rattle.mfotl_lex.specs.declared.kind.Kind.{Kind}
use Rattle.mfotl_lex.specs.Lexemes.{Lexeme}
use Rattle.mfotl_model.specs.Strategies.{Entry, Strategy, parts_of, workers_of}
use Rattle.mfotl_model.specs.Strategies.Entry.{Uncut}
use Rattle.mfotl_model.specs.declared.policy.Var.{Var}
use Rattle.slice_strategy.specs.declared.{fault.StrategyFault.StrategyFault, entry.Entry.Entry as Item, stage.Head.Head}
use Rattle.slice_strategy.specs.declared.{fault.StrategyFault.TheVariants.TooManyWorkers}
use Rattle.slice_strategy.specs.{Entries.entries_of, Entries.entry_of, Limits.max_workers, SlicerLemmas.both_some}
use Rattle.slice_strategy.specs.Reading.{StageOf, Between, Behind, StageFits, PartialFits, entry_named, with_count}
use Rattle.slice_strategy.specs.Reading.{stage_step, ended}

-- ---- the stages

-- what the next token makes of an entry fits, if it is no fault
abbrev Sound : ℕ → Result StageOf StrategyFault → Type 0
Sound n (Ok s) = StageFits n s
Sound n (Err fault) = Unit {0}

named_sound : (entries : Strategy) (found : Option ℕ) (t : Lexeme)
    → Sound (length entries) (entry_named entries found t)
named_sound entries found t = grind (arith, slice_get_within, slice_get)

module _ (n : ℕ) (head : Head) (low : head.variable < n) (t : Lexeme) where
  count_sound : (v : ℤ) → Sound n (with_count head v t.at)
  count_sound v = grind (arith, leb-true)

step_sound : (vars : List Var) (entries : Strategy) (stage : StageOf) (t : Lexeme) (kind : Kind)
    → StageFits (length entries) stage → Sound (length entries) (stage_step vars entries stage t kind)
step_sound vars entries stage t kind fits = grind (arith, named_sound, slice_get, count_sound)

pub stage_fits : (vars : List Var) (entries : Strategy) (stage : StageOf) (t : Lexeme) (kind : Kind) (s : StageOf)
    → StageFits (length entries) stage → stage_step vars entries stage t kind ≡ Ok s → StageFits (length entries) s
stage_fits vars entries stage t kind s fits is = rw is at (step_sound vars entries stage t kind fits)

-- ---- the workers

pub uncut_one : (n : ℕ) → workers_of (replicate n Uncut) ≡ 1
uncut_one zero = refl
uncut_one (suc n) = one-mul (workers_of (replicate n Uncut)) ∙ uncut_one n

-- where no entry is settled there is one worker
pub nothing_sound : (n : ℕ) → PartialFits (record { entries = replicate n Uncut; stage = Between })
nothing_sound n = omega (arith, uncut_one n)

-- an entry that has parts leaves some workers
pub some_set : (es : Strategy) (i : ℕ) (e : Entry) → 0 < parts_of e → 0 < workers_of es
    → 0 < workers_of (slice_set es i e)
some_set [] i e parts some = some
some_set (d ∷ es) zero e parts some = one-le-mul parts (both_some (parts_of d) (workers_of es) some).1
some_set (d ∷ es) (suc i) e parts some =
    let both = both_some (parts_of d) (workers_of es) some in one-le-mul both.0 (some_set es i e parts both.1)

-- An open entry becomes its variable's, and the workers are counted then.
module _ (items : List Item) (head : Head) (entry : Item) (slice : List Item) (n : ℕ)
    (is : slice ≡ slice_set items head.variable entry)
    (counted_so : n ≡ min (workers_of (entries_of slice)) (2 ^ 64 - 1)) where
  abbrev pub set_entries : Strategy
  set_entries = slice_set (entries_of items) head.variable (entry_of entry)

  same : entries_of (slice_set items head.variable entry) ≡ set_entries
  same = map-set entry_of items head.variable entry

  count : n ≡ min (workers_of set_entries) (2 ^ 64 - 1)
  count = rw (← same, ← is) counted_so

  pub too_many : max_workers < n
      → ended (entries_of items) (Behind head (entry_of entry)) ≡ Err (TooManyWorkers head.at)
  too_many many = rw (lt-leb (workers_of set_entries) max_workers (omega (arith, count, many)))

  few_workers : n ≤ max_workers → workers_of set_entries ≤ max_workers
  few_workers few = omega (arith, count, few)

  pub not_too_many : n ≤ max_workers → ended (entries_of items) (Behind head (entry_of entry))
      ≡ Ok (record { entries = entries_of (slice_set items head.variable entry); stage = Between })
  not_too_many few = rw (same, le-leb (workers_of set_entries) max_workers (few_workers few))

  pub set_sound : n ≤ max_workers
      → PartialFits (record { entries = entries_of items; stage = Behind head (entry_of entry) })
      → PartialFits (record { entries = entries_of (slice_set items head.variable entry); stage = Between })
  set_sound few sound = search (some_set, same, few_workers)
