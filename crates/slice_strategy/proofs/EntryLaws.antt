-- Which variables have an entry, as the strategy shows it; and the last of the integers.
use Rattle.std.proofs.Common.{◌≡◌, ◌⊎◌, inl, inr, ℕ, zero, suc, ◌-◌, ◌<◌, ◌≤◌, List, [], ◌∷◌, ◌++◌, length, replicate}
use Rattle.std.proofs.Common.{Option, Some, None, Err, slice_get, slice_set, ap, refl, arith}
use Rattle.std.proofs.lemmas.List.{length-set, length-replicate, length-append}
use Rattle.std.proofs.lemmas.List.Quantifiers.{position-Some}
use Rattle.std.specs.Prelude.{ℤ}
use Rattle.std.proofs.lemmas.Bool.{leb-true}
use Rattle.mfotl_lex.specs.Lexemes.{Lexeme}
use Rattle.mfotl_model.specs.{Strategies.Entry, Strategies.parts_of, Strategies.workers_of, Strategies.Entry.Uncut}
use Rattle.mfotl_model.specs.declared.policy.Var.{Var}
use Rattle.slice_strategy.specs.declared.{fault.StrategyFault.TheVariants.RepeatedVariable, stage.Method.Method}
use Rattle.slice_strategy.specs.declared.stage.Method.TheVariants.{Hash, Cut}
use Rattle.slice_strategy.specs.Grammar.{Integers, Entries, NoEntry, Then}
use Rattle.slice_strategy.specs.{Entries.HasWorkers, Limits.max_workers, Reading.fresh}
use Rattle.slice_strategy.specs.Rules.{variable_of, or_zero, number_of, numbers, last_of, strategy_of, HasEntry, IsNew}
use Rattle.slice_strategy.specs.Rules.{AreInOrder, KeepsRules, entry_by}
use Rattle.slice_strategy.proofs.SoundLemmas.{uncut_one, some_set}

-- ---- lists

pub cases_Option : {A : Type 0} (o : Option A) → (o ≡ None) ⊎ ((x : A) × (o ≡ Some x))
cases_Option None = inl refl
cases_Option (Some x) = inr (x, refl)

got_set : (xs : List Entry) (k : ℕ) (x : Entry) → k < length xs → slice_get (slice_set xs k x) k ≡ Some x
got_set [] k x low = absurd (omega (arith, low))
got_set (y ∷ xs) zero x low = refl
got_set (y ∷ xs) (suc k) x low = got_set xs k x (omega (arith, low))

-- one place is set to x, and the other shows y, unless it is the same place
set_shows : (xs : List Entry) (k j : ℕ) (x : Entry) → (k ≡ j) ⊎ (slice_get (slice_set xs k x) j ≡ slice_get xs j)
set_shows [] k j x = inr refl
set_shows (y ∷ xs) zero zero x = inl refl
set_shows (y ∷ xs) zero (suc j) x = inr refl
set_shows (y ∷ xs) (suc k) zero x = inr refl
set_shows (y ∷ xs) (suc k) (suc j) x = grind (arith, set_shows xs k j x)

got_uncut : (n k : ℕ) → k < n → slice_get (replicate n Uncut) k ≡ Some Uncut
got_uncut zero k low = absurd (omega (arith, low))
got_uncut (suc n) zero low = refl
got_uncut (suc n) (suc k) low = got_uncut n k (omega (arith, low))

got_last : (xs : List ℤ) (n : ℤ) → slice_get (xs ++ n ∷ []) (length xs) ≡ Some n
got_last [] n = refl
got_last (x ∷ xs) n = got_last xs n

got_end : (xs : List ℤ) (n : ℤ) → slice_get (xs ++ n ∷ []) (length (xs ++ n ∷ []) - 1) ≡ Some n
got_end xs n = grind (arith, length-append xs (n ∷ []), slice_get (xs ++ n ∷ []), got_last xs n)

-- the last of the integers stands last
pub last_number : (is : Integers) → slice_get (numbers is) (length (numbers is) - 1) ≡ Some (last_of is)
last_number is = grind (arith, got_end)

-- ---- variables

module _ (vars : List Var) where
  pub named_low : (name : List ℕ) (x : ℕ) → variable_of vars name ≡ Some x → x < length vars
  named_low name x e = grind (arith, position-Some)

  pub strategy_size : (es : Entries) → length (strategy_of vars es) ≡ length vars
  strategy_size NoEntry = length-replicate (length vars) Uncut
  strategy_size (Then es o is) = simp (length-set, strategy_size es)

  -- a Word that is a variable's
  pub number_named : (t : Lexeme) (x : ℕ) → variable_of vars t.text ≡ Some x → number_of vars t ≡ x
  number_named t x e = ap or_zero e

  -- what the strategy shows of a variable that has an entry
  pub record IsHad (es : Entries) (x : ℕ) : Type 0 where
    pub had : HasEntry vars es x
    pub repeats : (t : Lexeme) → fresh (slice_get (strategy_of vars es) x) x t ≡ Err (RepeatedVariable t.at)

  -- and of one that has none
  pub record IsFree (es : Entries) (x : ℕ) : Type 0 where
    pub first : HasEntry vars es x → ⊥
    pub uncut : slice_get (strategy_of vars es) x ≡ Some Uncut

  -- the names of whole entries are known
  abbrev pub AreKnown : Entries → Type 0
  AreKnown NoEntry = Unit {0}
  AreKnown (Then es o is) = AreKnown es × IsNew vars es o.name

  pub kept_known : (es : Entries) → KeepsRules vars es → AreKnown es
  kept_known NoEntry k = tt
  kept_known (Then es o is) k = (kept_known es k.0, k.1)

  pub had_or_free : (es : Entries) (x : ℕ) → AreKnown es → x < length vars → IsHad es x ⊎ IsFree es x
  had_or_free NoEntry x known low = grind (arith, got_uncut)
  had_or_free (Then es o is) x known low =
      grind (arith, strategy_size, got_set, set_shows, number_named, had_or_free es x known.0 low)

  -- without an entry there is one worker
  pub one_worker : workers_of (strategy_of vars NoEntry) ≤ max_workers
  one_worker = let one = uncut_one (length vars) in omega (arith, one)

  -- an entry that keeps the rules has parts
  some_parts : (m : Method) (is : Integers) → AreInOrder m is → 0 < parts_of (entry_by m is)
  some_parts Hash is kept = grind (arith, leb-true)
  some_parts Cut is kept = omega arith

  -- so there are workers, and no more than there may be
  pub kept_workers : (es : Entries) → KeepsRules vars es → HasWorkers (strategy_of vars es)
  kept_workers NoEntry kept = let one = uncut_one (length vars) in omega (arith, one)
  kept_workers (Then es o is) kept =
      record {
        some =
            some_set (strategy_of vars es) (number_of vars o.name) (entry_by o.method is)
            (some_parts o.method is kept.3) (kept_workers es kept.0).some;
        few = kept.4;
      }
