-- The ways on of the automaton of the grammar, one by one.
use Rattle.std.proofs.Common.{◌≡◌, ℕ, true, false, List, Option, Some, IfSome, subst, arith}
use Rattle.std.proofs.lemmas.Bool.{cond_both}
use Rattle.log_reader.specs.declared.stage.Stage.{Stage}
use Rattle.log_reader.specs.declared.stage.Stage.TheVariants.{Between, AfterAt, AfterStamp, AfterName, AfterOpen}
use Rattle.log_reader.specs.declared.stage.Stage.TheVariants.{AfterValue, AfterComma, AfterClose}
use Rattle.log_reader.specs.Stages.{stage_after, completes, is_whole}
use Rattle.log_reader.specs.Symbols.{Symbol, AtSign, Opening, Closing, Separator, Terminator, Says, Written, Bare}
use Rattle.log_reader.specs.Symbols.{is_digits}

pub data Transition : Stage → Symbol → Stage → Type 0 where
  begins_first : Transition Between AtSign AfterAt
  begins_bare : Transition AfterStamp AtSign AfterAt
  begins_full : Transition AfterClose AtSign AfterAt
  times : (word : List ℕ) → is_digits word ≡ true → Transition AfterAt (Says (Bare word)) AfterStamp
  names_first : (word : List ℕ) → Transition AfterStamp (Says (Bare word)) AfterName
  names_more : (word : List ℕ) → Transition AfterClose (Says (Bare word)) AfterName
  opens_first : Transition AfterName Opening AfterOpen
  opens_more : Transition AfterClose Opening AfterOpen
  gives_first : (w : Written) → Transition AfterOpen (Says w) AfterValue
  gives_more : (w : Written) → Transition AfterComma (Says w) AfterValue
  separates : Transition AfterValue Separator AfterComma
  closes_empty : Transition AfterOpen Closing AfterClose
  closes : Transition AfterValue Closing AfterClose
  ends_bare : Transition AfterStamp Terminator Between
  ends_full : Transition AfterClose Terminator Between

-- each way that the automaton goes is one of these
ways : (s : Stage) (x : Symbol) → IfSome (stage_after s x) (Transition s x)
ways Between AtSign = begins_first
ways AfterAt (Says (Bare word)) =
    cond_both (is_digits word) _ _ (λ (o : Option Stage). IfSome o (Transition AfterAt (Says (Bare word))))
    (times word) (λ _. tt)
ways AfterStamp AtSign = begins_bare
ways AfterStamp Terminator = ends_bare
ways AfterStamp (Says (Bare word)) = names_first word
ways AfterName Opening = opens_first
ways AfterOpen (Says w) = gives_first w
ways AfterOpen Closing = closes_empty
ways AfterValue Separator = separates
ways AfterValue Closing = closes
ways AfterComma (Says w) = gives_more w
ways AfterClose AtSign = begins_full
ways AfterClose Terminator = ends_full
ways AfterClose Opening = opens_more
ways AfterClose (Says (Bare word)) = names_more word
ways _ _ = tt

pub transition : (s : Stage) (x : Symbol) (g : Stage) → stage_after s x ≡ Some g → Transition s x g
transition s x g e = subst (λ (o : Option Stage). IfSome o (Transition s x)) e (ways s x)

-- behind a whole time-point a name may follow
pub name_goes : (s : Stage) (w : List ℕ) → is_whole s ≡ true
    → (stage_after s (Says (Bare w)) ≡ Some AfterName) × (completes s (Says (Bare w)) ≡ false)
name_goes s w e = grind arith

-- and an `@` or a `;`
pub end_goes : (s : Stage) → is_whole s ≡ true
    → (stage_after s AtSign ≡ Some AfterAt) × (stage_after s Terminator ≡ Some Between)
end_goes s e = grind arith
