-- A step fails exactly where its token shows a fault, and with that fault.
use Rattle.std.proofs.Common.{◌≡◌, inl, inr, ℕ, true, List, [], ◌∷◌, ◌++◌, Option, Some, None, Result, Ok, Err, IfErr}
use Rattle.std.proofs.Common.{refl, sym, ap, ◌∙◌, nat_lt, arith}
use Rattle.std.specs.Prelude.{option_and_then}
use Rattle.std.proofs.lemmas.Bool.{cond_both, ltb-true, ltb-false, lt-ltb, le-ltb}
use Rattle.std.proofs.lemmas.List.{map-append}
use Rattle.mfotl_lex.specs.{FirstFault.◌>>=◌, FirstFault.run, Lexemes.Lexeme}
use Rattle.mfotl_model.specs.declared.policy.Sort.{Sort}
use Rattle.mfotl_model.specs.declared.policy.Sort.TheVariants as sorts
use Rattle.mfotl_sig.specs.Preds.{PredOf, named}
use Rattle.log_reader.specs.declared.{fault.LogFault.LogFault, limits.Limits.Limits, stage.Stage.Stage}
use Rattle.log_reader.specs.declared.fault.LogFault.TheVariants.{Syntax, UnknownPredicate, WrongArity, WrongSort}
use Rattle.log_reader.specs.declared.fault.LogFault.TheVariants.{IntRange, TimestampRange, FallingTime, TooManyEvents}
use Rattle.log_reader.specs.declared.fault.LogFault.TheVariants.{TooManyPoints}
use Rattle.log_reader.specs.declared.stage.Stage.TheVariants.{Between, AfterAt, AfterStamp, AfterName, AfterOpen}
use Rattle.log_reader.specs.declared.stage.Stage.TheVariants.{AfterValue, AfterClose}
use Rattle.log_reader.specs.Causes.{Plays, IsCause, IsIntegerDue, IsNoInteger, IsWide}
use Rattle.log_reader.specs.{Fronts.symbols_before, Fronts.due_sorts, Grammar.symbols_of, Grammar.IsViable}
use Rattle.log_reader.specs.{Partials.Partial, Partials.nothing_read, Stages.stage_after}
use Rattle.log_reader.specs.Steps.{step, stepped, point_opened, stamped, naming, grouped, valued, group_closed}
use Rattle.log_reader.specs.Symbols.{Symbol, Written, Bare, Quoted, symbol, token_content, written}
use Rattle.log_reader.specs.ValuesRead.{value_at, integer_at, timestamp_of}
use Rattle.log_reader.proofs.FrontSteps.{Stands, is_in_brackets, role_to, role_is, same_stage, run_stands}
use Rattle.log_reader.proofs.Paths.{paths, paths-append, viable_by, viable_path}
use Rattle.log_reader.proofs.Runs.{run_paths}
use Rattle.log_reader.proofs.Transitions.{Transition, closes_empty, closes, transition}

-- one symbol more on a path
one_more : (o : Option Stage) → option_and_then (λ g. Some g) o ≡ o
one_more o = grind arith

path_further : (front : List Lexeme) (t : Lexeme) (s : Stage) → paths Between (symbols_of front) ≡ Some s
    → paths Between (symbols_of (front ++ t ∷ [])) ≡ stage_after s (symbol t)
path_further front t s e = grind (arith, paths, map-append, paths-append, one_more)

close_inside : (s : Stage) (x : Symbol) → Transition s x AfterClose → is_in_brackets s ≡ true
close_inside _ _ closes_empty = refl
close_inside _ _ closes = refl

-- the automaton goes on with the token, to this stage
abbrev LeadsTo : Stage → Partial → Lexeme → Type 0
LeadsTo stage p t = stage_after p.stage (symbol t) ≡ Some stage

-- ---- values and groups that show a fault

no_integer : (at : ℕ) (w : Written) → IsNoInteger w → value_at sorts.Int at w ≡ Err (WrongSort at)
unfolding integer_at
no_integer at w none = grind arith

wide : (at : ℕ) (w : Written) → IsWide w → value_at sorts.Int at w ≡ Err (IntRange at)
unfolding integer_at
wide at w h = grind arith

-- ---- a token behind a front

module _ (sig : List PredOf) (limits : Limits) (front : List Lexeme) (p : Partial) (t : Lexeme)
    (sound : run (step sig limits) front nothing_read ≡ Ok p) where
  stands : Stands sig p.stage p (symbols_before front)
  stands = run_stands sig limits front p sound

  further : paths Between (symbols_of (front ++ t ∷ [])) ≡ stage_after p.stage (symbol t)
  further = path_further front t p.stage (run_paths sig limits nothing_read p front sound)

  -- the grammar goes on exactly where the automaton does
  viable_there : (g : Stage) → LeadsTo g p t → IsViable (front ++ t ∷ [])
  viable_there g leads = viable_by (front ++ t ∷ []) g (further ∙ leads)

  goes_there : IsViable (front ++ t ∷ []) → (g : Stage) × LeadsTo g p t
  goes_there viable = let path = viable_path (front ++ t ∷ []) viable in (path.0, sym further ∙ path.1)

  way : (g : Stage) → LeadsTo g p t → Transition p.stage (symbol t) g
  way g leads = transition p.stage (symbol t) g leads

  plays : (g : Stage) → LeadsTo g p t → Plays (role_to g) front t
  plays g leads = (viable_there g leads, role_is sig p (symbols_before front) p.stage (symbol t) g (way g leads) stands)

  leads_to : (g : Stage) → Plays (role_to g) front t → LeadsTo g p t
  leads_to g part =
      let there = goes_there part.0 in
      let here = role_is sig p (symbols_before front) p.stage (symbol t) there.0 (way there.0 there.1) stands in
      there.1 ∙ ap (λ (s : Stage). Some s) (same_stage there.0 g (sym here ∙ part.1))

  value_due : LeadsTo AfterValue p t → p.due ≡ due_sorts sig (symbols_before front)
  value_due leads = stands.due (grind arith)

  close_due : LeadsTo AfterClose p t → p.due ≡ due_sorts sig (symbols_before front)
  close_due leads = stands.due (close_inside p.stage (symbol t) (way AfterClose leads))

  none_there : (found : Option Stage) → stage_after p.stage (symbol t) ≡ found → (IsViable (front ++ t ∷ []) → ⊥)
      → stage_after p.stage (symbol t) ≡ None
  none_there found e ends = grind (arith, viable_there)

  -- ---- a fault has its cause

  -- the fault that is answered is one that the token shows
  abbrev Explains : {A : Type 0} → Result A LogFault → Type 0
  Explains r = IfErr r (IsCause sig limits front t)

  then_fine : {A B : Type 0} (r : Result A LogFault) (f : A → B) → Explains r → Explains (r >>= λ x. Ok (f x))
  then_fine r f why = grind arith

  opened_why : LeadsTo AfterAt p t → Explains (point_opened limits t.at p)
  opened_why g = cond_both (nat_lt p.points limits.points) _ _ Explains (λ _. tt)
      (λ h. (refl, plays AfterAt g, rw stands.points at (ltb-false p.points limits.points h)))

  stamped_why : LeadsTo AfterStamp p t → (time : Option ℕ) → timestamp_of (token_content t) ≡ time
      → Explains (stamped t.at p time)
  stamped_why g None none = (refl, plays AfterStamp g, none)
  stamped_why g (Some time) some = cond_both (nat_lt time p.time) _ _ Explains
      (λ h. (refl, plays AfterStamp g, some, stands.time, ltb-true time p.time h)) (λ _. tt)

  naming_why : LeadsTo AfterName p t → (found : Option PredOf) → named (token_content t) sig ≡ found
      → Explains (naming t.at p found)
  naming_why g None none = (refl, plays AfterName g, none)
  naming_why g (Some pred) some = tt

  grouped_why : LeadsTo AfterOpen p t → Explains (grouped limits t.at p)
  grouped_why g = cond_both (nat_lt p.groups limits.events) _ _ Explains (λ _. tt)
      (λ h. (refl, plays AfterOpen g, rw stands.groups at (ltb-false p.groups limits.events h)))

  integer_why : LeadsTo AfterValue p t → IsIntegerDue sig front → (word : List ℕ) → written t ≡ Bare word
      → Explains (integer_at t.at word)
  unfolding integer_at
  integer_why g due word is = grind (arith, cond_both, plays AfterValue g, wide)

  value_why : LeadsTo AfterValue p t → (sort : Sort) (more : List Sort)
      → due_sorts sig (symbols_before front) ≡ sort ∷ more → (w : Written) → written t ≡ w
      → Explains (value_at sort t.at w)
  value_why g sorts.Int more due (Bare word) is = integer_why g (more, due) word is
  value_why g sorts.Int more due (Quoted text) is = (refl, plays AfterValue g, (more, due), rw is tt)
  value_why g sorts.Text more due (Bare word) is = tt
  value_why g sorts.Text more due (Quoted text) is = tt

  valued_why : LeadsTo AfterValue p t → (due : List Sort) → p.due ≡ due → Explains (valued t.at (written t) p due)
  valued_why g [] none = (refl, inl (plays AfterValue g, sym (value_due g) ∙ none))
  valued_why g (sort ∷ more) due =
      then_fine (value_at sort t.at (written t)) _ (value_why g sort more (sym (value_due g) ∙ due) (written t) refl)

  closed_why : LeadsTo AfterClose p t → (due : List Sort) → p.due ≡ due → Explains (group_closed t.at p due)
  closed_why g [] none = tt
  closed_why g (sort ∷ more) due = grind (arith, plays AfterClose g, close_due g)

  stepped_why : (found : Option Stage) → stage_after p.stage (symbol t) ≡ found
      → Explains (stepped sig limits p t found)
  stepped_why None none = grind (arith, goes_there, stands)
  stepped_why (Some AfterAt) g = opened_why g
  stepped_why (Some AfterStamp) g = stamped_why g (timestamp_of (token_content t)) refl
  stepped_why (Some AfterName) g = naming_why g (named (token_content t) sig) refl
  stepped_why (Some AfterOpen) g = grouped_why g
  stepped_why (Some AfterValue) g = valued_why g p.due refl
  stepped_why (Some AfterClose) g = closed_why g p.due refl
  stepped_why (Some _) g = tt

  pub step_why : (fault : LogFault) → step sig limits p t ≡ Err fault → IsCause sig limits front t fault
  unfolding step
  step_why fault e = grind (arith, stepped_why (stage_after p.stage (symbol t)) refl)

  -- ---- a cause shows its fault

  -- a step that the grammar takes to this stage
  taken : (g : Stage) (r : Result Partial LogFault) → Plays (role_to g) front t → stepped sig limits p t (Some g) ≡ r
      → step sig limits p t ≡ r
  unfolding step
  taken g r part e = ap (stepped sig limits p t) (leads_to g part) ∙ e

  value_fails : (fault : LogFault) (more : List Sort) → Plays (role_to AfterValue) front t
      → due_sorts sig (symbols_before front) ≡ sorts.Int ∷ more → value_at sorts.Int t.at (written t) ≡ Err fault
      → step sig limits p t ≡ Err fault
  value_fails fault more part due e =
      taken AfterValue _ part
      (ap (valued t.at (written t) p) (value_due (leads_to AfterValue part) ∙ due)
      ∙ ap (λ (r : Result _ LogFault). r >>= λ v. Ok
      (record p { stage = AfterValue; due = more; args = p.args ++ v ∷ [] })) e)

  pub step_shows : (fault : LogFault) → IsCause sig limits front t fault → step sig limits p t ≡ Err fault
  unfolding step
  step_shows (Syntax at) cause = cc (none_there (stage_after p.stage (symbol t)) refl cause.ends)
  step_shows (UnknownPredicate at) (place, part, none) = rw place (taken AfterName _ part (ap (naming t.at p) none))
  step_shows (WrongArity at) (place, inl (part, none)) =
      rw place (taken AfterValue _ part
      (ap (valued t.at (written t) p) (value_due (leads_to AfterValue part) ∙ none)))
  step_shows (WrongArity at) (place, inr (part, some)) =
      grind (arith, taken, close_due (leads_to AfterClose part), leads_to AfterClose part)
  step_shows (WrongSort at) (place, part, (more, due), none) =
      rw place (value_fails _ more part due (no_integer t.at (written t) none))
  step_shows (IntRange at) (place, part, (more, due), w) =
      rw place (value_fails _ more part due (wide t.at (written t) w))
  step_shows (TimestampRange at) (place, part, none) = rw place (taken AfterStamp _ part (ap (stamped t.at p) none))
  step_shows (FallingTime before now at) (place, part, time, last, below) =
      let same : before ≡ p.time = last ∙ sym stands.time in
      rw (place, same) (taken AfterStamp _ part
      (ap (stamped t.at p) time ∙ rw (lt-ltb now p.time (rw same at below)) refl))
  step_shows (TooManyEvents at) (place, part, many) =
      rw place (taken AfterOpen _ part (rw (le-ltb p.groups limits.events (rw (← stands.groups) at many)) refl))
  step_shows (TooManyPoints at) (place, part, many) =
      rw place (taken AfterAt _ part (rw (le-ltb p.points limits.points (rw (← stands.points) at many)) refl))
  step_shows _ cause = absurd cause
