-- What a reader knows of the tokens that it has read is what stands before the next one: a step keeps it.
use Rattle.std.proofs.Common.{arith, ◌≡◌, ℕ, ◌+◌, Bool, true, false, List, [], ◌∷◌, ◌++◌, drop, Some, Result, Ok, Err}
use Rattle.std.proofs.Common.{IfOk, refl, sym, ap, ◌∙◌, subst, append_assoc}
use Rattle.std.proofs.lemmas.List.{drop-drop, append-nil, reverse-append}
use Rattle.mfotl_lex.specs.{FirstFault.◌>>=◌, FirstFault.run, Lexemes.Lexeme}
use Rattle.mfotl_model.specs.declared.{policy.Sort.Sort, value.Value.Value}
use Rattle.mfotl_sig.specs.Preds.{PredOf}
use Rattle.mfotl_lex.proofs.FirstFaultLaws.{bind_ok}
use Rattle.log_reader.specs.declared.{fault.LogFault.LogFault, limits.Limits.Limits, stage.Stage.Stage}
use Rattle.log_reader.specs.declared.stage.Stage.TheVariants.{Between, AfterAt, AfterStamp, AfterName, AfterOpen}
use Rattle.log_reader.specs.declared.stage.Stage.TheVariants.{AfterValue, AfterComma, AfterClose}
use Rattle.log_reader.specs.Fronts.{is_behind_at, is_in_group, points_begun, last_time, groups_begun, last_sorts}
use Rattle.log_reader.specs.Fronts.{values_begun, due_sorts, Role, PointBegins, Timestamp, Name, GroupBegins}
use Rattle.log_reader.specs.Fronts.{Value as ValueRole, Comma, GroupEnds, PointEnds, symbols_before, role}
use Rattle.log_reader.specs.{Partials.Partial, Partials.nothing_read, ValuesRead.value_at}
use Rattle.log_reader.specs.Steps.{stepped, grouped, valued, step}
use Rattle.log_reader.specs.Symbols.{Symbol, Opening, Says, Written, Bare, symbol, token_content, written}
use Rattle.log_reader.proofs.{Judging.bare_content, StepStages.step_goes}
use Rattle.log_reader.proofs.Transitions.{Transition, begins_first, begins_bare, begins_full, times, names_first}
use Rattle.log_reader.proofs.Transitions.{names_more, opens_first, opens_more, gives_first, gives_more, separates}
use Rattle.log_reader.proofs.Transitions.{closes_empty, closes, ends_bare, ends_full, transition}
use Rattle.std.proofs.lemmas.Grind.{common_steps}

-- ---- what a stage says of what stands before

abbrev pub is_after_at : Stage → Bool
is_after_at AfterAt = true
is_after_at _ = false

abbrev pub is_in_brackets : Stage → Bool
is_in_brackets AfterOpen = true
is_in_brackets AfterValue = true
is_in_brackets AfterComma = true
is_in_brackets _ = false

-- what was read, at this stage, is what these symbols say, the nearest first
pub record Stands (sig : List PredOf) (s : Stage) (p : Partial) (older : List Symbol) : Type 0 where
  pub behind : is_behind_at older ≡ is_after_at s
  pub inside : is_in_group older ≡ is_in_brackets s
  pub points : p.points ≡ points_begun older
  pub groups : p.groups ≡ groups_begun older
  pub time : p.time ≡ last_time older
  pub sorts : p.sorts ≡ last_sorts sig older
  pub due : is_in_brackets s ≡ true → p.due ≡ due_sorts sig older

-- ---- steps

module _ (sig : List PredOf) (limits : Limits) (p : Partial) (t : Lexeme) (older : List Symbol) where
  abbrev Leads : Stage → Symbol → Result Partial LogFault → Type 0
  Leads g x r = IfOk r (λ q. Stands sig g q (x ∷ older))

  group_stands : (s : Stage) → Stands sig s p older → Leads AfterOpen Opening (grouped limits t.at p)
  group_stands s st = grind arith

  value_stands : (w : Written) (s : Stage) (args : List Value) (more : List Sort) → is_after_at s ≡ false
      → is_in_brackets s ≡ true → Stands sig s p older → more ≡ drop (values_begun older + 1) (last_sorts sig older)
      → Stands sig AfterValue (record p { stage = AfterValue; due = more; args = args }) (Says w ∷ older)
  value_stands w s args more far within st due = grind arith

  given_stands : (w : Written) (s : Stage) (sort : Sort) (more : List Sort) (r : Result Value LogFault)
      → is_after_at s ≡ false → is_in_brackets s ≡ true → Stands sig s p older → sort ∷ more ≡ due_sorts sig older
      → Leads AfterValue (Says w) (r >>= λ v. Ok (record p { stage = AfterValue; due = more; args = p.args ++ v ∷ [] }))
  given_stands w s sort more (Ok v) far within st e =
      value_stands w s _ more far within st (ap (drop 1) e ∙ drop-drop 1 (values_begun older) (last_sorts sig older))
  given_stands w s sort more (Err fault) far within st e = tt

  valued_stands : (w : Written) (s : Stage) (due : List Sort) → p.due ≡ due → is_after_at s ≡ false
      → is_in_brackets s ≡ true → Stands sig s p older → Leads AfterValue (Says w) (valued t.at (written t) p due)
  valued_stands w s [] e far within st = tt
  valued_stands w s (sort ∷ more) e far within st =
      given_stands w s sort more (value_at sort t.at (written t)) far within st (sym e ∙ st.due within)

  says : (word : List ℕ) → symbol t ≡ Says (Bare word) → token_content t ≡ word
  says word e = bare_content t.kind (token_content t) word e

  -- a step goes on with what stands before the next token
  pub step_stands : (s : Stage) (x : Symbol) (g : Stage) → Transition s x g → symbol t ≡ x → Stands sig s p older
      → Leads g x (stepped sig limits p t (Some g))
  step_stands _ _ _ begins_first e st = grind arith
  step_stands _ _ _ begins_bare e st = grind arith
  step_stands _ _ _ begins_full e st = grind arith
  step_stands _ _ _ (times word digits) e st = grind arith
  step_stands _ _ _ (names_first word) e st = grind arith
  step_stands _ _ _ (names_more word) e st = grind arith
  step_stands _ _ _ opens_first e st = group_stands AfterName st
  step_stands _ _ _ opens_more e st = group_stands AfterClose st
  step_stands _ _ _ (gives_first w) e st = valued_stands w AfterOpen p.due refl refl refl st
  step_stands _ _ _ (gives_more w) e st = valued_stands w AfterComma p.due refl refl refl st
  step_stands _ _ _ separates e st = search (arith, st.due)
  step_stands _ _ _ closes_empty e st = grind arith
  step_stands _ _ _ closes e st = grind arith
  step_stands _ _ _ ends_bare e st = search arith
  step_stands _ _ _ ends_full e st = search arith

-- ---- roles

abbrev pub role_to : Stage → Role
role_to Between = PointEnds
role_to AfterAt = PointBegins
role_to AfterStamp = Timestamp
role_to AfterName = Name
role_to AfterOpen = GroupBegins
role_to AfterValue = ValueRole
role_to AfterComma = Comma
role_to AfterClose = GroupEnds

-- the role of a symbol with which the grammar goes on says where it leads
pub role_is : (sig : List PredOf) (p : Partial) (older : List Symbol) (s : Stage) (x : Symbol) (g : Stage)
    → Transition s x g → Stands sig s p older → role older x ≡ role_to g
role_is sig p older _ _ _ (times word digits) st = rw st.behind refl
role_is sig p older _ _ _ (names_first word) st = rw (st.behind, st.inside) refl
role_is sig p older _ _ _ (names_more word) st = rw (st.behind, st.inside) refl
role_is sig p older _ _ _ (gives_first w) st = rw (st.behind, st.inside) refl
role_is sig p older _ _ _ (gives_more w) st = rw (st.behind, st.inside) refl
role_is sig p older _ _ _ _ st = refl

abbrev stage_of : Role → Stage
stage_of PointBegins = AfterAt
stage_of Timestamp = AfterStamp
stage_of Name = AfterName
stage_of GroupBegins = AfterOpen
stage_of ValueRole = AfterValue
stage_of Comma = AfterComma
stage_of GroupEnds = AfterClose
stage_of _ = Between

stage_back : (g : Stage) → stage_of (role_to g) ≡ g
stage_back g = grind arith

pub same_stage : (g h : Stage) → role_to g ≡ role_to h → g ≡ h
same_stage g h e = sym (stage_back g) ∙ ap stage_of e ∙ stage_back h

-- ---- tokens

module _ (sig : List PredOf) (limits : Limits) where
  step_on : (p q : Partial) (t : Lexeme) (older : List Symbol) → step sig limits p t ≡ Ok q → Stands sig p.stage p older
      → Stands sig q.stage q (symbol t ∷ older)
  unfolding step
  step_on p q t older e st =
      let leads = (step_goes sig limits p t q e).stage in
      subst (λ (r : Result Partial LogFault). IfOk r (λ r. Stands sig q.stage r (symbol t ∷ older)))
      (sym (ap (stepped sig limits p t) leads) ∙ e)
      (step_stands sig limits p t older p.stage (symbol t) q.stage
      (transition p.stage (symbol t) q.stage leads) refl st)

  run_on : (ts : List Lexeme) (p q : Partial) (older : List Symbol) → run (step sig limits) ts p ≡ Ok q
      → Stands sig p.stage p older → Stands sig q.stage q (symbols_before ts ++ older)
  unfolding run
  run_on [] p q older e st = let same : p ≡ q = cc in subst (λ (r : Partial). Stands sig r.stage r older) same st
  run_on (t ∷ ts) p q older e st =
      let first = bind_ok (step sig limits p t) (λ r. run (step sig limits) ts r) q e in
      subst (Stands sig q.stage q) (grind (arith, common_steps, append_assoc, reverse-append))
      (run_on ts first.0 q (symbol t ∷ older) first.2 (step_on p first.0 t older first.1 st))

  -- what was read of tokens that show no fault
  pub run_stands : (front : List Lexeme) (p : Partial) → run (step sig limits) front nothing_read ≡ Ok p
      → Stands sig p.stage p (symbols_before front)
  run_stands front p e = grind (arith, append-nil (symbols_before front), run_on front nothing_read p)
