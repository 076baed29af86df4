-- The automaton of the grammar goes on with exactly the symbols of logs, and of what logs begin with.
use Rattle.std.proofs.Common.{◌≡◌, ℕ, Bool, true, false, cond, List, [], ◌∷◌, ◌++◌, Option, Some, None, refl, ap, ◌∙◌}
use Rattle.std.proofs.Common.{arith}
use Rattle.std.proofs.lemmas.Option.{same_Some}
use Rattle.std.specs.{Prelude.option_and_then, List.AllByRecursion}
use Rattle.mfotl_lex.specs.Lexemes.{Lexeme}
use Rattle.log_reader.specs.declared.stage.Stage.{Stage}
use Rattle.log_reader.specs.declared.stage.Stage.TheVariants.{Between, AfterAt, AfterStamp, AfterName, AfterOpen}
use Rattle.log_reader.specs.declared.stage.Stage.TheVariants.{AfterValue, AfterComma, AfterClose}
use Rattle.log_reader.specs.Grammar.{Mention, PointText, spell_more, spell_values, spell_group, spell_groups}
use Rattle.log_reader.specs.Grammar.{spell_mentions, spell_end, spell_log, HasStamp, Spells, symbols_of, IsAccepted}
use Rattle.log_reader.specs.Grammar.{IsViable}
use Rattle.log_reader.specs.Stages.{stage_after}
use Rattle.log_reader.proofs.Transitions.{Transition, begins_first, begins_bare, begins_full, times, names_first}
use Rattle.log_reader.proofs.Transitions.{names_more, opens_first, opens_more, gives_first, gives_more, separates}
use Rattle.log_reader.proofs.Transitions.{closes_empty, closes, ends_bare, ends_full, transition}
use Rattle.log_reader.specs.Symbols.{Symbol, Opening, Closing, Says, Written, Bare, is_digits}

-- the stage behind symbols, if the grammar goes on with each
abbrev pub paths : Stage → List Symbol → Option Stage
paths s [] = Some s
paths s (x ∷ xs) = option_and_then (λ g. paths g xs) (stage_after s x)

-- a stage at which a log may end
abbrev pub accepts : Stage → Bool
accepts Between = true
accepts AfterStamp = true
accepts AfterClose = true
accepts _ = false

-- ---- what the symbols from a stage on spell

pub record Parts : Type 0 where
  pub stamp : List ℕ
  pub value : Written
  pub values : List Written
  pub group : List Written
  pub groups : List (List Written)
  pub mentions : List Mention
  pub is_closed : Bool
  pub log : List PointText

-- behind the groups of a predicate
abbrev pub spell_point_rest : Parts → List Symbol
spell_point_rest r = spell_mentions r.mentions (spell_end r.is_closed (spell_log r.log))

abbrev pub spell_from : Stage → Parts → List Symbol
spell_from Between r = spell_log r.log
spell_from AfterAt r = Says (Bare r.stamp) ∷ spell_point_rest r
spell_from AfterStamp r = spell_point_rest r
spell_from AfterName r = spell_group r.group (spell_groups r.groups (spell_point_rest r))
spell_from AfterOpen r = spell_values r.values (Closing ∷ spell_groups r.groups (spell_point_rest r))
spell_from AfterValue r = spell_more r.values (Closing ∷ spell_groups r.groups (spell_point_rest r))
spell_from AfterComma r = Says r.value ∷ spell_more r.values (Closing ∷ spell_groups r.groups (spell_point_rest r))
spell_from AfterClose r = spell_groups r.groups (spell_point_rest r)

-- a timestamp that is due has digits
abbrev pub HasDigits : Stage → Parts → Type 0
HasDigits AfterAt r = is_digits r.stamp ≡ true
HasDigits _ r = Unit {0}

pub record Tail (s : Stage) (symbols : List Symbol) : Type 0 where
  pub parts : Parts
  pub spelled : symbols ≡ spell_from s parts
  pub stamps : AllByRecursion HasStamp parts.log
  pub digits : HasDigits s parts

abbrev nothing : Parts
nothing = record {
  stamp = [];
  value = Bare [];
  values = [];
  group = [];
  groups = [];
  mentions = [];
  is_closed =
      false;
  log = [];
}

-- the symbols from a stage on, where one more stands before
prepend : {s g : Stage} {x : Symbol} {xs : List Symbol} (parts : Parts) (t : Tail g xs)
    → x ∷ spell_from g t.parts ≡ spell_from s parts → AllByRecursion HasStamp parts.log → HasDigits s parts
    → Tail s (x ∷ xs)
prepend {s} {g} {x} parts t e stamps digits = grind arith

-- the time-point that an `@` begins, before the others
abbrev with_point : Parts → Parts
with_point r = record nothing {
  log =
      record { stamp = r.stamp; mentions = r.mentions; is_closed = r.is_closed } ∷ r.log;
}

abbrev with_mention : List ℕ → Parts → Parts
with_mention name r = record r {
  groups = [];
  mentions =
      record { name = name; first = r.group; more = r.groups } ∷ r.mentions;
}

-- one symbol more, by where it leads
before : {xs : List Symbol} (s : Stage) (x : Symbol) (g : Stage) → Transition s x g → Tail g xs → Tail s (x ∷ xs)
before _ _ _ begins_first u = prepend (with_point u.parts) u refl (u.digits, u.stamps) tt
before _ _ _ begins_bare u = prepend (with_point u.parts) u refl (u.digits, u.stamps) tt
before _ _ _ begins_full u = prepend (with_point u.parts) u refl (u.digits, u.stamps) tt
before _ _ _ (times word digits) u = prepend (record u.parts { stamp = word }) u refl u.stamps digits
before _ _ _ (names_first word) u = prepend (with_mention word u.parts) u refl u.stamps tt
before _ _ _ (names_more word) u = prepend (with_mention word u.parts) u refl u.stamps tt
before _ _ _ opens_first u = prepend (record u.parts { group = u.parts.values }) u refl u.stamps tt
before _ _ _ opens_more u = prepend (record u.parts { groups = u.parts.values ∷ u.parts.groups }) u refl u.stamps tt
before _ _ _ (gives_first w) u = prepend (record u.parts { values = w ∷ u.parts.values }) u refl u.stamps tt
before _ _ _ (gives_more w) u = prepend (record u.parts { value = w }) u refl u.stamps tt
before _ _ _ separates u = prepend (record u.parts { values = u.parts.value ∷ u.parts.values }) u refl u.stamps tt
before _ _ _ closes_empty u = prepend (record u.parts { values = [] }) u refl u.stamps tt
before _ _ _ closes u = prepend (record u.parts { values = [] }) u refl u.stamps tt
before _ _ _ ends_bare u = prepend (record nothing { is_closed = true; log = u.parts.log }) u refl u.stamps tt
before _ _ _ ends_full u = prepend (record nothing { is_closed = true; log = u.parts.log }) u refl u.stamps tt

ends : (s : Stage) → accepts s ≡ true → Tail s []
ends Between a = record { parts = nothing; spelled = refl; stamps = tt; digits = tt }
ends AfterStamp a = record { parts = nothing; spelled = refl; stamps = tt; digits = tt }
ends AfterClose a = record { parts = nothing; spelled = refl; stamps = tt; digits = tt }
ends _ a = absurd cc

-- the first step of a path
first_step : (o : Option Stage) (f : Stage) (next : Stage → Option Stage) → option_and_then next o ≡ Some f
    → (g : Stage) × (o ≡ Some g) × (next g ≡ Some f)
first_step o f next e = grind arith

pub tail : (s : Stage) (xs : List Symbol) (f : Stage) → paths s xs ≡ Some f → accepts f ≡ true → Tail s xs
tail s [] f e a = ends s (ap accepts (same_Some s f e) ∙ a)
tail s (x ∷ xs) f e a =
    let first = first_step (stage_after s x) f (λ g. paths g xs) e in
    before s x first.0 (transition s x first.0 first.1) (tail first.0 xs f first.2 a)

-- ---- the symbols of a log are accepted

abbrev pub Ends : Stage → List Symbol → Type 0
Ends s xs = (f : Stage) × (paths s xs ≡ Some f) × (accepts f ≡ true)

more_ends : (values : List Written) (rest : List Symbol) → Ends AfterClose rest
    → Ends AfterValue (spell_more values (Closing ∷ rest))
more_ends [] rest e = e
more_ends (value ∷ values) rest e = more_ends values rest e

values_end : (values : List Written) (rest : List Symbol) → Ends AfterClose rest
    → Ends AfterOpen (spell_values values (Closing ∷ rest))
values_end [] rest e = e
values_end (value ∷ values) rest e = more_ends values rest e

groups_end : (groups : List (List Written)) (rest : List Symbol) → Ends AfterClose rest
    → Ends AfterClose (spell_groups groups rest)
groups_end [] rest e = e
groups_end (group ∷ groups) rest e = values_end group (spell_groups groups rest) (groups_end groups rest e)

-- from both stages at which a time-point is whole
abbrev BothEnd : List Symbol → Type 0
BothEnd xs = Ends AfterStamp xs × Ends AfterClose xs

mentions_end : (mentions : List Mention) (rest : List Symbol) → BothEnd rest → BothEnd (spell_mentions mentions rest)
mentions_end [] rest e = e
mentions_end (m ∷ mentions) rest e = grind (arith, values_end, groups_end, mentions_end mentions rest e)

whole_end : (log : List PointText) → Ends Between (spell_log log) → BothEnd (spell_log log)
whole_end [] e = ((AfterStamp, refl, refl), (AfterClose, refl, refl))
whole_end (p ∷ log) e = (e, e)

closed_end : (is_closed : Bool) (log : List PointText) → Ends Between (spell_log log)
    → BothEnd (spell_end is_closed (spell_log log))
closed_end true log e = (e, e)
closed_end false log e = whole_end log e

pub log_ends : (log : List PointText) → AllByRecursion HasStamp log → Ends Between (spell_log log)
log_ends [] stamps = (Between, refl, refl)
log_ends (p ∷ log) stamps =
    let others = mentions_end p.mentions (spell_end p.is_closed (spell_log log))
    (closed_end p.is_closed log (log_ends log stamps.1)) in (
      others.0.0,
      ap (λ (b : Bool). option_and_then
          (λ g. paths g (spell_mentions p.mentions (spell_end p.is_closed (spell_log log))))
          (cond b (Some AfterStamp) None)) stamps.0 ∙ others.0.1,
      others.0.2,
    )

-- ---- viability

paths_joined : (xs ys : List Symbol) (o : Option Stage)
    → ((g : Stage) → paths g (xs ++ ys) ≡ option_and_then (λ h. paths h ys) (paths g xs))
    → option_and_then (λ g. paths g (xs ++ ys)) o
    ≡ option_and_then (λ g. paths g ys) (option_and_then (λ g. paths g xs) o)
paths_joined xs ys o each = grind arith

pub paths-append : (s : Stage) (xs ys : List Symbol)
    → paths s (xs ++ ys) ≡ option_and_then (λ g. paths g ys) (paths s xs)
paths-append s [] ys = refl
paths-append s (x ∷ xs) ys = paths_joined xs ys (stage_after s x) (λ g. paths-append g xs ys)

-- symbols that complete a log
completion : (s : Stage) → (more : List Symbol) × Ends s more
completion Between = ([], (Between, refl, refl))
completion AfterAt = (Says (Bare (48 ∷ [])) ∷ [], (AfterStamp, refl, refl))
completion AfterStamp = ([], (AfterStamp, refl, refl))
completion AfterName = (Opening ∷ Closing ∷ [], (AfterClose, refl, refl))
completion AfterOpen = (Closing ∷ [], (AfterClose, refl, refl))
completion AfterValue = (Closing ∷ [], (AfterClose, refl, refl))
completion AfterComma = (Says (Bare []) ∷ Closing ∷ [], (AfterClose, refl, refl))
completion AfterClose = ([], (AfterClose, refl, refl))

spells_by : (xs : List Symbol) (f : Stage) → paths Between xs ≡ Some f → accepts f ≡ true
    → (log : List PointText) × Spells xs log
spells_by xs f e a = let t = tail Between xs f e a in (t.parts.log, record { spelled = t.spelled; stamps = t.stamps })

pub accepted_by : (ts : List Lexeme) (f : Stage) → paths Between (symbols_of ts) ≡ Some f → accepts f ≡ true
    → IsAccepted ts
accepted_by ts f e a = spells_by (symbols_of ts) f e a

pub accepted_ends : (ts : List Lexeme) → IsAccepted ts → Ends Between (symbols_of ts)
accepted_ends ts accepted = rw (accepted.1.spelled) (log_ends accepted.0 accepted.1.stamps)

pub viable_by : (ts : List Lexeme) (s : Stage) → paths Between (symbols_of ts) ≡ Some s → IsViable ts
viable_by ts s e =
    let c = completion s in
    let joined : paths Between (symbols_of ts ++ c.0) ≡ Some c.1.0 = cc (paths-append Between (symbols_of ts) c.0) in
    let spelled = spells_by (symbols_of ts ++ c.0) c.1.0 joined c.1.2 in
    (c.0, spelled.0, spelled.1)

pub viable_path : (ts : List Lexeme) → IsViable ts → (s : Stage) × (paths Between (symbols_of ts) ≡ Some s)
viable_path ts viable = grind (arith, log_ends, paths-append, first_step)
