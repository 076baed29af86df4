-- A reading of what a time-point spells goes on exactly where the rules give a value.
use Rattle.std.proofs.Common.{◌≡◌, inl, inr, ℕ, suc, ◌+◌, ◌≤◌, ◌<◌, Bool, true, false, List, [], ◌∷◌, length, Option}
use Rattle.std.proofs.Common.{Some, None, refl, arith, cond, nat_lt}
use Rattle.std.specs.{Prelude.option_and_then, BTreeSet.insert_key}
use Rattle.mfotl_model.specs.declared.{value.Value.Value, event.Event.Event}
use Rattle.log_reader.specs.Rules.{values_of, groups_value, mentions_value, group_count}
use Rattle.log_reader.proofs.Judging.{Judged, judged_behind, with_event, front_of, bare_content, Passed, Faulty, passes}
use Rattle.log_reader.proofs.Judging.{faults, Passed-then, Faulty-behind, resting, within, values_judged}
use Rattle.std.proofs.lemmas.Bool.{cases_lt, lt-ltb, le-ltb, ltb-true, ltb-false}
use Rattle.mfotl_lex.specs.Lexemes.{Lexeme}
use Rattle.mfotl_model.specs.Events.{event_cmp}
use Rattle.mfotl_sig.specs.Preds.{PredOf, named}
use Rattle.log_reader.specs.declared.{fault.LogFault.TheVariants.TooManyEvents}
use Rattle.log_reader.specs.declared.{fault.LogFault.TheVariants.UnknownPredicate, limits.Limits.Limits}
use Rattle.log_reader.specs.declared.{stage.Stage.Stage}
use Rattle.log_reader.specs.declared.stage.Stage.TheVariants.{AfterName, AfterOpen, AfterClose}
use Rattle.log_reader.specs.Grammar.{Mention, spell_values, spell_group, spell_groups, spell_mentions, symbols_of}
use Rattle.log_reader.specs.Partials.{Partial}
use Rattle.log_reader.specs.Stages.{stage_after, completes, is_whole}
use Rattle.log_reader.specs.Symbols.{Symbol, Opening, Closing, Says, Written, Bare, token_content}
use Rattle.log_reader.proofs.Transitions.{name_goes}

-- a time-point so far of a predicate's groups
abbrev of_pred : Partial → PredOf → Partial
of_pred c pred = record c { pred = pred.number; sorts = pred.sorts }

-- with so many groups, and these events
abbrev grown : Partial → PredOf → ℕ → List Event → Partial
grown c pred n events = resting (record (of_pred c pred) { groups = n; events = events }) AfterClose

-- none where there are too many groups
abbrev pub limited : {X : Type 0} → Bool → Option X → Option X
limited many found = cond many None found

pub nothing_limited : {X : Type 0} (many : Bool) → limited {X = X} many None ≡ None
nothing_limited true = refl
nothing_limited false = refl

module _ (sig : List PredOf) (limits : Limits) where
  -- ---- groups of one predicate

  limited_then : {X Y : Type 0} (ts : List Lexeme) (mid rest : List Symbol) (many : Bool) (found : Option X)
      (f : X → Option Y) (p : Partial) (next : X → Partial) (last : Y → Partial) → Judged sig limits found p next ts mid
      → ((x : X) (ts : List Lexeme) → symbols_of ts ≡ mid → Judged sig limits (limited many (f x)) (next x) last ts
      rest)
      → Judged sig limits (limited many (option_and_then f found)) p last ts rest
  limited_then ts mid rest many (Some x) f p next last a later =
      judged_behind sig limits (limited many (f x)) last rest a (later x a.others a.spelled)
  limited_then ts mid rest many None f p next last a later = rw (nothing_limited many) a

  -- up to n groups in all
  module _ (pred : PredOf) (n : ℕ) (rest : List Symbol) where
    abbrev GroupsJudged : Partial → Stage → List (List Written) → List Lexeme → Type 0
    GroupsJudged c stage groups ts =
        Judged sig limits (limited (nat_lt limits.events n) (groups_value pred c.events groups))
        (resting (of_pred c pred) stage) (grown c pred n) ts rest

    one_group : (c : Partial) (stage : Stage) (group : List Written) (groups : List (List Written)) (ts : List Lexeme)
        → stage_after stage Opening ≡ Some AfterOpen → completes stage Opening ≡ false
        → symbols_of ts ≡ spell_group group (spell_groups groups rest) → c.groups + suc (length groups) ≡ n
        → ((c : Partial) (ts : List Lexeme) → symbols_of ts ≡ spell_groups groups rest → c.groups + length groups ≡ n
        → c.groups ≤ limits.events → GroupsJudged c AfterClose groups ts) → GroupsJudged c stage (group ∷ groups) ts
    unfolding groups_value
    one_group c stage group groups ts g h e sum later =
        let p = resting (of_pred c pred) stage in
        let f = front_of ts Opening (spell_values group (Closing ∷ spell_groups groups rest)) e in
        let begun = record (of_pred c pred) { groups = c.groups + 1 } in
        let opened = within begun AfterOpen pred.sorts [] in
        let many = nat_lt limits.events n in
        let with_group : List Value → List Event =
        λ args. insert_key event_cmp c.events (record { pred = pred.number; args = args }) in
        elim (cases_lt c.groups limits.events) [
          | inl room ↦
              let a = passes sig limits p opened f refl h (rw (g, lt-ltb c.groups limits.events room) refl) in
              judged_behind sig limits (limited many (groups_value pred c.events (group ∷ groups))) (grown c pred n)
              rest a
              (limited_then a.others (spell_groups groups rest) rest many (values_of pred.sorts group)
              (λ args. groups_value pred (with_group args) groups) opened (with_event begun []) (grown c pred n)
              (values_judged sig limits begun (spell_groups groups rest) pred.sorts [] group a.others a.spelled)
              (λ args ts e. later (record c { groups = c.groups + 1; events = with_group args }) ts e
              (omega (arith, sum)) (omega (arith, room))))
          | inr full ↦
              rw (lt-ltb limits.events n (omega (arith, full, sum)))
              (faults sig limits p (TooManyEvents f.token.at) f refl
              h (rw (g, le-ltb c.groups limits.events full) refl))
        ]

    groups_judged : (groups : List (List Written)) (c : Partial) (ts : List Lexeme)
        → symbols_of ts ≡ spell_groups groups rest → c.groups + length groups ≡ n → c.groups ≤ limits.events
        → GroupsJudged c AfterClose groups ts
    unfolding groups_value
    groups_judged [] c ts e sum room =
        let same : n ≡ c.groups = omega (arith, sum) in
        rw (same, le-ltb limits.events c.groups room) (record { others = ts; spelled = e; reads = λ last. refl })
    groups_judged (group ∷ groups) c ts e sum room =
        one_group c AfterClose group groups ts refl refl e sum
        (λ c ts e sum room. groups_judged groups c ts e sum room)

  -- ---- predicates with their groups

  -- these events of a time-point were read, n groups in all
  pub record MentionsRead (c : Partial) (stage : Stage) (n : ℕ) (events : List Event) (ts : List Lexeme)
      (rest : List Symbol) : Type 0 where
    pub pred : PredOf
    pub at : Stage
    pub whole : is_whole at ≡ true
    pub passed : Passed sig limits (resting c stage)
        (resting (record (of_pred c pred) { groups = n; events = events }) at) ts rest

  abbrev pub MentionsJudged : Partial → Stage → ℕ → Option (List Event) → List Lexeme → List Symbol → Type 0
  MentionsJudged c stage n (Some events) ts rest = MentionsRead c stage n events ts rest
  MentionsJudged c stage n None ts rest = Faulty sig limits (resting c stage) ts

  -- behind groups, those of the other mentions
  mentions_behind : {ts : List Lexeme} {mid : List Symbol} (c : Partial) (stage : Stage) (pred : PredOf) (k : ℕ)
      (events : List Event) (n : ℕ) (found : Option (List Event)) (rest : List Symbol)
      (a : Passed sig limits (resting c stage) (grown c pred k events) ts mid)
      → MentionsJudged (record (of_pred c pred) { groups = k; events = events }) AfterClose n found a.others rest
      → MentionsJudged c stage n found ts rest
  mentions_behind c stage pred k events n (Some _) rest a m =
      record { pred = m.pred; at = m.at; whole = m.whole; passed = Passed-then a m.passed }
  mentions_behind c stage pred k events n None rest a m = Faulty-behind a m

  module _ (c : Partial) (stage : Stage) (mentions : List Mention) (n : ℕ) (ts : List Lexeme) (rest : List Symbol)
      (later : (c : Partial) (ts : List Lexeme) → symbols_of ts ≡ spell_mentions mentions rest
      → c.groups + group_count mentions ≡ n → c.groups ≤ limits.events
      → MentionsJudged c AfterClose n (limited (nat_lt limits.events n) (mentions_value sig c.events mentions)) ts
      rest) where
    -- by what the groups of a mention give, k groups so far
    groups_then : (pred : PredOf) (k : ℕ) (found : Option (List Event)) (many : Bool) → nat_lt limits.events k ≡ many
        → k + group_count mentions ≡ n
        → Judged sig limits (limited many found) (resting c stage) (grown c pred k) ts (spell_mentions mentions rest)
        → MentionsJudged c stage n (limited (nat_lt limits.events n)
        (option_and_then (λ events. mentions_value sig events mentions) found)) ts rest
    groups_then pred k found true is sum j =
        let below : limits.events < k = ltb-true limits.events k is in
        rw (lt-ltb limits.events n (omega (arith, below, sum))) j
    groups_then pred k None false is sum j = rw (nothing_limited (nat_lt limits.events n)) j
    groups_then pred k (Some events) false is sum j =
        mentions_behind c stage pred k events n
        (limited (nat_lt limits.events n) (mentions_value sig events mentions)) rest j
        (later (record (of_pred c pred) { groups = k; events = events }) j.others j.spelled sum
        (ltb-false limits.events k is))

    named_judged : (found : Option PredOf) (m : Mention) → is_whole stage ≡ true → named m.name sig ≡ found
        → symbols_of ts ≡ spell_mentions (m ∷ mentions) rest → c.groups + group_count (m ∷ mentions) ≡ n
        → MentionsJudged c stage n
        (limited (nat_lt limits.events n) (mentions_value sig c.events (m ∷ mentions))) ts rest
    unfolding mentions_value
    named_judged None m o is e sum =
        let f = front_of ts (Says (Bare m.name)) _ e in
        rw (is, nothing_limited (nat_lt limits.events n))
        (faults sig limits (resting c stage) (UnknownPredicate f.token.at) f refl (name_goes stage m.name o).1
        (rw ((name_goes stage m.name o).0, bare_content f.token.kind (token_content f.token) m.name f.is, is)))
    named_judged (Some pred) m o is e sum =
        let f = front_of ts (Says (Bare m.name)) _ e in
        let a = passes sig limits (resting c stage) (resting (of_pred c pred) AfterName) f refl
        (name_goes stage m.name o).1
        (rw ((name_goes stage m.name o).0, bare_content f.token.kind (token_content f.token) m.name f.is, is)) in
        let inner = spell_mentions mentions rest in
        let k = c.groups + suc (length m.more) in
        let found = groups_value pred c.events (m.first ∷ m.more) in
        rw is (groups_then pred k found (nat_lt limits.events k) refl (omega (arith, sum))
        (judged_behind sig limits (limited (nat_lt limits.events k) found) (grown c pred k) inner a
        (one_group pred k inner c AfterName m.first m.more a.others refl refl a.spelled refl
        (λ c ts e sum room. groups_judged pred k inner m.more c ts e sum room))))

  pub mentions_judged : (mentions : List Mention) (c : Partial) (stage : Stage) (n : ℕ) (ts : List Lexeme)
      (rest : List Symbol) → is_whole stage ≡ true → symbols_of ts ≡ spell_mentions mentions rest
      → c.groups + group_count mentions ≡ n → c.groups ≤ limits.events
      → MentionsJudged c stage n (limited (nat_lt limits.events n) (mentions_value sig c.events mentions)) ts rest
  unfolding mentions_value
  mentions_judged [] c stage n ts rest o e sum room =
      let same : n ≡ c.groups = omega (arith, sum) in
      rw (same, le-ltb limits.events c.groups room) (record {
        pred = record { name = []; number = c.pred; sorts = c.sorts };
        at = stage;
        whole = o;
        passed = record { others = ts; spelled = e; reads = λ last. refl };
      })
  mentions_judged (m ∷ mentions) c stage n ts rest o e sum room =
      named_judged c stage mentions n ts rest
      (λ c ts e sum room. mentions_judged mentions c AfterClose n ts rest refl e sum room) (named m.name sig) m o refl
      e sum
