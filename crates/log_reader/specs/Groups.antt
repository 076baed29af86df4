-- What is read of groups straight from a log's bytes, without tokens. It leads where the tokens would lead.
use Rattle.std.specs.Prelude.{◌≡◌, ◌≤◌, ◌<◌, ◌+◌, ℕ, Bool, true, false, List, [], ◌∷◌, ◌++◌, length, drop, get_or}
use Rattle.std.specs.Prelude.{Option, Some, None}
use Rattle.std.specs.BTreeSet.{insert_key}
use Rattle.mfotl_model.specs.Events.{event_cmp}
use Rattle.mfotl_model.specs.declared.policy.Sort.{Sort}
use Rattle.mfotl_model.specs.declared.value.Value.{Value}
use Rattle.mfotl_sig.specs.Preds.{PredOf}
use Rattle.log_reader.specs.declared.limits.Limits.{Limits}
use Rattle.log_reader.specs.declared.stage.Stage.{Stage}
use Rattle.log_reader.specs.declared.stage.Stage.TheVariants.{AfterName, AfterOpen, AfterValue, AfterComma, AfterClose}
use Rattle.log_reader.specs.Cursors.{IsCounted, Leads}
use Rattle.log_reader.specs.Partials.{Partial}
use Rattle.log_reader.specs.Quick.{is_value_due, TakesTokenInFront}

-- a group may begin there
abbrev pub may_open : Stage → Bool
may_open AfterName = true
may_open AfterClose = true
may_open _ = false

-- the n bytes in front, the first of which has the offset `at`, are taken as a value of the sort that is due
pub record TakesPlain (sort : Sort) (at : ℕ) (bytes : List ℕ) (value : Value) (n : ℕ) : Type 0 where
  pub within : n ≤ length bytes
  pub takes : (sig : List PredOf) (limits : Limits) (p : Partial) (due : List Sort) → is_value_due p.stage ≡ true
      → p.due ≡ sort ∷ due
      → TakesTokenInFront sig limits p at bytes n
      (record p { stage = AfterValue; due = due; args = p.args ++ value ∷ [] })

-- such a value stands at an offset, and this mark right behind it; then comes the second offset
pub record TakesMarked (sort : Sort) (mark from : ℕ) (looked : List ℕ) (at : ℕ) (value : Value) (behind : ℕ)
    : Type 0 where
  pub n : ℕ
  pub plain : TakesPlain sort (from + at) (drop at looked) value n
  pub is : get_or (drop (at + n) looked) 0 0 ≡ mark
  pub end : behind ≡ at + n + 1
  pub within : behind ≤ length looked

-- the mark behind a value of a group, by the sorts of those that come then
abbrev pub mark_behind : List Sort → ℕ
mark_behind [] = 41
mark_behind (sort ∷ due) = 44

-- from p on the tokens up to an offset lead to q, whatever the signature
pub record LeadsOn (limits : Limits) (from : ℕ) (looked : List ℕ) (ended : Bool) (at : ℕ) (p : Partial) (at' : ℕ)
    (q : Partial) : Type 0 where
  pub leads : (sig : List PredOf) → Leads sig limits from looked ended at p [] at' q
  pub within : at' ≤ length looked
  pub counted : IsCounted q
  pub further : at ≤ at'

-- behind the `(` of a group of these sorts
pub record IsOpen (sorts : List Sort) (p : Partial) : Type 0 where
  pub stage : p.stage ≡ AfterOpen
  pub due : p.due ≡ sorts
  pub args : p.args ≡ []
  pub counted : IsCounted p

-- a group of these sorts may begin
pub record MayBeginGroup (limits : Limits) (sorts : List Sort) (p : Partial) : Type 0 where
  pub stage : may_open p.stage ≡ true
  pub same : p.sorts ≡ sorts
  pub args : p.args ≡ []
  pub room : p.groups < limits.events
  pub counted : IsCounted p

-- behind the group of these values
abbrev pub closed_with : Partial → List Value → Partial
closed_with p row = record p {
  stage = AfterClose;
  events = insert_key event_cmp p.events (record { pred = p.pred; args = row });
  args = [];
  due = [];
}

-- behind the first values of a group, by the sorts of those that it lacks: behind its `)`, or behind a `,`
abbrev pub read_to : Partial → List Value → List Sort → Partial
read_to p row [] = closed_with p row
read_to p row (sort ∷ due) = record p { stage = AfterComma; due = sort ∷ due; args = row }

-- with one group more, which has these values, and lacks those of these sorts
abbrev pub with_group : Partial → List Value → List Sort → Partial
with_group p row due = read_to (record p { groups = p.groups + 1 }) row due

-- behind a `(` stand these values, and the `)` of their group or a `,`
abbrev pub ReadsValues : ℕ → List ℕ → Bool → List Sort → ℕ → List Value → List Sort → ℕ → Type 0
ReadsValues from looked ended sorts at row due behind =
    ((limits : Limits) (p : Partial) → IsOpen sorts p
    → LeadsOn limits from looked ended at p behind (read_to p row due))
    × (at < behind)

-- a group of these values stands there, or its front
abbrev pub ReadsGroup : ℕ → List ℕ → Bool → List Sort → ℕ → List Value → List Sort → ℕ → Type 0
ReadsGroup from looked ended sorts at row due behind =
    ((limits : Limits) (p : Partial) → MayBeginGroup limits sorts p
    → LeadsOn limits from looked ended at p behind (with_group p row due))
    × (at < behind)

-- a group was taken, or its front, or nothing was
abbrev pub TakesGroup : Limits → ℕ → List ℕ → Bool → ℕ → Partial → Option ℕ → Partial → Type 0
TakesGroup limits from looked ended at p (Some behind) q =
    LeadsOn limits from looked ended at p behind q × (at < behind)
TakesGroup limits from looked ended at p None q = q ≡ p
