-- One item leads a worker on, for all that it stands for.
use Rattle.std.proofs.Common.{ℕ, List, [], ◌∷◌, ◌++◌, length, take, sym, refl, ap, ◌∙◌, append_assoc, append-nil, arith}
use Rattle.rescale_worker.proofs.Chains.{Agrees, chained, fits_front, Turned, turned}
use Rattle.rescale_worker.specs.{Lines.Due, Lines.first_spot, Seeds.SeedOf, Workers.IsFor}
use Rattle.rescale_worker.specs.Phases.{phase_at, AnswersOne, Answers}
use Rattle.rescale_worker.specs.Working.{IsAt, StandsFor, May, Has, first_phase, seed_line, CanTake, TakesItem}
use Rattle.rescale_worker.specs.Works.{MayBy, StandsBy, seen}
use Rattle.turn_hub.specs.Work.{Takes, Leads}
use Rattle.monitorable.specs.CoreForms.{CoreForm}
use Rattle.rescale_worker.specs.declared.{worker.Worker.Worker, item.Entry.Entry, item.Item.Item, item.Out.Out}

pub first_agrees : (s : SeedOf) → Agrees s.number (first_spot s.first) (first_phase s)
first_agrees s = grind arith

pub answers_more : (c : CoreForm) (k : ℕ) (ds : List Due) (d : Due) (outs more : List Out) → Answers c k ds outs
    → AnswersOne c k d more → Answers c k (ds ++ d ∷ []) (outs ++ more)
answers_more c k [] d outs more a g = (more, [], ap (λ x. x ++ more) a ∙ sym (append-nil more), g, refl)
answers_more c k (e ∷ ds) d outs more a g = grind (arith, append_assoc, answers_more c k ds d a.1 more a.4 g)

-- what the next item is, for any entries that make it due
pub turned_in : (s : SeedOf) (t : List Item) (i : Item) (es : List Entry) → IsFor s.core s.first
    → Has s es (t ++ i ∷ []) → Turned s.core s.number (first_phase s) (seed_line s es) t i
turned_in s t i es f h = search (turned, chained, first_agrees)

pub has_front : (s : SeedOf) (a b : List Item) (es : List Entry) → Has s es (a ++ b) → Has s es a
has_front s a b es h = (h.0, fits_front s.core s.number a b (first_phase s) (seed_line s es) h.1)

-- what a worker takes, in its own words
can_take_in : (s : SeedOf) (t : List Item) (g : List Out) (w : Worker) (i : Item) → StandsFor s t g w
    → (es : List Entry) → Has s es (t ++ i ∷ []) → CanTake w i
can_take_in s t g w i st es h = grind (arith, turned_in s t i es st.first h, has_front s t (i ∷ []) es h)

pub can_take : (w : Worker) (i : Item) → Takes StandsFor May w (i ∷ []) → CanTake w i
can_take w i t = can_take_in t.0 t.1 t.2 w i t.3 t.4.0 t.4.1

module _ (s : SeedOf) (t : List Item) (g : List Out) (w : Worker) (i : Item) (x : Worker) (gave : List Out)
    (st : StandsFor s t g w) (takes : TakesItem w i x gave) where
  does : (es : List Entry) → Has s es (t ++ i ∷ [])
      → Answers s.core s.number (take (length (t ++ i ∷ [])) (seed_line s es)) (g ++ gave)
      × IsAt s.core s.number (phase_at (first_phase s) (seed_line s es) (t ++ i ∷ [])) x.phase
  unfolding turned_in can_take_in
  does es h =
      let r = turned_in s t i es st.first h in
      let can = can_take_in s t g w i st es h in
      grind (arith, answers_more, has_front)

pub leads_on : (w : Worker) (i : Item) (x : Worker) (gave : List Out) → TakesItem w i x gave
    → Leads StandsFor May w (i ∷ []) x gave
leads_on w i x gave takes s t g st may =
    record {
      core = takes.core ∙ st.core;
      number = takes.number ∙ st.number;
      first = st.first;
      told = λ es h. (does s t g w i x gave st takes es h).0;
      at = λ es h. (does s t g w i x gave st takes es h).1;
    }

-- ---- seeds with a core

pub takes_by : (w : Worker) (items : List Item) → Takes StandsFor May w items → Takes StandsBy MayBy w items
takes_by w items t = (
  record { core = w.core; first = t.0.first; number = t.0.number },
  t.1,
  t.2,
  rw t.3.core t.3,
  rw t.3.core t.4,
)

pub takes_seen : (w : Worker) (items : List Item) → Takes StandsBy MayBy w items → Takes StandsFor May w items
takes_seen w items t = (seen t.0, t.1, t.2, t.3, t.4)

pub leads_by : (w : Worker) (items : List Item) (x : Worker) (outs : List Out) → Leads StandsFor May w items x outs
    → Leads StandsBy MayBy w items x outs
leads_by w items x outs h = λ s t g. h (seen s) t g

pub leads_seen : (w : Worker) (items : List Item) (x : Worker) (outs : List Out)
    → Leads StandsBy MayBy w items x outs → Leads StandsFor May w items x outs
leads_seen w items x outs h = λ s t g st may.
    rw st.core at (h (record { core = w.core; first = s.first; number = s.number }) t g (rw st.core st)
    (rw st.core may))
