-- The tables of a core as it is evaluated are the core's.
use Rattle.std.proofs.Common.{◌≡◌, ℕ, ◌+◌, List, [], ◌∷◌, arith}
use Rattle.mfotl_model.proofs.LogicLemmas.{funext}
use Rattle.mfotl_model.specs.{Counts.settled_count, Tables.TableOf}
use Rattle.mfotl_model.specs.Exact.{AllExact, Exact, View}
use Rattle.mfotl_model.specs.declared.event.TimePoint.{TimePoint}
use Rattle.monitorable.specs.CoreForms.{CoreForm, meaning}
use Rattle.core_arranging.proofs.PosedLemmas.{fv_posed, sat_posed, settled_posed}
use Rattle.core_arranging.specs.{Arranging.posed}
use Rattle.monitor_state.proofs.PosedLemmas.{same_posed, sound_posed}
use Rattle.monitor_nodes.specs.{Views.reached}
use Rattle.monitor_nodes.specs.Steps.{News, Premises, longer}

reached_posed : (view : View) (f : CoreForm) → reached view (posed f) ≡ reached view f
unfolding settled_count
reached_posed view f = grind (arith, funext, settled_posed)

exact_posed : (view : View) (f : CoreForm) (i : ℕ) (table : TableOf) → Exact view (meaning (posed f)) i table
    → Exact view (meaning f) i table
exact_posed view f i table exact = grind (arith, fv_posed, sat_posed)

all_exact_posed : (view : View) (f : CoreForm) (i : ℕ) (tables : List TableOf)
    → AllExact view (meaning (posed f)) i tables → AllExact view (meaning f) i tables
all_exact_posed view f i [] exact = tt
all_exact_posed view f i (table ∷ tables) exact = search (exact_posed, all_exact_posed view f (i + 1) tables exact.1)

pub news_posed : (view : View) (point : TimePoint) (f : CoreForm) (tables : List TableOf)
    → News view point (posed f) tables → News view point f tables
news_posed view point f tables news =
    record {
      count = cc (reached_posed view f, reached_posed (longer view point) f);
      exact = grind (arith, reached_posed, all_exact_posed);
    }

-- what a step takes for granted of the core it does of the core as it is evaluated
pub premises_posed : (view : View) (point given : TimePoint) (f : CoreForm) → Premises view point given f f
    → Premises view point given f (posed f)
premises_posed view point given f premises = search (sound_posed, same_posed)
