-- A core as it is evaluated means what the core means, and has what the fragment gives that.
use Rattle.std.proofs.Common.{List}
use Rattle.mfotl_model.specs.{Exact.View}
use Rattle.mfotl_model.specs.declared.{event.Event.Event}
use Rattle.monitorable.specs.{CoreForms.CoreForm, Soundness.IsWellFormedIn}
use Rattle.monitorable.specs.declared.role.Role.TheVariants as role
use Rattle.core_arranging.specs.{Arranging.narrowed, Arranging.posed}
use Rattle.monitor_state.proofs.ArrangedBegins.{fault_arranged, same_arranged, sound_arranged}
use Rattle.monitor_state.proofs.NarrowedBegins.{narrowed_accepted, same_narrowed, sound_narrowed}
use Rattle.monitor_nodes.specs.{Steps.SameNear}
use Rattle.monitor_state.specs.{Beginnings.Accepted}

pub same_posed : (view : View) (f : CoreForm) (given db : List Event) → SameNear view f given db
    → SameNear view (posed f) given db
same_posed view f given db same = same_arranged view (narrowed f) given db (same_narrowed view f given db same)

pub sound_posed : (f : CoreForm) → IsWellFormedIn f f → IsWellFormedIn f (posed f)
sound_posed f sound = sound_arranged f (narrowed f) (sound_narrowed f sound)

pub posed_accepted : (f : CoreForm) → Accepted role.Whole f → Accepted role.Whole (posed f)
posed_accepted f a =
    let one = narrowed_accepted f a in (one.0, fault_arranged one.0 role.Whole (narrowed f) one.1)
