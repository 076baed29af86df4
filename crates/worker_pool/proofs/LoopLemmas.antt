-- How a loop of main's goes on, and ends.
use Rattle.std.proofs.Common.{◌≡◌, Bool, true, false, Some, None, Ok, Err, OnOk, refl, subst}
use Rattle.std.specs.Prelude.{Result, IfOk, IfErr}
use Rattle.lone_worker.specs.declared.stop.Stop.{Stop}
use Rattle.worker_pool.specs.LoopEnds.{end_of}

pub goes_on : {T : Type 0} (over : Result Bool Stop) (answer : T) → None ≡ end_of over answer → over ≡ Ok false
goes_on (Ok false) answer e = refl
goes_on (Ok true) answer e = absurd cc
goes_on (Err stop) answer e = absurd cc

-- at a good end the last round says that it is over
pub ended_ok : {T : Type 0} (over : Result Bool Stop) (answer : T) (end : Result T Stop) (P Q : Type 0)
    → Some end ≡ end_of over answer → (P → Q) → OnOk over P → OnOk end Q
ended_ok (Ok true) answer (Ok x) P Q e f p = f p
ended_ok (Ok true) answer (Err s) P Q e f p = tt
ended_ok (Ok false) answer end P Q e f p = absurd cc
ended_ok (Err stop) answer (Ok x) P Q e f p = absurd cc
ended_ok (Err stop) answer (Err s) P Q e f p = tt

pub ended_over : {T : Type 0} (over : Result Bool Stop) (answer : T) (end : Result T Stop) (P Q : Type 0)
    → Some end ≡ end_of over answer → (P → Q) → IfOk over (λ b. b ≡ true → P) → OnOk end Q
ended_over (Ok true) answer (Ok x) P Q e f p = f (p refl)
ended_over (Ok true) answer (Err s) P Q e f p = tt
ended_over (Ok false) answer end P Q e f p = absurd cc
ended_over (Err stop) answer (Ok x) P Q e f p = absurd cc
ended_over (Err stop) answer (Err s) P Q e f p = tt

-- at a bad end, what stopped it
pub ended_err : {T : Type 0} (over : Result Bool Stop) (answer : T) (end : Result T Stop) (P Q : Stop → Type 0)
    → Some end ≡ end_of over answer → ((stop : Stop) → P stop → Q stop) → IfErr over P → IfErr end Q
ended_err (Ok true) answer (Ok x) P Q e f p = tt
ended_err (Ok true) answer (Err s) P Q e f p = absurd cc
ended_err (Ok false) answer end P Q e f p = absurd cc
ended_err (Err stop) answer (Ok x) P Q e f p = absurd cc
ended_err (Err stop) answer (Err s) P Q e f p = let same : stop ≡ s = cc in f s (subst P same p)
