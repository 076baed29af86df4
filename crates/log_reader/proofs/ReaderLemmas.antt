-- What a reader that keeps bytes stands for, and what an answer makes of it.
use Rattle.std.proofs.Common.{◌≡◌, ◌≢◌, ℕ, Bool, true, false, List, Result, Ok, OnOk, IfErr, subst, arith}
use Rattle.mfotl_sig.specs.Preds.{PredOf}
use Rattle.log_reader.specs.declared.{fault.LogFault.LogFault, fault.LogFault.TheVariants.Memory, limits.Limits.Limits}
use Rattle.log_reader.specs.declared.{next.Next.Next, next.Next.TheVariants.More}
use Rattle.log_reader.specs.{Given.Gives, Partials.Partial, Progress.next_answer, Stretches.Stretch}
use Rattle.log_reader.specs.Readers.{Reader, Reads, ReadsSameBytes, ForEach, Kept, progress}
use Rattle.log_reader.specs.Soundness.{StandsForLog, is_wanting, is_more}

-- a reader's texts are those that what it keeps stands for
abbrev pub Stands : Reader → List ℕ → Type 0
Stands r log = StandsForLog r.sig r.limits r.is_ended r.given r.kept.stretch r.kept.at r.kept.partial log

pub reads_kept : (r : Reader) (log : List ℕ) → Stands r log → Reads r log
unfolding Reads
reads_kept r log st = st

pub kept_reads : (r : Reader) (log : List ℕ) → Reads r log → Stands r log
unfolding Reads
kept_reads r log reads = reads

-- of a reader that is the same
pub for_each : (old r : Reader) → old ≡ r → (P : List ℕ → Type 0) → ((log : List ℕ) → Stands old log → P log)
    → ForEach r P
for_each old r e P holds = subst (λ (x : Reader). ForEach x P) e (λ log reads. holds log (kept_reads old log reads))

-- what a fault says of each text
pub each_err : (r : Reader) (P : LogFault → List ℕ → Type 0) (result : Result Next LogFault)
    → ((log : List ℕ) → Reads r log → IfErr result (λ fault. fault ≢ Memory → P fault log))
    → IfErr result (λ fault. fault ≢ Memory → ForEach r (P fault))
each_err r P result holds = grind arith

-- ---- an answer

-- where memory isn't wanting there is a fact
pub on_ok : (P : Type 0) (result : Result Next LogFault) → (is_wanting result ≡ false → P) → OnOk result P
on_ok P result holds = grind arith

on_answer : (old new : Reader) (result : Result Next LogFault)
    → (is_wanting result ≡ false → ForEach old (Reads new)) → ReadsSameBytes old new result
on_answer old new result holds = grind arith

pub reads_on : (old r new : Reader) → old ≡ r → (result : Result Next LogFault)
    → (is_wanting result ≡ false → (log : List ℕ) → Stands old log → Stands new log) → ReadsSameBytes r new result
reads_on old r new e result holds = search (on_answer, for_each, reads_kept)

pub answers : (old r : Reader) → old ≡ r → (result : Result Next LogFault)
    → ((log : List ℕ) → Stands old log → Gives (λ next. next) result (next_answer (progress old log)))
    → ForEach r (λ log. Gives (λ next. next) result (next_answer (progress r log)))
answers old r e result holds = grind (arith, kept_reads)

-- the reader with these given, and memory wanting or not
abbrev pub behind : Reader → ℕ → Bool → Kept → Reader
behind r given wanting kept = record r { given = given; is_broken = wanting; kept = kept }

pub more_is : (result : Result Next LogFault) → is_more result ≡ true → result ≡ Ok More
more_is result e = grind arith

-- once the end is told, the reader still stands for its texts
pub stands_ended : (sig : List PredOf) (limits : Limits) (is_ended : Bool) (given : ℕ) (s : Stretch) (at : ℕ)
    (p : Partial) (log : List ℕ) → StandsForLog sig limits is_ended given s at p log
    → StandsForLog sig limits true given s at p log
stands_ended sig limits is_ended given s at p log st = grind arith
