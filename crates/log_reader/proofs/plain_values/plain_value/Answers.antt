use Rattle.std.proofs.Common.{ℤ, sym, subst, rules, SFits, to_z, of_z, to_z-of_z, w64}
use Rattle.mfotl_model.specs.declared.{policy.Sort.Sort, value.Value.TheVariants.Int}
use Rattle.mfotl_model.specs.declared.policy.Sort.TheVariants as sorts
use Rattle.log_reader.specs.Groups.{TakesPlain}
use Rattle.log_reader.proofs.GroupLemmas.{plain_integer}
use Rattle.log_reader.proofs.plain_values.plain_value.Goals as goal

pub returns-in-Some : goal.returns-in-Some
returns-in-Some c =
    let fits : SFits w64 c.in-Some.number = search rules in
    subst (λ (s : Sort). TakesPlain s c.args.at c.args.bytes.now
    (Int (to_z w64 (of_z w64 c.in-Some.number))) c.in-Some.count) (sym c.in-Int.is)
    (subst (λ (z : ℤ). TakesPlain sorts.Int c.args.at c.args.bytes.now (Int z) c.in-Some.count)
    (sym (to_z-of_z fits))
    (plain_integer c.args.at c.args.bytes.now c.in-Some.number c.in-Some.count c.in-Some.ensures))
