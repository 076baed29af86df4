use Rattle.std.proofs.Common.{List, ℕ, ap, sym, ◌∙◌, arith}
use Rattle.log_reader.specs.Quick.{digits_before, most_digits}
use Rattle.log_reader.proofs.QuickLemmas.{first_digits}
use Rattle.log_reader.proofs.short_numbers.number_before.Goals as goal

pub returns-in-Some : goal.returns-in-Some
returns-in-Some c = record {
  found = first_digits 0 0 most_digits c.args.bytes.now (c.in-Some.number, c.in-Some.count)
      (ap (λ (xs : List ℕ). digits_before 0 0 xs) (sym c.first_bytes.ensures) ∙ sym c.digits_before.ensures
      ∙ c.in-Some.is);
  some = c.if-count-gt0.true;
  few = omega (arith, c.if-count-le-MOST_DIGITS.true);
}
