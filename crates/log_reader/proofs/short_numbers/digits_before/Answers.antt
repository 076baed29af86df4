use Rattle.std.proofs.Common.{◌≡◌, ◌+◌, ◌-◌, ◌<◌, true, get_or, sym, ◌∙◌, arith, rules}
use Rattle.std.specs.Char.{is_ascii_digit}
use Rattle.log_reader.specs.Quick.{room}
use Rattle.log_reader.proofs.QuickLemmas.{goes_at, ends_at, other_at, few_digits, one_more_digit}
use Rattle.log_reader.proofs.short_numbers.digits_before.Goals as goal

pub overflow_mul-number : goal.overflow_mul-number
overflow_mul-number c =
    let small : c.loop-count.number < room = few_digits c.loop-count.number c.loop-count.count
    c.loop-count.invariant.1 (omega (arith, c.loop-count-test.true, c.requires)) in
    search rules

pub overflow_add-number : goal.overflow_add-number
overflow_add-number c =
    let small : c.loop-count.number < room = few_digits c.loop-count.number c.loop-count.count
    c.loop-count.invariant.1 (omega (arith, c.loop-count-test.true, c.requires)) in
    search rules

pub loop-count-preserved : goal.loop-count-preserved
loop-count-preserved c =
    let small : c.loop-count.number < room = few_digits c.loop-count.number c.loop-count.count
    c.loop-count.invariant.1 (omega (arith, c.loop-count-test.true, c.requires)) in
    let digit : is_ascii_digit (get_or c.args.bytes.now c.loop-count.count 0) ≡ true
    = sym c.is_ascii_digit.ensures.value ∙ c.if-is_ascii_digit.true in
    let is : c.from.result ≡ get_or c.args.bytes.now c.loop-count.count 0 - 48 = search rules in
    rw is (
      sym (goes_at c.loop-count.number c.loop-count.count c.args.bytes.now c.loop-count-test.true
          (c.loop-count.count + 1) (omega arith) digit small)
          ∙ c.loop-count.invariant.0,
      one_more_digit c.loop-count.number c.loop-count.count (c.loop-count.count + 1)
          (get_or c.args.bytes.now c.loop-count.count 0) (omega arith) c.loop-count.invariant.1 digit,
    )

pub returns-then-ends_number : goal.returns-then-ends_number
returns-then-ends_number c =
    sym (ends_at c.loop-count.number c.loop-count.count c.args.bytes.now c.loop-count-test.true
    (sym c.is_ascii_digit.ensures.value ∙ c.if-is_ascii_digit.false)
    (sym c.ends_number.ensures ∙ c.if-ends_number.true))
    ∙ c.loop-count.invariant.0

pub returns-else-ends_number : goal.returns-else-ends_number
returns-else-ends_number c =
    sym (other_at c.loop-count.number c.loop-count.count c.args.bytes.now c.loop-count-test.true
    (sym c.is_ascii_digit.ensures.value ∙ c.if-is_ascii_digit.false)
    (sym c.ends_number.ensures ∙ c.if-ends_number.false))
    ∙ c.loop-count.invariant.0
