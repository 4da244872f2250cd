use Rattle.std.proofs.Common.{◌+◌, ◌*◌, get_or}
use Rattle.std.specs.Char.{digit_value}
use Rattle.std.proofs.lemmas.Str.Parse.{digit_at}
use Rattle.fw_lines.proofs.NumberLaws.{small_from_some, value_more, value_past, value_all}
use Rattle.fw_lines.proofs.spelling.value_of.Goals as goal

pub with_digit-requires : goal.with_digit-requires
with_digit-requires c = digit_at c.args.digits.now c.loop-digit.digit-index c.requires c.loop-digit-test.true

pub returns-in_err-value : goal.returns-in_err-value
returns-in_err-value c = rw c.from_residual.ensures (value_past c.args.digits.now c.loop-digit.digit-index c.loop-digit.value c.loop-digit-test.true c.loop-digit.invariant.value c.in_err-value.ensures)

pub loop-digit-preserved : goal.loop-digit-preserved
loop-digit-preserved c = record {
  small = small_from_some (c.loop-digit.value * 10 + digit_value (get_or c.args.digits.now c.loop-digit.digit-index 0)) c.in_ok-value.value c.in_ok-value.ensures;
  value = value_more c.args.digits.now c.loop-digit.digit-index c.loop-digit.value c.in_ok-value.value c.loop-digit-test.true c.loop-digit.invariant.value c.in_ok-value.ensures;
}

pub returns : goal.returns
returns c = value_all c.args.digits.now c.loop-digit.digit-index c.loop-digit.value c.loop-digit-test.false c.loop-digit.invariant.small c.loop-digit.invariant.value
