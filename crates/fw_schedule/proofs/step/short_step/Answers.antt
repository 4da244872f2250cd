use Rattle.std.proofs.Common.{◌≢◌, length, arith}
use Rattle.std.proofs.lemmas.Bool.Decides.{nat_tests}
use Rattle.fw_schedule.proofs.StepLaws.{no_form}
use Rattle.fw_schedule.proofs.step.short_step.Goals as goal

pub returns-in_default : goal.returns-in_default
returns-in_default c =
    let none : length c.args.words.now ≢ 0 = grind (arith, nat_tests) in
    let one : length c.args.words.now ≢ 1 = grind (arith, nat_tests) in
    let three : length c.args.words.now ≢ 3 = grind (arith, nat_tests) in
    no_form c.args.flow.now c.args.text.now c.args.verb.now c.args.words.now none one three
