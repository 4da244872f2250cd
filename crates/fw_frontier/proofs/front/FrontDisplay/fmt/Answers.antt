use Rattle.std.proofs.Common.{◌≡◌, ◌∙◌, ◌<◌, refl, ap, length, arith, rules}
use Rattle.std.proofs.lemmas.Bool.Decides.{nat_tests}
use Rattle.std.proofs.Output.{has_written_of_eq, has_written_append}
use Rattle.fw_frontier.proofs.TextLaws.{spaced_more, front_text-until}
use Rattle.fw_frontier.proofs.front.FrontDisplay.fmt.Goals as goal

pub loop-o-preserved : goal.loop-o-preserved
loop-o-preserved g c = λ p.
    has_written_of_eq _ _ _ _ _ (spaced_more c.outside-stamps.result.now c.loop-o.o-index c.o-item.result (omega arith) c.o-item.is)
    (has_written_append _ _ _ _ _ _ (c.loop-o.invariant p) (search rules))

pub returns-clause-writes : goal.returns-clause-writes
returns-clause-writes g c = λ p q.
    let os = c.args.self.now in
    let all : c.outside-stamps.result.now ≡ os = c.outside-stamps.ensures in
    let some : 0 < length c.outside-stamps.result.now = grind (arith, nat_tests) in
    let first = c.in_ok-write.ensures.writes p refl in
    has_written_of_eq _ _ _ _ _ (front_text-until os c.outside-stamps.result.now c.loop-o.o-index all (omega arith) (omega (arith, ap length all)))
    (has_written_append _ _ _ _ _ _ first (c.loop-o.invariant first.plain))
