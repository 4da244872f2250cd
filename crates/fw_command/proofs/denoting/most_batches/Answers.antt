use Rattle.std.proofs.Common.{◌≡◌, ◌∙◌, ap, max, arith, rules}
use Rattle.fw_command.proofs.DenotationTextLaws.{most_more}
use Rattle.fw_command.proofs.denoting.most_batches.Goals as goal

pub loop-place-preserved : goal.loop-place-preserved
loop-place-preserved c =
    let most = c.loop-place.most in
    let greater : c.max-most.result ≡ max most c.count.result = search rules in
    greater ∙ ap (λ n. max most n) c.count.ensures
    ∙ most_more c.args.flow.now c.args.batches.now c.loop-place.place most (omega (arith, c.loop-place-test.true, c.nodes-place-end.ensures.count)) c.loop-place.invariant
