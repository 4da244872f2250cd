use Rattle.std.proofs.Common.{◌<◌, length, arith}
use Rattle.fw_denote.proofs.WholeLaws.{few_batches}
use Rattle.fw_denote.proofs.rounds.Course.start.Goals as goal

pub batched-requires : goal.batched-requires
batched-requires c =
    let there : c.loop-place.place < length c.args.flow.now.nodes = let t = c.loop-place-test.true in let n = c.nodes-place-end.ensures.count in omega arith in
    few_batches c.args.flow.now c.args.batches.now c.requires c.loop-place.place there c.of.result.now c.of.ensures
