use Rattle.std.proofs.Common.{◌≡◌, [], drop}
use Rattle.fw_bag.specs.Bag.{bag_sum}
use Rattle.fw_lines.proofs.InputLaws.{recs_in}
use Rattle.fw_lines.proofs.inputs.batch.Given as goal

abbrev pub invariant-loop-word : goal.invariant-loop-word
invariant-loop-word l = bag_sum (recs_in l.text (drop l.word-index l.words)) l.batch.recs ≡ bag_sum (recs_in l.text l.words) []
