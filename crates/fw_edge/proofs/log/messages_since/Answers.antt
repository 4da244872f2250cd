use Rattle.std.proofs.Common.{◌≡◌, Bool, true, false, rules}
use Rattle.std.specs.List.Sorted.{IsPartitionPoint}
use Rattle.std.proofs.lemmas.List.Sorted.{IsPartitionPoint-from_clause}
use Rattle.fw_frontier.specs.Front.{inside}
use Rattle.fw_flow.specs.declared.event.Message.{Message}
use Rattle.fw_flow.specs.Projection.{all_inside}
use Rattle.fw_edge.proofs.LogLaws.{in_turn-parted, since-found}
use Rattle.fw_edge.proofs.log.messages_since.Goals as goal

pub returns : goal.returns
returns c =
    let f = c.args.earlier.now in
    let ms = c.args.messages.now in
    let n = c.partition_point-first.result in
    let test : Message → Bool = λ m. all_inside (inside f) m.causes in
    let parts : IsPartitionPoint (λ (m : Message). all_inside (inside c.args.earlier.now) m.causes ≡ true) (λ (m : Message). all_inside (inside c.args.earlier.now) m.causes ≡ false) c.args.messages.now c.partition_point-first.result =
    IsPartitionPoint-from_clause test ms n c.partition_point-first.ensures.partitioned (in_turn-parted f ms (c.requires c.if-not-in_turn.false)) (λ a r q k. search rules) in
    since-found test n ms (λ k d l m. parts.0 k d l m)
