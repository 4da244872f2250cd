use Rattle.std.proofs.Common.{◌≡◌, ◌++◌, refl, sym, rules, ◌∙◌, ap, arith}
use Rattle.std.proofs.Output.{has_written_of_eq, has_written_append}
use Rattle.std.specs.List.{flat_map, range_with_len}
use Rattle.fw_lemmas.proofs.Lists.{joined_more}
use Rattle.fw_command.specs.DenotationText.{epoch_line}
use Rattle.fw_command.proofs.EpochPartLaws.{bag_ascends, part_line}
use Rattle.fw_command.proofs.denoting.EpochLinesDisplay.fmt.Goals as goal

pub loop-epoch-init : goal.loop-epoch-init
loop-epoch-init g c = (λ p. search rules, bag_ascends c.args.self.now.bag.now c.args.self.now.ordered, λ x l. refl)

pub parted-requires-clause-ordered : goal.parted-requires-clause-ordered
parted-requires-clause-ordered g c = c.loop-epoch.invariant.1

pub loop-epoch-preserved : goal.loop-epoch-preserved
loop-epoch-preserved g c =
    let name = c.args.self.now.name.now in
    let bag = c.args.self.now.bag.now in
    let epoch = c.loop-epoch.epoch in
    let before = flat_map (epoch_line name bag) (range_with_len 0 epoch) in
    let here = c.parted.ensures.of_epoch ∙ c.loop-epoch.invariant.2 epoch (omega arith) in (
      λ p. has_written_of_eq _ _ _ _ _
          (ap (λ t. before ++ t) (part_line name bag c.parted.result.0.now epoch here) ∙ sym (joined_more (epoch_line name bag) epoch))
          (has_written_append _ _ _ _ _ _ (c.loop-epoch.invariant.0 p) (search rules)),
      c.parted.ensures.ordered,
      λ x l. c.parted.ensures.of_later x (omega arith) ∙ c.loop-epoch.invariant.2 x (omega arith),
    )

pub returns-clause-writes : goal.returns-clause-writes
returns-clause-writes g c = λ p ok.
    let name = c.args.self.now.name.now in
    let bag = c.args.self.now.bag.now in
    let all : c.loop-epoch.epoch ≡ c.args.self.now.count = omega (arith, c.loop-epoch-test.false, c.loop-epoch.auto.epoch-end) in
    has_written_of_eq _ _ _ _ _ (ap (λ n. flat_map (epoch_line name bag) (range_with_len 0 n)) all) (c.loop-epoch.invariant.0 p)
