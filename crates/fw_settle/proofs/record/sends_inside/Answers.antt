use Rattle.std.proofs.Common.{◌≡◌, ◌+◌, [], take, arith, rules, Some, None, sym, subst}
use Rattle.std.specs.Prelude.{slice_get}
use Rattle.std.specs.Option.{option_copied}
use Rattle.std.proofs.lemmas.List.{take_all}
use Rattle.fw_settle.specs.Checkpoints.{told_epochs}
use Rattle.fw_settle.proofs.SendsLaws.{AreToldOf, told-before, told-next, told-there, told-all}
use Rattle.fw_settle.proofs.record.sends_inside.Goals.{in-Some+in_ok-add_sends, in_default}
use Rattle.fw_settle.proofs.record.sends_inside.Goals as goal

pub loop-place-init : goal.loop-place-init
loop-place-init c =
    let seen = take c.first_from-start.result c.args.table.now in
    let none : c.in_ok-sends.sends.items ≡ [] = search rules in
    subst (AreToldOf (told_epochs (option_copied c.args.since) c.args.front.now) seen) (sym none)
    (told-before (option_copied c.args.since) c.args.front.now c.first_since-first.result seen c.first_since-first.ensures.since
    c.first_since-first.ensures.few c.first_from-start.ensures.below)

pub loop-place-preserved : goal.loop-place-preserved
loop-place-preserved c = elim c.match-get.branch [
  | in-Some+in_ok-add_sends w ↦
      let got : slice_get c.args.table.now c.loop-place.place ≡ Some (w.in-Some.epoch, w.in-Some.count) = search rules in
      subst (λ v. AreToldOf (told_epochs (option_copied c.args.since) c.args.front.now) (take (c.loop-place.place + 1) c.args.table.now) v.items) (sym w.sends-is)
      (told-next (option_copied c.args.since) c.args.front.now c.args.table.now c.first_since-first.result c.limit_of-limit.result c.loop-place.place w.in-Some.epoch w.in-Some.count c.loop-place.sends.items w.add_sends.new.sends.items
      c.first_since-first.ensures.since c.limit_of-limit.ensures.limit (omega arith) got c.loop-place.invariant w.in_ok-add_sends.ensures)
  | in_default w ↦
      let got : slice_get c.args.table.now c.loop-place.place ≡ None = search rules in
      absurd (told-there c.args.table.now c.loop-place.place (omega arith) got)
]

pub returns : goal.returns
returns c =
    told-all (told_epochs (option_copied c.args.since) c.args.front.now) c.args.table.now c.loop-place.sends.items
    (subst (λ t. AreToldOf (told_epochs (option_copied c.args.since) c.args.front.now) t c.loop-place.sends.items) (take_all c.loop-place.place c.args.table.now (omega arith)) c.loop-place.invariant)
