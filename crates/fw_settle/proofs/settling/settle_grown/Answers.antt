use Rattle.std.proofs.Common.{◌≡◌, ◌+◌, rules, Some, None, refl, subst}
use Rattle.fw_settle.proofs.SearchLaws.{HaveSettledUpTo, settling-first, settling-next, settling-all}
use Rattle.fw_settle.proofs.SettleLaws.{changes-both}
use Rattle.fw_settle.specs.Settling.{IsFoundLive}
use Rattle.fw_settle.proofs.settling.settle_grown.Goals as goal

pub loop-next-init : goal.loop-next-init
loop-next-init c = record {
  others = refl;
  shaped = c.requires.shaped;
  settled = settling-first c.args.running.now c.live_from-next.result c.live_from-next.ensures;
}

pub loop-next-preserved : goal.loop-next-preserved
loop-next-preserved c =
    let old = c.args.running.now in
    let mid = c.loop-next.running in
    let new = c.settle_node.new.running in
    let node = c.in-Some.node in
    let next : c.loop-next.next ≡ Some node = search rules in
    record {
      others = changes-both old mid new c.loop-next.invariant.others c.in_ok-settle_node.ensures.others;
      shaped = c.in_ok-settle_node.ensures.shaped;
      settled = settling-next old mid new node c.live_from-next-in-Some.result c.requires.shaped c.loop-next.invariant.others
          (subst (HaveSettledUpTo old mid) next c.loop-next.invariant.settled) c.in_ok-settle_node.ensures.settled
          (subst (λ n. IsFoundLive new (n + 1) c.live_from-next-in-Some.result) c.place.ensures c.live_from-next-in-Some.ensures);
    }

pub returns-clause-settled : goal.returns-clause-settled
returns-clause-settled c =
    let old = c.args.running.now in
    let next : c.loop-next.next ≡ None = search rules in
    settling-all old c.loop-next.running c.loop-next.invariant.others (subst (HaveSettledUpTo old c.loop-next.running) next c.loop-next.invariant.settled)
