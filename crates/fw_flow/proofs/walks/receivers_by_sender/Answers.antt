use Rattle.std.proofs.Common.{◌≡◌, ◌<◌, ℕ, List, [], ◌∷◌, ◌++◌, length, length-set, sym, ap, ◌∙◌, subst, arith}
use Rattle.fw_flow.specs.Flow.{edges_at}
use Rattle.fw_flow.specs.Walks.{link_at, AreOnward}
use Rattle.fw_flow.proofs.FlowLaws.{edges_there}
use Rattle.fw_flow.proofs.Marks.{AreOnward-none, AreOnward-more}
use Rattle.fw_flow.proofs.walks.receivers_by_sender.Goals as goal

pub loop-link-init : goal.loop-link-init
loop-link-init c = record {
  len = c.in_ok-onward.ensures.len;
  onward = AreOnward-none c.args.links.now c.in_ok-onward.onward.items c.in_ok-onward.ensures.empty;
}

pub loop-link-preserved : goal.loop-link-preserved
loop-link-preserved c =
    let links = c.args.links.now in
    let m = c.loop-link.link-index in
    let lists = c.loop-link.onward.items in
    let s = (link_at links m).sender in
    let inside : s < length lists = omega (arith, c.requires.senders m c.loop-link-test.true, c.loop-link.invariant.len) in
    let row : edges_at lists s ≡ c.index_mut.result.now.items = edges_there lists s c.index_mut.result.now inside c.index_mut.ensures.value in
    record {
      len = length-set lists s c.push.new.self ∙ c.loop-link.invariant.len;
      onward = AreOnward-more links m lists c.push.new.self inside
          (c.in_ok-push.ensures.items ∙ ap (λ (l : List ℕ). l ++ (link_at links m).receiver ∷ []) (sym row))
          c.loop-link.invariant.onward;
    }

pub returns-clause-onward : goal.returns-clause-onward
returns-clause-onward c =
    let links = c.args.links.now in
    let done : c.loop-link.link-index ≡ length links = omega arith in
    subst (λ (m : ℕ). AreOnward links m c.loop-link.onward.items) done c.loop-link.invariant.onward
