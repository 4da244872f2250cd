use Rattle.std.proofs.Common.{◌≡◌, ◌<◌, ◌++◌, ◌∷◌, [], sym, ap, ◌∙◌, length-set, arith, ℕ, List, get_or}
use Rattle.fw_flow.specs.Flow.{edges_at}
use Rattle.fw_flow.proofs.FlowLaws.{edges_there}
use Rattle.fw_flow.proofs.Ends.{edges_at-more}
use Rattle.fw_flow.proofs.check.edges_by_end.Goals as goal

pub loop-place-preserved : goal.loop-place-preserved
loop-place-preserved c =
    let lists = c.loop-place.lists.items in
    let ends = c.args.ends.now in
    let i = c.loop-place.place in
    let end = get_or ends i 0 in
    let inside : end < c.args.nodes = c.requires.within i (omega arith) in
    let row : edges_at lists end ≡ c.index_mut.result.now.items = edges_there lists end c.index_mut.result.now (omega arith) c.index_mut.ensures.value in
    record {
      len = length-set lists end c.push.new.self ∙ c.loop-place.invariant.len;
      so_far = edges_at-more lists ends i c.push.new.self (omega arith) (omega arith)
          (c.in_ok-push.ensures.items ∙ ap (λ (k : ℕ). c.index_mut.result.now.items ++ k ∷ []) c.at.ensures ∙ ap (λ (l : List ℕ). l ++ i ∷ []) (sym row)) c.loop-place.invariant.so_far;
    }
