use Rattle.std.proofs.Common.{◌≡◌, true, ◌≤◌, [], ◌∷◌, sym, slice_index, arith}
use Rattle.std.proofs.lemmas.Result.{IfOk-weaker}
use Rattle.std.specs.Prelude.{◌&&◌, nat_lt}
use Rattle.fw_time.specs.Stamp.{in_domain}
use Rattle.fw_time.specs.NestLaws.{one-dimension}
use Rattle.fw_frontier.specs.Front.{IsFrontOf, frontier_of}
use Rattle.fw_frontier.proofs.BelowLaws.{in_domain-one}
use Rattle.fw_flow.specs.Projection.{first_coordinate}
use Rattle.fw_flow.proofs.ProjectionLaws.{names-below_limit}
use Rattle.fw_flow.proofs.projection.below.Goals as goal

pub returns : goal.returns
returns c = λ p.
    let b = c.args.bounds.now in
    let g = slice_index b.greatest 0 in
    let e : b.greatest ≡ g ∷ [] = sym (one-dimension b.greatest c.requires) in
    let l : c.args.limit ≤ g = omega (arith, c.if-limit-from.false, c.from.ensures, c.at.ensures) in
    let i : in_domain b c.new.result ≡ true = rw c.new.ensures (in_domain-one b g c.args.limit p e l) in
    IfOk-weaker c.until.result (λ f. IsFrontOf b f (frontier_of b (c.new.result ∷ []))) (λ f. IsFrontOf b f (λ u. in_domain b u && nat_lt (first_coordinate u) c.args.limit))
    (λ f n. names-below_limit b g c.args.limit f e (rw (sym c.new.ensures) n))
    (c.until.ensures.names b (i, tt))
