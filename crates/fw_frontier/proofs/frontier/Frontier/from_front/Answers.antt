use Rattle.std.proofs.Common.{◌≡◌, ◌∙◌, ap, true, not, ◌&&◌, length, get_or, arith}
use Rattle.fw_lemmas.proofs.Each.{each-at}
use Rattle.fw_time.specs.Stamp.{leq, in_domain}
use Rattle.fw_time.proofs.DomainLaws.{domain-length}
use Rattle.fw_frontier.proofs.GenericLaws.{inside_more}
use Rattle.fw_frontier.proofs.frontier.Frontier.from_front.Goals as goal

pub loop-o-preserved : goal.loop-o-preserved
loop-o-preserved g c = (
  c.loop-o.invariant.0,
  λ t.
      let u = g.T.Time.coords t in
      let out = ap (λ o. not (leq o u)) (c.from_coords.ensures ∙ c.o-item.is) in
      c.in_ok-kept-2.ensures t
      ∙ (λ i. c.loop-o.invariant.1 t i && out i)
      ∙ inside_more c.outside-o-items.result.now c.loop-o.o-index c.o-item.result u (omega arith),
)

pub from_coords-requires : goal.from_coords-requires
from_coords-requires g c =
    let b = c.args.bounds.now in let os = c.outside-o-items.result.now in
    let there = each-at (λ o. in_domain b o ≡ true) os c.loop-o.o-index c.o-item.result (omega arith) (rw c.loop-o.invariant.0 c.requires.in_domain) in
    ap length c.o-item.is ∙ domain-length b (get_or os c.loop-o.o-index c.o-item.result) there ∙ c.requires.shape
