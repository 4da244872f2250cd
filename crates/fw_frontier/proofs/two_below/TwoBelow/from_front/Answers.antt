use Rattle.std.proofs.Common.{◌≡◌, ◌∙◌, ap, true, not, ◌&&◌, [], ◌∷◌, arith}
use Rattle.fw_time.specs.Stamp.{leq, is_of_side}
use Rattle.fw_lemmas.proofs.Each.{each-at}
use Rattle.fw_frontier.proofs.GenericLaws.{inside_more}
use Rattle.fw_frontier.proofs.SidesLaws.{side-length}
use Rattle.fw_frontier.proofs.two_below.TwoBelow.from_front.Goals as goal

pub from_coords-requires : goal.from_coords-requires
from_coords-requires c =
    let os = c.outside-o-items.result.now in
    let of_side : is_of_side c.o-item.result ≡ true = ap is_of_side c.o-item.is ∙ each-at (λ o. is_of_side o ≡ true) os c.loop-o.o-index c.o-item.result (omega arith) (rw c.loop-o.invariant.0 c.requires) in
    side-length c.o-item.result of_side

pub cut_above-kept-requires : goal.cut_above-kept-requires
cut_above-kept-requires c =
    let os = c.outside-o-items.result.now in
    let of_side : is_of_side c.o-item.result ≡ true = ap is_of_side c.o-item.is ∙ each-at (λ o. is_of_side o ≡ true) os c.loop-o.o-index c.o-item.result (omega arith) (rw c.loop-o.invariant.0 c.requires) in
    ap is_of_side c.from_coords.ensures ∙ of_side

pub loop-o-preserved : goal.loop-o-preserved
loop-o-preserved c = (
  c.loop-o.invariant.0,
  λ s k.
      let u = s.first ∷ s.second ∷ [] in
      let out = ap (λ o. not (leq o u)) (c.from_coords.ensures ∙ c.o-item.is) in
      c.cut_above-kept.ensures s k
      ∙ (λ i. c.loop-o.invariant.1 s k i && out i)
      ∙ inside_more c.outside-o-items.result.now c.loop-o.o-index c.o-item.result u (omega arith),
)
