use Rattle.std.proofs.Common.{◌≡◌, inl, inr, sym, ap, ◌∙◌, subst, arith}
use Rattle.std.proofs.lemmas.Bool.{OnFalse_at, cases_lt}
use Rattle.fw_flow.specs.Depths.{listed_depth}
use Rattle.fw_flow.specs.Walks.{Path, graph_of}
use Rattle.fw_flow.proofs.walks.is_one_on_closed_walk.Goals as goal
use Rattle.fw_flow.proofs.walks.is_one_on_closed_walk.Goals.{else-at-depth-via-then-at-depth+in_ok-is_on_closed_walk+else-branch, else-at-depth-via-else-at-depth}

pub loop-place-init : goal.loop-place-init
loop-place-init c = λ p lt. absurd (omega arith)

pub loop-place-preserved : goal.loop-place-preserved
loop-place-preserved c = λ p lt is path. elim (cases_lt p c.loop-place.place) [
  | inl before ↦ c.loop-place.invariant p before is path
  | inr here ↦
      let same : p ≡ c.loop-place.place = omega arith in
      let there : Path (graph_of c.args.links.now) c.loop-place.place c.loop-place.place = subst (λ x. Path (graph_of c.args.links.now) x x) same path in
      elim c.else-at-depth.branch [
        | else-at-depth-via-then-at-depth+in_ok-is_on_closed_walk+else-branch w ↦ OnFalse_at w.if-branch.false w.in_ok-is_on_closed_walk.ensures.none there
        | else-at-depth-via-else-at-depth w ↦ w.if-at-depth.false (sym (ap (listed_depth c.args.depths.now) same) ∙ is)
      ]
]

pub returns-clause-none : goal.returns-clause-none
returns-clause-none c = λ found. c.loop-place.invariant found.node (omega (arith, found.there)) found.at found.path
