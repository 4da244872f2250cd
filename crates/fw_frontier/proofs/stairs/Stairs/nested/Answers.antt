use Rattle.std.proofs.Common.{◌∙◌, sym, ap, ℕ, List, length, get_or, arith}
use Rattle.std.proofs.lemmas.List.{get_or_past}
use Rattle.fw_time.specs.Stamp.{nest}
use Rattle.fw_time.specs.NestLaws.{dimension-outer}
use Rattle.fw_frontier.specs.Front.{inside}
use Rattle.fw_frontier.proofs.CanonicalLaws.{in_domain-canonical}
use Rattle.fw_frontier.proofs.StairsLaws.{upto-none, nested-more, nested-whole, all-short}
use Rattle.fw_frontier.proofs.stairs.Stairs.nested.Goals as goal

pub to_front-requires : goal.to_front-requires
to_front-requires g c = ap length c.outer_of-outer.ensures.value ∙ dimension-outer c.args.bounds.now.greatest g.T.Time.dimension c.requires

pub loop-c-init : goal.loop-c-init
loop-c-init g c = (
  rw c.new-stamps.ensures.items tt,
  λ s d h.
      ap (λ os. inside os (nest s d)) c.new-stamps.ensures.items
      ∙ sym (upto-none (λ k. g.T.Frontier.Frontier.inside (get_or c.args.self.now.steps.items k c.args.self.now.last) (g.T.Time.of_coords s)) d),
)

pub push_nested-requires : goal.push_nested-requires
push_nested-requires g c =
    rw c.outside.ensures (all-short c.outer_of-outer.result c.in_ok-front.front c.outer_of-outer.ensures.few (in_domain-canonical c.outer_of-outer.result c.in_ok-front.front (c.in_ok-front.ensures c.outer_of-outer.ensures.plain).canonical))

pub loop-c-preserved : goal.loop-c-preserved
loop-c-preserved g c =
    let b = c.args.bounds.now in
    let test = λ (s : List ℕ) (k : ℕ). g.T.Frontier.Frontier.inside (get_or c.args.self.now.steps.items k c.args.self.now.last) (g.T.Time.of_coords s) in
    let named = rw c.at.ensures at (c.in_ok-front.ensures c.outer_of-outer.ensures.plain) in
    rw (c.in_ok-push_nested.ensures, c.outside.ensures)
    (nested-more b c.outer_of-outer.result c.loop-c.stamps.items c.in_ok-front.front test c.loop-c.c c.outer_of-outer.ensures.plain c.outer_of-outer.ensures.value (omega (arith, c.requires)) (omega (arith, c.min-c-end.ensures, c.len.ensures, c.counter.ensures)) named c.loop-c.invariant)

pub returns-clause-in_domain : goal.returns-clause-in_domain
returns-clause-in_domain g c = c.loop-c.invariant.0

pub returns-clause-test : goal.returns-clause-test
returns-clause-test g c =
    let test = λ (s : List ℕ) (k : ℕ). g.T.Frontier.Frontier.inside (get_or c.args.self.now.steps.items k c.args.self.now.last) (g.T.Time.of_coords s) in
    nested-whole c.args.bounds.now c.loop-c.stamps.items test (length c.args.self.now.steps.items) c.loop-c.c
    (omega (arith, c.requires)) (omega (arith, c.min-c-end.ensures, c.len.ensures, c.counter.ensures))
    (λ s k d h. c.args.self.now.descending k d (g.T.Time.of_coords s) h)
    (λ s k h. ap (λ f. g.T.Frontier.Frontier.inside f (g.T.Time.of_coords s)) (get_or_past c.args.self.now.steps.items k c.args.self.now.last h ∙ sym (get_or_past c.args.self.now.steps.items (length c.args.self.now.steps.items) c.args.self.now.last (omega arith))))
    c.loop-c.invariant.1
