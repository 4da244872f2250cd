use Rattle.std.proofs.Common.{sym, ap, subst, ◌∙◌, rules}
use Rattle.fw_frontier.specs.Front.{inside}
use Rattle.fw_flow.specs.declared.event.Message.{Message}
use Rattle.fw_flow.specs.Projection.{all_inside}
use Rattle.fw_edge.specs.Piles.{piled_messages}
use Rattle.fw_edge.proofs.PiledLaws.{EachIsPile, retained, piles-kept, piled-kept}
use Rattle.fw_edge.proofs.piles.keep_causes.Goals as goal

pub returns-clause-piles : goal.returns-clause-piles
returns-clause-piles c =
    let p = λ (m : Message). all_inside (inside c.args.f.now) m.causes in
    let left = retained _ p _ (λ k v b w g t. search rules) c.args.piles.now.entries c.retain.new.self.entries c.retain.ensures.filtered in
    record { ordered = c.retain.ensures.ordered; each = subst EachIsPile (sym left) (piles-kept p c.args.piles.now.entries c.requires.each) }

pub returns-clause-kept : goal.returns-clause-kept
returns-clause-kept c =
    let p = λ (m : Message). all_inside (inside c.args.f.now) m.causes in
    let left = retained _ p _ (λ k v b w g t. search rules) c.args.piles.now.entries c.retain.new.self.entries c.retain.ensures.filtered in
    ap piled_messages left ∙ piled-kept p c.args.piles.now.entries
