use Rattle.std.proofs.Common.{sym, ◌∙◌}
use Rattle.fw_keep.proofs.NamedLaws.{base-found, base-is, no_base}
use Rattle.fw_keep.proofs.named.is_base.Goals as goal

pub returns-in-Some : goal.returns-in-Some
returns-in-Some c = (
  λ t. base-found c.args.entries.now c.args.id c.args.node c.in-Some.entry.now (sym c.in-Some.ensures.there) c.in-Some.ensures.only (sym c.is_checkpoint_of.ensures ∙ t),
  λ b. c.is_checkpoint_of.ensures ∙ base-is c.args.entries.now c.args.id c.args.node c.in-Some.entry.now c.in-Some.ensures.only b,
)

pub returns-in-None : goal.returns-in-None
returns-in-None c = (λ t. absurd cc, λ b. absurd (no_base c.args.entries.now c.args.id c.args.node (sym c.in-None.ensures.there) b))
