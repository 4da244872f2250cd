use Rattle.std.proofs.Common.{List, [], ap, ◌∙◌}
use Rattle.fw_bag.specs.declared.rec.Rec.{Rec}
use Rattle.fw_frontier.specs.declared.state.Entries.TheVariants.{Totals}
use Rattle.fw_frontier.specs.declared.state.State.{State}
use Rattle.fw_totals.proofs.ledger.Ledger.state_since.Goals as goal

abbrev held : List Rec → State
held rs = record { sent = 0; sends = []; entries = Totals rs }

pub returns-clause-state : goal.returns-clause-state
returns-clause-state c = λ inside before after came at_g within at_f sub r.
    c.state_of.ensures ∙ ap held (c.in_ok-totals.ensures inside before after came (λ t. at_g t.0) within (λ t. at_f t.0) sub r.table)
