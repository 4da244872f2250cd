use Rattle.std.proofs.Common.{◌≡◌, [], ◌∷◌, take, filter}
use Rattle.fw_frontier.specs.Front.{inside}
use Rattle.fw_flow.specs.SentTable.{counts_of}
use Rattle.fw_flow.proofs.sent_table.SentTable.inside.Given as goal

abbrev pub invariant-loop-entry : goal.invariant-loop-entry
invariant-loop-entry l = l.table ≡ filter (λ entry. inside l.f (entry.0 ∷ [])) (counts_of (take l.entry-index l.entry-items))
