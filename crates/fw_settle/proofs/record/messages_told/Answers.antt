use Rattle.std.proofs.Common.{◌≡◌, List, IfOk, ap, sym, subst, ◌∙◌}
use Rattle.std.specs.Option.{option_copied}
use Rattle.fw_lemmas.proofs.Filters.{filter-true}
use Rattle.fw_frontier.specs.Front.{inside}
use Rattle.fw_flow.specs.declared.event.Message.{Message}
use Rattle.fw_model.specs.Filtering.{messages_from}
use Rattle.fw_settle.specs.Checkpoints.{messages_told}
use Rattle.fw_settle.proofs.record.messages_told.Goals as goal

pub returns-in-None : goal.returns-in-None
returns-in-None c =
    let f = c.args.front.now in
    let all = c.args.log.now.messages in
    let told : messages_told (option_copied c.args.since) f all ≡ messages_from (inside f) all =
    ap (λ since. messages_told (option_copied since) f all) c.in-None.is ∙ filter-true (messages_from (inside f) all) in
    subst (λ (xs : List Message). IfOk c.caused_in.result (λ ms. ms.items ≡ xs)) (sym told) c.caused_in.ensures
