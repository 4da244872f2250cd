use Rattle.std.proofs.Common.{◌≡◌, ◌++◌, ◌∙◌, List, map, OnOk, ap, sym, subst}
use Rattle.std.specs.Option.{option_copied}
use Rattle.fw_lemmas.proofs.Filters.{filter-true}
use Rattle.fw_frontier.specs.Front.{inside}
use Rattle.fw_flow.specs.declared.event.Message.{Message}
use Rattle.fw_model.specs.Filtering.{messages_from}
use Rattle.fw_record.specs.declared.logged.Logged.{Logged}
use Rattle.fw_settle.specs.Checkpoints.{messages_told}
use Rattle.fw_settle.proofs.record.add_told.Goals as goal

pub returns-in-None-Some-clause-added : goal.returns-in-None-Some-clause-added
returns-in-None-Some-clause-added c =
    let f = c.args.front.now in
    let all = c.args.log.now.messages in
    let on : Message → Logged = λ m. record { edge = c.args.edge; message = m } in
    let told : messages_told (option_copied c.args.since) f all ≡ messages_from (inside f) all =
    ap (λ since. messages_told (option_copied since) f all) c.in-None-Some.is-0 ∙ filter-true (messages_from (inside f) all) in
    subst (λ (xs : List Message). OnOk c.add_caused.result (c.add_caused.new.all.items ≡ c.args.all.now.items ++ map on xs))
    (ap (messages_from (inside f)) c.in-None-Some.ensures ∙ sym told) c.add_caused.ensures.added
