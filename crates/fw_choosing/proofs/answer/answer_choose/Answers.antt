use Rattle.std.proofs.Common.{List}
use Rattle.std.specs.Prelude.{string_bytes}
use Rattle.std.proofs.lemmas.Result.{err_from_is_err_and}
use Rattle.fw_flow.specs.declared.choice.Offer.{Offer}
use Rattle.fw_flow.specs.Dataflow.{Dataflow}
use Rattle.fw_choosing.specs.declared.answer.Answer.{Answer}
use Rattle.fw_choosing.specs.Words.{choose}
use Rattle.fw_choosing.proofs.ReadingLaws.{asked-second, choose-answered, flow-faults, flow-unread, later-faults, offers-unread}
use Rattle.fw_choosing.proofs.answer.answer_choose.Goals as goal

pub returns-in_err-flow-clause-unread : goal.returns-in_err-flow-clause-unread
returns-in_err-flow-clause-unread g c =
    let p = err_from_is_err_and c.from_residual.result c.from_residual.ensures.1 in
    rw p.1 (flow-unread (g.F.Folder.texts c.args.folder.now) (choose c.args.flow.now c.args.offers.now) _ p.0 p.2 c.in_err-flow.ensures.refused)

pub returns-in_err-flow-clause-faults : goal.returns-in_err-flow-clause-faults
returns-in_err-flow-clause-faults g c =
    let p = err_from_is_err_and c.from_residual.result c.from_residual.ensures.1 in
    let count = g.F.Folder.fault_count in
    rw p.1 (flow-faults Dataflow Answer _ p.0 (count c.args.folder.now) (count c.fetch_flow.new.folder) p.2 c.in_err-flow.ensures.faults)

pub returns-in_err-offers-clause-unread : goal.returns-in_err-offers-clause-unread
returns-in_err-offers-clause-unread g c =
    let p = err_from_is_err_and c.from_residual-in_err-offers.result c.from_residual-in_err-offers.ensures.1 in
    let told = g.F.Folder.texts in
    rw (p.1, p.2) (offers-unread (told c.args.folder.now) (told c.fetch_flow.new.folder) (choose c.args.flow.now c.args.offers.now) c.in_ok-flow.flow _ c.fetch_flow.ensures.texts_stay c.in_ok-flow.ensures.flow c.in_err-offers.ensures.unread)

pub returns-in_err-offers-clause-faults : goal.returns-in_err-offers-clause-faults
returns-in_err-offers-clause-faults g c =
    let p = err_from_is_err_and c.from_residual-in_err-offers.result c.from_residual-in_err-offers.ensures.1 in
    let count = g.F.Folder.fault_count in
    rw (p.1, p.2) (later-faults (List Offer) Answer _ (count c.args.folder.now) (count c.fetch_flow.new.folder) (count c.fetch_offers.new.folder) c.in_ok-flow.ensures.faults c.in_err-offers.ensures.faults)

pub returns-in_err-offers-clause-asked : goal.returns-in_err-offers-clause-asked
returns-in_err-offers-clause-asked g c =
    let count = g.F.Folder.fetch_count in
    asked-second (g.F.Folder.texts c.args.folder.now) c.args.flow.now c.args.offers.now c.in_ok-flow.flow (count c.args.folder.now) (count c.fetch_flow.new.folder) (count c.fetch_offers.new.folder)
    c.in_ok-flow.ensures.flow c.fetch_flow.ensures.counted c.fetch_offers.ensures.counted

pub returns-in_err-answer-clause-asked : goal.returns-in_err-answer-clause-asked
returns-in_err-answer-clause-asked g c =
    let count = g.F.Folder.fetch_count in
    asked-second (g.F.Folder.texts c.args.folder.now) c.args.flow.now c.args.offers.now c.in_ok-flow.flow (count c.args.folder.now) (count c.fetch_flow.new.folder) (count c.fetch_offers.new.folder)
    c.in_ok-flow.ensures.flow c.fetch_flow.ensures.counted c.fetch_offers.ensures.counted

pub returns-clause-asked : goal.returns-clause-asked
returns-clause-asked g c =
    let count = g.F.Folder.fetch_count in
    asked-second (g.F.Folder.texts c.args.folder.now) c.args.flow.now c.args.offers.now c.in_ok-flow.flow (count c.args.folder.now) (count c.fetch_flow.new.folder) (count c.fetch_offers.new.folder)
    c.in_ok-flow.ensures.flow c.fetch_flow.ensures.counted c.fetch_offers.ensures.counted

pub returns-clause-answer : goal.returns-clause-answer
returns-clause-answer g c =
    let told = g.F.Folder.texts in
    choose-answered (told c.args.folder.now) (told c.fetch_flow.new.folder) c.args.flow.now c.args.offers.now (string_bytes c.in_ok-answer.answer.text) c.in_ok-flow.flow c.in_ok-offers.offers c.as_slice.result.now c.in_ok-answer.answer.status
    c.fetch_flow.ensures.texts_stay c.in_ok-flow.ensures.flow c.in_ok-offers.ensures.offers c.as_slice.ensures c.in_ok-answer.ensures
