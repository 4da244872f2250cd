use Rattle.std.proofs.Common.{ℕ, List, [], refl}
use Rattle.std.proofs.lemmas.Result.{err_from_is_err_and}
use Rattle.fw_bag.specs.declared.rec.Rec.{Rec}
use Rattle.fw_flow.specs.Dataflow.{Dataflow}
use Rattle.fw_command.specs.declared.reading.Fed.{Fed}
use Rattle.fw_command.proofs.ReadCounts.{read_passed}
use Rattle.fw_command.proofs.TextLaws.{fed_read, fetched_second}
use Rattle.fw_command.specs.Words.{system_names_in}
use Rattle.fw_command.proofs.reading.read_fed.Goals as goal

pub returns-in_err-flow-clause-faults : goal.returns-in_err-flow-clause-faults
returns-in_err-flow-clause-faults g c =
    let p = err_from_is_err_and c.from_residual.result c.from_residual.ensures.1 in
    let count = g.F.Folder.fault_count in
    rw (p.1, p.2) (read_passed Dataflow Fed _ (count c.args.folder.now) (count c.args.folder.now) (count c.fetch_flow.new.folder) refl c.in_err-flow.ensures.faults)

pub returns-in_err-batches-clause-faults : goal.returns-in_err-batches-clause-faults
returns-in_err-batches-clause-faults g c =
    let p = err_from_is_err_and c.from_residual-in_err-batches.result c.from_residual-in_err-batches.ensures.1 in
    let count = g.F.Folder.fault_count in
    rw (p.1, p.2) (read_passed (List (ℕ × List (List Rec))) Fed _ (count c.args.folder.now) (count c.fetch_flow.new.folder) (count c.fetch_inputs.new.folder) c.in_ok-flow.ensures.faults c.in_err-batches.ensures.faults)

pub returns-clause-fed : goal.returns-clause-fed
returns-clause-fed g c =
    let told = g.F.Folder.texts in
    fed_read (told c.args.folder.now) (told c.fetch_flow.new.folder) (system_names_in c.args.names.now) (record { flow = c.in_ok-flow.flow; batches = c.in_ok-batches.batches })
    c.fetch_flow.ensures.texts_stay c.in_ok-flow.ensures.flow c.in_ok-batches.ensures.batches

pub returns-in_err-batches-clause-asked_no_more : goal.returns-in_err-batches-clause-asked_no_more
returns-in_err-batches-clause-asked_no_more g c =
    let count = g.F.Folder.fetch_count in
    fetched_second (g.F.Folder.texts c.args.folder.now) (system_names_in c.args.names.now).flow (system_names_in c.args.names.now).inputs [] c.in_ok-flow.flow (count c.args.folder.now) (count c.fetch_flow.new.folder) (count c.fetch_inputs.new.folder)
    c.in_ok-flow.ensures.flow c.fetch_flow.ensures.counted c.fetch_inputs.ensures.counted

pub returns-clause-asked_no_more : goal.returns-clause-asked_no_more
returns-clause-asked_no_more g c =
    let count = g.F.Folder.fetch_count in
    fetched_second (g.F.Folder.texts c.args.folder.now) (system_names_in c.args.names.now).flow (system_names_in c.args.names.now).inputs [] c.in_ok-flow.flow (count c.args.folder.now) (count c.fetch_flow.new.folder) (count c.fetch_inputs.new.folder)
    c.in_ok-flow.ensures.flow c.fetch_flow.ensures.counted c.fetch_inputs.ensures.counted
