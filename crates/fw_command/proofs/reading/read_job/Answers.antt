use Rattle.std.proofs.Common.{◌≡◌, ℕ, List, [], ◌∷◌, refl, ◌∙◌}
use Rattle.std.proofs.lemmas.Result.{err_from_is_err_and}
use Rattle.fw_bag.specs.declared.rec.Rec.{Rec}
use Rattle.fw_flow.specs.Dataflow.{Dataflow}
use Rattle.fw_schedule.specs.declared.item.Item.{Item}
use Rattle.fw_command.specs.declared.reading.Job.{Job}
use Rattle.fw_command.proofs.ReadCounts.{read_passed}
use Rattle.fw_command.proofs.TextLaws.{job_read_in_turn, fetched_second, fetched_third, refused_third}
use Rattle.fw_command.specs.Command.{as_schedule}
use Rattle.fw_command.specs.Words.{text_names_in}
use Rattle.fw_command.proofs.reading.read_job.Goals as goal

pub returns-in_err-flow-clause-faults : goal.returns-in_err-flow-clause-faults
returns-in_err-flow-clause-faults g c =
    let p = err_from_is_err_and c.from_residual.result c.from_residual.ensures.1 in
    let count = g.F.Folder.fault_count in
    rw (p.1, p.2) (read_passed Dataflow Job _ (count c.args.folder.now) (count c.args.folder.now) (count c.fetch_flow.new.folder) refl c.in_err-flow.ensures.faults)

pub returns-in_err-batches-clause-faults : goal.returns-in_err-batches-clause-faults
returns-in_err-batches-clause-faults g c =
    let p = err_from_is_err_and c.from_residual-in_err-batches.result c.from_residual-in_err-batches.ensures.1 in
    let count = g.F.Folder.fault_count in
    rw (p.1, p.2) (read_passed (List (ℕ × List (List Rec))) Job _ (count c.args.folder.now) (count c.fetch_flow.new.folder) (count c.fetch_inputs.new.folder) c.in_ok-flow.ensures.faults c.in_err-batches.ensures.faults)

pub returns-in_err-items-clause-faults : goal.returns-in_err-items-clause-faults
returns-in_err-items-clause-faults g c =
    let p = err_from_is_err_and c.from_residual-in_err-items.result c.from_residual-in_err-items.ensures.1 in
    let count = g.F.Folder.fault_count in
    let same : count c.fetch_inputs.new.folder ≡ count c.args.folder.now = c.in_ok-batches.ensures.faults ∙ c.in_ok-flow.ensures.faults in
    rw (p.1, p.2) (read_passed (List Item) Job _ (count c.args.folder.now) (count c.fetch_inputs.new.folder) (count c.fetch_schedule.new.folder) same c.in_err-items.ensures.faults)

pub returns-clause-job : goal.returns-clause-job
returns-clause-job g c =
    let told = g.F.Folder.texts in
    job_read_in_turn (told c.args.folder.now) (told c.fetch_flow.new.folder) (told c.fetch_inputs.new.folder) (text_names_in c.args.words.now)
    (record { flow = c.in_ok-flow.flow; batches = c.in_ok-batches.batches; items = c.in_ok-items.items })
    c.fetch_flow.ensures.texts_stay c.fetch_inputs.ensures.texts_stay c.in_ok-flow.ensures.flow c.in_ok-batches.ensures.batches c.in_ok-items.ensures.items

pub returns-in_err-batches-clause-asked_no_more : goal.returns-in_err-batches-clause-asked_no_more
returns-in_err-batches-clause-asked_no_more g c =
    let count = g.F.Folder.fetch_count in
    let names = text_names_in c.args.words.now in
    fetched_second (g.F.Folder.texts c.args.folder.now) names.flow names.inputs (record { name = names.schedule; read = as_schedule } ∷ []) c.in_ok-flow.flow (count c.args.folder.now) (count c.fetch_flow.new.folder) (count c.fetch_inputs.new.folder)
    c.in_ok-flow.ensures.flow c.fetch_flow.ensures.counted c.fetch_inputs.ensures.counted

pub returns-in_err-items-clause-asked_no_more : goal.returns-in_err-items-clause-asked_no_more
returns-in_err-items-clause-asked_no_more g c =
    let count = g.F.Folder.fetch_count in
    let told = g.F.Folder.texts in
    fetched_third (told c.args.folder.now) (told c.fetch_flow.new.folder) (text_names_in c.args.words.now) c.in_ok-flow.flow c.in_ok-batches.batches (count c.args.folder.now) (count c.fetch_flow.new.folder) (count c.fetch_inputs.new.folder) (count c.fetch_schedule.new.folder)
    c.fetch_flow.ensures.texts_stay c.in_ok-flow.ensures.flow c.in_ok-batches.ensures.batches c.fetch_flow.ensures.counted c.fetch_inputs.ensures.counted c.fetch_schedule.ensures.counted

pub returns-clause-asked_no_more : goal.returns-clause-asked_no_more
returns-clause-asked_no_more g c =
    let count = g.F.Folder.fetch_count in
    let told = g.F.Folder.texts in
    fetched_third (told c.args.folder.now) (told c.fetch_flow.new.folder) (text_names_in c.args.words.now) c.in_ok-flow.flow c.in_ok-batches.batches (count c.args.folder.now) (count c.fetch_flow.new.folder) (count c.fetch_inputs.new.folder) (count c.fetch_schedule.new.folder)
    c.fetch_flow.ensures.texts_stay c.in_ok-flow.ensures.flow c.in_ok-batches.ensures.batches c.fetch_flow.ensures.counted c.fetch_inputs.ensures.counted c.fetch_schedule.ensures.counted

pub returns-in_err-items-clause-refused : goal.returns-in_err-items-clause-refused
returns-in_err-items-clause-refused g c =
    let p = err_from_is_err_and c.from_residual-in_err-items.result c.from_residual-in_err-items.ensures.1 in
    let told = g.F.Folder.texts in
    rw (p.1, p.2) (refused_third (told c.args.folder.now) (told c.fetch_flow.new.folder) (told c.fetch_inputs.new.folder) (text_names_in c.args.words.now) c.in_ok-flow.flow c.in_ok-batches.batches _
    c.fetch_flow.ensures.texts_stay c.fetch_inputs.ensures.texts_stay c.in_ok-flow.ensures.flow c.in_ok-batches.ensures.batches c.in_err-items.ensures.refused)
