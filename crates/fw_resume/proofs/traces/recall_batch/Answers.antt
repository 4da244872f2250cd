use Rattle.std.proofs.Common.{◌≡◌, ◌<◌, [], ◌∷◌, true, false, length, map, sym, subst, arith}
use Rattle.std.specs.List.{flat_map}
use Rattle.std.proofs.lemmas.Bool.{ltb-false}
use Rattle.std.proofs.lemmas.Result.{on_ok_weaker}
use Rattle.fw_frontier.specs.Front.{inside}
use Rattle.fw_flow.specs.Dataflow.{out_edges}
use Rattle.fw_resume.specs.Recalled.{HaveRecalled, sending_on}
use Rattle.fw_resume.proofs.RecallLaws.{batch-is, batch-recalled, inside-recalled, past-recalled}
use Rattle.fw_resume.proofs.traces.recall_batch.Goals as goal

pub returns-in_default-clause-recalled : goal.returns-in_default-clause-recalled
returns-in_default-clause-recalled c =
    past-recalled (λ b. b.recs) c.args.batches.now c.args.flow.now c.args.node c.args.low.now c.args.epoch c.args.traces.now
    (ltb-false c.args.epoch (length c.args.batches.now) (sym c.in_default.ensures.lookup.0))

pub returns-then-contains-clause-recalled : goal.returns-then-contains-clause-recalled
returns-then-contains-clause-recalled c =
    let within : inside c.args.low.now (c.args.epoch ∷ []) ≡ true = cc in
    inside-recalled c.args.flow.now c.args.node c.args.low.now (map (λ b. b.recs) c.args.batches.now) c.args.epoch c.args.traces.now within

pub returns-clause-recalled : goal.returns-clause-recalled
returns-clause-recalled c =
    let flow = c.args.flow.now in
    let out : inside c.args.low.now (c.args.epoch ∷ []) ≡ false = cc in
    let l : c.args.epoch < length c.args.batches.now = grind arith in
    let is = batch-is (λ b. b.recs) c.args.batches.now c.args.epoch c.in-Some.batch.now l c.in-Some.ensures.lookup.1 in
    on_ok_weaker c.recall_out.result
    (λ m. batch-recalled flow c.args.node c.args.low.now (map (λ b. b.recs) c.args.batches.now) c.args.epoch c.args.traces.now c.recall_out.new.traces out
    (subst (λ rs. HaveRecalled (flat_map (sending_on flow rs (c.args.epoch ∷ [])) (out_edges flow c.args.node)) c.args.traces.now c.recall_out.new.traces) (sym is) m))
    c.recall_out.ensures.recalled
