use Rattle.std.proofs.Common.{◌≡◌, length, subst, arith}
use Rattle.fw_model.specs.Choice.{cut_of}
use Rattle.fw_recover.specs.CutTraces.{AreTracesCut, AreTracesCutAt}
use Rattle.fw_recover.proofs.CutLaws.{traces-none, traces-more}
use Rattle.fw_recover.proofs.rebuild.cut_traces.Goals as goal

pub loop-place-init : goal.loop-place-init
loop-place-init c = record {
  cut = traces-none c.args.flow.now c.args.entries.now c.args.choice.now c.args.traces.now;
  live = c.requires.live;
  lists = c.requires.lists;
}

pub loop-place-preserved : goal.loop-place-preserved
loop-place-preserved c =
    let flow = c.args.flow.now in
    let es = c.args.entries.now in
    let choice = c.args.choice.now in
    let step = subst (λ n. AreTracesCutAt flow es n (cut_of choice n) c.loop-place.traces c.cut_at.new.traces) c.at.ensures c.in_ok-cut_at.ensures.cut in
    record {
      cut = traces-more flow es choice c.loop-place.place c.args.traces.now c.loop-place.traces c.cut_at.new.traces c.loop-place.invariant.cut step;
      live = c.in_ok-cut_at.ensures.live;
      lists = c.in_ok-cut_at.ensures.lists;
    }

pub returns-clause-cut : goal.returns-clause-cut
returns-clause-cut c =
    let all : c.loop-place.place ≡ length c.args.flow.now.nodes = omega (arith, c.loop-place-test.false, c.loop-place.auto.place-end, c.nodes-place-end.ensures.count) in
    subst (λ n. AreTracesCut c.args.flow.now c.args.entries.now c.args.choice.now n c.args.traces.now c.loop-place.traces) all c.loop-place.invariant.cut
