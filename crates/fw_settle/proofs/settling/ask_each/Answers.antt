use Rattle.std.proofs.Common.{◌≡◌, ◌+◌, rules, Some, None, Err, ap, refl, subst, ◌∙◌, length}
use Rattle.fw_running.specs.declared.running.Running.{Running}
use Rattle.fw_running.specs.Faults.{faults_after_step}
use Rattle.fw_running.specs.Steps.{PartAnswers}
use Rattle.fw_running.proofs.StepLaws.{part-err}
use Rattle.fw_settle.specs.Settling.{HasEagerToSettle, IsFoundToSettle}
use Rattle.fw_settle.proofs.AskLaws.{adds-refused}
use Rattle.fw_settle.proofs.SearchLaws.{HaveAskedUpTo, asking-first, asking-next, asking-all, has_eager, keep-both, drawn_up_to, drawing-next, drawing-last}
use Rattle.fw_running.proofs.DrawnLaws.{draws_nothing}
use Rattle.fw_running.specs.Drawn.{DrawsAtMost}
use Rattle.fw_settle.proofs.settling.ask_each.Goals as goal

pub loop-next-init : goal.loop-next-init
loop-next-init g c = record {
  others = refl;
  shaped = c.requires.shaped;
  stored = c.requires.stored;
  asked = asking-first c.args.running.now (g.K.Store.view c.args.store.now).records c.grown_from-next.result c.grown_from-next.ensures;
  tells = refl;
  quiet = λ none. refl;
  faults = refl;
  draws = draws_nothing _ _ _;
}

pub loop-next-preserved : goal.loop-next-preserved
loop-next-preserved g c =
    let old = c.args.running.now in
    let mid = c.loop-next.running in
    let new = c.ask_if_eager.new.running in
    let before = (g.K.Store.view c.args.store.now).records in
    let between = (g.K.Store.view c.loop-next.store).records in
    let after = (g.K.Store.view c.ask_if_eager.new.store).records in
    let node = c.in-Some.node in
    let next : c.loop-next.next ≡ Some node = search rules in
    record {
      others = keep-both old mid new c.loop-next.invariant.others c.ask_if_eager.ensures.others;
      shaped = c.ask_if_eager.ensures.shaped;
      stored = c.ask_if_eager.ensures.part.stored;
      asked = asking-next old mid new before between after node c.grown_from-next-in-Some.result c.loop-next.invariant.others
          (subst (HaveAskedUpTo old mid before between) next c.loop-next.invariant.asked) c.in_ok-ask_if_eager.ensures.asked
          (subst (λ n. IsFoundToSettle new (n + 1) c.grown_from-next-in-Some.result) c.place.ensures c.grown_from-next-in-Some.ensures);
      tells = c.ask_if_eager.ensures.part.tells ∙ c.loop-next.invariant.tells;
      quiet = λ none. c.ask_if_eager.ensures.part.quiet (λ is. none (has_eager old mid before between node c.loop-next.invariant.others
          (subst (HaveAskedUpTo old mid before between) next c.loop-next.invariant.asked) is)) ∙ c.loop-next.invariant.quiet none;
      faults = c.in_ok-ask_if_eager.ensures.part.faults ∙ c.loop-next.invariant.faults;
      draws = drawing-next old mid new before between after node c.grown_from-next-in-Some.result c.loop-next.invariant.others
          (subst (HaveAskedUpTo old mid before between) next c.loop-next.invariant.asked)
          (subst (λ n. IsFoundToSettle new (n + 1) c.grown_from-next-in-Some.result) c.place.ensures c.grown_from-next-in-Some.ensures)
          (subst (λ n. DrawsAtMost (drawn_up_to (length old.flow.nodes) n) old.parts.keep mid.parts.keep before between) next c.loop-next.invariant.draws)
          c.ask_if_eager.ensures.draws;
    }

pub returns-clause-asked : goal.returns-clause-asked
returns-clause-asked g c =
    let old = c.args.running.now in
    let before = (g.K.Store.view c.args.store.now).records in
    let after = (g.K.Store.view c.loop-next.store).records in
    let next : c.loop-next.next ≡ None = search rules in
    asking-all old c.loop-next.running before after c.loop-next.invariant.others
    (subst (HaveAskedUpTo old c.loop-next.running before after) next c.loop-next.invariant.asked)

pub returns-in_err-ask_if_eager-clause-adds : goal.returns-in_err-ask_if_eager-clause-adds
returns-in_err-ask_if_eager-clause-adds g c =
    adds-refused c.args.running.now.parts.keep.entries c.loop-next.running.parts.keep c.ask_if_eager.new.running.parts.keep
    (g.K.Store.view c.args.store.now).records (g.K.Store.view c.loop-next.store).records (g.K.Store.view c.ask_if_eager.new.store).records
    c.loop-next.invariant.asked.asked.adds c.in_err-ask_if_eager.ensures.stays

pub returns-in_err-ask_if_eager-clause-part : goal.returns-in_err-ask_if_eager-clause-part
returns-in_err-ask_if_eager-clause-part g c =
    let h = c.loop-next.invariant in
    let part = c.in_err-ask_if_eager.ensures.part in
    let old = c.args.running.now in
    let mid = c.loop-next.running in
    let before = (g.K.Store.view c.args.store.now).records in
    let between = (g.K.Store.view c.loop-next.store).records in
    let next : c.loop-next.next ≡ Some c.in-Some.node = search rules in
    let eager = has_eager old mid before between c.in-Some.node h.others (subst (HaveAskedUpTo old mid before between) next h.asked) in
    let all : PartAnswers {T = Unit {0}} g.K.Store.view (HasEagerToSettle old) c.args.running.now c.args.store.now (Err c.in_err-ask_if_eager.field-0.0)
    c.ask_if_eager.new.running c.ask_if_eager.new.store = record {
      stored = part.stored;
      flow = part.flow ∙ ap (λ (r : Running). r.flow) h.others;
      faults = part.faults ∙ ap (faults_after_step {T = Unit {0}} (Err c.in_err-ask_if_eager.field-0.0)) h.faults;
      calls = λ f. eager (part.calls f);
      undamaged = part.undamaged;
      tells = part.tells ∙ h.tells;
      quiet = λ none. part.quiet (λ is. none (eager is)) ∙ h.quiet none;
    } in
    part-err all c.from_residual.ensures.1

pub returns-in_err-ask_if_eager-clause-draws : goal.returns-in_err-ask_if_eager-clause-draws
returns-in_err-ask_if_eager-clause-draws g c =
    let old = c.args.running.now in
    let mid = c.loop-next.running in
    let before = (g.K.Store.view c.args.store.now).records in
    let between = (g.K.Store.view c.loop-next.store).records in
    let next : c.loop-next.next ≡ Some c.in-Some.node = search rules in
    drawing-last old mid c.ask_if_eager.new.running before between (g.K.Store.view c.ask_if_eager.new.store).records c.in-Some.node c.loop-next.invariant.others
    (subst (HaveAskedUpTo old mid before between) next c.loop-next.invariant.asked)
    (subst (λ n. DrawsAtMost (drawn_up_to (length old.flow.nodes) n) old.parts.keep mid.parts.keep before between) next c.loop-next.invariant.draws)
    c.ask_if_eager.ensures.draws

pub returns-clause-draws : goal.returns-clause-draws
returns-clause-draws g c =
    let old = c.args.running.now in
    let now = c.loop-next.running in
    let next : c.loop-next.next ≡ None = search rules in
    subst (λ n. DrawsAtMost (drawn_up_to (length old.flow.nodes) n) old.parts.keep now.parts.keep (g.K.Store.view c.args.store.now).records
    (g.K.Store.view c.loop-next.store).records) next c.loop-next.invariant.draws
