use Rattle.std.proofs.Common.{◌≡◌, rules, Some, None, refl, sym, subst, ap}
use Rattle.fw_flow.specs.declared.step.Step.TheVariants.{Persist}
use Rattle.fw_keep.specs.Catalogue.{KeepState, oldest}
use Rattle.fw_model.specs.Steps.{did, idle, silent}
use Rattle.fw_running.specs.Drawn.{supply}
use Rattle.fw_running.specs.Logging.{with_keep}
use Rattle.fw_running.specs.Steps.{Follows}
use Rattle.fw_running.proofs.StepLaws.{ok-unfaulted}
use Rattle.fw_settle.proofs.WritesLaws.{persist-some, persist-none, persisted-shaped}
use Rattle.fw_settle.proofs.checkpoints.persist.Goals as goal

pub returns-in-Some-clause-answers : goal.returns-in-Some-clause-answers
returns-in-Some-clause-answers c =
    let old = c.args.running.now in
    let first : oldest old.parts.keep.entries ≡ Some c.in-Some._id = search rules in
    record {
      shaped = persisted-shaped old c.persist_one.new.self c.requires.shaped c.persist_one.ensures.acknowledged;
      stored = c.persist_one.ensures.stored;
      flow = refl;
      takes = λ records sys state s trust.
          subst (λ (k : KeepState). Follows sys state Persist (did silent) (with_keep k old) records) (sym c.persist_one.ensures.acknowledged)
          (persist-some sys state old records s c.in-Some._id first);
      unfaulted = ok-unfaulted;
      undamaged = tt;
    }

pub returns-in-None-clause-answers : goal.returns-in-None-clause-answers
returns-in-None-clause-answers c =
    let old = c.args.running.now in
    let none : oldest old.parts.keep.entries ≡ None = search rules in
    record {
      shaped = persisted-shaped old c.persist_one.new.self c.requires.shaped c.persist_one.ensures.acknowledged;
      stored = c.persist_one.ensures.stored;
      flow = refl;
      takes = λ records sys state s trust.
          subst (λ (k : KeepState). Follows sys state Persist idle (with_keep k old) records) (sym c.persist_one.ensures.acknowledged)
          (persist-none sys state old records s none);
      unfaulted = ok-unfaulted;
      undamaged = tt;
    }

pub returns-in-Some-clause-draws : goal.returns-in-Some-clause-draws
returns-in-Some-clause-draws c = ap supply c.persist_one.ensures.acknowledged

pub returns-in-None-clause-draws : goal.returns-in-None-clause-draws
returns-in-None-clause-draws c = ap supply c.persist_one.ensures.acknowledged
