use Rattle.std.proofs.Common.{Ok, refl, sym, ap, subst, ◌∙◌}
use Rattle.std.specs.List.{list_any}
use Rattle.fw_flow.specs.declared.step.Step.TheVariants as steps
use Rattle.fw_keep.specs.Stored.{IsStored}
use Rattle.fw_outside.proofs.ToldLaws.{told-before}
use Rattle.fw_rollback.specs.declared.parts.Parts.{Parts}
use Rattle.fw_running.specs.declared.stepped.Effect.TheVariants.{Cuts}
use Rattle.fw_running.specs.declared.stepped.Stepped.{Stepped}
use Rattle.fw_running.specs.declared.stepped.Stepped.TheVariants.{Did}
use Rattle.fw_running.specs.Drawn.{supply}
use Rattle.fw_running.specs.Faults.{fault_of}
use Rattle.fw_running.specs.Shaped.{IsShaped}
use Rattle.fw_running.proofs.AnswerLaws.{no_damage}
use Rattle.fw_running.proofs.SameStateLaws.{told-recovers, told-shows, told-takes}
use Rattle.fw_running.proofs.StepLaws.{busy, fault-counts, recovery-answers, recovery-fails, recovery-refused}
use Rattle.fw_recover.proofs.FollowedLaws.{followed-recovered, followed-shaped, queues-at_receivers}
use Rattle.fw_recover.proofs.RecoverStepLaws.{held-done, held-idle, recovery-done, recovery-shows, refused-damage, refused-held, refused-stands, some-down, unanswered-held}
use Rattle.fw_running.proofs.DrawnLaws.{draws_none}
use Rattle.fw_recover.proofs.recovery.recover.Goals as goal

pub returns-then-not-any_of-clause-held : goal.returns-then-not-any_of-clause-held
returns-then-not-any_of-clause-held g c =
    held-idle c.args.running.now (g.K.Store.view c.args.store.now).records
    (sym (c.any_of.ensures ∙ ap (list_any (λ down. down)) c.deref.ensures.value) ∙ c.if-not-any_of.true)

pub returns-in_err-choice-clause-answers : goal.returns-in_err-choice-clause-answers
returns-in_err-choice-clause-answers g c = recovery-refused c.from_residual.ensures.1 c.requires.stored refl refl (λ told. told)

pub returns-in_err-choice-clause-held : goal.returns-in_err-choice-clause-held
returns-in_err-choice-clause-held g c =
    let old = c.args.running.now in
    let records = (g.K.Store.view c.args.store.now).records in
    unanswered-held old old records records c.from_residual.result c.from_residual.ensures.1

pub returns-in_err-restore-clause-answers : goal.returns-in_err-restore-clause-answers
returns-in_err-restore-clause-answers g c =
    let old = c.args.running.now in
    let choice = c.in_ok-choice.choice in
    let before = g.K.Store.view c.args.store.now in
    let after = g.K.Store.view c.restore.new.store in
    let f = c.in_err-restore.field-0.0 in
    let result = c.from_residual-in_err-restore.result in
    let is = c.from_residual-in_err-restore.ensures.1 in
    let restored = c.in_err-restore.ensures in
    let some = some-down old.failed.items c.any_of.result (c.any_of.ensures ∙ ap (list_any (λ down. down)) c.deref.ensures.value) c.if-not-any_of.false in
    recovery-fails (fault_of f) is
    (subst (λ (parts : Parts). IsShaped (record old { parts = parts })) (sym restored.kept) c.requires.shaped) restored.stored refl
    (told-takes old (record old { parts = c.restore.new.parts }) before.records after.records steps.Recover result c.restore.ensures.stays
    (refused-stands old c.restore.new.parts choice after.records after.given f result c.requires.shaped some c.in_ok-choice.ensures.of_state restored.kept is restored.of_reading))
    (restored.faults ∙ fault-counts (Unit {0}) Stepped f before.faults) (refused-damage old choice after.records after.given f result c.in_ok-choice.ensures.of_state is restored.of_reading)
    (told-before before.records after.records c.restore.ensures.stays)

pub returns-in_err-restore-clause-held : goal.returns-in_err-restore-clause-held
returns-in_err-restore-clause-held g c =
    let old = c.args.running.now in
    let choice = c.in_ok-choice.choice in
    let before = g.K.Store.view c.args.store.now in
    let after = g.K.Store.view c.restore.new.store in
    let f = c.in_err-restore.field-0.0 in
    let result = c.from_residual-in_err-restore.result in
    let is = c.from_residual-in_err-restore.ensures.1 in
    let restored = c.in_err-restore.ensures in
    let some = some-down old.failed.items c.any_of.result (c.any_of.ensures ∙ ap (list_any (λ down. down)) c.deref.ensures.value) c.if-not-any_of.false in
    told-recovers old (record old { parts = c.restore.new.parts }) before.records after.records result c.restore.ensures.stays
    (refused-held old c.restore.new.parts choice after.records after.given f result c.requires.shaped some restored.kept is restored.of_reading)

pub returns-in_err-follow-clause-answers : goal.returns-in_err-follow-clause-answers
returns-in_err-follow-clause-answers g c =
    let restored = c.in_ok-restore.ensures in
    recovery-refused c.from_residual-in_err-follow.ensures.1
    (subst (λ (parts : Parts). IsStored parts.keep (g.K.Store.view c.restore.new.store).records) (sym c.follow.ensures.parts) restored.stored)
    c.follow.ensures.flow restored.faults (told-before _ _ c.restore.ensures.stays)

pub returns-in_err-follow-clause-held : goal.returns-in_err-follow-clause-held
returns-in_err-follow-clause-held g c =
    unanswered-held c.args.running.now c.follow.new.running (g.K.Store.view c.args.store.now).records (g.K.Store.view c.restore.new.store).records
    c.from_residual-in_err-follow.result c.from_residual-in_err-follow.ensures.1

pub follow-requires-clause-queues : goal.follow-requires-clause-queues
follow-requires-clause-queues g c =
    queues-at_receivers c.in_ok-choice.choice (g.K.Store.view c.restore.new.store).records c.args.running.now c.restore.new.parts c.requires.shaped c.in_ok-restore.ensures.restored
    c.restore.ensures.each

pub returns-clause-answers : goal.returns-clause-answers
returns-clause-answers g c =
    let old = c.args.running.now in
    let choice = c.in_ok-choice.choice in
    let before = (g.K.Store.view c.args.store.now).records in
    let records = (g.K.Store.view c.restore.new.store).records in
    let stays = c.restore.ensures.stays in
    let restored = c.in_ok-restore.ensures in
    let followed = c.in_ok-follow.ensures in
    let made = followed-recovered choice records old c.follow.new.running c.restore.new.parts restored.restored followed.followed followed.flow followed.parts in
    let some = some-down old.failed.items c.any_of.result (c.any_of.ensures ∙ ap (list_any (λ down. down)) c.deref.ensures.value) c.if-not-any_of.false in
    let of_state = c.in_ok-choice.ensures.of_state in
    recovery-answers
    (followed-shaped choice records old c.follow.new.running c.restore.new.parts c.requires.shaped restored.restored restored.each followed.followed followed.flow
    followed.parts)
    (subst (λ (parts : Parts). IsStored parts.keep (g.K.Store.view c.restore.new.store).records) (sym followed.parts) restored.stored) followed.flow
    (told-takes old c.follow.new.running before records steps.Recover (Ok (Did (Cuts choice))) stays
    (recovery-done old c.follow.new.running records choice c.requires.shaped some of_state made))
    (told-shows old before records steps.Recover (Ok (Did (Cuts choice))) stays
    (recovery-shows old c.follow.new.running records choice c.requires.shaped some of_state made)) restored.faults (λ id e. absurd (no_damage {T = Stepped} (Ok (Did (Cuts choice))) id tt e))
    (told-before before records stays) busy

pub returns-clause-held : goal.returns-clause-held
returns-clause-held g c =
    let old = c.args.running.now in
    let choice = c.in_ok-choice.choice in
    let before = (g.K.Store.view c.args.store.now).records in
    let records = (g.K.Store.view c.restore.new.store).records in
    let restored = c.in_ok-restore.ensures in
    let followed = c.in_ok-follow.ensures in
    let made = followed-recovered choice records old c.follow.new.running c.restore.new.parts restored.restored followed.followed followed.flow followed.parts in
    let some = some-down old.failed.items c.any_of.result (c.any_of.ensures ∙ ap (list_any (λ down. down)) c.deref.ensures.value) c.if-not-any_of.false in
    told-recovers old c.follow.new.running before records (Ok (Did (Cuts choice))) c.restore.ensures.stays
    (held-done old c.follow.new.running records choice c.requires.shaped some c.in_ok-choice.ensures.of_held made)

pub returns-in_err-restore-clause-draws : goal.returns-in_err-restore-clause-draws
returns-in_err-restore-clause-draws g c = draws_none (ap (λ (parts : Parts). supply parts.keep) c.in_err-restore.ensures.kept) c.restore.ensures.stays

pub returns-in_err-follow-clause-draws : goal.returns-in_err-follow-clause-draws
returns-in_err-follow-clause-draws g c =
    draws_none (ap (λ (parts : Parts). supply parts.keep) c.follow.ensures.parts ∙ ap supply c.in_ok-restore.ensures.restored.restored.entries)
    c.restore.ensures.stays

pub returns-clause-draws : goal.returns-clause-draws
returns-clause-draws g c =
    draws_none (ap (λ (parts : Parts). supply parts.keep) c.follow.ensures.parts ∙ ap supply c.in_ok-restore.ensures.restored.restored.entries)
    c.restore.ensures.stays
