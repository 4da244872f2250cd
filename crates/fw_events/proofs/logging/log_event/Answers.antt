use Rattle.fw_record.specs.declared.record.Record.TheVariants as tagged
use Rattle.fw_running.proofs.AnswerLaws.{asking-tells}
use Rattle.fw_events.proofs.TakenShapes.{shaped-asked}
use Rattle.fw_events.proofs.logging.log_event.Goals as goal

pub returns-clause-shaped : goal.returns-clause-shaped
returns-clause-shaped g c =
    shaped-asked c.ask.result c.args.running.now c.ask.new.self c.args.node c.args.event c.no_stamps.result
    (g.K.Store.view c.args.store.now).records (g.K.Store.view c.ask.new.store).records
    c.requires.shaped c.ask.ensures.others c.requires.stamp c.ask.ensures.asked c.ask.ensures.stays

pub returns-clause-tells : goal.returns-clause-tells
returns-clause-tells g c =
    asking-tells c.ask.result (tagged.Event c.args.node c.args.event) c.no_stamps.result c.args.running.now.parts.keep c.ask.new.self.parts.keep
    (g.K.Store.view c.args.store.now).records (g.K.Store.view c.ask.new.store).records c.ask.ensures.asked c.ask.ensures.stays
