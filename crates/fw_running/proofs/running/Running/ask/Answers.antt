use Rattle.fw_record.specs.Spelling.{spelling}
use Rattle.fw_running.proofs.DrawnLaws.{draws_asked}
use Rattle.fw_running.proofs.running.Running.ask.Goals as goal

pub returns-in_err-ask-clause-draws : goal.returns-in_err-ask-clause-draws
returns-in_err-ask-clause-draws g c =
    draws_asked c.ask.result c.args.self.now.parts.keep c.ask.new.self (spelling c.args.what.now) (g.K.Store.view c.args.store.now).records
    (g.K.Store.view c.ask.new.store).records c.ask.ensures.drawn c.ask.ensures.shared c.ask.ensures.put c.ask.ensures.freed

pub returns-clause-draws : goal.returns-clause-draws
returns-clause-draws g c =
    draws_asked c.ask.result c.args.self.now.parts.keep c.ask.new.self (spelling c.args.what.now) (g.K.Store.view c.args.store.now).records
    (g.K.Store.view c.ask.new.store).records c.ask.ensures.drawn c.ask.ensures.shared c.ask.ensures.put c.ask.ensures.freed
