use Rattle.std.proofs.Common.{sym, subst}
use Rattle.std.specs.Prelude.{OnOk}
use Rattle.fw_model.specs.Offers.{IsRecordOf}
use Rattle.fw_keep.specs.Entry.{IsBased}
use Rattle.fw_running.specs.Logging.{IsAsked}
use Rattle.fw_settle.specs.Checkpoints.{next_base}
use Rattle.fw_running.proofs.AnswerLaws.{asking-tells}
use Rattle.fw_settle.proofs.AskLaws.{asks-next}
use Rattle.fw_settle.proofs.BaseLaws.{based-asked}
use Rattle.fw_settle.proofs.ShapeLaws.{shaped-answer}
use Rattle.fw_settle.proofs.asking.ask_checkpoint.Goals as goal

pub ask-requires-clause-based : goal.ask-requires-clause-based
ask-requires-clause-based g c =
    let running = c.args.running.now in
    let made = c.in_ok-what.ensures in
    subst (IsBased running.parts.keep.entries) (sym made.is) (based-asked c.args.node running.parts.keep.entries made.checkpoint made.made.node)

pub returns-clause-shaped : goal.returns-clause-shaped
returns-clause-shaped g c =
    let running = c.args.running.now in
    let made = c.in_ok-what.ensures in
    let before = (g.K.Store.view c.args.store.now).records in
    let after = (g.K.Store.view c.ask.new.store).records in
    shaped-answer c.ask.result running c.ask.new.self (next_base c.args.node running.parts.keep.entries) made.checkpoint c.in_ok-stamps.stamps before after
    c.requires.shaped c.ask.ensures.others
    (subst (λ r. OnOk c.ask.result (IsAsked r c.in_ok-stamps.stamps running.parts.keep.entries c.ask.new.self.parts.keep.entries before after)) made.is c.ask.ensures.asked)
    c.ask.ensures.stays (subst (λ n. IsRecordOf running.flow n made.checkpoint.recorded) (sym made.made.node) made.of_flow)

pub returns-clause-asked : goal.returns-clause-asked
returns-clause-asked g c =
    asks-next c.ask.result c.args.node c.args.front.now c.args.running.now c.ask.new.self (g.K.Store.view c.args.store.now).records (g.K.Store.view c.ask.new.store).records
    c.in_ok-what.what c.in_ok-stamps.stamps c.ask.ensures.asked c.in_ok-what.ensures (λ sys h e epochs legal t. c.in_ok-stamps.ensures.stamps sys h e epochs legal t)

pub returns-clause-tells : goal.returns-clause-tells
returns-clause-tells g c =
    asking-tells c.ask.result c.in_ok-what.what c.in_ok-stamps.stamps c.args.running.now.parts.keep
    c.ask.new.self.parts.keep (g.K.Store.view c.args.store.now).records (g.K.Store.view c.ask.new.store).records c.ask.ensures.asked c.ask.ensures.stays
