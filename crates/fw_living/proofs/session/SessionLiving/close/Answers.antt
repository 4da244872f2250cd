use Rattle.std.proofs.Common.{◌≡◌, ℕ, sym, subst, ap, ◌∙◌}
use Rattle.std.specs.Prelude.{IsSome}
use Rattle.fw_engine.specs.Engine.{flow_of}
use Rattle.fw_session.specs.Session.{IsAt, came_in, is_open_in}
use Rattle.fw_session.specs.Story.{after_close}
use Rattle.fw_living.specs.Life.{came_in_story}
use Rattle.fw_living.proofs.LivingLaws.{at-same, counts-none, fed-life, is-err, never-store, not_closed-life}
use Rattle.fw_living.proofs.session.SessionLiving.close.Goals as goal

pub returns-clause-closed : goal.returns-clause-closed
returns-clause-closed g c = λ story at.
    let old = c.args.self.now in
    let new = c.close.new.self in
    fed-life c.close.result c.life.result (came_in old.arrivals c.args.source) (came_in_story (flow_of old.engine) story c.args.source)
    (IsAt new.engine (g.K.Store.view new.store).records new.arrivals (after_close c.args.source story)) c.life.ensures
    c.close.ensures.epoch (c.close.ensures.closes story at) (at.counts c.args.source)

pub returns-clause-not_fed : goal.returns-clause-not_fed
returns-clause-not_fed g c = λ story at.
    let old = c.args.self.now in
    let s = c.args.source in
    not_closed-life c.close.result c.life.result s (is_open_in old.arrivals s) (story.now.opened s) c.life.ensures c.close.ensures.closed
    c.close.ensures.only (at.opens s)

pub returns-clause-stays : goal.returns-clause-stays
returns-clause-stays g c = λ story at refused.
    let old = c.args.self.now in
    let new = c.close.new.self in
    let view = g.K.Store.view in
    let err = is-err c.close.result c.life.result c.life.ensures refused in
    at-same old.engine new.engine (view old.store).records (view new.store).records old.arrivals new.arrivals story at
    c.close.ensures.engine (ap (λ store. (view store).records) c.close.ensures.store) (c.close.ensures.came err)

pub returns-clause-flow : goal.returns-clause-flow
returns-clause-flow g c = ap flow_of c.close.ensures.engine

pub returns-clause-store : goal.returns-clause-store
returns-clause-store g c = λ lasts. never-store c.close.result c.life.result c.life.ensures

pub returns-clause-told_before : goal.returns-clause-told_before
returns-clause-told_before g c = λ told. subst (λ s. IsSome (g.K.Store.view s).records) c.close.ensures.store told

pub returns-clause-faults : goal.returns-clause-faults
returns-clause-faults g c =
    let old = c.args.self.now in
    let new = c.close.new.self in
    let view = g.K.Store.view in
    counts-none c.close.result c.life.result (view new.store).records (IsAt old.engine (view old.store).records old.arrivals) (view old.store).faults
    (view new.store).faults c.life.ensures (ap (λ store. (view store).faults) c.close.ensures.store)
