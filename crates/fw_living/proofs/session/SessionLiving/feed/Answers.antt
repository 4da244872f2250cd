use Rattle.std.proofs.Common.{◌≡◌, ◌≤◌, ◌-◌, ◌^◌, ℕ, sym, subst, ap}
use Rattle.std.specs.Prelude.{IsSome}
use Rattle.fw_bag.specs.Keyed.{sorted_recs}
use Rattle.fw_engine.specs.Engine.{flow_of}
use Rattle.fw_session.specs.Session.{IsAt, came_in, is_open_in}
use Rattle.fw_session.specs.Story.{after_feed}
use Rattle.fw_living.specs.Life.{came_in_story}
use Rattle.fw_living.proofs.LivingLaws.{at-same, counts-none, fed-life, is-err, never-store, not_fed-life}
use Rattle.fw_living.proofs.session.SessionLiving.feed.Goals as goal

pub returns-clause-fed : goal.returns-clause-fed
returns-clause-fed g c = λ story at.
    let old = c.args.self.now in
    let new = c.feed.new.self in
    fed-life c.feed.result c.life.result (came_in old.arrivals c.args.source) (came_in_story (flow_of old.engine) story c.args.source)
    (IsAt new.engine (g.K.Store.view new.store).records new.arrivals (after_feed c.args.source (sorted_recs c.args.recs.now) story)) c.life.ensures
    c.feed.ensures.epoch (c.feed.ensures.fed story at) (at.counts c.args.source)

pub returns-clause-not_fed : goal.returns-clause-not_fed
returns-clause-not_fed g c = λ story at.
    let old = c.args.self.now in
    let s = c.args.source in
    let came = at.counts s in
    not_fed-life c.feed.result c.life.result s (is_open_in old.arrivals s) (story.now.opened s) (2 ^ 20 - 1 ≤ came_in old.arrivals s)
    (2 ^ 20 - 1 ≤ came_in_story (flow_of old.engine) story s) c.life.ensures c.feed.ensures.closed (c.feed.ensures.full story at) c.feed.ensures.only
    (at.opens s) (λ m. subst (λ n. 2 ^ 20 - 1 ≤ n) came m) (λ m. subst (λ n. 2 ^ 20 - 1 ≤ n) (sym came) m)

pub returns-clause-stays : goal.returns-clause-stays
returns-clause-stays g c = λ story at refused.
    let old = c.args.self.now in
    let new = c.feed.new.self in
    let view = g.K.Store.view in
    let err = is-err c.feed.result c.life.result c.life.ensures refused in
    at-same old.engine new.engine (view old.store).records (view new.store).records old.arrivals new.arrivals story at
    (c.feed.ensures.stays err) (ap (λ store. (view store).records) c.feed.ensures.store) (c.feed.ensures.came err)

pub returns-clause-store : goal.returns-clause-store
returns-clause-store g c = λ lasts. never-store c.feed.result c.life.result c.life.ensures

pub returns-clause-told_before : goal.returns-clause-told_before
returns-clause-told_before g c = λ told. subst (λ s. IsSome (g.K.Store.view s).records) c.feed.ensures.store told

pub returns-clause-faults : goal.returns-clause-faults
returns-clause-faults g c =
    let old = c.args.self.now in
    let new = c.feed.new.self in
    let view = g.K.Store.view in
    counts-none c.feed.result c.life.result (view new.store).records (IsAt old.engine (view old.store).records old.arrivals) (view old.store).faults
    (view new.store).faults c.life.ensures (ap (λ store. (view store).faults) c.feed.ensures.store)
