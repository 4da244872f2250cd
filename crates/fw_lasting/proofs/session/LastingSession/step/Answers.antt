use Rattle.std.proofs.Common.{arith}
use Rattle.fw_lasting.proofs.UnderWayLaws.{holds-drawn, holds-same, step-under}
use Rattle.fw_lasting.proofs.session.LastingSession.step.Goals as goal

pub returns-clause-goes_on : goal.returns-clause-goes_on
returns-clause-goes_on g c =
    let old = c.args.self.now in
    let view = g.K.Store.view in
    let t = c.take_step-stepped in
    λ kept. step-under old.digests old.engine.engine t.new.engine old.arrivals (view old.store).records (view t.new.store).records old.turn kept c.args.step.now
    t.result t.ensures.leaves (omega (arith, t.ensures.leaves.drawn, c.has_room.ensures c.if-not-has_room.false)) t.ensures.goes_on

pub returns-then-not-has_room-clause-holds : goal.returns-then-not-has_room-clause-holds
returns-then-not-has_room-clause-holds g c =
    let old = c.args.self.now in
    λ kept now u. holds-same old.digests old.engine.engine old.arrivals (g.K.Store.view old.store).records old.turn kept now u

pub returns-clause-holds : goal.returns-clause-holds
returns-clause-holds g c =
    let old = c.args.self.now in
    let view = g.K.Store.view in
    let t = c.take_step-stepped in
    λ kept now u. holds-drawn old.digests old.engine.engine t.new.engine old.arrivals (view old.store).records (view t.new.store).records old.turn kept now
    t.ensures.leaves (omega (arith, t.ensures.leaves.drawn, c.has_room.ensures c.if-not-has_room.false)) u
