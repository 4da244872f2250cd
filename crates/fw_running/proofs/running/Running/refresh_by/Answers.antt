use Rattle.std.proofs.Common.{List, subst}
use Rattle.fw_progress.specs.declared.growth.Growth.{Growth}
use Rattle.fw_running.specs.BroughtUp.{AreNoted}
use Rattle.fw_running.proofs.BroughtUpLaws.{brought_up, brought_up_shaped}
use Rattle.fw_running.proofs.running.Running.refresh_by.Goals as goal

pub returns-clause-up : goal.returns-clause-up
returns-clause-up g c =
    brought_up c.args.self.now c.refresh.new.self c.note_growths.new.ready c.in_ok-growths.growths.items
    (record {
      counts = c.refresh.ensures.counts;
      settled = c.refresh.ensures.settled;
      growths = c.in_ok-growths.growths.items;
      grown = c.in_ok-growths.ensures.growths;
      none_waits = c.in_ok-growths.ensures.none_waits;
      still = c.in_ok-growths.ensures.still;
      ready = c.in_ok-growths.ensures.ready;
      complete = λ sys h e s. c.in_ok-growths.ensures.complete sys h e s;
    })
    c.in_ok-growths.ensures.growths (c.refresh.ensures.progress c.in_ok-growths.ensures.ready) c.note_growths.ensures.others
    (subst (λ (growths : List Growth). AreNoted growths c.args.self.now.ready.growing c.note_growths.new.ready.growing) c.deref.ensures.value c.in_ok-note_growths.ensures.noted)

pub returns-clause-shaped : goal.returns-clause-shaped
returns-clause-shaped g c = brought_up_shaped c.args.self.now _ c.requires.shaped (returns-clause-up g c)
