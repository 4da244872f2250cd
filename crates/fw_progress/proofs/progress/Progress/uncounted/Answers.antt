use Rattle.fw_progress.proofs.progress.Progress.uncounted.Goals as goal

pub returns-clause-fresh : goal.returns-clause-fresh
returns-clause-fresh g c = record {
  counts = c.refresh.ensures.counts;
  settled = c.refresh.ensures.settled;
  growths = c.in_ok-refresh.field-0.items;
  grown = c.in_ok-refresh.ensures.growths;
  none_waits = c.in_ok-refresh.ensures.none_waits;
  still = c.in_ok-refresh.ensures.still;
  ready = c.in_ok-refresh.ensures.ready;
  complete = λ sys h e s. c.in_ok-refresh.ensures.complete sys h e s;
}
