use Rattle.std.proofs.Common.{refl}
use Rattle.fw_command.specs.Listing.{check_text}
use Rattle.fw_run.proofs.work.print_work.Goals as goal

pub returns-in-Run-clause-ends : goal.returns-in-Run-clause-ends
returns-in-Run-clause-ends g c =
    let e = c.perform.ensures.ends in
    rw c.in-Run.is (record { printed = e.printed; cut_off = e.cut_off; left = e.left; last_taken = e.last_taken; store_fault = e.store_fault; damaged = e.damaged; none = e.none; first = e.first; some = e.some; rises = e.rises })

pub returns-in-Run-clause-store_stays : goal.returns-in-Run-clause-store_stays
returns-in-Run-clause-store_stays g c = rw c.in-Run.is tt

pub returns-in-Run-clause-nothing_told : goal.returns-in-Run-clause-nothing_told
returns-in-Run-clause-nothing_told g c fault e = rw c.in-Run.is (λ off. c.perform.ensures.nothing_told fault e off)

pub returns-in-Ok-clause-ends : goal.returns-in-Ok-clause-ends
returns-in-Ok-clause-ends g c = rw c.in-Denote.is (record {
  printed = c.in-Ok.ensures;
  cut_off = tt;
  left = tt;
  last_taken = λ e. absurd (cc);
  store_fault = λ e. absurd (cc);
  damaged = λ id e. absurd (cc);
  none = refl;
  first = refl;
  some = λ e. absurd (cc);
  rises = (0, refl);
})

pub returns-in-Denote-clause-ends : goal.returns-in-Denote-clause-ends
returns-in-Denote-clause-ends g c = rw c.in-Denote.is (record {
  printed = tt;
  cut_off = c.in-Err.ensures;
  left = tt;
  last_taken = λ e. tt;
  store_fault = λ e. absurd (cc);
  damaged = λ id e. absurd (cc);
  none = tt;
  first = refl;
  some = λ e. absurd (cc);
  rises = (0, refl);
})

pub returns-in-Ok-list-clause-ends : goal.returns-in-Ok-list-clause-ends
returns-in-Ok-list-clause-ends g c = rw c.in-Check.is (record {
  printed = record { printed = check_text c.in-Check.flow; text = refl; written = c.in-Ok-list.ensures };
  cut_off = tt;
  left = tt;
  last_taken = λ e. absurd (cc);
  store_fault = λ e. absurd (cc);
  damaged = λ id e. absurd (cc);
  none = refl;
  first = refl;
  some = λ e. absurd (cc);
  rises = (0, refl);
})

pub returns-clause-ends : goal.returns-clause-ends
returns-clause-ends g c = rw c.in-Check.is (record {
  printed = tt;
  cut_off = record { printed = check_text c.in-Check.flow; text = refl; written = c.in-Err-list.ensures };
  left = tt;
  last_taken = λ e. tt;
  store_fault = λ e. absurd (cc);
  damaged = λ id e. absurd (cc);
  none = tt;
  first = refl;
  some = λ e. absurd (cc);
  rises = (0, refl);
})
