use Rattle.std.proofs.Common.{◌≡◌, true, rules, refl}
use Rattle.fw_time.specs.Stamp.{leq}
use Rattle.fw_progress.proofs.TraceLaws.{top-raised}
use Rattle.fw_progress.proofs.kept_stamps.raised.Goals as goal
use Rattle.fw_progress.proofs.kept_stamps.raised.Goals.{in_default-via-in-Some+else-not-leq, in_default-via-in_default}

pub returns-in_default-clause-greater : goal.returns-in_default-clause-greater
returns-in_default-clause-greater c = λ s. elim c.in_default.branch [
  | in_default-via-in-Some+else-not-leq w ↦
      let under : leq w.in-Some.top c.args.stamp.now ≡ true = search rules in
      rw (c.copy.ensures, w.in-Some.is) (top-raised w.in-Some.top c.args.stamp.now s under)
  | in_default-via-in_default w ↦ rw (c.copy.ensures, w.in_default.is) refl
]
