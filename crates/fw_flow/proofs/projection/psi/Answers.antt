use Rattle.std.proofs.Common.{◌≡◌, ℕ, [], ◌∷◌, ◌+◌, min, sym, ap, ◌∙◌}
use Rattle.std.specs.Prelude.{◌/◌, ◌%◌, nat_lt}
use Rattle.fw_frontier.specs.Front.{frontier_of}
use Rattle.fw_flow.proofs.ProjectionLaws.{somes-sender, nests-enter, nest-enter, moved-ok, below-ok, entered-ok, psi-feedback, psi-leave, psi-regroup_ok, end-limit, end-all}
use Rattle.fw_flow.proofs.projection.psi.Goals as goal
use Rattle.fw_flow.proofs.projection.psi.Goals.{in-None, in-Some}

pub entered-requires-clause-sender : goal.entered-requires-clause-sender
entered-requires-clause-sender c = let d = rw c.in-Enter.is at c.requires.domains in nest-enter d

pub entered-requires-clause-front : goal.entered-requires-clause-front
entered-requires-clause-front c = let d = rw c.in-Enter.is at c.requires.domains in nests-enter d c.args.f.now c.requires.front

pub moved-requires : goal.moved-requires
moved-requires c = somes-sender c.requires.domains c.args.f.now c.requires.front

pub moved-requires-in-Leave : goal.moved-requires-in-Leave
moved-requires-in-Leave c = somes-sender c.requires.domains c.args.f.now c.requires.front

pub returns-in-Enter : goal.returns-in-Enter
returns-in-Enter c =
    let d = rw c.in-Enter.is at c.requires.domains in
    rw c.in-Enter.is (entered-ok d c.args.f.now c.requires.front c.entered.result c.entered.ensures)

pub returns-in-Feedback : goal.returns-in-Feedback
returns-in-Feedback c =
    let d = rw c.in-Feedback.is at c.requires.domains in
    rw c.in-Feedback.is (moved-ok c.moved.result (psi-feedback d c.args.f.now c.requires.front) (rw c.counter.ensures at c.moved.ensures))

pub returns-in-Leave : goal.returns-in-Leave
returns-in-Leave c =
    let d = rw c.in-Leave.is at c.requires.domains in
    rw c.in-Leave.is (moved-ok c.moved-in-Leave.result (psi-leave d c.args.f.now c.requires.front) c.moved-in-Leave.ensures)

pub returns-after-limit : goal.returns-after-limit
returns-after-limit c =
    let os = c.args.f.now in
    let n = c.in-Regroup.n in
    let end = c.match-limit.end in
    let d = rw c.in-Regroup.is at c.requires.domains in
    let size = rw c.in-Regroup.is at c.requires.group in
    let e : c.div_ceil.result ≡ end / n + min 1 (end % n) = c.div_ceil.ensures in
    let inside : (x : ℕ) → frontier_of c.args.sender.now os (x ∷ []) ≡ nat_lt x end = elim c.match-limit.branch [
      | in-None w ↦ end-all d end os w.in-None.ensures (w.end-is ∙ ap (λ m. m + 1) (w.from.ensures ∙ w.at.ensures))
      | in-Some w ↦ λ x. end-limit d w.in-Some.limit os c.requires.front w.in-Some.ensures x ∙ ap (nat_lt x) (sym (w.end-is ∙ w.from-end.ensures))
    ] in
    rw c.in-Regroup.is (below-ok c.below.result (psi-regroup_ok d size os end c.div_ceil.result inside e) c.below.ensures)
