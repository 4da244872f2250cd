use Rattle.std.proofs.Common.{◌≡◌, [], ◌∷◌, ◌<◌, true, length, arith}
use Rattle.fw_time.specs.Stamp.{in_domain}
use Rattle.fw_frontier.specs.Few.{stamps_of_few}
use Rattle.fw_frontier.specs.Front.{IsFrontOf}
use Rattle.fw_frontier.specs.Frontier.{cover}
use Rattle.fw_frontier.proofs.CanonicalLaws.{in_domain-at, in_domain-canonical}
use Rattle.fw_frontier.proofs.NamesLaws.{names-cover_none, names-cover_more, names-below}
use Rattle.fw_frontier.proofs.few.Few.covering.Goals as goal

pub loop-s-init : goal.loop-s-init
loop-s-init c = λ h. names-cover_none c.args.bounds.now (stamps_of_few c.in_ok-covered.covered) c.in_ok-covered.ensures

pub loop-s-preserved : goal.loop-s-preserved
loop-s-preserved c = λ h.
    let b = c.args.bounds.now in
    let ss = c.args.stamps.now in
    let s = c.s-item.result in
    let l : c.loop-s.s-index < length ss = omega arith in
    let d : in_domain b s ≡ true = in_domain-at b ss c.loop-s.s-index s l c.s-item.is h in
    let old = c.loop-s.invariant h in
    let under : IsFrontOf b (stamps_of_few c.in_ok-under.under) (cover b (s ∷ [])) = rw c.in_ok-under.ensures (names-below b s d) in
    names-cover_more b (stamps_of_few c.in_ok-covered-2.covered) (stamps_of_few c.loop-s.covered) (stamps_of_few c.in_ok-under.under) s c.loop-s.s-index ss l c.s-item.is old under
    (c.in_ok-covered-2.ensures (in_domain-canonical b (stamps_of_few c.loop-s.covered) old.canonical) (in_domain-canonical b (stamps_of_few c.in_ok-under.under) under.canonical))
