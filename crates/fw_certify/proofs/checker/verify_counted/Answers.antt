use Rattle.std.proofs.Common.{length, ap}
use Rattle.fw_certify.proofs.CertificateLaws.{certificate-largest}
use Rattle.fw_certify.proofs.CodeLaws.{through-of_flow, verdict-fails, verdict-nowhere, verdict-other, verdict-wrong_at, verdict-yes}
use Rattle.fw_certify.proofs.checker.verify_counted.Goals as goal

pub returns-in-Nowhere-clause-exact : goal.returns-in-Nowhere-clause-exact
returns-in-Nowhere-clause-exact g c = verdict-nowhere c.args.flow.now c.args.offers.now c.args.certificate.now c.as_slice-entries.result.now c.args.choice.now c.in_ok-followed.followed c.as_slice-entries.ensures c.in-Nowhere.is c.in_ok-followed.ensures.followed

pub returns-in-Wrong-clause-exact : goal.returns-in-Wrong-clause-exact
returns-in-Wrong-clause-exact g c = verdict-wrong_at c.args.flow.now c.args.offers.now c.args.certificate.now c.as_slice-entries.result.now c.args.choice.now c.in_ok-followed.followed c.in-Wrong.at c.as_slice-entries.ensures c.in-Wrong.is c.in_ok-followed.ensures.followed

pub returns-then-not-is_choice-clause-exact : goal.returns-then-not-is_choice-clause-exact
returns-then-not-is_choice-clause-exact g c =
    verdict-other c.args.flow.now c.args.offers.now c.args.certificate.now c.as_slice-entries.result.now c.args.choice.now c.in_ok-followed.followed c.in-Through.values (length c.as_slice-entries.result.now) c.is_choice.result c.as_slice-entries.ensures c.in-Through.is c.in_ok-followed.ensures.followed
    (ap length c.as_slice-entries.ensures) c.if-not-is_choice.true c.is_choice.ensures

pub all_hold-requires-clause-of_flow : goal.all_hold-requires-clause-of_flow
all_hold-requires-clause-of_flow g c = through-of_flow c.args.flow.now c.args.offers.now c.as_slice-entries.result.now c.in_ok-followed.followed c.in-Through.values c.in-Through.is c.in_ok-followed.ensures.followed

pub returns-then-not-branch-clause-exact : goal.returns-then-not-branch-clause-exact
returns-then-not-branch-clause-exact g c =
    verdict-fails c.args.flow.now c.args.offers.now c.args.certificate.now c.as_slice-entries.result.now c.args.choice.now c.in_ok-followed.followed c.in-Through.values (length c.as_slice-entries.result.now) c.in_ok-all_hold-in-Through.field-0 c.as_slice-entries.ensures c.in-Through.is c.in_ok-followed.ensures.followed
    (ap length c.as_slice-entries.ensures) c.if-not-branch.true c.in_ok-all_hold-in-Through.ensures.hold

pub returns-else-not-branch-clause-exact : goal.returns-else-not-branch-clause-exact
returns-else-not-branch-clause-exact g c =
    verdict-yes c.args.flow.now c.args.offers.now c.args.certificate.now c.as_slice-entries.result.now c.args.choice.now c.in_ok-followed.followed c.in-Through.values c.is_choice.result c.in_ok-all_hold-in-Through.field-0 c.as_slice-entries.ensures c.in-Through.is c.in_ok-followed.ensures.followed
    c.if-not-is_choice.false c.is_choice.ensures c.if-not-branch.false c.in_ok-all_hold-in-Through.ensures.hold

pub returns-else-not-branch-clause-yes : goal.returns-else-not-branch-clause-yes
returns-else-not-branch-clause-yes g c = λ e.
    certificate-largest c.args.flow.now c.args.offers.now c.args.certificate.now c.args.choice.now c.flow_is_well_formed.ensures
    (verdict-yes c.args.flow.now c.args.offers.now c.args.certificate.now c.as_slice-entries.result.now c.args.choice.now c.in_ok-followed.followed c.in-Through.values c.is_choice.result c.in_ok-all_hold-in-Through.field-0 c.as_slice-entries.ensures c.in-Through.is c.in_ok-followed.ensures.followed
    c.if-not-is_choice.false c.is_choice.ensures c.if-not-branch.false c.in_ok-all_hold-in-Through.ensures.hold)
