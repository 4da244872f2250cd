use Rattle.fw_progress.proofs.AmongLaws.{none-among, delivered_more-among, delivered_more-outside, notified_more-among, notified_more-outside, sent_more-among, sent_more-outside, sent_more-has, outside-passes}
use Rattle.fw_progress.proofs.laws.told_is_known.Goals as goal

pub returns : goal.returns
returns c = record {
  none = none-among;
  delivered = λ e m old new k sys p. (
    (λ h. delivered_more-among e m.at old new k sys h p),
    (λ these base. delivered_more-outside e m old new k sys.flow these p base),
  );
  notified = λ q t old new k sys p. (
    (λ h. notified_more-among q t old new k sys h p),
    (λ these base. notified_more-outside q t old new k sys.flow these p base),
  );
  sent = λ e t old new k sys p. (
    (λ h. sent_more-among e t old new k sys h p),
    (λ these base. sent_more-outside e t old new k sys.flow these p base),
    sent_more-has e t old new k,
  );
  passes = outside-passes;
}
