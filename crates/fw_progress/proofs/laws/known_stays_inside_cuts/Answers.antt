use Rattle.fw_progress.specs.SentTally.{IsTallyCutTo}
use Rattle.fw_progress.proofs.AmongLaws.{cut-among, cut-outside}
use Rattle.fw_progress.proofs.laws.known_stays_inside_cuts.Goals as goal

pub returns : goal.returns
returns c = λ flow p f old new well cut sys h keep e epochs legal fr is t. (
  cut-among flow p f (IsTallyCutTo f) old new well cut.lists sys h keep e epochs legal fr is t,
  (λ these base. cut-outside flow p f (IsTallyCutTo f) old new well cut.lists sys h keep e epochs legal is t these base),
)
