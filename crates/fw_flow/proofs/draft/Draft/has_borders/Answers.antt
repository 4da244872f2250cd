use Rattle.fw_flow.proofs.Drafts.{borders_same}
use Rattle.fw_flow.proofs.draft.Draft.has_borders.Goals as goal

pub returns : goal.returns
returns c = λ raw d. borders_same c.args.self.now raw d c.has_borders.result c.as_slice.result.now c.as_slice.ensures.value c.has_borders.ensures
