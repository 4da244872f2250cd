use Rattle.fw_flow.proofs.Drafts.{degrees_first}
use Rattle.fw_flow.proofs.draft.Draft.degree_line.Goals as goal

pub returns : goal.returns
returns c = λ raw d.
    degrees_first c.args.self.now raw d c.degree_line.result c.as_slice.result.now c.deref.result.now c.deref-2.result.now c.as_slice-lines.result.now
    c.as_slice.ensures.value c.deref.ensures.value c.deref-2.ensures.value c.as_slice-lines.ensures.value c.degree_line.ensures
