use Rattle.std.proofs.Common.{sym, ap, subst, ◌∙◌}
use Rattle.std.specs.BTreeSet.{insert_key}
use Rattle.std.specs.Ordering.{nat_cmp}
use Rattle.fw_progress.specs.Growths.{IsEnlisted}
use Rattle.fw_progress.proofs.WorkLaws.{put-key}
use Rattle.fw_progress.proofs.worklist.Worklist.put.Goals as goal

pub returns : goal.returns
returns c =
    let old = c.args.self.now in
    let keys = c.in_ok-insert.ensures.keys ∙ ap (λ xs. insert_key nat_cmp xs c.place.result) c.self.view_is ∙ ap (insert_key nat_cmp old) c.place.ensures in
    subst (IsEnlisted c.args.node old) (sym keys) (put-key c.args.node old)
