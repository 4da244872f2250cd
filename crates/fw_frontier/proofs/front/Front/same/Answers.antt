use Rattle.std.proofs.Common.{◌≡◌, sym, ap, ◌∙◌}
use Rattle.std.specs.Ordering.{is_eq}
use Rattle.std.specs.Cmp.Lexicographic.{slice_cmp}
use Rattle.fw_time.specs.Stamp.{stamp_cmp}
use Rattle.fw_frontier.specs.Front.{same_front}
use Rattle.fw_frontier.proofs.SameLaws.{same_front-is, same_front-from}
use Rattle.fw_frontier.proofs.front.Front.same.Goals as goal

pub returns-clause-one : goal.returns-clause-one
returns-clause-one c =
    let test : c.is_eq.result ≡ same_front c.args.self.now c.args.other.now =
    c.is_eq.ensures ∙ ap is_eq (c.cmp.ensures ∙ (λ i. slice_cmp stamp_cmp (c.outside.ensures i) (c.outside-2.ensures i))) in
    (λ t. same_front-is c.args.self.now c.args.other.now (sym test ∙ t), λ e. test ∙ same_front-from c.args.self.now c.args.other.now e)
