use Rattle.std.proofs.Common.{◌≡◌, refl, sym, ap, ◌∙◌}
use Rattle.fw_model.specs.Choice.{cut_of}
use Rattle.fw_progress.specs.Cut.{epochs_left}
use Rattle.fw_progress.proofs.CutCountLaws.{injected-stays}
use Rattle.fw_progress.proofs.EventLaws.{changed_at}
use Rattle.fw_progress.proofs.cut.cut_injected_at.Goals as goal

pub returns-in_default : goal.returns-in_default
returns-in_default c = injected-stays (cut_of c.args.choice.now c.args.place) c.args.place c.args.injected.now.items c.in_default.ensures.none

pub returns : goal.returns
returns c =
    let cut = cut_of c.args.choice.now c.args.place in
    changed_at 0 (λ x y. y ≡ epochs_left cut x) c.args.injected.now.items c.args.place c.args.place c.epochs_inside.result c.index_mut-count.result.now refl
    c.requires c.index_mut-count.ensures.value (c.epochs_inside.ensures ∙ sym (ap (λ x. epochs_left x c.index_mut-count.result.now) c.in-Some.ensures.some))
