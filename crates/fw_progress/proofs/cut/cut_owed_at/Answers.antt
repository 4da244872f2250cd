use Rattle.std.proofs.Common.{◌≡◌, [], refl, sym, ap, ◌∙◌}
use Rattle.fw_model.specs.Choice.{cut_of}
use Rattle.fw_progress.specs.Cut.{tally_left}
use Rattle.fw_progress.proofs.CutCountLaws.{owed-stays}
use Rattle.fw_progress.proofs.EventLaws.{changed_at}
use Rattle.fw_progress.proofs.cut.cut_owed_at.Goals as goal

pub returns-in_default : goal.returns-in_default
returns-in_default c = owed-stays (cut_of c.args.choice.now c.args.place) c.args.place c.args.owed.now.items c.in_default.ensures.none

pub returns : goal.returns
returns c =
    let cut = cut_of c.args.choice.now c.args.place in
    changed_at [] (λ x y. y ≡ tally_left cut x) c.args.owed.now.items c.args.place c.args.place c.keep_inside.new.self c.index_mut-tally.result.now refl
    c.requires c.index_mut-tally.ensures.value (c.keep_inside.ensures ∙ sym (ap (λ x. tally_left x c.index_mut-tally.result.now) c.in-Some.ensures.some))
