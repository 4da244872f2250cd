use Rattle.std.proofs.Common.{ℕ, List, ◌∙◌, sym, ap}
use Rattle.std.specs.Prelude.{slice_index}
use Rattle.std.proofs.lemmas.Result.{IfOk-weaker}
use Rattle.fw_frontier.proofs.BelowLaws.{names-numbers}
use Rattle.fw_frontier.proofs.below.BelowFrontier.to_front.Goals as goal

pub returns : goal.returns
returns g c = λ e.
    let b = c.args.bounds.now in
    let number = λ (t : List ℕ). g.N.Scalar.coordinate (g.N.Time.of_coords t) in
    IfOk-weaker c.front_until.result _ _
    (λ f n. names-numbers b f c.args.self.now.until number
    (λ t h. ap (λ u. slice_index u 0) (sym (g.met.N.Scalar.one_coord (g.N.Time.of_coords t)) ∙ g.met.N.Time.all_coords t (h ∙ c.requires))) n)
    (c.front_until.ensures e)
