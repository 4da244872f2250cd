use Rattle.std.proofs.Common.{map, sym, ap, ◌∙◌}
use Rattle.std.specs.List.{sum_by}
use Rattle.std.proofs.lemmas.Result.{IfOk-weaker}
use Rattle.fw_paired.specs.Pairs.{pair_of}
use Rattle.fw_paired.proofs.CrossLaws.{answers}
use Rattle.fw_paired.proofs.cross.Cross.answer.Goals as goal

pub returns : goal.returns
returns c = λ came h.
    IfOk-weaker c.pairs.result _ _
    (λ ps e. λ w.
    answers c.args.self.now c.args.side c.args.at.now c.args.rec came h w
    ∙ ap (λ vs. sum_by w (map (pair_of c.args.side c.args.at.now c.args.rec) vs)) (sym c.values_across.ensures)
    ∙ sym (ap (sum_by w) e))
    c.pairs.ensures
