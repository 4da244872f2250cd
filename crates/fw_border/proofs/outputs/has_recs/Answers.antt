use Rattle.std.proofs.Common.{◌≤◌, length, sym, subst, arith}
use Rattle.std.proofs.lemmas.Bool.{ltb-false}
use Rattle.std.proofs.lemmas.List.{get_or_past}
use Rattle.fw_border.specs.Outputs.{OutputState, new_output, AreByNumber}
use Rattle.fw_border.proofs.RecsLaws.{nothing_by_number}
use Rattle.fw_border.proofs.outputs.has_recs.Goals as goal

pub returns-in-None-clause-by_number : goal.returns-in-None-clause-by_number
returns-in-None-clause-by_number c =
    let outputs = c.args.outputs.now in
    let beyond = ltb-false c.place.result (length outputs) (sym c.in-None.ensures.lookup.0) in
    let past : length outputs ≤ c.args.output = omega (arith, beyond, c.place.ensures) in
    subst (λ (output : OutputState). AreByNumber output.recs) (sym (get_or_past outputs c.args.output new_output past)) nothing_by_number
