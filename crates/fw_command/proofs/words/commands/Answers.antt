use Rattle.std.proofs.Common.{◌≡◌, false, List, [], ◌∷◌, codes}
use Rattle.clap.specs.Built.{AddsSubcommand}
use Rattle.clap.specs.Simple.{App, Shape, app_of}
use Rattle.std.proofs.lemmas.Result.{IfOk-weaker}
use Rattle.fw_command.proofs.FormLaws.{with_form}
use Rattle.fw_command.specs.Forms.{form, forms, program, three_names}
use Rattle.fw_command.proofs.words.commands.Goals as goal

-- the program with these forms
abbrev with_forms : List Shape → App
with_forms subs = record { top = record program { is_leaf = false }; subs = subs }

pub returns : goal.returns
returns c =
    let of_run = form (codes "run") three_names in
    let of_endure = form (codes "endure") three_names in
    let of_explain = form (codes "explain") three_names in
    let of_gen = form (codes "gen") (codes "seed" ∷ codes "size" ∷ []) in
    let of_denote = form (codes "denote") (codes "flow" ∷ codes "inputs" ∷ []) in
    let of_check = form (codes "check") (codes "flow" ∷ []) in
    let one = with_form _ _ _ (record { top = program; subs = [] }) of_run c.in_ok-subcommand.ensures c.in_ok-run_form.ensures.local c.program.ensures c.in_ok-run_form.ensures.shape in
    let two = with_form _ _ _ (with_forms (of_run ∷ [])) of_endure c.in_ok-subcommand-2.ensures c.in_ok-run_form-2.ensures.local one c.in_ok-run_form-2.ensures.shape in
    let three = with_form _ _ _ (with_forms (of_run ∷ of_endure ∷ [])) of_explain c.in_ok-subcommand-3.ensures c.in_ok-run_form-3.ensures.local two c.in_ok-run_form-3.ensures.shape in
    let four = with_form _ _ _ (with_forms (of_run ∷ of_endure ∷ of_explain ∷ [])) of_gen c.in_ok-subcommand-4.ensures c.in_ok-gen_form.ensures.local three c.in_ok-gen_form.ensures.shape in
    let five = with_form _ _ _ (with_forms (of_run ∷ of_endure ∷ of_explain ∷ of_gen ∷ [])) of_denote c.in_ok-subcommand-5.ensures c.in_ok-denote_form.ensures.local four c.in_ok-denote_form.ensures.shape in
    IfOk-weaker c.subcommand-6.result (AddsSubcommand c.in_ok-subcommand-5.field-0 c.in_ok-check_form.field-0) (λ command. app_of command ≡ forms)
    (λ command a. with_form _ _ command (with_forms (of_run ∷ of_endure ∷ of_explain ∷ of_gen ∷ of_denote ∷ [])) of_check a c.in_ok-check_form.ensures.local five c.in_ok-check_form.ensures.shape)
    c.subcommand-6.ensures
