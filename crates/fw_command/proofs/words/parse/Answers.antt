use Rattle.std.proofs.Common.{sym, ◌∙◌}
use Rattle.clap.specs.Simple.{app_of, subcommand_rows_of}
use Rattle.fw_command.proofs.FormLaws.{parsed, never_refused, none_of_err}
use Rattle.fw_command.specs.Words.{words_in}
use Rattle.fw_command.proofs.words.parse.Goals as goal

pub returns-in-Ok-clause-command : goal.returns-in-Ok-clause-command
returns-in-Ok-clause-command c =
    c.named.ensures.command
    ∙ parsed (app_of c.in_ok-forms.forms) (words_in c.args.words.now) (subcommand_rows_of c.in-Ok.matches) c.in_ok-forms.ensures
    (sym c.is_command.ensures ∙ c.if-not-is_command.false) (λ s. (c.in-Ok.ensures.matches s).1)

pub returns-in-Err-clause-command : goal.returns-in-Err-clause-command
returns-in-Err-clause-command c =
    none_of_err _ c.refused.result (c.refused.ensures.no_memory (c.in-Err.ensures.passes
    (never_refused (app_of c.in_ok-forms.forms) (words_in c.args.words.now) c.in_ok-forms.ensures (sym c.is_command.ensures ∙ c.if-not-is_command.false))))
