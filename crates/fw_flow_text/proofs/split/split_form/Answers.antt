use Rattle.std.proofs.Common.{subst}
use Rattle.fw_flow_text.specs.Grammar.{Finds, capped_words}
use Rattle.fw_flow_text.specs.Spelled.{AreNodeWords}
use Rattle.fw_flow_text.proofs.SplitFoundLaws.{no_split}
use Rattle.fw_flow_text.proofs.split.split_form.Goals as goal

pub returns-in_default-2 : goal.returns-in_default-2
returns-in_default-2 c =
    let rest = capped_words c.args.text.now c.args.rest.now in
    λ found h.
    subst (Finds (AreNodeWords c.args.kind.now rest)) c.in_default-2.is c.in_ok-form.ensures found.0
    (no_split c.args.kind.now rest c.in_default.ensures.none found.0 found.1 h)
