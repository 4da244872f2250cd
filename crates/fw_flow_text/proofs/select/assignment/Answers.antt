use Rattle.std.proofs.Common.{◌∙◌}
use Rattle.std.proofs.lemmas.List.{take_rest}
use Rattle.fw_flow_text.proofs.FoundLaws.{same_word, set_there}
use Rattle.fw_flow_text.proofs.select.assignment.Goals as goal

pub returns-clause-sound : goal.returns-clause-sound
returns-clause-sound c = (
  set_there c.args.text.now c.args.words.now _ (record { from = 0; to = 0 }) c.capped.result.now c.capped-2.result.now _ _ c.in-len2-up.len_at_least (take_rest c.args.words.now 2) c.capped.ensures c.capped-2.ensures (same_word _ _ c.eq.result c.eq.ensures c.if-eq.true ∙ c.as_slice.ensures) c.in_ok-field.ensures c.in_ok-value.ensures.sound.0,
  c.in_ok-value.ensures.sound.1,
)
