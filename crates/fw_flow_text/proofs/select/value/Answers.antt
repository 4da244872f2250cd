use Rattle.std.proofs.Common.{◌-◌, ◌<◌, ◌++◌, length, take, drop, sym, ap, ◌∙◌, arith}
use Rattle.std.proofs.lemmas.Bool.Decides.{nat_tests}
use Rattle.std.proofs.lemmas.List.{take_rest}
use Rattle.fw_flow_text.specs.Grammar.{capped_words}
use Rattle.fw_flow_text.proofs.FoundLaws.{same_word, headed_plain, sum_there, too_few, no_plus, only_sum, only_plain}
use Rattle.fw_flow_text.proofs.select.value.Goals as goal
use Rattle.fw_flow_text.proofs.select.value.Goals.{else-words-lt3-via-then-words-lt3, else-words-lt3-via-in-len3-up+else-eq}

pub returns-clause-sound : goal.returns-clause-sound
returns-clause-sound c =
    let there = sum_there c.args.text.now c.args.words.now _ (record { from = 0; to = 0 }) c.capped-2.result.now c.capped.result.now c.capped-3.result.now c.in-len3-up.len_at_least (take_rest c.args.words.now 3) c.capped-2.ensures c.capped.ensures c.capped-3.ensures (same_word _ _ c.eq.result c.eq.ensures c.if-eq.true ∙ c.as_slice.ensures) in
    let found = c.in_ok-value.ensures in
    (sym there ∙ ap (λ ws. ws ++ capped_words c.args.text.now (take (length c.args.words.now - 3) (drop 3 c.args.words.now))) found.0, found.1)

pub returns-clause-only : goal.returns-clause-only
returns-clause-only c value within policy small e =
    let there = sum_there c.args.text.now c.args.words.now _ (record { from = 0; to = 0 }) c.capped-2.result.now c.capped.result.now c.capped-3.result.now c.in-len3-up.len_at_least (take_rest c.args.words.now 3) c.capped-2.ensures c.capped.ensures c.capped-3.ensures (same_word _ _ c.eq.result c.eq.ensures c.if-eq.true ∙ c.as_slice.ensures) in
    only_sum c.capped-2.result.now c.capped-3.result.now _ c.in_ok-value.value c.in_ok-value.ensures value within policy small (there ∙ e)

pub returns-2-clause-only : goal.returns-2-clause-only
returns-2-clause-only c value within policy small e =
    let there = headed_plain c.args.text.now c.args.words.now _ (record { from = 0; to = 0 }) c.capped-4.result.now c.in-len1-up.len_at_least (take_rest c.args.words.now 1) c.capped-4.ensures in
    elim c.else-words-lt3.branch [
      | else-words-lt3-via-then-words-lt3 w ↦
          let few : length c.args.words.now < 3 = grind (arith, nat_tests) in
          only_plain c.capped-4.result.now _ c.in_ok-value-2.value c.in_ok-value-2.ensures (too_few c.args.text.now c.args.words.now _ few (take_rest c.args.words.now 1) _) value within policy small (there ∙ e)
      | else-words-lt3-via-in-len3-up+else-eq w ↦
          only_plain c.capped-4.result.now _ c.in_ok-value-2.value c.in_ok-value-2.ensures
          (no_plus c.args.text.now c.args.words.now _ (record { from = 0; to = 0 }) w.capped.result.now w.as_slice.result.now w.eq.result w.in-len3-up.len_at_least (take_rest c.args.words.now 1) w.capped.ensures w.as_slice.ensures w.eq.ensures w.if-eq.false)
          value within policy small (there ∙ e)
    ]
