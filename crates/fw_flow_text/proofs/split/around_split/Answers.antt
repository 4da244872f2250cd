use Rattle.std.proofs.Common.{◌≡◌, ◌∙◌, arith, codes, sym}
use Rattle.fw_lines.specs.declared.span.Span.{Span}
use Rattle.fw_flow_text.proofs.FoundLaws.{no_other_word}
use Rattle.fw_flow_text.proofs.SplitFoundLaws.{around_here, other_around, other_word}
use Rattle.fw_flow_text.proofs.split.around_split.Goals as goal

none : Span
none = record { from = 0; to = 0 }

pub returns-then-ne-clause-none : goal.returns-then-ne-clause-none
unfolding none
returns-then-ne-clause-none c = λ before policy number h.
    other_around c.args.text.now c.args.words.now c.in_ok-place.place none before policy number (omega arith)
    (λ e. other_word c.capped.result.now c.as_slice.result.now c.ne.result c.ne.ensures c.if-ne.true (c.capped.ensures ∙ e ∙ sym c.as_slice.ensures)) h

pub returns-clause-found : goal.returns-clause-found
unfolding none
returns-clause-found c =
    around_here c.args.text.now c.args.words.now c.in_ok-place.place none (omega arith)
    (sym c.capped.ensures ∙ no_other_word c.capped.result.now c.as_slice.result.now c.ne.result c.ne.ensures c.if-ne.false ∙ c.as_slice.ensures)
