use Rattle.std.proofs.Common.{◌≡◌, ◌==◌, not, arith, ap, ◌∙◌}
use Rattle.std.proofs.lemmas.List.Sums.{prefix_len-le-length}
use Rattle.std.specs.List.{prefix_len}
use Rattle.fw_lines.specs.Lines.{bytes_at}
use Rattle.fw_lines.proofs.PartLaws.{length-slice_range, one_part, first_part}
use Rattle.fw_lines.proofs.text.part_end.Goals as goal

pub overflow_add-result : goal.overflow_add-result
overflow_add-result c =
    let text = c.args.text.now in
    let e : c.front_len.result ≡ prefix_len (λ b. not (b == c.args.separator)) (bytes_at text c.args.span) = c.front_len.ensures ∙ ap (prefix_len (λ b. not (b == c.args.separator))) c.of.ensures in
    omega (arith, prefix_len-le-length (λ b. not (b == c.args.separator)) (bytes_at text c.args.span), length-slice_range text c.args.span.from c.args.span.to c.requires.within)

pub returns-clause-to : goal.returns-clause-to
returns-clause-to c =
    let text = c.args.text.now in
    let e : c.front_len.result ≡ prefix_len (λ b. not (b == c.args.separator)) (bytes_at text c.args.span) = c.front_len.ensures ∙ ap (prefix_len (λ b. not (b == c.args.separator))) c.of.ensures in
    omega (arith, prefix_len-le-length (λ b. not (b == c.args.separator)) (bytes_at text c.args.span), length-slice_range text c.args.span.from c.args.span.to c.requires.within)

pub returns-clause-last : goal.returns-clause-last
returns-clause-last c = λ h.
    let text = c.args.text.now in
    let e : c.front_len.result ≡ prefix_len (λ b. not (b == c.args.separator)) (bytes_at text c.args.span) = c.front_len.ensures ∙ ap (prefix_len (λ b. not (b == c.args.separator))) c.of.ensures in
    one_part (λ b. b == c.args.separator) (bytes_at text c.args.span) (omega (arith, length-slice_range text c.args.span.from c.args.span.to c.requires.within))

pub returns-clause-more : goal.returns-clause-more
returns-clause-more c = λ h.
    let text = c.args.text.now in
    let e : c.front_len.result ≡ prefix_len (λ b. not (b == c.args.separator)) (bytes_at text c.args.span) = c.front_len.ensures ∙ ap (prefix_len (λ b. not (b == c.args.separator))) c.of.ensures in
    first_part (λ b. b == c.args.separator) text c.args.span.from c.args.span.to c.front_len.result c.requires.within e h
