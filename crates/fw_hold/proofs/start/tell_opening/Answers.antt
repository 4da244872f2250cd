use Rattle.std.proofs.Common.{◌≡◌, ◌++◌, ◌∙◌, ap, subst, append_assoc}
use Rattle.std.specs.Prelude.{codes}
use Rattle.std.specs.Fmt.{decimal}
use Rattle.fw_hold.specs.Starting.{TellsOpening, lines_of_root}
use Rattle.fw_hold.proofs.StartLaws.{opening_told}
use Rattle.fw_hold.proofs.start.tell_opening.Goals as goal

pub returns : goal.returns
returns g c =
    let steps = c.args.root.now.mark.steps in
    let lines = c.args.root.now.mark.lines in
    let head : c.into_bytes-text.result.items ≡ codes "resumed at " ++ (decimal steps ++ codes "\n") = ap (λ v. v.items) c.into_bytes-text.ensures.value ∙ c.in_ok-format.ensures.ok in
    let same : c.deref.result.now ≡ lines_of_root c.args.root.now =
    c.deref.ensures.value ∙ c.in_ok-extend_from_slice.ensures.items ∙ ap (λ t. t ++ c.as_slice.result.now) head
    ∙ ap (λ l. (codes "resumed at " ++ (decimal steps ++ codes "\n")) ++ l) c.as_slice.ensures ∙ ap (λ t. codes "resumed at " ++ t) (append_assoc (decimal steps) (codes "\n") lines) in
    subst (λ t. TellsOpening t c.tell.result (g.O.Sink.view c.args.out.now) (g.O.Sink.view c.tell.new.out)) same
    (opening_told _ c.deref.result.now c.tell.result (g.O.Sink.view c.args.out.now) (g.O.Sink.view c.tell.new.out) c.tell.ensures)
