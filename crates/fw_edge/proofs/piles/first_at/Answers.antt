use Rattle.std.proofs.Common.{◌≡◌, List, [], unwrap_or, Option, None, sym, ap, ◌∙◌, rules}
use Rattle.std.specs.Prelude.{slice_get}
use Rattle.std.specs.Option.{option_copied}
use Rattle.fw_flow.specs.declared.event.Message.{Message}
use Rattle.fw_edge.proofs.PiledLaws.{find-piled}
use Rattle.fw_edge.proofs.piles.first_at.Goals as goal

pub returns-in_err-get : goal.returns-in_err-get
returns-in_err-get c =
    let none : c.from_residual.result ≡ None = search rules in
    ap option_copied none ∙ ap (λ (o : Option (List Message)). slice_get (unwrap_or o []) 0) c.in_err-get.ensures.value
    ∙ sym (find-piled c.args.at.now c.args.piles.now.entries c.requires.each)

pub returns : goal.returns
returns c =
    c.first.ensures ∙ ap (λ (o : Option (List Message)). slice_get (unwrap_or o []) 0) c.in_ok-get.ensures.value
    ∙ sym (find-piled c.args.at.now c.args.piles.now.entries c.requires.each)
