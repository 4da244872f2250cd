use Rattle.std.proofs.Common.{◌∙◌, arith}
use Rattle.fw_disk.proofs.TextLaws.{id_part, digest_part, space_there, both_some}
use Rattle.fw_disk.proofs.lines.parts_of.Goals as goal

pub returns-in_err-id-clause-found : goal.returns-in_err-id-clause-found
returns-in_err-id-clause-found c id digest is =
    let there = space_there id digest c.args.line.now is in
    let none = c.in_err-id.ensures.none in
    absurd (omega (arith, there, none))

pub returns-in_err-text-clause-found : goal.returns-in_err-text-clause-found
returns-in_err-text-clause-found c id digest is =
    let some = c.in_err-text.ensures.found id is.fits (c.in_ok-id.ensures.before ∙ id_part id digest c.args.line.now is) in
    absurd (cc)

pub returns-in_err-number-clause-found : goal.returns-in_err-number-clause-found
returns-in_err-number-clause-found c id digest is =
    let some = c.in_err-number.ensures.found id is.fits (c.in_ok-text.ensures.text ∙ c.in_ok-id.ensures.before ∙ id_part id digest c.args.line.now is) in
    absurd (cc)

pub returns-in_err-digest-clause-found : goal.returns-in_err-digest-clause-found
returns-in_err-digest-clause-found c id digest is =
    let some = c.in_err-digest.ensures.found digest is.digest_fits (c.in_ok-id.ensures.behind ∙ digest_part id digest c.args.line.now is) in
    absurd (cc)

pub returns-clause-found : goal.returns-clause-found
returns-clause-found c id digest is =
    both_some _ id _ digest
    (c.in_ok-number.ensures.found id is.fits (c.in_ok-text.ensures.text ∙ c.in_ok-id.ensures.before ∙ id_part id digest c.args.line.now is))
    (c.in_ok-digest.ensures.found digest is.digest_fits (c.in_ok-id.ensures.behind ∙ digest_part id digest c.args.line.now is))
