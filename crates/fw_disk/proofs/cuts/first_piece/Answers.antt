use Rattle.std.proofs.Common.{◌∷◌, sym, ◌∙◌}
use Rattle.fw_disk.specs.Pieces.{pieces}
use Rattle.fw_disk.proofs.PieceLaws.{pieces_none, pieces_first}
use Rattle.fw_disk.proofs.TextLaws.{if_none}
use Rattle.fw_disk.proofs.cuts.first_piece.Goals as goal

pub returns-in_err-piece-clause-none : goal.returns-in_err-piece-clause-none
returns-in_err-piece-clause-none c = if_none c.from_residual.result _ (pieces_none c.args.byte c.args.text.now c.in_err-piece.ensures.none)

pub returns-clause-first : goal.returns-clause-first
returns-clause-first c =
    pieces_first c.args.byte c.args.text.now c.in_ok-piece.ensures.there ∙ (λ i. sym c.in_ok-piece.ensures.before i ∷ pieces c.args.byte (sym c.in_ok-piece.ensures.behind i))
