-- How the text of a certificate grows.
use Rattle.std.proofs.Common.{◌≡◌, ℕ, ◌+◌, ◌<◌, List, [], ◌∷◌, ◌++◌, length, get_or, take, sym, ap, ◌∙◌}
use Rattle.std.proofs.lemmas.Grind.{flat_map-append}
use Rattle.std.proofs.lemmas.List.{append-nil, take_more}
use Rattle.fw_flow.specs.declared.trail.Lowering.{Lowering}
use Rattle.fw_flow.specs.Dataflow.{Dataflow}
use Rattle.fw_certify.specs.CertificateText.{down_line, down_lines}

-- a line more is written behind those so far
pub down_lines-more : (flow : Dataflow) (ls : List Lowering) (i : ℕ) (l d : Lowering) → i < length ls → l ≡ get_or ls i d
    → down_lines flow (take i ls) ++ down_line flow l ≡ down_lines flow (take (i + 1) ls)
down_lines-more flow ls i l d lt e =
    ap (λ m. down_lines flow (take i ls) ++ down_line flow m) e
    ∙ sym (ap (down_lines flow) (take_more ls i d lt) ∙ flat_map-append (down_line flow) (take i ls) (get_or ls i d ∷ [])
    ∙ ap (λ t. down_lines flow (take i ls) ++ t) (append-nil (down_line flow (get_or ls i d))))
