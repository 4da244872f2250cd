-- How the texts of batches grow.
use Rattle.std.proofs.Common.{◌≡◌, ℕ, ◌+◌, ◌<◌, List, [], ◌∷◌, ◌++◌, length, get_or, map, take, sym, ap, ◌∙◌}
use Rattle.std.specs.Prelude.{codes}
use Rattle.std.specs.List.{flat_map}
use Rattle.std.proofs.lemmas.Grind.{flat_map-append}
use Rattle.std.proofs.lemmas.List.{append-nil, map-append, take_more}
use Rattle.fw_bag.specs.Bag.{BagState}
use Rattle.fw_bag.specs.declared.rec.Rec.{Rec}
use Rattle.fw_bag.specs.RecText.{rec_text}
use Rattle.fw_lines.specs.Written.{behind_space, spaced}
use Rattle.fw_flow_text.specs.BatchesText.{line_of_batch, lines_of_batches}

-- one rec more, behind a space
pub recs_more : (recs : List Rec) (rec : Rec) → spaced (map rec_text (recs ++ rec ∷ [])) ≡ spaced (map rec_text recs) ++ (codes " " ++ rec_text rec)
recs_more recs rec =
    ap spaced (map-append rec_text recs (rec ∷ []))
    ∙ flat_map-append behind_space (map rec_text recs) (rec_text rec ∷ [])
    ∙ ap (λ t. spaced (map rec_text recs) ++ t) (append-nil (behind_space (rec_text rec)))

-- one batch more, as its line
pub batches_more : (name : List ℕ) (bags : List BagState) (i : ℕ) (bag : BagState) → i < length bags → bag ≡ get_or bags i bag
    → lines_of_batches name (map (λ (b : BagState). b.recs) (take i bags)) ++ line_of_batch name bag.recs ≡ lines_of_batches name (map (λ (b : BagState). b.recs) (take (i + 1) bags))
batches_more name bags i bag lt is =
    let recs = λ (b : BagState). b.recs in
    let all = λ (bs : List BagState). lines_of_batches name (map recs bs) in
    sym (ap all (take_more bags i bag lt ∙ ap (λ b. take i bags ++ b ∷ []) (sym is))
    ∙ ap (lines_of_batches name) (map-append recs (take i bags) (bag ∷ []))
    ∙ flat_map-append (line_of_batch name) (map recs (take i bags)) (bag.recs ∷ [])
    ∙ ap (λ t. all (take i bags) ++ t) (append-nil (line_of_batch name bag.recs)))
