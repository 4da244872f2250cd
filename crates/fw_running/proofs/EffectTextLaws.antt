-- How the text of recs grows by one.
use Rattle.std.proofs.Common.{◌≡◌, List, [], ◌∷◌, ◌++◌, sym, ap, ◌∙◌, append_assoc}
use Rattle.std.proofs.lemmas.List.{append-nil}
use Rattle.std.specs.Prelude.{codes}
use Rattle.fw_bag.specs.declared.rec.Rec.{Rec}
use Rattle.fw_bag.specs.RecText.{rec_text}
use Rattle.fw_running.specs.EffectText.{recs_text}

-- one rec more is printed at the end
pub recs_text-push : (recs : List Rec) (rec : Rec) → recs_text (recs ++ rec ∷ []) ≡ recs_text recs ++ (codes " " ++ rec_text rec)
recs_text-push [] rec = append-nil (codes " " ++ rec_text rec)
recs_text-push (r ∷ recs) rec =
    ap (λ t. (codes " " ++ rec_text r) ++ t) (recs_text-push recs rec)
    ∙ sym (append_assoc (codes " " ++ rec_text r) (recs_text recs) (codes " " ++ rec_text rec))
