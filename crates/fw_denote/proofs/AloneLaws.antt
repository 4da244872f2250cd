-- What is sent rec by rec.
use Rattle.std.proofs.Common.{◌≡◌, ℕ, ◌+◌, ◌<◌, List, [], ◌∷◌, ◌++◌, length, Option, Some, None, refl, sym, ap, ◌∙◌, get_or, drop, append_assoc}
use Rattle.std.specs.List.{flat_map}
use Rattle.std.proofs.lemmas.List.{at_drop_more}
use Rattle.fw_time.specs.Stamp.{Stamp}
use Rattle.fw_bag.specs.declared.rec.Rec.{Rec}
use Rattle.fw_flow.specs.WholeBags.{Timed, timed_at_some, timed_recs}

-- ---- one rec

-- where a rec is not sent on nothing is sent
pub sent_none : (at : Option Stamp) (rs : List Rec) → rs ≡ [] → [] ≡ timed_at_some at rs
sent_none None rs e = refl
sent_none (Some t) rs e = sym (ap (timed_recs t) e)

pub sent_some : (at : Option Stamp) (rec : Rec) (rs : List Rec) (sent : List Timed) → rs ≡ rec ∷ [] → sent ≡ timed_at_some at (rec ∷ []) → sent ≡ timed_at_some at rs
sent_some at rec rs sent e h = h ∙ sym (ap (timed_at_some at) e)

-- ---- what is gathered for each element in turn

pub gathered_more : {X Y : Type 0} (g : X → List Y) (xs : List X) (i : ℕ) (d : X) (more ys all : List Y) → i < length xs → more ≡ g (get_or xs i d)
    → ys ++ flat_map g (drop i xs) ≡ all → (ys ++ more) ++ flat_map g (drop (i + 1) xs) ≡ all
gathered_more g xs i d more ys all l e h =
    append_assoc ys more (flat_map g (drop (i + 1) xs))
    ∙ ap (λ zs. ys ++ (zs ++ flat_map g (drop (i + 1) xs))) e
    ∙ sym (ap (λ zs. ys ++ zs) (at_drop_more (flat_map g) xs i d l)) ∙ h
