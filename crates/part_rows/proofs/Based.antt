-- What a record may stand on.
use Rattle.std.proofs.Common.{◌≡◌, ℕ, Bool, true, false, ◌&&◌, ◌||◌, ◌==◌, List, [], ◌∷◌, refl, arith}
use Rattle.std.specs.List.{list_any}
use Rattle.std.proofs.lemmas.Bool.{and_parts, eqb-true}
use Rattle.std.proofs.lemmas.List.Elements.{Contains-append_right}
use Rattle.fw_keep.specs.declared.entry.Entry.{Entry}
use Rattle.fw_keep.specs.Entry.{is_checkpoint, IsBase}
use Rattle.fw_keep.specs.Newest.{is_checkpoint_of}

-- an entry of this id that is a checkpoint of node p may be a base
pub base_there : (id p : ℕ) (es : List Entry) → list_any (λ (e : Entry). (e.id == id) && is_checkpoint_of p e) es ≡ true → IsBase es id p
base_there id p [] k = absurd cc
base_there id p (z ∷ es) k = by (base_there id p es) ((z.id == id) && is_checkpoint_of p z) refl k
  where
    rest : Bool
    rest = list_any (λ (e : Entry). (e.id == id) && is_checkpoint_of p e) es

    by : (rest ≡ true → IsBase es id p) → (b : Bool) → ((z.id == id) && is_checkpoint_of p z) ≡ b → (b || rest) ≡ true → IsBase (z ∷ es) id p
    by later false own k =
        let is = later k in
        record {
          entry = is.entry;
          there = Contains-append_right (z ∷ []) es is.entry is.there;
          named = is.named;
          of_node = is.of_node;
          of_checkpoint = is.of_checkpoint;
        }
    by later true own k =
        let both = and_parts (z.id == id) (is_checkpoint_of p z) own in
        let of = and_parts (z.node == p) (is_checkpoint z.written) both.1 in
        record { entry = z; there = (0, omega arith, refl); named = eqb-true z.id id both.0; of_node = eqb-true z.node p of.0; of_checkpoint = of.1 }
