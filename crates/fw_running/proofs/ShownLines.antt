-- The lines that are shown, one for each node.
use Rattle.std.proofs.Common.{◌≡◌, ℕ, ◌+◌, List, ◌++◌, get_or, sym, ap, ◌∙◌}
use Rattle.std.specs.List.{flat_map, range_with_len}
use Rattle.fw_lemmas.proofs.Lists.{joined_more}
use Rattle.fw_flow.specs.Dataflow.{Dataflow, node_at}
use Rattle.fw_flow.specs.declared.choice.Cut.{Cut}
use Rattle.fw_flow.specs.declared.choice.Cut.TheVariants.{Present}

-- the line of one node more
pub line_more : (line_of : List ℕ → Cut → List ℕ) (flow : Dataflow) (cuts : List Cut) (place : ℕ) (name : List ℕ) (cut : Cut)
    → name ≡ (node_at flow place).name → cut ≡ get_or cuts place Present
    → flat_map (λ p. line_of (node_at flow p).name (get_or cuts p Present)) (range_with_len 0 place) ++ line_of name cut
    ≡ flat_map (λ p. line_of (node_at flow p).name (get_or cuts p Present)) (range_with_len 0 (place + 1))
line_more line_of flow cuts place name cut named there =
    let make : ℕ → List ℕ = λ p. line_of (node_at flow p).name (get_or cuts p Present) in
    ap (λ l. flat_map make (range_with_len 0 place) ++ l) (ap (λ n. line_of n cut) named ∙ ap (line_of (node_at flow place).name) there) ∙ sym (joined_more make place)
