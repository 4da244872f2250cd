-- What is kept of a source that is fed.
use Rattle.std.proofs.Common.{◌<◌, ◌≡◌, ℕ, ◌+◌, ◌-◌, ◌≤◌, false, Bool, not, List, [], ◌∷◌, ◌++◌, length, filter, refl, ap, sym, ◌∙◌, arith}
use Rattle.std.specs.List.{enumerate_from}
use Rattle.std.proofs.lemmas.List.{length-append}
use Rattle.std.proofs.lemmas.List.Elements.{filter-append}
use Rattle.fw_lemmas.proofs.Filters.{filter-in}
use Rattle.fw_bag.specs.declared.rec.Rec.{Rec}
use Rattle.fw_frontier.specs.Front.{Front, inside}
use Rattle.fw_frontier.proofs.InsideLaws.{inside-above}
use Rattle.fw_flow.specs.Dataflow.{batches_of}
use Rattle.fw_model.specs.Machine.{front_of}
use Rattle.fw_model.proofs.StampLaws.{line-leq}
use Rattle.fw_feeding.specs.Feeding.{with_batches}
use Rattle.fw_border.specs.Sources.{without_last}
use Rattle.fw_feeding.specs.LawsOfFeeding.{FedSourcesStand}

enumerate-append : {X : Type 0} (n : ℕ) (xs ys : List X) → enumerate_from n (xs ++ ys) ≡ enumerate_from n xs ++ enumerate_from (n + length xs) ys
enumerate-append n [] ys = ap (λ k. enumerate_from k ys) (omega arith)
enumerate-append n (x ∷ xs) ys =
    let e : n + 1 + length xs ≡ n + length (x ∷ xs) = omega arith in
    ap (λ zs. (n, x) ∷ zs) (enumerate-append (n + 1) xs ys ∙ ap (λ k. enumerate_from (n + 1) xs ++ enumerate_from k ys) e)

last-off : {X : Type 0} (xs : List X) (x : X) → without_last (xs ++ x ∷ []) ≡ xs
last-off [] x = refl
last-off (y ∷ []) x = refl
last-off (y ∷ z ∷ xs) x = ap (λ ws. y ∷ ws) (last-off (z ∷ xs) x)

-- whether a batch lies outside a frontier, by its epoch
is_out : Front → ℕ × List Rec → Bool
is_out f batch = not (inside f (batch.0 ∷ []))

held-more : (f : Front) (came more : List (List Rec)) → filter (is_out f) (enumerate_from 0 (came ++ more))
    ≡ filter (is_out f) (enumerate_from 0 came) ++ filter (is_out f) (enumerate_from (length came) more)
held-more f came more =
    let n : 0 + length came ≡ length came = omega arith in
    ap (filter (is_out f)) (enumerate-append 0 came more ∙ ap (λ k. enumerate_from 0 came ++ enumerate_from k more) n)
    ∙ filter-append (is_out f) (enumerate_from 0 came) (enumerate_from (length came) more)

-- from an epoch on that lies outside, all do
all-out : (f : Front) (n : ℕ) → inside f (n ∷ []) ≡ false → (m : ℕ) (bs : List (List Rec)) → n ≤ m
    → filter (is_out f) (enumerate_from m bs) ≡ enumerate_from m bs
unfolding is_out
all-out f n out m [] l = refl
all-out f n out m (b ∷ bs) l =
    filter-in (is_out f) (m, b) (enumerate_from (m + 1) bs) (ap not (inside-above f (n ∷ []) (m ∷ []) out (line-leq n m l)))
    ∙ ap (λ xs. (m, b) ∷ xs) (all-out f n out (m + 1) bs (omega arith))

-- the last batch is held where it lies outside
pub last-held : (f : Front) (came : List (List Rec)) (last : List Rec) → inside f (length came ∷ []) ≡ false → (held : List (ℕ × List Rec))
    → held ≡ filter (λ batch. not (inside f (batch.0 ∷ []))) (enumerate_from 0 (came ++ last ∷ [])) → 0 < length held
unfolding is_out
last-held f came last out held e =
    let before = filter (is_out f) (enumerate_from 0 came) in
    let all : held ≡ before ++ (length came, last) ∷ [] =
    e ∙ held-more f came (last ∷ []) ∙ ap (λ xs. before ++ xs) (all-out f (length came) out (length came) (last ∷ []) (omega arith)) in
    let count = ap length all ∙ length-append before ((length came, last) ∷ []) in
    omega arith

pub fed-sources_stand : FedSourcesStand
unfolding is_out
fed-sources_stand flow now later state s recs behind t out source k =
    let f = front_of state.low s in
    let n = length t.came in
    let before = filter (is_out f) (enumerate_from 0 t.came) in
    let m : source.given ≡ n + 1 = k.given ∙ ap length t.before ∙ length-append t.came (t.last ∷ []) in
    let outside : (bs : List (List Rec)) → filter (is_out f) (enumerate_from 0 (t.came ++ bs)) ≡ before ++ enumerate_from n bs =
    λ bs. held-more f t.came bs ∙ ap (λ xs. before ++ xs) (all-out f n out n bs (omega arith)) in
    let held : source.held ≡ before ++ (n, t.last) ∷ [] =
    k.held ∙ ap (λ bs. filter (is_out f) (enumerate_from 0 bs)) t.before ∙ outside (t.last ∷ []) in
    let off : without_last source.held ≡ before = ap without_last held ∙ last-off before (n, t.last) in
    let epoch : source.given - 1 ≡ n = omega arith in
    record {
      given =
          let l : length (batches_of (with_batches flow later) s) ≡ n + length (recs ∷ behind) = ap length t.after ∙ length-append t.came (recs ∷ behind) in
          omega arith;
      injected = k.injected;
      held = ap (λ bs. bs ++ enumerate_from (source.given - 1) (recs ∷ behind)) off
          ∙ ap (λ x. before ++ enumerate_from x (recs ∷ behind)) epoch
          ∙ sym (ap (λ bs. filter (is_out f) (enumerate_from 0 bs)) t.after ∙ outside (recs ∷ behind));
    }
