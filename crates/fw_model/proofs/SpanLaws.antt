-- What stands on a checkpoint: the later ones of its node up to the next whole one.
use Rattle.std.proofs.Common.{◌≡◌, ℕ, Bool, true, false, ◌&&◌, ◌==◌, cond, List, [], ◌∷◌, ◌++◌, filter, map, refl, sym, ap, ◌∙◌, inl, inr, Option}
use Rattle.std.specs.List.{AllByRecursion}
use Rattle.std.proofs.lemmas.Bool.{cases_Bool, cond_both, eq-eqb}
use Rattle.fw_lemmas.proofs.Bools.{two_ways}
use Rattle.fw_frontier.specs.Front.{Front}
use Rattle.fw_model.specs.Machine.{Write, Written, checkpoint, logged_event, Stage}
use Rattle.fw_model.specs.LawsOfChains.{link_of}
use Rattle.fw_model.proofs.WriteLaws.{HoldsOfOne}
use Rattle.fw_model.proofs.ChainLaws.{link_at, KeepsFirst}

-- ---- a test of the checkpoints up to the next whole one

abbrev pub spanned_at : (Front → Bool) → ℕ → Written → Bool → Bool
spanned_at test depth (logged_event s) rest = rest
spanned_at test depth (checkpoint g l) rest = cond (depth == 0) true (test g && rest)

-- whether each of node p's checkpoints among these passes up to the next whole one; where none is whole the rest has to pass too
abbrev pub spanned : ℕ → (Front → Bool) → Bool → List Write → Bool
spanned p test rest [] = rest
spanned p test rest (y ∷ ys) = cond (y.node == p) (spanned_at test y.depth y.written (spanned p test rest ys)) (spanned p test rest ys)

pub spanned-append : (p : ℕ) (test : Front → Bool) (rest : Bool) (xs ys : List Write) → spanned p test rest (xs ++ ys) ≡ spanned p test (spanned p test rest ys) xs
spanned-append p test rest [] ys = refl
spanned-append p test rest (x ∷ xs) ys =
    ap (λ b. cond (x.node == p) (spanned_at test x.depth x.written b) b) (spanned-append p test rest xs ys)

pub spanned-staged : (p : ℕ) (test : Front → Bool) (rest : Bool) (far : Write → Stage) (xs : List Write)
    → spanned p test rest (map (λ (x : Write). record x { stage = far x }) xs) ≡ spanned p test rest xs
spanned-staged p test rest far [] = refl
spanned-staged p test rest far (x ∷ xs) =
    ap (λ b. cond (x.node == p) (spanned_at test x.depth x.written b) b) (spanned-staged p test rest far xs)

-- ---- a checkpoint that does not pass

-- what is written is a checkpoint that does not pass
abbrev pub IsFailing : (Front → Bool) → Written → Type 0
IsFailing test (checkpoint g l) = test g ≡ false
IsFailing test (logged_event s) = ⊥

abbrev pub IsStop : ℕ → (Front → Bool) → Write → Type 0
IsStop p test y = (y.node ≡ p) × IsFailing test y.written

stop-at : (test : Front → Bool) (depth : ℕ) (w : Written) → IsFailing test w → (a b : Bool) → spanned_at test depth w a ≡ spanned_at test depth w b
stop-at test depth (checkpoint g l) fails a b = ap (λ c. cond (depth == 0) true (c && a)) fails ∙ sym (ap (λ c. cond (depth == 0) true (c && b)) fails)
stop-at test depth (logged_event s) fails a b = absurd fails

stop-here : (p : ℕ) (test : Front → Bool) (y : Write) → IsStop p test y → (a b : Bool)
    → cond (y.node == p) (spanned_at test y.depth y.written a) a ≡ cond (y.node == p) (spanned_at test y.depth y.written b) b
stop-here p test y stop a b =
    let own = eq-eqb y.node p stop.0 in
    ap (λ c. cond c (spanned_at test y.depth y.written a) a) own ∙ stop-at test y.depth y.written stop.1 a b
    ∙ sym (ap (λ c. cond c (spanned_at test y.depth y.written b) b) own)

-- after a checkpoint that does not pass nothing matters
pub spanned-stopped : (p : ℕ) (test : Front → Bool) (xs : List Write) → HoldsOfOne (IsStop p test) xs → (a b : Bool) → spanned p test a xs ≡ spanned p test b xs
spanned-stopped p test [] stop a b = absurd stop
spanned-stopped p test (x ∷ xs) (inl stop) a b = stop-here p test x stop (spanned p test a xs) (spanned p test b xs)
spanned-stopped p test (x ∷ xs) (inr stop) a b =
    ap (λ c. cond (x.node == p) (spanned_at test x.depth x.written c) c) (spanned-stopped p test xs stop a b)

-- ---- a first part

has-link : (p : ℕ) (test : Front → Bool) (y : Write) → IsStop p test y → link_at p y ≡ [] → ⊥
has-link p test y stop none = by y.base y.depth y.written stop.1 (sym (ap (λ b. cond b (link_of y.base y.depth y.written) []) (eq-eqb y.node p stop.0)) ∙ none)
  where
    by : (base : Option Front) (depth : ℕ) (w : Written) → IsFailing test w → link_of base depth w ≡ [] → ⊥
    by base depth (checkpoint g l) fails e = cc
    by base depth (logged_event s) fails e = fails

no-link : (p : ℕ) (test : Front → Bool) (y : Write) (rest : Bool) → link_at p y ≡ [] → cond (y.node == p) (spanned_at test y.depth y.written rest) rest ≡ rest
no-link p test y rest none = elim (cases_Bool (y.node == p)) [
  | inl own ↦
      ap (λ b. cond b (spanned_at test y.depth y.written rest) rest) own
      ∙ by y.base y.depth y.written (sym (ap (λ b. cond b (link_of y.base y.depth y.written) []) own) ∙ none)
  | inr other ↦ ap (λ b. cond b (spanned_at test y.depth y.written rest) rest) other
]
  where
    by : (base : Option Front) (depth : ℕ) (w : Written) → link_of base depth w ≡ [] → spanned_at test depth w rest ≡ rest
    by base depth (checkpoint g l) e = absurd cc
    by base depth (logged_event s) e = refl

-- a stop that is kept
abbrev pub IsKeptStop : ℕ → (Front → Bool) → (Write → Bool) → Write → Type 0
IsKeptStop p test keep y = IsStop p test y × (keep y ≡ true)

no-stop : (p : ℕ) (test : Front → Bool) (keep : Write → Bool) (xs : List Write) → AllByRecursion (λ (y : Write). keep y ≡ true → link_at p y ≡ []) xs
    → HoldsOfOne (IsKeptStop p test keep) xs → ⊥
no-stop p test keep [] none stop = stop
no-stop p test keep (x ∷ xs) none (inl stop) = has-link p test x stop.0 (none.0 stop.1)
no-stop p test keep (x ∷ xs) none (inr stop) = no-stop p test keep xs none.1 stop

pub spanned-first : (p : ℕ) (test : Front → Bool) (keep : Write → Bool) (xs : List Write) → KeepsFirst p keep xs → HoldsOfOne (IsKeptStop p test keep) xs → (rest : Bool)
    → spanned p test rest (filter keep xs) ≡ spanned p test rest xs
spanned-first p test keep [] k stop rest = absurd stop
spanned-first p test keep (x ∷ xs) k stop rest =
    let at : Bool → Bool = λ b. cond (x.node == p) (spanned_at test x.depth x.written b) b in
    cond_both (keep x) (x ∷ filter keep xs) (filter keep xs) (λ ys. spanned p test rest ys ≡ spanned p test rest (x ∷ xs))
    (λ e. elim stop [
      | inl here ↦ stop-here p test x here.0 (spanned p test rest (filter keep xs)) (spanned p test rest xs)
      | inr later ↦ ap at (spanned-first p test keep xs k.1 later rest)
    ])
    (λ e.
    let later : HoldsOfOne (IsKeptStop p test keep) xs = elim stop [ inl here ↦ absurd (two_ways (keep x) here.1 e) | inr later ↦ later ] in
    elim (k.0 e) [
      | inl none ↦ spanned-first p test keep xs k.1 later rest ∙ sym (no-link p test x (spanned p test rest xs) none)
      | inr gone ↦ absurd (no-stop p test keep xs gone later)
    ])
