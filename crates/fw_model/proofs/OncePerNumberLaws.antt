-- On a numbered edge the denotation has at most one rec at each number, and a numbered list of recs has one.
use Rattle.std.proofs.Common.{◌≡◌, ℕ, ◌+◌, ◌<◌, ◌≤◌, true, false, cond, List, [], ◌∷◌, length, refl, sym, ap, subst, ◌∙◌, inl, inr, arith}
use Rattle.std.specs.Ordering.{is_eq}
use Rattle.std.proofs.lemmas.Bool.{and_parts, cases_Bool, cases_eq}
use Rattle.fw_lemmas.proofs.Bools.{two_ways}
use Rattle.fw_lemmas.proofs.Each.{each-one}
use Rattle.fw_time.specs.Stamp.{Stamp, leq, same}
use Rattle.fw_bag.specs.declared.rec.Rec.{Rec}
use Rattle.fw_bag.specs.Rec.{rec_cmp}
use Rattle.fw_bag.proofs.RecLaws.{rec_cmp-refl, is_eq-same}
use Rattle.fw_flow.specs.Dataflow.{System, is_numbered}
use Rattle.fw_flow.specs.Projection.{first_coordinate}
use Rattle.fw_flow.specs.WellFormed.{IsWellFormed}
use Rattle.fw_flow.specs.WholeBags.{Timed}
use Rattle.fw_model.specs.Denotation.{Family, IsDenotation, AreNumberedFrom}
use Rattle.fw_model.proofs.NumberedLaws.{denotation-numbered}
use Rattle.fw_model.proofs.StampLaws.{in_line, same-is}
use Rattle.fw_model.proofs.WeightLaws.{weigh, weigh-lighter, one, one-in, one-out, is_at, is_at-is, is_at-self}
use Rattle.fw_model.proofs.ArrivalLaws.{weigh-both}
use Rattle.fw_model.proofs.LedgerLaws.{AreNumbered}

-- 1 for a rec at this stamp, and else 0
abbrev pub any_at : Stamp → Timed → ℕ
any_at t r = cond (same t r.at) 1 0

-- ---- at most one rec at each number

above-none : (n : ℕ) (xs : List Timed) → AreNumberedFrom n xs → (t : Stamp) → first_coordinate t < n → weigh (any_at t) xs ≡ 0
unfolding weigh
above-none n [] a t l = refl
above-none n (x ∷ xs) a t l =
    let h = above-none (n + 1) xs a.1 t (omega arith) in
    let o : same t x.at ≡ false = elim (cases_Bool (same t x.at)) [
      | inl e ↦ let i = ap first_coordinate (same-is t x.at e ∙ a.0) in absurd (omega arith)
      | inr e ↦ e
    ] in
    let z : any_at t x ≡ 0 = ap (λ b. cond b 1 0) o in
    omega arith

numbered-once : (n : ℕ) (xs : List Timed) → AreNumberedFrom n xs → (t : Stamp) → weigh (any_at t) xs ≤ 1
unfolding weigh
numbered-once n [] a t = omega arith
numbered-once n (x ∷ xs) a t = elim (cases_Bool (same t x.at)) [
  | inl i ↦
      let at = ap first_coordinate (same-is t x.at i ∙ a.0) in
      let here : any_at t x ≡ 1 = ap (λ b. cond b 1 0) i in
      let later = above-none (n + 1) xs a.1 t (omega arith) in
      omega arith
  | inr i ↦
      let here : any_at t x ≡ 0 = ap (λ b. cond b 1 0) i in
      let later = numbered-once (n + 1) xs a.1 t in
      omega arith
]

-- on a numbered edge the denotation has at most one rec at each stamp
pub denoted-once : (sys : System) (family : Family) → IsWellFormed sys.flow → IsDenotation sys family → (e : ℕ) → is_numbered sys.flow e ≡ true
    → (t : Stamp) → weigh (any_at t) (family e) ≤ 1
denoted-once sys family w den e n t = numbered-once 0 (family e) (denotation-numbered sys family w den e n) t

-- ---- a numbered list within such a bag

numbered-has : (xs : List Timed) → AreNumbered xs → (i : ℕ) → i < length xs → (q : Rec) × (0 < weigh (one (i ∷ []) q) xs)
unfolding weigh
numbered-has [] a i l = absurd (omega arith)
numbered-has (x ∷ xs) a i l = elim (cases_eq i (length xs)) [
  | inl e ↦
      let at : i ∷ [] ≡ x.at = ap (λ n. n ∷ []) e ∙ sym a.0 in
      let z : one (i ∷ []) x.rec x ≡ 1 = ap (λ s. one s x.rec x) at ∙ one-in x.at x.rec x (is_at-self x) in
      (x.rec, omega arith)
  | inr e ↦ let h = numbered-has xs a.1 i (omega arith) in let k = h.1 in (h.0, omega arith)
]

numbered-at : (xs : List Timed) → AreNumbered xs → (t : Stamp) (q : Rec) → 0 < weigh (one t q) xs → (n : ℕ) × (t ≡ n ∷ []) × (n < length xs)
unfolding weigh
numbered-at [] a t q l = absurd (omega arith)
numbered-at (x ∷ xs) a t q l = elim (cases_Bool (is_at t q x)) [
  | inl e ↦ (length xs, ap (λ r. r.at) (is_at-is t q x e) ∙ a.0, omega arith)
  | inr e ↦
      let z = one-out t q x e in
      let h = numbered-at xs a.1 t q (omega arith) in
      let k = h.2 in
      (h.0, h.1, omega arith)
]

-- two different recs at one stamp are two
two_at : (t : Stamp) (q r : Rec) (xs : List Timed) → is_eq (rec_cmp q r) ≡ false → weigh (one t q) xs + weigh (one t r) xs ≤ weigh (any_at t) xs
two_at t q r xs o =
    let a = weigh-both (one t q) (one t r) xs in
    let b = weigh-lighter (λ x. one t q x + one t r x) (any_at t) xs (each-one (λ x. one t q x + one t r x ≤ any_at t x) xs each) in
    omega arith
  where
    each : (x : Timed) → one t q x + one t r x ≤ any_at t x
    each x = elim (cases_Bool (is_at t q x)) [
      | inl e ↦
          let i = is_at-is t q x e in
          let here : any_at t x ≡ 1 = ap (λ b. cond b 1 0) (and_parts (same t x.at) (is_eq (rec_cmp q x.rec)) e).0 in
          let y = one-in t q x e in
          let z = one-out t r x (elim (cases_Bool (is_at t r x)) [
            | inl f ↦
                let j = is_at-is t r x f in
                let k : q ≡ r = ap (λ (w : Timed). w.rec) (i ∙ sym j) in
                absurd (two_ways (is_eq (rec_cmp q r)) (sym (ap (λ w. is_eq (rec_cmp q w)) k) ∙ ap is_eq (rec_cmp-refl q)) o)
            | inr f ↦ f
          ]) in
          omega arith
      | inr e ↦
          let y = one-out t q x e in
          elim (cases_Bool (is_at t r x)) [
            | inl f ↦
                let here : any_at t x ≡ 1 = ap (λ b. cond b 1 0) (and_parts (same t x.at) (is_eq (rec_cmp r x.rec)) f).0 in
                let z = one-in t r x f in
                omega arith
            | inr f ↦ let z = one-out t r x f in omega arith
          ]
    ]

pub one-any : (t : Stamp) (q : Rec) (xs : List Timed) → weigh (one t q) xs ≤ weigh (any_at t) xs
one-any t q xs = weigh-lighter (one t q) (any_at t) xs (each-one (λ x. one t q x ≤ any_at t x) xs each)
  where
    each : (x : Timed) → one t q x ≤ any_at t x
    each x = elim (cases_Bool (is_at t q x)) [
      | inl e ↦
          let here : any_at t x ≡ 1 = ap (λ b. cond b 1 0) (and_parts (same t x.at) (is_eq (rec_cmp q x.rec)) e).0 in
          let y = one-in t q x e in
          omega arith
      | inr e ↦ let y = one-out t q x e in omega arith
    ]

agree-at : (t : Stamp) (r : Rec) (xs ys : List Timed) → 0 < weigh (one t r) xs → ((q : Rec) → weigh (one t q) xs ≤ weigh (one t q) ys) → weigh (any_at t) ys ≤ 1
    → (q : Rec) → weigh (one t q) xs ≡ weigh (one t q) ys
agree-at t r xs ys l f g q =
    let here = f r in
    let there = f q in
    elim (cases_Bool (is_eq (rec_cmp q r))) [
      | inl e ↦
          let i = is_eq-same q r e in
          let j = ap (λ z. weigh (one t z) xs) i in
          let k = ap (λ z. weigh (one t z) ys) i in
          let m = one-any t r ys in
          omega arith
      | inr e ↦ let m = two_at t q r ys e in omega arith
    ]

-- up to a number that a numbered list has, it agrees with a bag of at most one rec at each number that it is within
pub agree-below : (xs ys : List Timed) → AreNumbered xs → ((u : Stamp) (q : Rec) → weigh (one u q) xs ≤ weigh (one u q) ys)
    → ((u : Stamp) → weigh (any_at u) ys ≤ 1) → (t : Stamp) (r : Rec) → 0 < weigh (one t r) xs
    → (u : Stamp) (q : Rec) → leq u t ≡ true → weigh (one u q) xs ≡ weigh (one u q) ys
agree-below xs ys a f g t r l u q k =
    let top = numbered-at xs a t r l in
    let line = in_line u top.0 (sym (ap (leq u) top.1) ∙ k) in
    let there = top.2 in
    let below = line.2 in
    let has = numbered-has xs a line.0 (omega arith) in
    agree-at u has.0 xs ys (subst (λ s. 0 < weigh (one s has.0) xs) (sym line.1) has.1) (f u) (g u) q

-- where some rec is at a stamp, there is one
pub some_at_stamp : (t : Stamp) (xs : List Timed) → 0 < weigh (any_at t) xs → (r : Rec) × (0 < weigh (one t r) xs)
unfolding weigh
some_at_stamp t [] l = absurd (omega arith)
some_at_stamp t (x ∷ xs) l = elim (cases_Bool (same t x.at)) [
  | inl e ↦
      let z : one t x.rec x ≡ 1 = ap (λ s. one s x.rec x) (same-is t x.at e) ∙ one-in x.at x.rec x (is_at-self x) in
      (x.rec, omega arith)
  | inr e ↦
      let z : any_at t x ≡ 0 = ap (λ b. cond b 1 0) e in
      let h = some_at_stamp t xs (omega arith) in
      let k = h.1 in
      (h.0, omega arith)
]
