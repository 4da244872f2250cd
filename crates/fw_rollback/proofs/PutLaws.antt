-- What was built is put into its places, from the last one on.
use Rattle.std.proofs.Common.{◌≡◌, ◌≢◌, ℕ, ◌≤◌, ◌<◌, List, [], ◌∷◌, ◌++◌, length, length-append, get_or, refl, sym, ap, ◌∙◌, inl, inr, arith}
use Rattle.std.proofs.lemmas.Bool.{cases_lt}
use Rattle.std.proofs.lemmas.List.{append-nil}
use Rattle.std.proofs.Math.Seq.{get_or-append_seam, append_snoc}

-- Of what was built this is left to be put: at the places before, all is as it was, and at the others as it is to be.
pub record HasPut {A : Type 0} (d : A) (after : ℕ → A) (built old rest now : List A) : Type 0 where
  pub put : List A
  pub parts : built ≡ rest ++ put
  pub each : length now ≡ length old
  pub before : (q : ℕ) → q < length rest → get_or now q d ≡ get_or old q d
  pub behind : (q : ℕ) → length rest ≤ q → q < length built → get_or now q d ≡ after q

-- nothing was put yet
pub nothing_put : {A : Type 0} (d : A) (after : ℕ → A) (built old : List A) → HasPut d after built old built old
nothing_put d after built old = record {
  put = [];
  parts = sym (append-nil built);
  each = refl;
  before = λ q l. refl;
  behind = λ q m l. absurd (omega arith);
}

-- what is put next stood there among what was built
pub put_next : {A : Type 0} (d : A) (after : ℕ → A) (built old rest left now : List A) (x : A) → HasPut d after built old rest now → rest ≡ left ++ x ∷ []
    → (get_or built (length left) d ≡ x) × (length left < length built) × (get_or now (length left) d ≡ get_or old (length left) d)
put_next {A = A} d after built old rest left now x h e =
    let whole : built ≡ left ++ x ∷ h.put = h.parts ∙ ap (λ (xs : List A). xs ++ h.put) e ∙ append_snoc left x h.put in
    let long = ap length e ∙ length-append left (x ∷ []) in
    let all = ap length whole ∙ length-append left (x ∷ h.put) in
    (ap (λ (xs : List A). get_or xs (length left) d) whole ∙ get_or-append_seam left x h.put d, omega arith, h.before (length left) (omega arith))

-- one more is put, as it is to be of what was there and what was built
pub put_more : {A : Type 0} (d : A) (change : ℕ → A → A → A) (built old rest left now next : List A) (x : A) (n : ℕ)
    → HasPut d (λ q. change q (get_or old q d) (get_or built q d)) built old rest now → rest ≡ left ++ x ∷ [] → n ≡ length left
    → length next ≡ length now → get_or next n d ≡ change n (get_or now n d) x → ((q : ℕ) → q ≢ n → get_or next q d ≡ get_or now q d)
    → HasPut d (λ q. change q (get_or old q d) (get_or built q d)) built old left next
put_more {A = A} d change built old rest left now next x n h e place long here others =
    let after : ℕ → A = λ q. change q (get_or old q d) (get_or built q d) in
    let size = ap length e ∙ length-append left (x ∷ []) in
    let seen = put_next d after built old rest left now x h e in
    let is : get_or next n d ≡ after n =
    here ∙ ap (λ o. change n o x) (ap (λ i. get_or now i d) place ∙ seen.2 ∙ ap (λ i. get_or old i d) (sym place))
    ∙ ap (change n (get_or old n d)) (sym seen.0 ∙ ap (λ i. get_or built i d) (sym place)) in
    record {
      put = x ∷ h.put;
      parts = h.parts ∙ ap (λ (xs : List A). xs ++ h.put) e ∙ append_snoc left x h.put;
      each = long ∙ h.each;
      before = λ q l. others q (λ s. absurd (omega (arith, s))) ∙ h.before q (omega arith);
      behind = λ q m l. elim (cases_lt n q) [
        | inl k ↦ others q (λ s. absurd (omega (arith, s))) ∙ h.behind q (omega arith) l
        | inr k ↦
            let s : q ≡ n = omega arith in
            ap (λ i. get_or next i d) s ∙ is ∙ ap after (sym s)
      ];
    }

-- all is put
pub all_put : {A : Type 0} (d : A) (after : ℕ → A) (built old rest now : List A) → HasPut d after built old rest now → rest ≡ []
    → (q : ℕ) → q < length built → get_or now q d ≡ after q
all_put d after built old rest now h e q l = h.behind q (let z = ap length e in omega arith) l
