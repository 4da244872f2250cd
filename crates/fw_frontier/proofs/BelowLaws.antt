-- The numbers below a limit, as a frontier of a domain of one coordinate.
use Rattle.std.proofs.Common.{◌≡◌, ℕ, ◌≤◌, Bool, true, false, not, ◌&&◌, nat_le, nat_lt, List, [], ◌∷◌, length, Option, Some, None, refl, sym, ap, ◌∙◌, arith}
use Rattle.std.specs.Prelude.{slice_index}
use Rattle.std.proofs.lemmas.Bool.Decides.{nat_tests}
use Rattle.fw_time.specs.declared.stamp.Bounds.{Bounds}
use Rattle.fw_time.specs.Stamp.{leq, in_domain}
use Rattle.fw_time.proofs.DomainLaws.{domain-length, plain-in_domain}
use Rattle.fw_frontier.specs.Below.{is_below}
use Rattle.fw_frontier.specs.Front.{inside, frontier_of, IsFrontOf}

-- not all numbers are below a limit
pub none-within : (k : ℕ) → ((n : ℕ) → is_below None n ≡ true → is_below (Some k) n ≡ true) → false ≡ true
none-within k h = let e : nat_lt k k ≡ true = h k refl in grind (arith, nat_tests)

-- the numbers below a limit are below a greater one
pub some-within : (a b : ℕ) → nat_le a b ≡ true → (n : ℕ) → nat_lt n a ≡ true → nat_lt n b ≡ true
some-within a b h n k = grind (arith, nat_tests)

-- and of no lesser one
pub within-some : (a b : ℕ) → ((n : ℕ) → nat_lt n a ≡ true → nat_lt n b ≡ true) → nat_le a b ≡ true
within-some a b h = by (nat_le a b) refl
  where
    turned : (a b : ℕ) → nat_le a b ≡ false → nat_lt b a ≡ true
    turned a b e = grind (arith, nat_tests)

    never : (b : ℕ) → nat_lt b b ≡ true → false ≡ true
    never b e = grind (arith, nat_tests)

    by : (c : Bool) → nat_le a b ≡ c → c ≡ true
    by true e = refl
    by false e = never b (h b (turned a b e))

-- a list that names a frontier names each with the same stamps
pub names-as : (b : Bounds) (os : List (List ℕ)) (f g : List ℕ → Bool) → IsFrontOf b os f → ((t : List ℕ) → f t ≡ g t) → IsFrontOf b os g
names-as b os f g h e = record { canonical = h.canonical; same = λ t. h.same t ∙ e t }

-- a limit in the domain
pub names-limit : (b : Bounds) (g k : ℕ) (os : List (List ℕ)) → b.greatest ≡ g ∷ [] → IsFrontOf b os (frontier_of b ((k ∷ []) ∷ [])) → IsFrontOf b os (λ t. in_domain b t && is_below (Some k) (slice_index t 0))
names-limit b g k os e h = names-as b os _ _ h (λ t. by t (in_domain b t) refl)
  where
    turned : (k n : ℕ) → (not (nat_le k n && true) && true) ≡ nat_lt n k
    turned k n = grind (arith, nat_tests)

    shape : (t : List ℕ) → length t ≡ 1 → (not (leq (k ∷ []) t) && true) ≡ nat_lt (slice_index t 0) k
    shape [] l = cc
    shape (x ∷ []) l = turned k x
    shape (x ∷ y ∷ t) l = absurd (omega arith)

    by : (t : List ℕ) (c : Bool) → in_domain b t ≡ c → (c && (not (leq (k ∷ []) t) && true)) ≡ (c && nat_lt (slice_index t 0) k)
    by t true l = shape t (domain-length b t l ∙ ap length e)
    by t false l = refl

-- a number of a domain of one coordinate
pub in_domain-one : (b : Bounds) (g k : ℕ) → b.sides ≡ false → b.greatest ≡ g ∷ [] → k ≤ g → in_domain b (k ∷ []) ≡ true
in_domain-one b g k p e h = plain-in_domain b (k ∷ []) p ∙ ap (leq (k ∷ [])) e ∙ fits k g h
  where
    fits : (k g : ℕ) → k ≤ g → (nat_le k g && true) ≡ true
    fits k g h = grind (arith, nat_tests)

-- the same frontier, by the number that each stamp of the domain has
pub names-numbers : (b : Bounds) (os : List (List ℕ)) (until : Option ℕ) (f : List ℕ → ℕ) → ((t : List ℕ) → length t ≡ length b.greatest → f t ≡ slice_index t 0) → IsFrontOf b os (λ t. in_domain b t && is_below until (slice_index t 0)) → IsFrontOf b os (λ t. in_domain b t && is_below until (f t))
names-numbers b os until f h n = names-as b os (λ t. in_domain b t && is_below until (slice_index t 0)) (λ t. in_domain b t && is_below until (f t)) n (λ t. by t (in_domain b t) refl)
  where
    by : (t : List ℕ) (c : Bool) → in_domain b t ≡ c → (c && is_below until (slice_index t 0)) ≡ (c && is_below until (f t))
    by t true e = ap (is_below until) (sym (h t (domain-length b t e)))
    by t false e = refl

-- the frontier that has stamps outside, by a test that agrees with them on the domain
pub names-by : (b : Bounds) (os ss : List (List ℕ)) (f : List ℕ → Bool) → IsFrontOf b os (frontier_of b ss) → ((t : List ℕ) → in_domain b t ≡ true → inside ss t ≡ f t) → IsFrontOf b os (λ t. in_domain b t && f t)
names-by b os ss f n h = names-as b os (frontier_of b ss) (λ t. in_domain b t && f t) n (λ t. by t (in_domain b t) refl)
  where
    by : (t : List ℕ) (c : Bool) → in_domain b t ≡ c → (c && inside ss t) ≡ (c && f t)
    by t true e = h t e
    by t false e = refl
