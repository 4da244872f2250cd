-- The epochs that a source injected are 0, 1, 2 and so on, and a cut until a number leaves so many.
use Rattle.std.proofs.Common.{◌≡◌, ℕ, ◌+◌, ◌<◌, ◌≤◌, Bool, true, false, cond, not, ◌&&◌, ◌==◌, nat_le, nat_lt, List, [], ◌∷◌, ◌++◌, length, refl, sym, ap, subst, ◌∙◌, inl, inr, arith}
use Rattle.std.proofs.lemmas.Bool.{cases_Bool, cases_lt, cond_both, cond-true, cond-false, eqb-true, le-leb, lt-ltb, leb-true, ltb-true}
use Rattle.fw_time.specs.Stamp.{in_domain}
use Rattle.fw_frontier.specs.Frontier.{Frontier}
use Rattle.fw_frontier.specs.Front.{inside}
use Rattle.fw_flow.specs.declared.event.Event.{Event}
use Rattle.fw_flow.specs.declared.event.Event.TheVariants.{Inject, Deliver, Notify}
use Rattle.fw_flow.specs.Dataflow.{System, kind_of, receiver, bounds_of, batches_of, greatest_number, is_input_kind}
use Rattle.fw_model.specs.History.{injected_count, IsLegal}
use Rattle.fw_model.specs.Machine.{events}
use Rattle.fw_model.specs.Choice.{until, kept_of}
use Rattle.fw_model.specs.Covers.{set_of}
use Rattle.fw_model.specs.Filtering.{kept_events}
use Rattle.fw_model.proofs.ChoiceLaws.{bounds-input}
use Rattle.fw_model.proofs.DomainLaws.{has_epochs}
use Rattle.fw_model.proofs.FilteredLaws.{filtered-events}
use Rattle.fw_model.proofs.LowLaws.{input-is}
use Rattle.fw_model.proofs.RecoveryLaws.{runs-legal}
use Rattle.fw_model.proofs.StampLaws.{line-leq}
use Rattle.fw_model.specs.LawsOfInjections.{epochs_injected, AreEpochsInOrder, InjectedEpochsAreInOrder, UntilLeavesThatMany}

-- ---- in order

-- The epochs are in order, and as many as were injected.
record AreAll (sys : System) (h : List Event) (s : ℕ) : Type 0 where
  in_order : AreEpochsInOrder (epochs_injected s h)
  all : length (epochs_injected s h) ≡ injected_count s h

legal-epochs : (sys : System) (h : List Event) → IsLegal sys h → (s : ℕ) → AreAll sys h s
legal-epochs sys [] l s = record { in_order = tt; all = refl }
legal-epochs sys (Deliver e m ∷ h) l s = let a = legal-epochs sys h l.1 s in record { in_order = a.in_order; all = a.all }
legal-epochs sys (Notify p t ∷ h) l s = let a = legal-epochs sys h l.1 s in record { in_order = a.in_order; all = a.all }
legal-epochs sys (Inject q x ∷ h) l s =
    let a = legal-epochs sys h l.1 s in
    let xs = epochs_injected s h in
    let n = injected_count s h in
    elim (cases_Bool (q == s)) [
      | inl e ↦
          let here : epochs_injected s (Inject q x ∷ h) ≡ x ∷ xs = ap (λ b. cond b (x ∷ []) [] ++ xs) e in
          let more : injected_count s (Inject q x ∷ h) ≡ n + 1 = cond-true (q == s) (n + 1) n e in
          let epoch : x ≡ length xs = l.0.next ∙ ap (λ p. injected_count p h) (eqb-true q s e) ∙ sym a.all in
          record {
            in_order = subst AreEpochsInOrder (sym here) (epoch, a.in_order);
            all = let b = a.all in let c = ap length here in omega arith;
          }
      | inr e ↦
          let here : epochs_injected s (Inject q x ∷ h) ≡ xs = ap (λ b. cond b (x ∷ []) [] ++ xs) e in
          let same : injected_count s (Inject q x ∷ h) ≡ n = cond-false (q == s) (n + 1) n e in
          record {
            in_order = subst AreEpochsInOrder (sym here) a.in_order;
            all = ap length here ∙ a.all ∙ sym same;
          }
    ]

pub epochs-in_order : InjectedEpochsAreInOrder
epochs-in_order sys w steps outcomes last r s =
    let a = legal-epochs sys (events last.history) (runs-legal sys steps outcomes last w.flow (has_epochs sys w) r) s in
    (a.in_order, a.all)

-- ---- until a number

-- Of n injections k are left: all where they are fewer, and else that many.
record AreLeft (k n left : ℕ) : Type 0 where
  few : n ≤ k → left ≡ n
  many : k ≤ n → left ≡ k

left-none : (k : ℕ) → AreLeft k 0 0
left-none k = record { few = λ l. refl; many = λ l. omega arith }

left-more : (k n left : ℕ) → n < k → AreLeft k n left → AreLeft k (n + 1) (left + 1)
left-more k n left l a = record {
  few = λ m. let b = a.few (omega arith) in omega arith;
  many = λ m. let b = a.few (omega arith) in omega arith;
}

left-out : (k n left : ℕ) → k ≤ n → AreLeft k n left → AreLeft k (n + 1) left
left-out k n left l a = record { few = λ m. absurd (omega arith); many = λ m. a.many l }

until-left : (sys : System) (keep : ℕ → Frontier) (s k : ℕ)
    → ((x : ℕ) → is_input_kind (kind_of sys.flow s) ≡ true → x < length (batches_of sys s) → keep s (x ∷ []) ≡ nat_lt x k)
    → (h : List Event) → IsLegal sys h → AreLeft k (injected_count s h) (injected_count s (kept_events sys.flow keep h))
until-left sys keep s k test [] l = left-none k
until-left sys keep s k test (Deliver e m ∷ h) l =
    let rest = kept_events sys.flow keep h in
    let a = until-left sys keep s k test h l.1 in
    cond_both (keep (receiver sys.flow e) m.at) (Deliver e m ∷ rest) rest (λ ws. AreLeft k (injected_count s h) (injected_count s ws)) (λ c. a) (λ c. a)
until-left sys keep s k test (Notify p t ∷ h) l =
    let rest = kept_events sys.flow keep h in
    let a = until-left sys keep s k test h l.1 in
    cond_both (keep p t) (Notify p t ∷ rest) rest (λ ws. AreLeft k (injected_count s h) (injected_count s ws)) (λ c. a) (λ c. a)
until-left sys keep s k test (Inject q x ∷ h) l =
    let rest = kept_events sys.flow keep h in
    let n = injected_count s h in
    let left = injected_count s rest in
    let a = until-left sys keep s k test h l.1 in
    elim (cases_Bool (q == s)) [
      | inr e ↦
          let same : (vs : List Event) → injected_count s (Inject q x ∷ vs) ≡ injected_count s vs =
          λ vs. cond-false (q == s) (injected_count s vs + 1) (injected_count s vs) e in
          subst (λ m. AreLeft k m (injected_count s (kept_events sys.flow keep (Inject q x ∷ h)))) (sym (same h))
          (cond_both (keep q (x ∷ [])) (Inject q x ∷ rest) rest (λ ws. AreLeft k n (injected_count s ws)) (λ c. subst (AreLeft k n) (sym (same rest)) a) (λ c. a))
      | inl e ↦
          let is = eqb-true q s e in
          let epoch : x ≡ n = l.0.next ∙ ap (λ p. injected_count p h) is in
          let input : is_input_kind (kind_of sys.flow s) ≡ true = sym (ap (λ p. is_input_kind (kind_of sys.flow p)) is) ∙ l.0.input in
          let there : x < length (batches_of sys s) = subst (λ p. x < length (batches_of sys p)) is l.0.there in
          let passes : keep q (x ∷ []) ≡ nat_lt x k = ap (λ p. keep p (x ∷ [])) is ∙ test x input there in
          let more : (vs : List Event) → injected_count s (Inject q x ∷ vs) ≡ injected_count s vs + 1 =
          λ vs. cond-true (q == s) (injected_count s vs + 1) (injected_count s vs) e in
          subst (λ m. AreLeft k m (injected_count s (kept_events sys.flow keep (Inject q x ∷ h)))) (sym (more h))
          (cond_both (keep q (x ∷ [])) (Inject q x ∷ rest) rest (λ ws. AreLeft k (n + 1) (injected_count s ws))
          (λ c.
          let lesser = ltb-true x k (sym passes ∙ c) in
          subst (AreLeft k (n + 1)) (sym (more rest)) (left-more k n left (omega arith) a))
          (λ c. elim (cases_lt x k) [
            | inl m ↦ absurd (two_cases (keep q (x ∷ [])) (passes ∙ lt-ltb x k m) c)
            | inr m ↦ left-out k n left (omega arith) a
          ]))
    ]
  where
    two_cases : (b : Bool) → b ≡ true → b ≡ false → ⊥
    two_cases true e f = cc
    two_cases false e f = cc

-- which epochs lie inside
until-inside : (x k : ℕ) → inside (until k) (x ∷ []) ≡ nat_lt x k
until-inside x k = elim (cases_lt x k) [
  | inl l ↦ elim (cases_Bool (nat_le k x)) [
    | inl e ↦ let m = leb-true k x e in absurd (omega arith)
    | inr e ↦ ap (λ b. not (b && true) && true) e ∙ sym (lt-ltb x k l)
  ]
  | inr l ↦ elim (cases_Bool (nat_lt x k)) [
    | inl e ↦ let m = ltb-true x k e in absurd (omega arith)
    | inr e ↦ ap (λ b. not (b && true) && true) (le-leb k x l) ∙ sym e
  ]
]

pub until-leaves : UntilLeavesThatMany
until-leaves sys w steps outcomes last r choice s k cut l =
    let keep = kept_of sys.flow choice in
    let h = events last.history in
    let epochs = has_epochs sys w in
    let legal = runs-legal sys steps outcomes last w.flow epochs r in
    let kept : injected_count s (kept_events sys.flow keep h) ≡ k =
    (until-left sys keep s k
    (λ x input there.
    let b = bounds_of sys.flow s in
    let few = epochs s in
    let in_it : in_domain b (x ∷ []) ≡ true =
    ap (λ c. in_domain c (x ∷ [])) (bounds-input sys.flow s (input-is (kind_of sys.flow s) input)) ∙ line-leq x greatest_number (omega arith) in
    ap (λ c. set_of sys.flow s c (x ∷ [])) cut ∙ ap (λ c. c && inside (until k) (x ∷ [])) in_it ∙ until-inside x k)
    h legal).many l in
    ap (injected_count s) (filtered-events sys choice last.history) ∙ kept
