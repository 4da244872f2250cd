-- The consistently kept events of a legal history are a legal history, notifications among them.
use Rattle.std.proofs.Common.{◌≡◌, ℕ, ◌+◌, ◌<◌, Bool, true, false, cond, not, ◌&&◌, ◌||◌, ◌==◌, nat_lt, List, [], ◌∷◌, ◌++◌, length, refl, sym, ap, subst, ◌∙◌, inl, inr, ◌⊎◌, arith}
use Rattle.std.specs.List.{AllByRecursion, flat_map}
use Rattle.std.proofs.lemmas.Bool.{and_parts, and_from, or_right, cond_both, cases_Bool, cases_lt, eqb-true, eq-eqb, lt-ltb, false_from_ne_true}
use Rattle.fw_lemmas.proofs.Bools.{two_ways}
use Rattle.fw_lemmas.proofs.Each.{each-suffix}
use Rattle.fw_time.specs.Stamp.{Stamp, leq, in_domain}
use Rattle.fw_time.specs.declared.stamp.Bounds.{Bounds}
use Rattle.fw_frontier.specs.Frontier.{Frontier, IsFrontier, Within, meet}
use Rattle.fw_flow.specs.declared.event.Event.{Event}
use Rattle.fw_flow.specs.declared.event.Event.TheVariants.{Inject, Deliver, Notify}
use Rattle.fw_flow.specs.Kind.{Kind}
use Rattle.fw_flow.specs.declared.kind.Kind.TheVariants.{Input}
use Rattle.fw_flow.specs.Dataflow.{greatest_of_kind, System, Dataflow, kind_of, sender, receiver, greatest_number, domain_of_kind, out_domain_of_kind, bounds_of, bounds_of_domain, batches_of, is_input_kind, is_sequence_kind}
use Rattle.fw_flow.specs.NodeFunction.{event_node, event_stamp, sends, sent_by}
use Rattle.fw_flow.specs.Projection.{events_at, first_coordinate, count_from, sent_count, phi_of_kind, phi}
use Rattle.fw_model.proofs.KindSorts.{is_sequence}
use Rattle.fw_model.proofs.LesserLaws.{lesser-in_domain, line-in_domain}
use Rattle.fw_model.specs.History.{injected_count, injected_epochs, IsAdmissible, IsEnabled, IsLegal}
use Rattle.fw_model.specs.LawsOfFiltering.{KeptEventsAreLegal}
use Rattle.fw_model.specs.Covers.{stamp_of_notice}
use Rattle.fw_model.proofs.StampLaws.{leq_to, in_line, line-leq}
use Rattle.fw_model.proofs.PhiLaws.{phi-monotone, count-append}
use Rattle.fw_model.proofs.FrontierLaws.{phi-ignores_history}
use Rattle.fw_model.proofs.LineLaws.{one_within}
use Rattle.fw_model.proofs.MeetLaws.{phi-meet}
use Rattle.fw_model.proofs.SequenceLaws.{bounds-sequence, count-none}
use Rattle.fw_model.proofs.CompleteLaws.{enabled-outside, admissible-stays}
use Rattle.fw_model.proofs.CauseLaws.{outside-sends}
use Rattle.fw_model.proofs.LocalityLaws.{phi-same}
use Rattle.fw_model.proofs.KeptLaws.{IsFiltering, filtering-before, kept-causes, kept-quiet, kept-owed, inject-enabled, deliver-enabled, causes-now, legal-with}
use Rattle.fw_model.proofs.SettleLaws.{meet-frontier}
use Rattle.fw_model.specs.Filtering.{AreFrontiers, kept_events, HaveKeptCauses}

-- ---- which injections are kept

-- of n injections k are kept: all, or those of the epochs below the first that is not kept
unfoldable pub AreKeptUpTo : Frontier → ℕ → ℕ → Type 0
AreKeptUpTo f k n = (k ≡ n) ⊎ ((k < n) × (f (k ∷ []) ≡ false))

next-kept : (bounds : Bounds) (f : Frontier) → IsFrontier bounds f → (a c : Bool) (k n : ℕ) → (a ≡ true → c ≡ f (n ∷ [])) → AreKeptUpTo f k n
    → AreKeptUpTo f (cond c (cond a (k + 1) k) k) (cond a (n + 1) n)
unfolding AreKeptUpTo
next-kept bounds f fr false true k n e u = u
next-kept bounds f fr false false k n e u = u
next-kept bounds f fr true true k n e (inl s) = inl (omega arith)
next-kept bounds f fr true true k n e (inr s) =
    let i = sym (e refl) in
    let l : k < n = s.0 in
    let below = line-leq k n (omega arith) in
    absurd (two_ways (f (k ∷ [])) (fr.closed (k ∷ []) (n ∷ []) (line-in_domain bounds k n (omega arith) (fr.inside_domain (n ∷ []) i)) below i) s.1)
next-kept bounds f fr true false k n e (inl s) = inr (omega arith, ap (λ x. f (x ∷ [])) s ∙ sym (e refl))
next-kept bounds f fr true false k n e (inr s) = let l : k < n = s.0 in inr (omega arith, s.1)

pub injections-kept : (sys : System) (h : List Event) (keep : ℕ → Frontier) → IsLegal sys h → AreFrontiers sys.flow keep → (s : ℕ)
    → AreKeptUpTo (keep s) (injected_count s (kept_events sys.flow keep h)) (injected_count s h)
unfolding AreKeptUpTo
injections-kept sys [] keep l fr s = inl refl
injections-kept sys (Deliver e m ∷ h) keep l fr s =
    let rest = kept_events sys.flow keep h in
    cond_both (keep (receiver sys.flow e) m.at) (Deliver e m ∷ rest) rest (λ ws. AreKeptUpTo (keep s) (injected_count s ws) (injected_count s h))
    (λ c. injections-kept sys h keep l.1 fr s) (λ c. injections-kept sys h keep l.1 fr s)
injections-kept sys (Notify p t ∷ h) keep l fr s =
    let rest = kept_events sys.flow keep h in
    cond_both (keep p t) (Notify p t ∷ rest) rest (λ ws. AreKeptUpTo (keep s) (injected_count s ws) (injected_count s h))
    (λ c. injections-kept sys h keep l.1 fr s) (λ c. injections-kept sys h keep l.1 fr s)
injections-kept sys (Inject q x ∷ h) keep l fr s =
    let rest = kept_events sys.flow keep h in
    let k = injected_count s rest in
    let n = injected_count s h in
    subst (λ z. AreKeptUpTo (keep s) z (injected_count s (Inject q x ∷ h))) (counted (keep q (x ∷ [])) rest)
    (next-kept (bounds_of sys.flow s) (keep s) (fr s) (q == s) (keep q (x ∷ [])) k n
    (λ c. let r = eqb-true q s c in ap (λ p. keep p (x ∷ [])) r ∙ ap (λ y. keep s (y ∷ [])) (l.0.next ∙ ap (λ p. injected_count p h) r))
    (injections-kept sys h keep l.1 fr s))
  where
    counted : (c : Bool) (ws : List Event) → cond c (cond (q == s) (injected_count s ws + 1) (injected_count s ws)) (injected_count s ws) ≡ injected_count s (cond c (Inject q x ∷ ws) ws)
    counted true ws = refl
    counted false ws = refl

input-line : (flow : Dataflow) (kind : Kind) (t : Stamp) → is_input_kind kind ≡ true → in_domain (bounds_of_domain flow (domain_of_kind flow kind)) t ≡ true
    → leq t (greatest_number ∷ []) ≡ true
input-line flow Input t i d = d
input-line flow kind t i d = absurd (cc)

-- a kept epoch that was injected is injected in the kept events
kept-source : (sys : System) (h : List Event) (keep : ℕ → Frontier) → IsLegal sys h → AreFrontiers sys.flow keep → (s : ℕ) → is_input_kind (kind_of sys.flow s) ≡ true
    → (t : Stamp) → keep s t ≡ true → injected_epochs sys h s t ≡ true → injected_epochs sys (kept_events sys.flow keep h) s t ≡ true
unfolding AreKeptUpTo bounds_of
kept-source sys h keep l fr s is t i j =
    let n = injected_count s h in
    let k = injected_count s (kept_events sys.flow keep h) in
    let d = (fr s).inside_domain t i in
    let here : ℕ → Bool = λ c. in_domain (bounds_of sys.flow s) t && (c == length (batches_of sys s) || nat_lt (first_coordinate t) c) in
    elim (injections-kept sys h keep l fr s) [
      | inl e ↦ ap here e ∙ j
      | inr u ↦
          let line = in_line t greatest_number (input-line sys.flow (kind_of sys.flow s) t is d) in
          let y = line.0 in
          let number = ap first_coordinate line.1 in
          elim (cases_lt y k) [
            | inl below ↦ and_from (in_domain (bounds_of sys.flow s) t) _ d
                (or_right (k == length (batches_of sys s)) (nat_lt (first_coordinate t) k) (lt-ltb (first_coordinate t) k (omega arith)))
            | inr above ↦
                let b = leq_to (k ∷ []) (y ∷ []) t (sym line.1) (line-leq k y above) in
                absurd (two_ways (keep s (k ∷ [])) ((fr s).closed (k ∷ []) t (lesser-in_domain sys.flow s (k ∷ []) t b d) b i) u.1)
          ]
    ]

-- ---- phi of what is complete is final

phi-final : (sys : System) (h : List Event) (done : ℕ → Frontier) → IsAdmissible sys h done → (v : Event) → IsEnabled sys h v
    → (e : ℕ) (g : Frontier) → Within g (done (sender sys.flow e)) → (u : Stamp) → phi sys (v ∷ h) e g u ≡ phi sys h e g u
unfolding phi
phi-final sys h done a v k e g i u =
    let q = sender sys.flow e in
    let kind = kind_of sys.flow q in
    let vs = events_at sys.flow q h in
    let same : sent_count sys (v ∷ h) q g ≡ sent_count sys h q g =
    cond_both (event_node sys.flow v == q) (v ∷ vs) vs (λ ws. count_from g (sent_by sys q ws) ≡ count_from g (sent_by sys q vs))
    (λ c.
    let outside : g (event_stamp v) ≡ false = false_from_ne_true (g (event_stamp v)) (λ j.
    two_ways (done q (event_stamp v)) (i (event_stamp v) j) (sym (ap (λ n. done n (event_stamp v)) (eqb-true (event_node sys.flow v) q c)) ∙ enabled-outside sys h done a v k)) in
    let none = count-none g (sends sys q vs v) (outside-sends sys q g vs v outside) in
    omega (arith, count-append g (sends sys q vs v) (sent_by sys q vs)))
    (λ c. refl) in
    ap (λ n. in_domain (bounds_of_domain sys.flow (out_domain_of_kind sys.flow kind)) u && phi_of_kind (greatest_of_kind sys.flow kind) kind n g u) same

-- ---- what filtering needs at each event

-- What filtering needs after some of the history: the notification frontiers come from one another there, where what the
-- sender numbers of its own is complete.
record IsRewriting (sys : System) (h : List Event) (keep notice : ℕ → Frontier) : Type 0 where
  pub filtering : IsFiltering sys h keep
  pub noted : AreFrontiers sys.flow notice
  pub notified : (p : ℕ) → AllByRecursion (λ t. keep p t ≡ true → notice p t ≡ true) (flat_map (stamp_of_notice p) h)
  pub own : (p : ℕ) → Within (notice p) (keep p)
  pub notices : (done : ℕ → Frontier) → IsAdmissible sys h done → (e : ℕ)
      → (is_sequence_kind (kind_of sys.flow (sender sys.flow e)) ≡ true → Within (notice (sender sys.flow e)) (done (sender sys.flow e)))
      → Within (notice (receiver sys.flow e)) (phi sys h e (notice (sender sys.flow e)))

rewriting-before : (sys : System) (v : Event) (h : List Event) (keep notice : ℕ → Frontier) → IsRewriting sys (v ∷ h) keep notice → IsRewriting sys h keep notice
rewriting-before sys v h keep notice c =
    let f = c.filtering in
    let l = f.legal in
    record {
      filtering = filtering-before sys v h keep f;
      noted = c.noted;
      notified = λ p. each-suffix (λ t. keep p t ≡ true → notice p t ≡ true) (stamp_of_notice p v) (flat_map (stamp_of_notice p) h) (c.notified p);
      own = c.own;
      notices = λ done a e s u i.
          let q = sender sys.flow e in
          let later = c.notices done (admissible-stays sys h f.well_formed f.epochs l.1 done a v l.0) e s u i in
          elim (cases_Bool (is_sequence_kind (kind_of sys.flow q))) [
            | inl is ↦ sym (phi-final sys h done a v l.0 e (notice q) (s is) u) ∙ later
            | inr no_sequence ↦ sym (phi-ignores_history sys (v ∷ h) h e (notice q) u no_sequence) ∙ later
          ];
    }

-- ---- complete frontiers of the kept events

-- what comes from complete and comes from noted, comes from both of the kept events
kept-follows : (sys : System) (h : List Event) (keep notice : ℕ → Frontier) → IsRewriting sys h keep notice → (done : ℕ → Frontier) → IsAdmissible sys h done
    → (e : ℕ) (u : Stamp) → phi sys h e (done (sender sys.flow e)) u ≡ true → notice (receiver sys.flow e) u ≡ true
    → phi sys (kept_events sys.flow keep h) e (meet (done (sender sys.flow e)) (notice (sender sys.flow e))) u ≡ true
kept-follows sys h keep notice c done a e u i j =
    let q = sender sys.flow e in
    let f = c.filtering in
    let now = kept_events sys.flow keep h in
    let both = meet (done q) (notice q) in
    let same : (g : Frontier) → Within g (notice q) → phi sys now e g u ≡ phi sys h e g u =
    λ g within. phi-same sys h keep f.well_formed f.epochs f.legal f.frontiers e g (λ t k. c.own q t (within t k)) u in
    elim (cases_Bool (is_sequence_kind (kind_of sys.flow q))) [
      | inr no_sequence ↦
          let noted = c.notices done a e (λ is. absurd (two_ways _ is no_sequence)) u j in
          phi-ignores_history sys now h e both u no_sequence
          ∙ phi-meet sys h e (done q) (notice q) (a.frontier q) (c.noted q) u
          ∙ and_from (phi sys h e (done q) u) (phi sys h e (notice q) u) i noted
      | inl is ↦
          let bounds = bounds-sequence sys.flow q (is_sequence (kind_of sys.flow q) is) in
          elim (one_within greatest_number (done q) (notice q) (subst (λ b. IsFrontier b (done q)) bounds (a.frontier q)) (subst (λ b. IsFrontier b (notice q)) bounds (c.noted q))) [
            | inl w ↦ phi-monotone sys now e (done q) both (λ t k. and_from (done q t) (notice q t) k (w t k)) u (same (done q) w ∙ i)
            | inr w ↦ phi-monotone sys now e (notice q) both (λ t k. and_from (done q t) (notice q t) (w t k) k) u
                (same (notice q) (λ t k. k) ∙ c.notices done a e (λ _. w) u j)
          ]
    ]

kept-admissible : (sys : System) (h : List Event) (keep notice : ℕ → Frontier) → IsRewriting sys h keep notice → (done : ℕ → Frontier) → IsAdmissible sys h done
    → IsAdmissible sys (kept_events sys.flow keep h) (λ p. meet (done p) (notice p))
kept-admissible sys h keep notice c done a =
    let f = c.filtering in
    record {
      frontier = λ p. meet-frontier (bounds_of sys.flow p) (done p) (notice p) (a.frontier p) (c.noted p);
      quiet = λ p t k. let b = and_parts (done p t) (notice p t) k in kept-quiet sys h keep f p t (c.own p t b.1) (a.quiet p t b.0);
      paid = λ p t k. let b = and_parts (done p t) (notice p t) k in kept-owed sys h keep p t (c.own p t b.1) ∙ a.paid p t b.0;
      follows = λ e u k.
          let r = receiver sys.flow e in
          let b = and_parts (done r u) (notice r u) k in
          kept-follows sys h keep notice c done a e u (a.follows e u b.0) b.1;
      source = λ s is t k.
          let b = and_parts (done s t) (notice s t) k in
          kept-source sys h keep f.legal f.frontiers s is t (c.own s t b.1) (a.source s is t b.0);
    }

-- ---- kept notifications

notify-enabled : (sys : System) (h : List Event) (keep notice : ℕ → Frontier) → IsRewriting sys h keep notice → (p : ℕ) (t : Stamp) → IsEnabled sys h (Notify p t)
    → keep p t ≡ true → notice p t ≡ true → IsEnabled sys (kept_events sys.flow keep h) (Notify p t)
notify-enabled sys h keep notice c p t k i j =
    let f = c.filtering in
    let fr = f.frontiers p in
    let below : (s : Stamp) → leq s t ≡ true → keep p s ≡ true =
    λ s l. fr.closed s t (lesser-in_domain sys.flow p s t l (fr.inside_domain t i)) l i in
    let done = k.complete.0 in
    let a = k.complete.1 in
    record {
      is_owed = kept-owed sys h keep p t i ∙ k.is_owed;
      none_lesser = λ s l. kept-owed sys h keep p s (below s (and_parts (leq s t) (not (leq t s)) l).0) ∙ k.none_lesser s l;
      quiet = λ s l. kept-quiet sys h keep f p s (below s l) (k.quiet s l);
      complete = (
        λ q. meet (done q) (notice q),
        kept-admissible sys h keep notice c done a,
        λ d r. kept-follows sys h keep notice c done a d t (k.complete.2 d r) (ap (λ n. notice n t) r ∙ j),
      );
    }

-- the notification frontier holds a notification of which the stamp is kept
noted-now : (keep notice : ℕ → Frontier) (h : List Event) (p : ℕ) (t : Stamp) → AllByRecursion (λ s. keep p s ≡ true → notice p s ≡ true) (flat_map (stamp_of_notice p) (Notify p t ∷ h))
    → keep p t ≡ true → notice p t ≡ true
noted-now keep notice h p t a i =
    let P : Stamp → Type 0 = λ s. keep p s ≡ true → notice p s ≡ true in
    let b = subst (λ c. AllByRecursion P (cond c (t ∷ []) [] ++ flat_map (stamp_of_notice p) h)) (eq-eqb p p refl) a in
    b.0 i

-- ---- the law

rewriting-legal : (sys : System) (h : List Event) (keep notice : ℕ → Frontier) → IsRewriting sys h keep notice → IsLegal sys (kept_events sys.flow keep h)
rewriting-legal sys [] keep notice c = tt
rewriting-legal sys (v ∷ h) keep notice c =
    let f = c.filtering in
    let l = f.legal in
    let before = rewriting-before sys v h keep notice c in
    legal-with sys h keep v (rewriting-legal sys h keep notice before) (enabled v l.0 before f.causes c.notified)
  where
    enabled : (v : Event) → IsEnabled sys h v → IsRewriting sys h keep notice → HaveKeptCauses sys.flow (v ∷ h) keep
        → ((p : ℕ) → AllByRecursion (λ t. keep p t ≡ true → notice p t ≡ true) (flat_map (stamp_of_notice p) (v ∷ h)))
        → keep (event_node sys.flow v) (event_stamp v) ≡ true → IsEnabled sys (kept_events sys.flow keep h) v
    enabled (Inject s x) k c a n i = let f = c.filtering in inject-enabled sys h keep f.legal f.frontiers s x k i
    enabled (Deliver e m) k c a n i = deliver-enabled sys h keep c.filtering e m k i (causes-now sys.flow keep h e m a i)
    enabled (Notify p t) k c a n i = notify-enabled sys h keep notice c p t k i (noted-now keep notice h p t (n p) i)

pub kept-legal : KeptEventsAreLegal
kept-legal sys h keep notice w b l c =
    rewriting-legal sys h keep notice (record {
      filtering = record { well_formed = w; epochs = b; legal = l; frontiers = c.kept; causes = kept-causes sys h keep w b l c.kept c.delivered };
      noted = c.noted;
      notified = c.notified;
      own = c.own;
      notices = λ done a e s. c.notices e;
    })
