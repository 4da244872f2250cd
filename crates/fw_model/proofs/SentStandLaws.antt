-- What thinned causes stand for: the messages of one cause each cover what was sent.
use Rattle.std.proofs.Common.{◌≡◌, ◌⊎◌, inl, inr, ℕ, zero, suc, ◌<◌, Bool, true, false, cond, ◌&&◌, List, [], ◌∷◌, ◌++◌, length, map, Option, Some, None, refl, sym, ◌∙◌, ap, subst, arith}
use Rattle.std.specs.Prelude.{filter, slice_index_or}
use Rattle.std.specs.List.{AllByRecursion, Contains, flat_map}
use Rattle.std.proofs.lemmas.Bool.{or_cases, or_left, or_right, cond_both, cases_Bool, and_from, and_left, and_parts}
use Rattle.fw_lemmas.proofs.Bools.{same_tests}
use Rattle.fw_time.specs.Stamp.{Stamp, leq, in_domain}
use Rattle.fw_time.specs.declared.stamp.Bounds.{Bounds}
use Rattle.fw_time.proofs.StampLaws.{leq-trans}
use Rattle.fw_frontier.specs.Frontier.{Frontier, Within, some_above, cover}
use Rattle.fw_flow.specs.NodeFunction.{sent_by}
use Rattle.fw_flow.specs.declared.choice.Counted.{Counted}
use Rattle.fw_flow.specs.declared.event.Event.{Event}
use Rattle.fw_flow.specs.declared.event.Message.{Message}
use Rattle.fw_flow.specs.Dataflow.{System, kind_of, sender, bounds_of, send_stamp}
use Rattle.fw_flow.specs.Projection.{all_inside, events_at}
use Rattle.fw_model.specs.Sending.{is_single_kind}
use Rattle.fw_model.specs.Alike.{SendAlike}
use Rattle.fw_model.specs.Covers as machine
use Rattle.fw_model.specs.History.{sent_messages}
use Rattle.fw_model.proofs.CarriedLaws.{carried-each}
use Rattle.fw_model.proofs.PhiLaws.{all_inside-monotone}
use Rattle.fw_model.proofs.SendsLaws.{IsOfCause as IsOfItsCause, sent_by-of_cause}
use Rattle.fw_model.proofs.SendingLaws.{send_stamp-monotone}
use Rattle.fw_model.specs.Poorer.{IsPoorer}
use Rattle.fw_model.specs.Thinned.{IsThinned, IsThinnedIf}
use Rattle.fw_model.proofs.ThinnedLaws.{each-contained, thinned-whole}
use Rattle.fw_model.specs.EventStamps.{causes_of, causes_in, StandForSent}

-- ---- one of a list

-- the stamp is one of these
abbrev pub IsOne : Stamp → List Stamp → Type 0
IsOne t [] = ⊥
IsOne t (s ∷ ss) = (s ≡ t) ⊎ IsOne t ss

pub one-contained : (t : Stamp) (ss : List Stamp) → IsOne t ss → Contains ss t
one-contained t [] i = absurd i
one-contained t (s ∷ ss) (inl e) = (0, omega arith, e)
one-contained t (s ∷ ss) (inr i) = let c = one-contained t ss i in let l = c.1 in (suc c.0, omega arith, c.2)

index-one : (t : Stamp) (ss : List Stamp) (k : ℕ) → k < length ss → slice_index_or ss k t ≡ t → IsOne t ss
index-one t [] k l e = absurd (omega arith)
index-one t (s ∷ ss) zero l e = inl e
index-one t (s ∷ ss) (suc k) l e = inr (index-one t ss k (omega arith) e)

pub contained-one : (t : Stamp) (ss : List Stamp) → Contains ss t → IsOne t ss
contained-one t ss c = index-one t ss c.0 c.1 c.2

pub one-holds : (P : Stamp → Type 0) (t : Stamp) (ss : List Stamp) → IsOne t ss → AllByRecursion P ss → P t
one-holds P t [] i a = absurd i
one-holds P t (s ∷ ss) (inl e) a = subst P e a.0
one-holds P t (s ∷ ss) (inr i) a = one-holds P t ss i a.1

-- ---- causes that send

-- one of the causes is inside, and sends at u or above
record SendsOver (send : Stamp → Option Stamp) (f : Frontier) (cs : List Stamp) (u : Stamp) : Type 0 where
  cause : Stamp
  at : Stamp
  there : IsOne cause cs
  inside : f cause ≡ true
  sends : send cause ≡ Some at
  above : leq u at ≡ true

-- a thing with a stamp and causes has one cause, and is at its send stamp
abbrev OfCause : (Stamp → Option Stamp) → Stamp → List Stamp → Type 0
OfCause send at cs = (t : Stamp) × (send t ≡ Some at) × (cs ≡ t ∷ [])

inside-one : (f : Frontier) (t : Stamp) (cs : List Stamp) (b : Bool) → f t ≡ b → cs ≡ t ∷ [] → all_inside f cs ≡ b
inside-one f t cs true k e = ap (all_inside f) e ∙ and_from (f t) true k refl
inside-one f t cs false k e = ap (all_inside f) e ∙ and_left (f t) true k

one-later : (t : Stamp) (cs ds : List Stamp) → IsOne t ds → IsOne t (cs ++ ds)
one-later t [] ds i = i
one-later t (c ∷ cs) ds i = inr (one-later t cs ds i)

one-single : (t s : Stamp) (cs ds : List Stamp) → cs ≡ s ∷ [] → IsOne t (cs ++ ds) → (s ≡ t) ⊎ IsOne t ds
one-single t s cs ds e i = subst (λ (xs : List Stamp). IsOne t (xs ++ ds)) e i

single-one : (s : Stamp) (cs ds : List Stamp) → cs ≡ s ∷ [] → IsOne s (cs ++ ds)
single-one s cs ds e = subst (λ (xs : List Stamp). IsOne s (xs ++ ds)) (sym e) (inl refl)

some-at : (send : Stamp → Option Stamp) (a b : Stamp) (t : Stamp) → send t ≡ Some a → send t ≡ Some b → a ≡ b
some-at send a b t e d = let k : Some a ≡ Some b = sym e ∙ d in ap (get a) k
  where
    get : Stamp → Option Stamp → Stamp
    get d None = d
    get d (Some x) = x

-- what is sent from inside is above u exactly where a cause inside sends there
over-from : {X : Type 0} (at : X → Stamp) (causes : X → List Stamp) (send : Stamp → Option Stamp) (f : Frontier) (xs : List X) (u : Stamp)
    → AllByRecursion (λ (x : X). OfCause send (at x) (causes x)) xs
    → some_above (map at (filter (λ x. all_inside f (causes x)) xs)) u ≡ true → SendsOver send f (flat_map causes xs) u
over-from at causes send f [] u a k = absurd (cc)
over-from at causes send f (x ∷ xs) u a k =
    let c = a.0 in
    let t = c.0 in
    let rest : some_above (map at (filter (λ y. all_inside f (causes y)) xs)) u ≡ true → SendsOver send f (causes x ++ flat_map causes xs) u =
    λ i. let o = over-from at causes send f xs u a.1 i in
    record { cause = o.cause; at = o.at; there = one-later o.cause (causes x) (flat_map causes xs) o.there; inside = o.inside; sends = o.sends; above = o.above } in
    elim (cases_Bool (f t)) [
      | inl i ↦
          let e : all_inside f (causes x) ≡ true = inside-one f t (causes x) true i c.2 in
          elim (or_cases (leq u (at x)) (some_above (map at (filter (λ y. all_inside f (causes y)) xs)) u)
          (sym (ap (λ b. some_above (map at (cond b (x ∷ filter (λ y. all_inside f (causes y)) xs) (filter (λ y. all_inside f (causes y)) xs))) u) e) ∙ k)) [
            | inl l ↦ record { cause = t; at = at x; there = single-one t (causes x) (flat_map causes xs) c.2; inside = i; sends = c.1; above = l }
            | inr l ↦ rest l
          ]
      | inr i ↦
          let e : all_inside f (causes x) ≡ false = inside-one f t (causes x) false i c.2 in
          rest (sym (ap (λ b. some_above (map at (cond b (x ∷ filter (λ y. all_inside f (causes y)) xs) (filter (λ y. all_inside f (causes y)) xs))) u) e) ∙ k)
    ]

from-over : {X : Type 0} (at : X → Stamp) (causes : X → List Stamp) (send : Stamp → Option Stamp) (f : Frontier) (xs : List X) (u : Stamp)
    → AllByRecursion (λ (x : X). OfCause send (at x) (causes x)) xs
    → (c w : Stamp) → IsOne c (flat_map causes xs) → f c ≡ true → send c ≡ Some w → leq u w ≡ true
    → some_above (map at (filter (λ x. all_inside f (causes x)) xs)) u ≡ true
from-over at causes send f [] u a c w i k s l = absurd i
from-over at causes send f (x ∷ xs) u a c w i k s l =
    let o = a.0 in
    let kept = filter (λ y. all_inside f (causes y)) xs in
    elim (one-single c o.0 (causes x) (flat_map causes xs) o.2 i) [
      | inl e ↦
          let in_it : all_inside f (causes x) ≡ true = inside-one f o.0 (causes x) true (ap f e ∙ k) o.2 in
          let here : at x ≡ w = some-at send (at x) w c (sym (ap send e) ∙ o.1) s in
          ap (λ b. some_above (map at (cond b (x ∷ kept) kept)) u) in_it
          ∙ or_left (leq u (at x)) (some_above (map at kept) u) (ap (leq u) here ∙ l)
      | inr j ↦
          let rest = from-over at causes send f xs u a.1 c w j k s l in
          cond_both (all_inside f (causes x)) (x ∷ kept) kept (λ ys. some_above (map at ys) u ≡ true)
          (λ e. or_right (leq u (at x)) (some_above (map at kept) u) rest) (λ e. rest)
    ]

-- ---- thinned causes

-- a lesser stamp sends where a greater one does, and not above
abbrev SendsInOrder : (Frontier) → (Stamp → Option Stamp) → Type 0
SendsInOrder base send = (s t w : Stamp) → base t ≡ true → leq s t ≡ true → send t ≡ Some w → (v : Stamp) × (send s ≡ Some v) × (leq v w ≡ true)

-- each of the causes sends
abbrev Send : (Stamp → Option Stamp) → List Stamp → Type 0
Send send cs = AllByRecursion (λ t. (w : Stamp) × (send t ≡ Some w)) cs

thinned-over : (send : Stamp → Option Stamp) (base f : Frontier) (all kept : List Stamp) (u : Stamp) → IsThinned base all kept → Within base f
    → SendsInOrder base send → Send send kept → SendsOver send f all u → SendsOver send f kept u
thinned-over send base f all kept u h w o each k = elim (cases_Bool (base k.cause)) [
  | inl i ↦
      let b = each-contained _ k.cause all (one-contained k.cause all k.there) h.inside i in
      let a = each-contained _ b.above kept b.is_kept each in
      let m = o k.cause b.above a.0 b.inside b.below a.1 in
      record {
        cause = b.above;
        at = a.0;
        there = contained-one b.above kept b.is_kept;
        inside = w b.above b.inside;
        sends = a.1;
        above = leq-trans u m.0 a.0 (ap (leq u) (some-at send m.0 k.at k.cause m.1 k.sends) ∙ k.above) m.2;
      }
  | inr n ↦ record {
    cause = k.cause;
    at = k.at;
    there = contained-one k.cause kept (each-contained _ k.cause all (one-contained k.cause all k.there) h.outside n);
    inside = k.inside;
    sends = k.sends;
    above = k.above;
  }
]

all-over : (send : Stamp → Option Stamp) (whole : Bool) (base f : Frontier) (all kept : List Stamp) (u : Stamp) → IsThinnedIf whole base all kept
    → SendsOver send f kept u → SendsOver send f all u
all-over send whole base f all kept u h k = record {
  cause = k.cause;
  at = k.at;
  there = contained-one k.cause all (each-contained (Contains all) k.cause kept (one-contained k.cause kept k.there) h.among);
  inside = k.inside;
  sends = k.sends;
  above = k.above;
}

all-send : {X : Type 0} (at : X → Stamp) (causes : X → List Stamp) (send : Stamp → Option Stamp) (xs : List X)
    → AllByRecursion (λ (x : X). OfCause send (at x) (causes x)) xs → Send send (flat_map causes xs)
all-send at causes send [] a = tt
all-send at causes send (x ∷ xs) a =
    let c = a.0 in
    subst (λ (cs : List Stamp). Send send (cs ++ flat_map causes xs)) (sym c.2) ((at x, c.1), all-send at causes send xs a.1)

-- ---- causes that send alike

pub alike-back : (send : Stamp → Option Stamp) (base : Frontier) (cs ds : List Stamp) → SendAlike send base cs ds → SendAlike send base ds cs
alike-back send base cs ds a = record {
  outside = λ t e. let o = a.outside t e in (o.1, o.0);
  there = a.back;
  back = a.there;
}

-- what one list sends over, the other does
alike-over : (send : Stamp → Option Stamp) (base f : Frontier) (cs ds : List Stamp) (u : Stamp) → Within base f → SendAlike send base cs ds
    → SendsOver send f cs u → SendsOver send f ds u
alike-over send base f cs ds u w a k = elim (cases_Bool (base k.cause)) [
  | inl i ↦
      let o = a.there k.cause (one-contained k.cause cs k.there) i in
      record { cause = o.one; at = k.at; there = contained-one o.one ds o.there; inside = w o.one o.inside; sends = o.same ∙ k.sends; above = k.above }
  | inr n ↦ record {
    cause = k.cause;
    at = k.at;
    there = contained-one k.cause ds ((a.outside k.cause n).0 (one-contained k.cause cs k.there));
    inside = k.inside;
    sends = k.sends;
    above = k.above;
  }
]

-- ---- the law

-- what stands for sent messages covers the same as these, from inside each set that holds the base
pub sent-covers : (sys : System) (h : List Event) (e : ℕ) (base : Frontier) (ms : List Counted) → is_single_kind (kind_of sys.flow (sender sys.flow e)) ≡ true
    → StandForSent true sys h (sender sys.flow e) base e ms → ((t : Stamp) → base t ≡ true → in_domain (bounds_of sys.flow (sender sys.flow e)) t ≡ true)
    → (f : Frontier) → Within base f → (b : Bounds)
    → cover b (map (λ (m : Counted). m.at) (filter (λ (m : Counted). all_inside f m.causes) ms)) ≡ cover b (machine.stamps_from f (sent_messages sys h e))
unfolding IsOfItsCause
sent-covers sys h e base ms n s d f w b = λ i t. at t i
  where
    p : ℕ
    p = sender sys.flow e

    causes : List Stamp
    causes = causes_in (sent_messages sys h e)

    send : Stamp → Option Stamp
    send t = send_stamp sys.flow (sender sys.flow e) t

    theirs : AllByRecursion (λ (m : Message). OfCause send m.at m.causes) (sent_messages sys h e)
    theirs =
        carried-each sys.flow e (λ m. OfCause send m.at m.causes) (sent_by sys (sender sys.flow e) (events_at sys.flow (sender sys.flow e) h))
        (sent_by-of_cause sys (sender sys.flow e) n (events_at sys.flow (sender sys.flow e) h))

    order : SendsInOrder base send
    order s t v i l k = send_stamp-monotone sys.flow (sender sys.flow e) s t v (d t i) l k

    ours : Stamp → Bool
    ours t = some_above (map (λ (m : Counted). m.at) (filter (λ (m : Counted). all_inside f m.causes) ms)) t

    all : Stamp → Bool
    all t = some_above (machine.stamps_from f (sent_messages sys h e)) t

    there : (t : Stamp) → ours t ≡ true → all t ≡ true
    there t k =
        let o = alike-over send base f s.thinned.all causes t w (alike-back send base causes s.thinned.all (s.thinned.alike refl))
        (all-over send true base f s.thinned.all (causes_of ms) t s.thinned.thinned (over-from (λ (m : Counted). m.at) (λ (m : Counted). m.causes) send f ms t s.of_cause k)) in
        from-over (λ (m : Message). m.at) (λ (m : Message). m.causes) send f (sent_messages sys h e) t theirs o.cause o.at o.there o.inside o.sends o.above

    back : (t : Stamp) → all t ≡ true → ours t ≡ true
    back t k =
        let o = thinned-over send base f s.thinned.all (causes_of ms) t (thinned-whole base s.thinned.all (causes_of ms) s.thinned.thinned) w order
        (all-send (λ (m : Counted). m.at) (λ (m : Counted). m.causes) send ms s.of_cause)
        (alike-over send base f causes s.thinned.all t w (s.thinned.alike refl)
        (over-from (λ (m : Message). m.at) (λ (m : Message). m.causes) send f (sent_messages sys h e) t theirs k)) in
        from-over (λ (m : Counted). m.at) (λ (m : Counted). m.causes) send f ms t s.of_cause o.cause o.at o.there o.inside o.sends o.above

    at : (t : Stamp) → (in_domain b t && ours t) ≡ (in_domain b t && all t)
    at t = ap (λ x. in_domain b t && x) (same_tests (ours t) (all t) (there t) (back t))

-- ---- where perhaps not the whole is kept

-- what stands for sent messages covers no more than these from inside each set, and these besides at most what comes from the base
pub sent_outside-covers : (sys : System) (h : List Event) (e : ℕ) (base : Frontier) (ms : List Counted) → is_single_kind (kind_of sys.flow (sender sys.flow e)) ≡ true
    → StandForSent false sys h (sender sys.flow e) base e ms → (f : Frontier) (b : Bounds)
    → IsPoorer (cover b (map (λ (m : Counted). m.at) (filter (λ (m : Counted). all_inside f m.causes) ms))) (cover b (machine.stamps_from f (sent_messages sys h e)))
    (cover b (machine.stamps_from base (sent_messages sys h e)))
unfolding IsOfItsCause
sent_outside-covers sys h e base ms n s f b = record {
  within = λ t i. let p = and_parts (in_domain b t) (ours t) i in and_from (in_domain b t) (all f t) p.0 (there t p.1);
  rest = λ t i.
      let p = and_parts (in_domain b t) (all f t) i in
      elim (back t p.1) [
        | inl k ↦ or_left (in_domain b t && ours t) (in_domain b t && all base t) (and_from (in_domain b t) (ours t) p.0 k)
        | inr k ↦ or_right (in_domain b t && ours t) (in_domain b t && all base t) (and_from (in_domain b t) (all base t) p.0 k)
      ];
}
  where
    thin : IsThinnedIf false base (causes_in (sent_messages sys h e)) (causes_of ms)
    thin = subst (λ ss. IsThinnedIf false base ss (causes_of ms)) (s.thinned.same refl) s.thinned.thinned

    send : Stamp → Option Stamp
    send t = send_stamp sys.flow (sender sys.flow e) t

    theirs : AllByRecursion (λ (m : Message). OfCause send m.at m.causes) (sent_messages sys h e)
    theirs =
        carried-each sys.flow e (λ m. OfCause send m.at m.causes) (sent_by sys (sender sys.flow e) (events_at sys.flow (sender sys.flow e) h))
        (sent_by-of_cause sys (sender sys.flow e) n (events_at sys.flow (sender sys.flow e) h))

    ours : Stamp → Bool
    ours t = some_above (map (λ (m : Counted). m.at) (filter (λ (m : Counted). all_inside f m.causes) ms)) t

    all : Frontier → Stamp → Bool
    all g t = some_above (machine.stamps_from g (sent_messages sys h e)) t

    there : (t : Stamp) → ours t ≡ true → all f t ≡ true
    there t k =
        let o = all-over send false base f (causes_in (sent_messages sys h e)) (causes_of ms) t thin
        (over-from (λ (m : Counted). m.at) (λ (m : Counted). m.causes) send f ms t s.of_cause k) in
        from-over (λ (m : Message). m.at) (λ (m : Message). m.causes) send f (sent_messages sys h e) t theirs o.cause o.at o.there o.inside o.sends o.above

    back : (t : Stamp) → all f t ≡ true → (ours t ≡ true) ⊎ (all base t ≡ true)
    back t k =
        let o = over-from (λ (m : Message). m.at) (λ (m : Message). m.causes) send f (sent_messages sys h e) t theirs k in
        elim (cases_Bool (base o.cause)) [
          | inl i ↦ inr (from-over (λ (m : Message). m.at) (λ (m : Message). m.causes) send base (sent_messages sys h e) t theirs o.cause o.at o.there i o.sends o.above)
          | inr j ↦ inl (from-over (λ (m : Counted). m.at) (λ (m : Counted). m.causes) send f ms t s.of_cause o.cause o.at
              (contained-one o.cause (causes_of ms)
              (each-contained (λ x. base x ≡ false → Contains (causes_of ms) x) o.cause (causes_in (sent_messages sys h e)) (one-contained o.cause (causes_in (sent_messages sys h e)) o.there) thin.outside j))
              o.inside o.sends o.above)
        ]

-- what comes from more covers more
pub cover-from : (b : Bounds) (f g : Frontier) (ms : List Message) → Within f g → Within (cover b (machine.stamps_from f ms)) (cover b (machine.stamps_from g ms))
cover-from b f g ms w t i =
    let p = and_parts (in_domain b t) (some_above (machine.stamps_from f ms) t) i in
    and_from (in_domain b t) (some_above (machine.stamps_from g ms) t) p.0 (above ms p.1)
  where
    above : (xs : List Message) → some_above (machine.stamps_from f xs) t ≡ true → some_above (machine.stamps_from g xs) t ≡ true
    above [] k = k
    above (m ∷ xs) k = elim (cases_Bool (all_inside f m.causes)) [
      | inl e ↦ elim (or_cases (leq t m.at) (some_above (machine.stamps_from f xs) t)
          (sym (ap (λ c. some_above (map (λ (x : Message). x.at) (cond c (m ∷ kept f xs) (kept f xs))) t) e) ∙ k)) [
            | inl l ↦ ap (λ c. some_above (map (λ (x : Message). x.at) (cond c (m ∷ kept g xs) (kept g xs))) t) (all_inside-monotone f g w m.causes e)
                ∙ or_left (leq t m.at) (some_above (machine.stamps_from g xs) t) l
            | inr r ↦ later m xs (above xs r)
          ]
      | inr e ↦ later m xs (above xs (sym (ap (λ c. some_above (map (λ (x : Message). x.at) (cond c (m ∷ kept f xs) (kept f xs))) t) e) ∙ k))
    ]
      where
        kept : Frontier → List Message → List Message
        kept h ys = filter (λ (x : Message). all_inside h x.causes) ys

        later : (m : Message) (ys : List Message) → some_above (machine.stamps_from g ys) t ≡ true → some_above (machine.stamps_from g (m ∷ ys)) t ≡ true
        later m ys r = cond_both (all_inside g m.causes) (m ∷ kept g ys) (kept g ys) (λ zs. some_above (map (λ (x : Message). x.at) zs) t ≡ true)
            (λ e. or_right (leq t m.at) (some_above (machine.stamps_from g ys) t) r) (λ e. r)
