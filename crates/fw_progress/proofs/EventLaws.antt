-- What an event changes in the counts.
use Rattle.std.proofs.Common.{◌↔◌, ◌≡◌, ℕ, zero, suc, ◌+◌, ◌*◌, ◌<◌, Bool, true, false, ◌||◌, ◌==◌, cond, List, [], ◌∷◌, ◌++◌, Option, length, get_or, map, set, take, refl, sym, ap, subst, ◌∙◌, inl, inr, arith}
use Rattle.std.specs.Prelude.{filter}
use Rattle.std.specs.List.{AllByRecursion}
use Rattle.std.proofs.lemmas.Bool.{cases_eq, eq-eqb, eqb-true, false_from_ne_true, both_ways, or_right}
use Rattle.std.proofs.lemmas.List.{get_or-set_same, get_or-set_other, length-set, take_more}
use Rattle.fw_lemmas.proofs.Each.{each-at}
use Rattle.fw_lemmas.proofs.Lists.{read_at}
use Rattle.fw_bag.specs.declared.rec.Rec.{Rec}
use Rattle.fw_time.specs.Stamp.{Stamp, same, in_domain}
use Rattle.fw_time.specs.declared.stamp.Bounds.{Bounds}
use Rattle.fw_flow.specs.Counting.{how_many}
use Rattle.fw_flow.specs.declared.key_part.KeyPart.{KeyPart}
use Rattle.fw_flow.specs.declared.node.Edge.{Edge}
use Rattle.fw_flow.specs.Dataflow.{Dataflow, sender, receiver, bounds_of, edges_from, out_edges}
use Rattle.fw_flow.specs.KeyParts.{is_of_part_if, part_of}
use Rattle.fw_flow.specs.SentTable.{EpochsAscend}
use Rattle.fw_flow.proofs.OutEdgeLaws.{out_edges-from}
use Rattle.fw_progress.specs.Counts.{is_in}
use Rattle.fw_progress.specs.Progress.{ChangesAt, ArePendingMore, IsSentMore, stamps_of_recs, stamps_of_part, stamps_on}
use Rattle.fw_progress.specs.Tally.{times_in, IsTallyOf, HasEachMore}

-- one place changed
pub changed_at : {A : Type 0} (d : A) (R : A → A → Type 0) (old : List A) (p i : ℕ) (x y : A) → i ≡ p → i < length old → y ≡ get_or old i y → R y x → ChangesAt p d R old (set old i x)
changed_at d R old p i x y e l is r = record {
  one_each = length-set old i x;
  here = subst (λ b. R (get_or old p d) b) (sym (ap (λ n. get_or (set old n x) p d) e ∙ get_or-set_same old p x d (subst (λ n. n < length old) e l)))
      (subst (λ a. R a x) (read_at old p i y d e l is) r);
  others = λ k n. get_or-set_other old i k x d (λ j. n (j ∙ e));
}

-- a table that does not take an epoch stays
pub sent_kept : (old : List (List (ℕ × ℕ))) (p i : ℕ) (y : List (ℕ × ℕ)) (epoch count : ℕ) (b : Bool) → i ≡ p → i < length old → y ≡ get_or old i y
    → (b ≡ true) ↔ ((n : ℕ) → EpochsAscend (y ++ (epoch, n) ∷ [])) → b ≡ false → ChangesAt p [] (IsSentMore epoch count) old (set old i y)
sent_kept old p i y epoch count b e l is test none = changed_at [] (IsSentMore epoch count) old p i y y e l is (λ a. absurd (both_ways b none (test.1 a)))

-- ---- on each out-edge

-- how often an edge is among these
abbrev pub how_often : List ℕ → ℕ → ℕ
how_often edges e = how_many (λ d. d == e) edges

-- the stamps of each of the edges so far were added once on it
pub record IsSending (stamps : ℕ → List Stamp) (edges : List ℕ) (old new : List (List (Stamp × ℕ))) : Type 0 where
  pub one_each : length new ≡ length old
  pub times : (e : ℕ) (t : Stamp) → times_in t (get_or new e []) ≡ times_in t (get_or old e []) + how_often edges e * how_many (same t) (stamps e)
  pub domain : (b : Bounds) (e : ℕ) → IsTallyOf b (get_or old e []) → (is_in edges e ≡ true → AllByRecursion (λ s. in_domain b s ≡ true) (stamps e)) → IsTallyOf b (get_or new e [])

pub sending_none : (stamps : ℕ → List Stamp) (old : List (List (Stamp × ℕ))) → IsSending stamps [] old old
sending_none stamps old = record { one_each = refl; times = λ e t. omega arith; domain = λ b e a d. a }

often-last : (xs : List ℕ) (x e : ℕ) → how_often (xs ++ x ∷ []) e ≡ how_often xs e + cond (x == e) 1 0
often-last [] x e = by (x == e)
  where
    by : (b : Bool) → cond b (0 + 1) 0 ≡ 0 + cond b 1 0
    by true = refl
    by false = refl
often-last (y ∷ ys) x e = by (y == e) (often-last ys x e)
  where
    by : (b : Bool) → how_often (ys ++ x ∷ []) e ≡ how_often ys e + cond (x == e) 1 0
        → cond b (how_often (ys ++ x ∷ []) e + 1) (how_often (ys ++ x ∷ []) e) ≡ cond b (how_often ys e + 1) (how_often ys e) + cond (x == e) 1 0
    by true k = omega (arith, k)
    by false k = k

in-last : (xs : List ℕ) (x e : ℕ) → is_in xs e ≡ true → is_in (xs ++ x ∷ []) e ≡ true
in-last [] x e k = absurd (cc)
in-last (y ∷ ys) x e k = by (y == e) k (in-last ys x e)
  where
    by : (b : Bool) → (b || is_in ys e) ≡ true → (is_in ys e ≡ true → is_in (ys ++ x ∷ []) e ≡ true) → (b || is_in (ys ++ x ∷ []) e) ≡ true
    by true j f = refl
    by false j f = f j

is-last : (xs : List ℕ) (x : ℕ) → is_in (xs ++ x ∷ []) x ≡ true
is-last [] x = ap (λ b. b || false) (eq-eqb x x refl)
is-last (y ∷ ys) x = or_right (y == x) (is_in (ys ++ x ∷ []) x) (is-last ys x)

pub sending_more : (stamps : ℕ → List Stamp) (edges : List ℕ) (i x : ℕ) (old mid new : List (List (Stamp × ℕ))) → i < length edges → x ≡ get_or edges i x
    → IsSending stamps (take i edges) old mid → ChangesAt x [] (HasEachMore (stamps x)) mid new → IsSending stamps (take (i + 1) edges) old new
sending_more stamps edges i x old mid new l is a c =
    let so_far = take i edges in
    let more : take (i + 1) edges ≡ so_far ++ x ∷ [] = take_more edges i x l ∙ ap (λ y. so_far ++ y ∷ []) (sym is) in
    subst (λ es. IsSending stamps es old new) (sym more) (record {
      one_each = c.one_each ∙ a.one_each;
      times = λ e t. elim (cases_eq e x) [
        | inl k ↦
            let often = often-last so_far x e ∙ ap (λ b. how_often so_far e + cond b 1 0) (eq-eqb x e (sym k)) in
            let now : times_in t (get_or new e []) ≡ times_in t (get_or mid e []) + how_many (same t) (stamps e) = subst (λ n. times_in t (get_or new n []) ≡ times_in t (get_or mid n []) + how_many (same t) (stamps n)) (sym k) (c.here.times t) in
            now ∙ step (times_in t (get_or mid e [])) (times_in t (get_or old e [])) (how_often so_far e) (how_often (so_far ++ x ∷ []) e) (how_many (same t) (stamps e)) (a.times e t) often
        | inr n ↦
            let often = often-last so_far x e ∙ ap (λ b. how_often so_far e + cond b 1 0) (false_from_ne_true (x == e) (λ k. n (sym (eqb-true x e k)))) in
            ap (times_in t) (c.others e n) ∙ a.times e t ∙ still (times_in t (get_or old e [])) (how_often so_far e) (how_often (so_far ++ x ∷ []) e) (how_many (same t) (stamps e)) often
      ];
      domain = λ b e o d. elim (cases_eq e x) [
        | inl k ↦ subst (λ n. IsTallyOf b (get_or new n [])) (sym k)
            (c.here.domain b (subst (λ n. IsTallyOf b (get_or mid n [])) k (a.domain b e o (λ j. d (in-last so_far x e j))))
            (subst (λ n. AllByRecursion (λ s. in_domain b s ≡ true) (stamps n)) k (d (subst (λ n. is_in (so_far ++ x ∷ []) n ≡ true) (sym k) (is-last so_far x)))))
        | inr n ↦ subst (IsTallyOf b) (sym (c.others e n)) (a.domain b e o (λ j. d (in-last so_far x e j)))
      ];
    })
  where
    step : (m o k n h : ℕ) → m ≡ o + k * h → n ≡ k + 1 → m + h ≡ o + n * h
    step m o k n h a b = rw b (omega (arith, a))

    still : (o k n h : ℕ) → n ≡ k + 0 → o + k * h ≡ o + n * h
    still o k n h b = rw b (omega arith)

-- the places of edges that are picked from a list by one of their ends
pub record ArePicked (places : ℕ → List Edge → List ℕ) (end : Edge → ℕ) (p : ℕ) : Type 0 where
  pub none : (n : ℕ) → places n [] ≡ []
  pub more : (n : ℕ) (e : Edge) (es : List Edge) → places n (e ∷ es) ≡ cond (end e == p) (n ∷ places (n + 1) es) (places (n + 1) es)

none-picked : {places : ℕ → List Edge → List ℕ} {end : Edge → ℕ} {p : ℕ} → ArePicked places end p → (n m : ℕ) (es : List Edge) → m < n → how_often (places n es) m ≡ 0
none-picked {places} {end} {p} picked n m [] l = ap (λ xs. how_often xs m) (picked.none n)
none-picked {places} {end} {p} picked n m (e ∷ es) l =
    ap (λ xs. how_often xs m) (picked.more n e es)
    ∙ by (end e == p) (none-picked picked (n + 1) m es (omega arith)) (false_from_ne_true (n == m) (λ k. let z = eqb-true n m k in absurd (omega arith)))
  where
    by : (b : Bool) → how_often (places (n + 1) es) m ≡ 0 → (n == m) ≡ false → how_often (cond b (n ∷ places (n + 1) es) (places (n + 1) es)) m ≡ 0
    by true k j = ap (λ c. cond c (how_often (places (n + 1) es) m + 1) (how_often (places (n + 1) es) m)) j ∙ k
    by false k j = k

-- each of them is picked once, if it has that end
pub once-picked : {places : ℕ → List Edge → List ℕ} {end : Edge → ℕ} {p : ℕ} → ArePicked places end p → (n i e : ℕ) (es : List Edge) (d : Edge) → e ≡ n + i → i < length es
    → how_often (places n es) e ≡ cond (end (get_or es i d) == p) 1 0
once-picked {places} {end} {p} picked n i e [] d k l = absurd (omega arith)
once-picked {places} {end} {p} picked n zero e (x ∷ es) d k l =
    ap (λ xs. how_often xs e) (picked.more n x es) ∙ by (end x == p) (none-picked picked (n + 1) e es (omega arith)) (eq-eqb n e (omega arith))
  where
    by : (b : Bool) → how_often (places (n + 1) es) e ≡ 0 → (n == e) ≡ true → how_often (cond b (n ∷ places (n + 1) es) (places (n + 1) es)) e ≡ cond b 1 0
    by true z j = ap (λ c. cond c (how_often (places (n + 1) es) e + 1) (how_often (places (n + 1) es) e)) j ∙ ap (λ m. m + 1) z
    by false z j = z
once-picked {places} {end} {p} picked n (suc i) e (x ∷ es) d k l =
    ap (λ xs. how_often xs e) (picked.more n x es)
    ∙ by (end x == p) (once-picked picked (n + 1) i e es d (omega arith) (omega arith)) (false_from_ne_true (n == e) (λ j. let z = eqb-true n e j in absurd (omega arith)))
  where
    by : (b : Bool) → how_often (places (n + 1) es) e ≡ cond (end (get_or es i d) == p) 1 0 → (n == e) ≡ false
        → how_often (cond b (n ∷ places (n + 1) es) (places (n + 1) es)) e ≡ cond (end (get_or es i d) == p) 1 0
    by true z j = ap (λ c. cond c (how_often (places (n + 1) es) e + 1) (how_often (places (n + 1) es) e)) j ∙ z
    by false z j = z

-- an out-edge by its place among them
pub out_edge : (flow : Dataflow) (p : ℕ) (edges : List ℕ) (i e : ℕ) → edges ≡ out_edges flow p → i < length edges → e ≡ get_or edges i e → e < length flow.edges
out_edge flow p edges i e es l is =
    let P : ℕ → Type 0 = λ d. d < length flow.edges in
    subst P (sym is) (each-at P edges i e l (subst (AllByRecursion P) (sym es) (out_edges-from P flow p (λ d m r. m))))

-- each edge is once among the out-edges of its sender
pub once : (flow : Dataflow) (p e : ℕ) → e < length flow.edges → how_often (out_edges flow p) e ≡ cond (sender flow e == p) 1 0
unfolding out_edges sender
once flow p e l =
    let picked : ArePicked (λ n es. edges_from n es p) (λ d. d.sender) p = record { none = λ n. refl; more = λ n d es. refl } in
    once-picked picked 0 e e flow.edges (record { name = []; sender = length flow.nodes; receiver = length flow.nodes }) (omega arith) l

often-in : (xs : List ℕ) (e : ℕ) → is_in xs e ≡ true → how_often xs e ≡ 0 → ⊥
often-in [] e k z = cc
often-in (x ∷ xs) e k z = by (x == e) k z (often-in xs e)
  where
    by : (b : Bool) → (b || is_in xs e) ≡ true → cond b (how_often xs e + 1) (how_often xs e) ≡ 0 → (is_in xs e ≡ true → how_often xs e ≡ 0 → ⊥) → ⊥
    by true j y f = absurd (omega (arith, y))
    by false j y f = f j y

-- what holds of the stamps of all recs holds of those that an edge carries
stamps-each : (P : Stamp → Type 0) (part : Option KeyPart) (sent : List (Stamp × Rec)) → AllByRecursion P (stamps_of_recs sent) → AllByRecursion P (stamps_of_part part sent)
stamps-each P part [] a = tt
stamps-each P part (x ∷ xs) a = by (is_of_part_if part x.1.key) (stamps-each P part xs a.1)
  where
    by : (b : Bool) → AllByRecursion P (stamps_of_part part xs)
        → AllByRecursion P (map (λ (s : Stamp × Rec). s.0) (cond b (x ∷ filter (λ (s : Stamp × Rec). is_of_part_if part s.1.key) xs) (filter (λ (s : Stamp × Rec). is_of_part_if part s.1.key) xs)))
    by true h = (a.0, h)
    by false h = h

pub all_sent : (flow : Dataflow) (p : ℕ) (sent : List (Stamp × Rec)) (edges : List ℕ) (old new : List (List (Stamp × ℕ))) → edges ≡ out_edges flow p
    → IsSending (λ e. stamps_on flow e sent) edges old new → ArePendingMore flow p sent old new
all_sent flow p sent edges old new is a = record {
  one_each = a.one_each;
  times = λ e l t. a.times e t ∙ one (sender flow e == p) (times_in t (get_or old e [])) (how_often edges e) (how_many (same t) (stamps_on flow e sent)) (ap (λ es. how_often es e) is ∙ once flow p e l);
  domain = λ can o e l. a.domain (bounds_of flow (receiver flow e)) e (o e l) (λ k.
      stamps-each (λ s. in_domain (bounds_of flow (receiver flow e)) s ≡ true) (part_of flow (receiver flow e)) sent
      (can e l (eqb-true (sender flow e) p (from (sender flow e == p) (ap (λ es. how_often es e) is ∙ once flow p e l) (often-in edges e k)))));
}
  where
    one : (b : Bool) (o k h : ℕ) → k ≡ cond b 1 0 → o + k * h ≡ o + cond b h 0
    one true o k h e = rw e (omega arith)
    one false o k h e = rw e (omega arith)

    from : {n : ℕ} (b : Bool) → n ≡ cond b 1 0 → (n ≡ 0 → ⊥) → b ≡ true
    from true e f = refl
    from false e f = absurd (f e)
