-- The in-edges of a node of an expansion, by what they are made of.
use Rattle.std.proofs.Common.{◌≡◌, inl, inr, ℕ, zero, suc, ◌+◌, ◌<◌, ◌≤◌, Bool, true, false, ◌==◌, cond, List, [], ◌∷◌, ◌++◌, length, map, get_or, Option, Some, None, refl, sym, ap, ◌∙◌, arith}
use Rattle.std.proofs.lemmas.Bool.{cases_lt, true≢false}
use Rattle.std.specs.Fmt.{decimal}
use Rattle.std.specs.List.{AllByRecursion, IsDistinct, flat_map, range_with_len}
use Rattle.std.specs.Str.{bytes_eq}
use Rattle.fw_lemmas.proofs.Bools.{same_tests}
use Rattle.fw_lemmas.proofs.Each.{each-weaker}
use Rattle.fw_lemmas.proofs.Numbers.{eqb-self, eqb-sym, other_number}
use Rattle.fw_flow.specs.declared.raw.Declaration.TheVariants.{Loop as ALoop, Node as ANode, Edge as AnEdge}
use Rattle.fw_flow.specs.Dataflow.{edges_into}
use Rattle.fw_flow.specs.Declaring.{Declaration, Declared}
use Rattle.fw_flow.specs.Expand.{replicas_of_kind, split_of}
use Rattle.fw_flow.specs.FullNames.{part_name}
use Rattle.fw_flow.specs.Raw.{node_name, node_names, place_or_end}
use Rattle.fw_flow.proofs.DistinctLaws.{apart-where}
use Rattle.fw_flow.proofs.FullNameLaws.{IsDotless}
use Rattle.fw_split.specs.Expansion.{EdgeOrigin, Whole, PartOf, SentBy}
use Rattle.fw_split.proofs.MadeLaws.{MadeEdge, edge_as, edge_made_of, edges_of, joined-joined, made_edges, part_in, part_made, sent_made, sent_of, written_edges, written_of}
use Rattle.fw_split.proofs.PlaceLaws.{dot-once, joined-once, joined-same, name-equal, name-itself, name-same, number-equal, part-once, part-plain, plain-part, same-places}

-- the origin of an edge, if it leads to the node of this name
abbrev pub picked : List ℕ → MadeEdge → List EdgeOrigin
picked full m = cond (bytes_eq m.receiver full) (m.origin ∷ []) []

-- the origins of the edges that lead there
abbrev pub picks : List ℕ → List MadeEdge → List EdgeOrigin
picks full ms = flat_map (picked full) ms

-- ---- from places to names

module _ (names : List (List ℕ)) where
  one-step : (c : Bool) (f : ℕ → EdgeOrigin) (n : ℕ) (rest : List ℕ) (o : EdgeOrigin) (os : List EdgeOrigin) → f n ≡ o → map f rest ≡ os
      → map f (cond c (n ∷ rest) rest) ≡ cond c (o ∷ []) [] ++ os
  one-step true f n rest o os e r = ap (λ x. x ∷ map f rest) e ∙ ap (λ xs. o ∷ xs) r
  one-step false f n rest o os e r = r

  -- where f gives each edge its origin, it gives the in-edges of the node of a name those that lead to this name
  pub into-picks : (f : ℕ → EdgeOrigin) (full : List ℕ) (d : MadeEdge) → place_or_end names full < length names → (n : ℕ) (ms : List MadeEdge)
      → ((i : ℕ) → i < length ms → f (n + i) ≡ (get_or ms i d).origin) → map f (edges_into n (map (edge_as names) ms) (place_or_end names full)) ≡ picks full ms
  into-picks f full d lt n [] h = refl
  into-picks f full d lt n (m ∷ ms) h =
      let after : (i : ℕ) → i < length ms → f ((n + 1) + i) ≡ (get_or ms i d).origin =
      λ i l. let e : (n + 1) + i ≡ n + suc i = omega arith in ap f e ∙ h (suc i) (omega arith) in
      let first : f n ≡ m.origin = let e : n ≡ n + 0 = omega arith in ap f e ∙ h 0 (omega arith) in
      one-step (place_or_end names m.receiver == place_or_end names full) f n (edges_into (n + 1) (map (edge_as names) ms) (place_or_end names full)) m.origin (picks full ms)
      first (into-picks f full d lt (n + 1) ms after)
      ∙ ap (λ c. cond c (m.origin ∷ []) [] ++ picks full ms) (same-places names m.receiver full lt)

-- no edge leads to a place past those of all receivers
pub into-none : (n : ℕ) (names : List (List ℕ)) (ms : List MadeEdge) (q : ℕ) → length names ≤ q
    → AllByRecursion (λ m. place_or_end names m.receiver < length names) ms → edges_into n (map (edge_as names) ms) q ≡ []
into-none n names [] q past a = refl
into-none n names (m ∷ ms) q past a =
    let p = place_or_end names m.receiver in
    let rest = edges_into (n + 1) (map (edge_as names) ms) q in
    let low : place_or_end names m.receiver < q = let l = a.0 in omega arith in
    ap (λ c. cond c (n ∷ rest) rest) (other_number p q low) ∙ into-none (n + 1) names ms q past a.1

-- ---- what leads to a name, among what one declaration comes to

-- the names of a declaration have no dot, and a node is split in as many as all of them say of its name
abbrev pub IsPlain : List Declared → Declaration → Type 0
IsPlain all (ALoop name max parent) = Unit {0}
IsPlain all (ANode name kind policy split part) = IsDotless name × (split_of all name ≡ replicas_of_kind kind split part)
IsPlain all (AnEdge name sender receiver) = IsDotless name × IsDotless sender × IsDotless receiver

-- names of which these say different things differ
pub split-apart : (all : List Declared) (a b : List ℕ) (n : ℕ) → split_of all a ≡ None → split_of all b ≡ Some n → a ≡ b → ⊥
split-apart all a b n none many e = absurd (none-some n (sym none ∙ ap (split_of all) e ∙ many))
  where
    none-some : (n : ℕ) → ◌≡◌ {A = Option ℕ} None (Some n) → ⊥
    none-some n e = absurd (cc)

pub some-once : (m n : ℕ) → ◌≡◌ {A = Option ℕ} (Some m) (Some n) → m ≡ n
some-once m n e = cc

-- of things made one for each place, one alone is picked: that at place i
module _ (make : ℕ → MadeEdge) (full : List ℕ) (i : ℕ) where
  abbrev PicksOne : ℕ → Type 0
  PicksOne top = (j : ℕ) → j < top → bytes_eq (make j).receiver full ≡ (j == i)

  range-none : (a m top : ℕ) → i < a → a + m ≤ top → PicksOne top → picks full (map make (range_with_len a m)) ≡ []
  range-none a zero top lt low one = refl
  range-none a (suc m) top lt low one =
      let test : (a == i) ≡ false = eqb-sym a i ∙ other_number i a lt in
      ap (λ c. cond c ((make a).origin ∷ []) [] ++ picks full (map make (range_with_len (a + 1) m))) (one a (omega arith) ∙ test)
      ∙ range-none (a + 1) m top (omega arith) (omega arith) one

  range-one : (a m top : ℕ) → a ≤ i → i < a + m → a + m ≤ top → PicksOne top → picks full (map make (range_with_len a m)) ≡ (make i).origin ∷ []
  range-one a zero top le lt low one = absurd (omega arith)
  range-one a (suc m) top le lt low one = elim (cases_lt a i) [
    | inl before ↦
        ap (λ c. cond c ((make a).origin ∷ []) [] ++ picks full (map make (range_with_len (a + 1) m))) (one a (omega arith) ∙ other_number a i before)
        ∙ range-one (a + 1) m top (omega arith) (omega arith) (omega arith) one
    | inr past ↦
        let same : a ≡ i = omega (arith, le, past) in
        let test : (a == i) ≡ true = ap (λ n. n == i) same ∙ eqb-self i in
        ap (λ c. cond c ((make a).origin ∷ []) [] ++ picks full (map make (range_with_len (a + 1) m))) (one a (omega arith) ∙ test)
        ∙ ap (λ os. (make a).origin ∷ os) (range-none (a + 1) m top (omega arith) (omega arith) one)
        ∙ ap (λ n. (make n).origin ∷ []) same
  ]

module _ (all : List Declared) (nodes edges : List (List ℕ)) where
  sent-none : (own full : List ℕ) (n : ℕ) (is : List ℕ) → bytes_eq own full ≡ false → picks full (map (sent_made all nodes edges own n) is) ≡ []
  sent-none own full n [] e = refl
  sent-none own full n (i ∷ is) e =
      ap (λ c. cond c (SentBy (place_or_end nodes own) (part_in n i) ∷ []) [] ++ picks full (map (sent_made all nodes edges own n) is)) e ∙ sent-none own full n is e

  sent-all : (own full : List ℕ) (n : ℕ) (is : List ℕ) → bytes_eq own full ≡ true
      → picks full (map (sent_made all nodes edges own n) is) ≡ map (λ i. SentBy (place_or_end nodes own) (part_in n i)) is
  sent-all own full n [] e = refl
  sent-all own full n (i ∷ is) e =
      ap (λ c. cond c (SentBy (place_or_end nodes own) (part_in n i) ∷ []) [] ++ picks full (map (sent_made all nodes edges own n) is)) e
      ∙ ap (λ os. SentBy (place_or_end nodes own) (part_in n i) ∷ os) (sent-all own full n is e)

  parts-none : (own sender receiver full : List ℕ) (n : ℕ) (is : List ℕ) → ((i : ℕ) → bytes_eq (part_name receiver i) full ≡ false)
      → picks full (map (part_made all nodes edges own sender receiver n) is) ≡ []
  parts-none own sender receiver full n [] e = refl
  parts-none own sender receiver full n (i ∷ is) e =
      ap (λ c. cond c (PartOf (place_or_end edges own) (part_in n i) ∷ []) [] ++ picks full (map (part_made all nodes edges own sender receiver n) is)) (e i)
      ∙ parts-none own sender receiver full n is e

  -- of the edges to the replicas of a node, one leads to each
  parts-one : (own sender receiver : List ℕ) (n i : ℕ) → IsDotless receiver → i < n → n ≤ 64
      → picks (part_name receiver i) (map (part_made all nodes edges own sender receiver n) (range_with_len 0 n)) ≡ PartOf (place_or_end edges own) (part_in n i) ∷ []
  parts-one own sender receiver n i k lt few =
      range-one (part_made all nodes edges own sender receiver n) (part_name receiver i) i 0 n n (omega arith) (omega arith) (omega arith) tests
    where
      tests : (j : ℕ) → j < n → bytes_eq (part_name receiver j) (part_name receiver i) ≡ (j == i)
      tests j below =
          same_tests (bytes_eq (part_name receiver j) (part_name receiver i)) (j == i)
          (λ e. ap (λ m. m == i) (part-once receiver receiver j i k k (omega arith) (omega arith) (name-equal (part_name receiver j) (part_name receiver i) e)).1 ∙ eqb-self i)
          (λ e. ap (λ m. bytes_eq (part_name receiver m) (part_name receiver i)) (number-equal j i e) ∙ name-itself (part_name receiver i))

  -- to a node that is not split lead the edges that are written
  same-one : (name : List ℕ) → IsDotless name → split_of all name ≡ None → (d : Declaration) → IsPlain all d
      → picks name (edges_of all nodes edges d) ≡ picks name (written_of Whole edges d)
  same-one name plain none (ALoop own max parent) k = refl
  same-one name plain none (ANode own kind policy split part) k = by (replicas_of_kind kind split part) k.1
    where
      by : (o : Option ℕ) → split_of all own ≡ o → picks name (sent_of all nodes edges own o) ≡ []
      by None e = refl
      by (Some n) e = sent-none own name n (range_with_len 0 n) (apart-where own name (λ s. split-apart all name own n none e (sym s)))
  same-one name plain none (AnEdge own sender receiver) k = by (split_of all receiver) refl
    where
      by : (o : Option ℕ) → split_of all receiver ≡ o → picks name (edge_made_of all nodes edges own sender receiver o) ≡ picks name (written_of Whole edges (AnEdge own sender receiver))
      by None e = refl
      by (Some n) e =
          parts-none own sender receiver name n (range_with_len 0 n) (λ i. part-plain name receiver i plain)
          ∙ sym (ap (λ c. cond c (Whole (place_or_end edges own) ∷ []) [] ++ []) (apart-where receiver name (λ s. split-apart all name receiver n none e (sym s))))

  -- to a replica lead these parts of the edges that are written to the node
  replica-one : (name : List ℕ) (n i : ℕ) → IsDotless name → split_of all name ≡ Some n → i < n → n ≤ 64 → (d : Declaration) → IsPlain all d
      → picks (part_name name i) (edges_of all nodes edges d) ≡ picks name (written_of (λ e. PartOf e (part_in n i)) edges d)
  replica-one name n i plain many lt few (ALoop own max parent) k = refl
  replica-one name n i plain many lt few (ANode own kind policy split part) k = by (replicas_of_kind kind split part)
    where
      by : (o : Option ℕ) → picks (part_name name i) (sent_of all nodes edges own o) ≡ []
      by None = refl
      by (Some m) = sent-none own (part_name name i) m (range_with_len 0 m) (plain-part own name i k.0)
  replica-one name n i plain many lt few (AnEdge own sender receiver) k = by (split_of all receiver) refl
    where
      wanted : EdgeOrigin
      wanted = PartOf (place_or_end edges own) (part_in n i)

      same : (m : ℕ) → split_of all receiver ≡ Some m → (b : Bool) → bytes_eq receiver name ≡ b
          → picks (part_name name i) (map (part_made all nodes edges own sender receiver m) (range_with_len 0 m)) ≡ cond b (wanted ∷ []) [] ++ []
      same m e true t =
          let own_name = name-equal receiver name t in
          let count : m ≡ n = some-once m n (sym e ∙ ap (split_of all) own_name ∙ many) in
          ap (λ x. picks (part_name name i) (map (part_made all nodes edges own sender receiver x) (range_with_len 0 x))) count
          ∙ ap (λ x. picks (part_name x i) (map (part_made all nodes edges own sender receiver n) (range_with_len 0 n))) (sym own_name)
          ∙ parts-one own sender receiver n i k.2 lt few
      same m e false t =
          parts-none own sender receiver (part_name name i) m (range_with_len 0 m)
          (λ j. apart-where (part_name receiver j) (part_name name i)
          (λ s. true≢false (sym (name-same receiver name (dot-once receiver name (decimal j) (decimal i) k.2 plain s).0) ∙ t)))

      by : (o : Option ℕ) → split_of all receiver ≡ o → picks (part_name name i) (edge_made_of all nodes edges own sender receiver o)
          ≡ picks name (written_of (λ e. PartOf e (part_in n i)) edges (AnEdge own sender receiver))
      by None e =
          ap (λ c. cond c (Whole (place_or_end edges own) ∷ []) [] ++ []) (plain-part receiver name i k.2)
          ∙ sym (ap (λ c. cond c (wanted ∷ []) [] ++ []) (apart-where receiver name (λ s. split-apart all receiver name n e many s)))
      by (Some m) e = same m e (bytes_eq receiver name) refl

  -- what the replicas of a node send
  abbrev pub sent_by : List ℕ → ℕ → List EdgeOrigin
  sent_by name n = map (λ i. SentBy (place_or_end nodes name) (part_in n i)) (range_with_len 0 n)

  -- to where they are gathered leads what the node's own declaration makes
  gathered-one : (name : List ℕ) (n : ℕ) → IsDotless name → split_of all name ≡ Some n → (line : ℕ) (d : Declaration) → IsPlain all d
      → picks name (edges_of all nodes edges d) ≡ flat_map (λ x. cond (bytes_eq x name) (sent_by name n) []) (node_name (record { line = line; declaration = d }))
  gathered-one name n plain many line (ALoop own max parent) k = refl
  gathered-one name n plain many line (ANode own kind policy split part) k = by (replicas_of_kind kind split part) k.1
    where
      nil : (xs : List EdgeOrigin) → xs ≡ xs ++ []
      nil [] = refl
      nil (x ∷ xs) = ap (λ ys. x ∷ ys) (nil xs)

      same : (m : ℕ) → split_of all own ≡ Some m → (b : Bool) → bytes_eq own name ≡ b
          → picks name (map (sent_made all nodes edges own m) (range_with_len 0 m)) ≡ cond b (sent_by name n) [] ++ []
      same m e true t =
          let own_name = name-equal own name t in
          let count : m ≡ n = some-once m n (sym e ∙ ap (split_of all) own_name ∙ many) in
          sent-all own name m (range_with_len 0 m) t
          ∙ ap (λ x. map (λ i. SentBy (place_or_end nodes own) (part_in x i)) (range_with_len 0 x)) count
          ∙ ap (λ x. map (λ i. SentBy (place_or_end nodes x) (part_in n i)) (range_with_len 0 n)) own_name
          ∙ nil (sent_by name n)
      same m e false t = sent-none own name m (range_with_len 0 m) t

      by : (o : Option ℕ) → split_of all own ≡ o → picks name (sent_of all nodes edges own o) ≡ cond (bytes_eq own name) (sent_by name n) [] ++ []
      by None e = sym (ap (λ c. cond c (sent_by name n) [] ++ []) (apart-where own name (λ s. split-apart all own name n e many s)))
      by (Some m) e = same m e (bytes_eq own name) refl
  gathered-one name n plain many line (AnEdge own sender receiver) k = by (split_of all receiver) refl
    where
      by : (o : Option ℕ) → split_of all receiver ≡ o → picks name (edge_made_of all nodes edges own sender receiver o) ≡ []
      by None e = ap (λ c. cond c (Whole (place_or_end edges own) ∷ []) [] ++ []) (apart-where receiver name (λ s. split-apart all receiver name n e many s))
      by (Some m) e = parts-none own sender receiver name m (range_with_len 0 m) (λ i. part-plain name receiver i plain)

  -- ---- among what they all come to

  pub same-picks : (name : List ℕ) → IsDotless name → split_of all name ≡ None → (raw : List Declared) → AllByRecursion (λ d. IsPlain all d.declaration) raw
      → picks name (made_edges all nodes edges raw) ≡ picks name (written_edges Whole edges raw)
  same-picks name plain none raw k =
      joined-joined (picked name) (λ d. edges_of all nodes edges d.declaration) raw
      ∙ joined-same (λ d. picks name (edges_of all nodes edges d.declaration)) (λ d. picks name (written_of Whole edges d.declaration)) raw
      (each-weaker (λ d. IsPlain all d.declaration) (λ d. picks name (edges_of all nodes edges d.declaration) ≡ picks name (written_of Whole edges d.declaration)) raw
      (λ d p. same-one name plain none d.declaration p) k)
      ∙ sym (joined-joined (picked name) (λ d. written_of Whole edges d.declaration) raw)

  pub replica-picks : (name : List ℕ) (n i : ℕ) → IsDotless name → split_of all name ≡ Some n → i < n → n ≤ 64
      → (raw : List Declared) → AllByRecursion (λ d. IsPlain all d.declaration) raw
      → picks (part_name name i) (made_edges all nodes edges raw) ≡ picks name (written_edges (λ e. PartOf e (part_in n i)) edges raw)
  replica-picks name n i plain many lt few raw k =
      let f : ℕ → EdgeOrigin = λ e. PartOf e (part_in n i) in
      joined-joined (picked (part_name name i)) (λ d. edges_of all nodes edges d.declaration) raw
      ∙ joined-same (λ d. picks (part_name name i) (edges_of all nodes edges d.declaration)) (λ d. picks name (written_of f edges d.declaration)) raw
      (each-weaker (λ d. IsPlain all d.declaration) (λ d. picks (part_name name i) (edges_of all nodes edges d.declaration) ≡ picks name (written_of f edges d.declaration)) raw
      (λ d p. replica-one name n i plain many lt few d.declaration p) k)
      ∙ sym (joined-joined (picked name) (λ d. written_of f edges d.declaration) raw)

  pub gathered-picks : (name : List ℕ) (n : ℕ) → IsDotless name → split_of all name ≡ Some n → (raw : List Declared) → AllByRecursion (λ d. IsPlain all d.declaration) raw
      → IsDistinct bytes_eq (node_names raw) → place_or_end (node_names raw) name < length (node_names raw) → picks name (made_edges all nodes edges raw) ≡ sent_by name n
  gathered-picks name n plain many raw k once there =
      let at : List ℕ → List EdgeOrigin = λ x. cond (bytes_eq x name) (sent_by name n) [] in
      joined-joined (picked name) (λ d. edges_of all nodes edges d.declaration) raw
      ∙ joined-same (λ d. picks name (edges_of all nodes edges d.declaration)) (λ d. flat_map at (node_name d)) raw
      (each-weaker (λ d. IsPlain all d.declaration) (λ d. picks name (edges_of all nodes edges d.declaration) ≡ flat_map at (node_name d)) raw
      (λ d p. gathered-one name n plain many d.line d.declaration p) k)
      ∙ sym (joined-joined at node_name raw)
      ∙ joined-once name (sent_by name n) (node_names raw) once there
