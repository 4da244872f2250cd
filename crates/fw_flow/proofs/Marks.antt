-- Marks that spread along links, and the links that lead back to where they began.
use Rattle.std.proofs.Common.{◌≡◌, ℕ, zero, suc, ◌+◌, ◌<◌, ◌⊎◌, inl, inr, Bool, true, false, ◌||◌, ◌==◌, List, [], ◌∷◌, ◌++◌, length, set, replicate, take, get_or, slice_index_or, refl, sym, ap, ◌∙◌, subst, arith, get_or-set_same, get_or-set_other, length-set, length-append}
use Rattle.std.proofs.lemmas.List.{take_more, length-replicate}
use Rattle.std.proofs.lemmas.List.Elements.{Contains-append_left, Contains-append_right, Contains-append_cases, Contains-push, Contains-push_cases}
use Rattle.std.proofs.lemmas.Bool.{or_left, or_right, eq-eqb, cases_eq, true≢false, false≢true}
use Rattle.std.specs.List.{Contains}
use Rattle.std.specs.declared.alloc.Global.{Global}
use Rattle.std.specs.declared.vec.Vec.{Vec}
use Rattle.fw_lemmas.proofs.Lists.{only_one}
use Rattle.fw_flow.specs.declared.walks.Link.{Link}
use Rattle.fw_flow.specs.Flow.{edges_at}
use Rattle.fw_flow.specs.Walks.{IsPath, Path, graph_of, link_at, is_marked, unmarked_count, AreWithin, IsClosedUnder, IsAmong, AreOnward, AreOnwardWithin, AreMarked, IsReachOf, LeadsBack}
use Rattle.fw_flow.proofs.Ends.{edges_at-set_same, edges_at-set_other}
use Rattle.fw_flow.proofs.FlowLaws.{edges_there}
use Rattle.fw_flow.proofs.Reach.{reach, Path-from_reach}
use Rattle.fw_flow.proofs.Ranks.{reach-past}

-- ---- the receivers of the links that leave a node

pub AreOnward-none : (links : List Link) (onward : List (Vec ℕ Global)) → ((p : ℕ) → edges_at onward p ≡ []) → AreOnward links 0 onward
AreOnward-none links onward h = record {
  each = λ e lt. absurd (omega arith);
  only = λ p r has. let P : List ℕ → Type 0 = λ rs. Contains rs r in absurd (nothing r (subst P (h p) has));
}
  where
    nothing : (r : ℕ) → Contains [] r → ⊥
    nothing r has = let lt : has.0 < length {A = ℕ} [] = has.1 in omega arith

-- one link more, whose receiver is added to its sender's list
pub AreOnward-more : (links : List Link) (m : ℕ) (onward : List (Vec ℕ Global)) (v : Vec ℕ Global) → (link_at links m).sender < length onward
    → v.items ≡ edges_at onward (link_at links m).sender ++ (link_at links m).receiver ∷ [] → AreOnward links m onward
    → AreOnward links (m + 1) (set onward (link_at links m).sender v)
AreOnward-more links m onward v inside is so_far = record {
  each = λ e lt.
      elim (cases_eq e m) [
        | inl same ↦
            subst (λ k. Contains (edges_at now (link_at links k).sender) (link_at links k).receiver) (sym same)
            (let P : List ℕ → Type 0 = λ rs. Contains rs r in subst P (sym here) (Contains-push (edges_at onward s) r))
        | inr other ↦ kept (link_at links e).sender (link_at links e).receiver (so_far.each e (omega arith))
      ];
  only = λ p q has.
      elim (cases_eq p s) [
        | inl same ↦
            let P : ℕ → Type 0 = λ x. Contains (edges_at now x) q in
            let Q : List ℕ → Type 0 = λ rs. Contains rs q in
            elim (Contains-push_cases (edges_at onward s) r q (subst Q here (subst P same has))) [
              | inl before ↦ older p q (subst (λ x. Contains (edges_at onward x) q) (sym same) before)
              | inr new ↦ (m, omega arith, sym same, new)
            ]
        | inr other ↦
            let Q : List ℕ → Type 0 = λ rs. Contains rs q in
            older p q (subst Q (edges_at-set_other onward s p v other) has)
      ];
}
  where
    s : ℕ
    s = (link_at links m).sender

    r : ℕ
    r = (link_at links m).receiver

    now : List (Vec ℕ Global)
    now = set onward s v

    here : edges_at now s ≡ edges_at onward s ++ r ∷ []
    here = edges_at-set_same onward s v inside ∙ is

    kept : (p q : ℕ) → Contains (edges_at onward p) q → Contains (edges_at now p) q
    kept p q has =
        let Q : List ℕ → Type 0 = λ rs. Contains rs q in
        elim (cases_eq p s) [
          | inl same ↦
              subst (λ x. Contains (edges_at now x) q) (sym same)
              (subst Q (sym here) (Contains-append_left (edges_at onward s) (r ∷ []) q (subst (λ x. Contains (edges_at onward x) q) same has)))
          | inr other ↦ subst Q (sym (edges_at-set_other onward s p v other)) has
        ]

    older : (p q : ℕ) → Contains (edges_at onward p) q → (e : ℕ) × (e < m + 1) × ((link_at links e).sender ≡ p) × ((link_at links e).receiver ≡ q)
    older p q has = let w = so_far.only p q has in let k : w.0 < m = w.1 in (w.0, omega arith, w.2, w.3)

-- the lists have nodes for which there is a list
pub AreOnwardWithin-from : (links : List Link) (onward : List (Vec ℕ Global)) → AreWithin (length onward) links → AreOnward links (length links) onward → AreOnwardWithin onward
AreOnwardWithin-from links onward within lists p r has =
    let w = lists.only p r has in
    subst (λ x. x < length onward) w.3 (within.receivers w.0 w.1)

-- ---- what is marked

pub unmarked_count-set : (marks : List Bool) (p : ℕ) → p < length marks → is_marked marks p ≡ false → unmarked_count (set marks p true) + 1 ≡ unmarked_count marks
unmarked_count-set [] p lt h = absurd (omega arith)
unmarked_count-set (true ∷ marks) zero lt h = absurd (true≢false h)
unmarked_count-set (false ∷ marks) zero lt h = omega arith
unmarked_count-set (mark ∷ marks) (suc p) lt h = omega (arith, unmarked_count-set marks p (omega arith) h)

is_marked-set : (marks : List Bool) (r p : ℕ) → r < length marks → is_marked marks p ≡ true → is_marked (set marks r true) p ≡ true
is_marked-set marks r p lt h =
    elim (cases_eq p r) [
      | inl same ↦ subst (λ x. is_marked (set marks r true) x ≡ true) (sym same) (get_or-set_same marks r true false lt)
      | inr other ↦ get_or-set_other marks r p true false other ∙ h
    ]

marked_before : (marks : List Bool) (r p : ℕ) → is_marked (set marks r true) p ≡ true → (p ≡ r) ⊎ (is_marked marks p ≡ true)
marked_before marks r p h =
    elim (cases_eq p r) [
      | inl same ↦ inl same
      | inr other ↦ inr (sym (get_or-set_other marks r p true false other) ∙ h)
    ]

marked_within : (marks : List Bool) (p : ℕ) → is_marked marks p ≡ true → p < length marks
marked_within [] p h = absurd (false≢true h)
marked_within (mark ∷ marks) zero h = omega arith
marked_within (mark ∷ marks) (suc p) h = let lt = marked_within marks p h in omega arith

the_one : (q : ℕ) → Contains (q ∷ []) q
the_one q = (0, omega arith, refl)

-- a place that has a mark already
-- a place that has none
pub AreMarked-new : (place : ℕ) (marks : List Bool) (waiting : List ℕ) → place < length marks → is_marked marks place ≡ false
    → AreMarked (place ∷ []) marks (set marks place true) waiting (waiting ++ place ∷ [])
AreMarked-new place marks waiting lt h = record {
  len = length-set marks place true;
  count = omega (arith, unmarked_count-set marks place lt h, length-append waiting (place ∷ []));
  kept = λ p k. is_marked-set marks place p lt k;
  each = λ p has. subst (λ x. is_marked (set marks place true) x ≡ true) (sym (only_one place p has)) here;
  only = λ p k.
      elim (marked_before marks place p k) [
        | inl same ↦ inr (subst (λ x. Contains (place ∷ []) x × Contains (waiting ++ place ∷ []) x) (sym same) (the_one place, Contains-push waiting place))
        | inr before ↦ inl before
      ];
  still_waiting = λ p k. Contains-append_left waiting (place ∷ []) p k;
  waiting = λ p k.
      elim (Contains-push_cases waiting place p k) [
        | inl before ↦ inl before
        | inr same ↦ inr (subst (λ x. is_marked (set marks place true) x ≡ true) same here)
      ];
}
  where
    here : is_marked (set marks place true) place ≡ true
    here = get_or-set_same marks place true false lt

-- none of no places
-- some places and then others
AreMarked-join : (ps qs : List ℕ) (old between now : List Bool) (ws us vs : List ℕ) → AreMarked ps old between ws us → AreMarked qs between now us vs → AreMarked (ps ++ qs) old now ws vs
AreMarked-join ps qs old between now ws us vs a b = record {
  len = b.len ∙ a.len;
  count = b.count ∙ a.count;
  kept = λ p k. b.kept p (a.kept p k);
  each = λ p has.
      elim (Contains-append_cases ps qs p has) [
        | inl first ↦ b.kept p (a.each p first)
        | inr second ↦ b.each p second
      ];
  only = λ p k.
      elim (b.only p k) [
        | inl before ↦
            elim (a.only p before) [
              | inl oldest ↦ inl oldest
              | inr new ↦ inr (Contains-append_left ps qs p new.0, b.still_waiting p new.1)
            ]
        | inr new ↦ inr (Contains-append_right ps qs p new.0, new.1)
      ];
  still_waiting = λ p k. b.still_waiting p (a.still_waiting p k);
  waiting = λ p k.
      elim (b.waiting p k) [
        | inl before ↦
            elim (a.waiting p before) [
              | inl oldest ↦ inl oldest
              | inr marked ↦ inr (b.kept p marked)
            ]
        | inr marked ↦ inr marked
      ];
}

-- one place of a list more
pub AreMarked-more : (places : List ℕ) (i : ℕ) (old between now : List Bool) (ws us vs : List ℕ) → i < length places
    → AreMarked (take i places) old between ws us → AreMarked (get_or places i 0 ∷ []) between now us vs → AreMarked (take (i + 1) places) old now ws vs
AreMarked-more places i old between now ws us vs lt a b =
    subst (λ ps. AreMarked ps old now ws vs) (sym (take_more places i 0 lt)) (AreMarked-join (take i places) (get_or places i 0 ∷ []) old between now ws us vs a b)

-- ---- what a node reaches

-- the node is marked, and what is marked leads to marked nodes or waits
pub record IsVisited (onward : List (Vec ℕ Global)) (node : ℕ) (marks : List Bool) (waiting : List ℕ) : Type 0 where
  pub len : length marks ≡ length onward
  pub start : is_marked marks node ≡ true
  pub each : (p r : ℕ) → is_marked marks p ≡ true → Contains (edges_at onward p) r → (is_marked marks r ≡ true) ⊎ Contains waiting p
  pub only : (set : ℕ → Bool) → ((p r : ℕ) → set p ≡ true → Contains (edges_at onward p) r → set r ≡ true) → set node ≡ true → IsAmong marks set
  pub waits : (p : ℕ) → Contains waiting p → is_marked marks p ≡ true

is_marked-none : (n p : ℕ) → is_marked (replicate n false) p ≡ false
is_marked-none zero p = refl
is_marked-none (suc n) zero = refl
is_marked-none (suc n) (suc p) = is_marked-none n p

-- the node alone is marked, and waits
pub IsVisited-first : (onward : List (Vec ℕ Global)) (node : ℕ) (old marks : List Bool) (before waiting : List ℕ) → old ≡ replicate (length onward) false → before ≡ []
    → AreMarked (node ∷ []) old marks before waiting → IsVisited onward node marks waiting
IsVisited-first onward node old marks before waiting none empty a = record {
  len = a.len ∙ ap length none ∙ length-replicate {A = Bool} (length onward) false;
  start = a.each node (the_one node);
  each = λ p r k has.
      elim (a.only p k) [
        | inl earlier ↦ absurd (unmarked p earlier)
        | inr new ↦ inr new.1
      ];
  only = λ chosen closed has_node p k.
      elim (a.only p k) [
        | inl earlier ↦ absurd (unmarked p earlier)
        | inr new ↦ subst (λ x. chosen x ≡ true) (sym (only_one node p new.0)) has_node
      ];
  waits = λ p k.
      elim (a.waiting p k) [
        | inl earlier ↦ absurd (nothing p (let P : List ℕ → Type 0 = λ ws. Contains ws p in subst P empty earlier))
        | inr marked ↦ marked
      ];
}
  where
    unmarked : (p : ℕ) → is_marked old p ≡ true → ⊥
    unmarked p h = false≢true (sym (is_marked-none (length onward) p) ∙ sym (ap (λ ms. is_marked ms p) none) ∙ h)

    nothing : (p : ℕ) → Contains [] p → ⊥
    nothing p has = let lt : has.0 < length {A = ℕ} [] = has.1 in omega arith

-- the nodes that the last one that waits leads to are marked
pub IsVisited-more : (onward : List (Vec ℕ Global)) (node place : ℕ) (marks now : List Bool) (waiting rest later : List ℕ) → waiting ≡ rest ++ place ∷ []
    → IsVisited onward node marks waiting → AreMarked (edges_at onward place) marks now rest later → IsVisited onward node now later
IsVisited-more onward node place marks now waiting rest later is v a = record {
  len = a.len ∙ v.len;
  start = a.kept node v.start;
  each = λ p r k has.
      elim (a.only p k) [
        | inl before ↦
            elim (v.each p r before has) [
              | inl marked ↦ inl (a.kept r marked)
              | inr waits ↦
                  elim (Contains-push_cases rest place p (let P : List ℕ → Type 0 = λ ws. Contains ws p in subst P is waits)) [
                    | inl still ↦ inr (a.still_waiting p still)
                    | inr same ↦ inl (a.each r (subst (λ x. Contains (edges_at onward x) r) (sym same) has))
                  ]
            ]
        | inr new ↦ inr new.1
      ];
  only = λ chosen closed has_node p k.
      elim (a.only p k) [
        | inl before ↦ v.only chosen closed has_node p before
        | inr new ↦ closed place p (v.only chosen closed has_node place here) new.0
      ];
  waits = λ p k.
      elim (a.waiting p k) [
        | inl before ↦ a.kept p (v.waits p (let P : List ℕ → Type 0 = λ ws. Contains ws p in subst P (sym is) (Contains-append_left rest (place ∷ []) p before)))
        | inr marked ↦ marked
      ];
}
  where
    here : is_marked marks place ≡ true
    here = v.waits place (let P : List ℕ → Type 0 = λ ws. Contains ws place in subst P (sym is) (Contains-push rest place))

-- a node that waits is one of the nodes
pub visited_within : (onward : List (Vec ℕ Global)) (node place : ℕ) (marks : List Bool) (waiting rest : List ℕ) → waiting ≡ rest ++ place ∷ []
    → IsVisited onward node marks waiting → place < length onward
visited_within onward node place marks waiting rest is v =
    let P : List ℕ → Type 0 = λ ws. Contains ws place in
    omega (arith, v.len, marked_within marks place (v.waits place (subst P (sym is) (Contains-push rest place))))

-- the marks are those of the nodes that the last one leads to
pub AreMarked-from_row : (onward : List (Vec ℕ Global)) (place : ℕ) (row : Vec ℕ Global) (lent : List ℕ) (old now : List Bool) (ws vs : List ℕ) → place < length onward
    → row ≡ slice_index_or onward place row → lent ≡ row.items → AreMarked lent old now ws vs → AreMarked (edges_at onward place) old now ws vs
AreMarked-from_row onward place row lent old now ws vs lt is e a =
    subst (λ ps. AreMarked ps old now ws vs) (e ∙ sym (edges_there onward place row lt is)) a

-- what is lent of such a row lies within the marks
pub row_within : (onward : List (Vec ℕ Global)) (node place : ℕ) (row : Vec ℕ Global) (lent : List ℕ) (marks : List Bool) (waiting : List ℕ) → AreOnwardWithin onward
    → IsVisited onward node marks waiting → place < length onward → row ≡ slice_index_or onward place row → lent ≡ row.items → (p : ℕ) → Contains lent p → p < length marks
row_within onward node place row lent marks waiting within v lt is e p has =
    let P : List ℕ → Type 0 = λ ps. Contains ps p in
    omega (arith, v.len, within place p (subst P (e ∙ sym (edges_there onward place row lt is)) has))

-- when none waits, the marked nodes are those that are reached
pub IsReachOf-from_visited : (links : List Link) (onward : List (Vec ℕ Global)) (node : ℕ) (marks : List Bool) (waiting : List ℕ) → length waiting ≡ 0 → AreOnward links (length links) onward
    → IsVisited onward node marks waiting → IsReachOf links node marks
IsReachOf-from_visited links onward node marks waiting none lists v = record {
  start = v.start;
  closed = λ e lt marked.
      elim (v.each (link_at links e).sender (link_at links e).receiver marked (lists.each e lt)) [
        | inl reached ↦ reached
        | inr waits ↦ absurd (nothing (link_at links e).sender waits)
      ];
  only = λ chosen closed has_node.
      v.only chosen
      (λ p r h has.
      let w = lists.only p r has in
      subst (λ x. chosen x ≡ true) w.3 (closed w.0 w.1 (subst (λ x. chosen x ≡ true) (sym w.2) h)))
      has_node;
}
  where
    nothing : (p : ℕ) → Contains waiting p → ⊥
    nothing p has = let lt : has.0 < length waiting = has.1 in omega arith

-- a link back from a reached node closes a walk
pub Path-from_back : (links : List Link) (n node : ℕ) (marks : List Bool) → AreWithin n links → node < n → IsReachOf links node marks → LeadsBack links marks node
    → Path (graph_of links) node node
Path-from_back links n node marks within inside reached back =
    let g = graph_of links in
    let source_in = reached.only (λ q. (node == q) || reach g n node q)
    (λ e lt h. or_right (node == (link_at links e).receiver) (reach g n node (link_at links e).receiver) (reach-past g n e node lt refl (within.senders e lt) h))
    (or_left (node == node) (reach g n node node) (eq-eqb node node refl))
    (link_at links back.0).sender back.2 in
    Path-from_reach g n node node
    (subst (λ x. reach g n node x ≡ true) back.3 (reach-past g n back.0 node back.1 refl (within.senders back.0 back.1) source_in))

back_from_path : (links : List Link) (marks : List Bool) → IsClosedUnder links (length links) (is_marked marks)
    → (p e : ℕ) (es : List ℕ) (q : ℕ) → IsPath (graph_of links) p (e ∷ es) q → is_marked marks p ≡ true → LeadsBack links marks q
back_from_path links marks closed p e [] q h marked = (e, h.0, subst (λ x. is_marked marks x ≡ true) (sym h.2) marked, h.3)
back_from_path links marks closed p e (f ∷ fs) q h marked =
    back_from_path links marks closed (link_at links e).receiver f fs q h.3
    (closed e h.0 (subst (λ x. is_marked marks x ≡ true) (sym h.2) marked))

back_from_list : (links : List Link) (marks : List Bool) → IsClosedUnder links (length links) (is_marked marks)
    → (p : ℕ) (es : List ℕ) (q : ℕ) → 0 < length es → IsPath (graph_of links) p es q → is_marked marks p ≡ true → LeadsBack links marks q
back_from_list links marks closed p [] q some h marked = absurd (omega arith)
back_from_list links marks closed p (e ∷ es) q some h marked = back_from_path links marks closed p e es q h marked

-- a closed walk comes back over a link from a reached node
pub LeadsBack-from_Path : (links : List Link) (node : ℕ) (marks : List Bool) → IsReachOf links node marks → Path (graph_of links) node node → LeadsBack links marks node
LeadsBack-from_Path links node marks reached path = back_from_list links marks reached.closed node path.edges node path.some path.path reached.start
