-- Data as a node's traces.
use Rattle.std.proofs.Common.{◌≡◌, ◌≢◌, inl, inr, ℕ, suc, ◌+◌, ◌<◌, Bool, true, false, not, ◌&&◌, ◌==◌, nat_eq, cond, List, [], ◌∷◌, ◌++◌, length, get_or, take, map, refl, sym, ap, subst, ◌∙◌, arith}
use Rattle.std.specs.List.{AllByRecursion, Contains, flat_map}
use Rattle.std.specs.BTreeSet.{insert_key}
use Rattle.std.proofs.lemmas.Bool.{cases_eq, eq-eqb, eqb-true, false_from_ne_true}
use Rattle.std.proofs.lemmas.List.{take_more, append_assoc}
use Rattle.std.proofs.lemmas.List.Elements.{Contains-append_left, Contains-append_right}
use Rattle.fw_lemmas.proofs.Bools.{two_ways}
use Rattle.fw_lemmas.proofs.Each.{each-weaker, each-append}
use Rattle.fw_time.specs.Stamp.{Stamp, stamp_cmp}
use Rattle.fw_frontier.specs.Frontier.{Frontier}
use Rattle.fw_flow.specs.declared.choice.Counted.{Counted}
use Rattle.fw_flow.specs.declared.choice.Stamps.{Stamps}
use Rattle.fw_flow.specs.declared.event.Event.{Event}
use Rattle.fw_flow.specs.declared.event.Message.{Message}
use Rattle.fw_flow.specs.Dataflow.{System, Dataflow, kind_of, receiver, out_edges, is_sequence_kind, sender}
use Rattle.fw_flow.specs.NodeFunction.{event_stamp, sent_by}
use Rattle.fw_flow.specs.Projection.{events_at, all_inside, count_from}
use Rattle.fw_model.proofs.KindSorts.{single-no_sequence}
use Rattle.fw_model.specs.Covers.{stamp_of_notice}
use Rattle.fw_model.specs.Alike.{StandForCauses}
use Rattle.fw_model.proofs.AlikeLaws.{for-kept}
use Rattle.fw_model.specs.EventStamps.{causes_of, causes_in, base_of_sent, tells_sent, AreStampsIf}
use Rattle.fw_model.specs.History.{delivered_messages, sent_messages}
use Rattle.fw_model.specs.Offers.{counted_on_edge, stamps_on}
use Rattle.fw_model.specs.Thinned.{IsBelowKept, IsThinnedIf}
use Rattle.fw_model.proofs.CauseLaws.{inside-sent}
use Rattle.fw_model.proofs.ThinnedLaws.{each-contained}
use Rattle.fw_progress.specs.declared.sent_tally.SentTally.{SentTally}
use Rattle.fw_progress.specs.declared.traces.Traces.{Traces}
use Rattle.fw_progress.specs.Progress.{ChangesAt}
use Rattle.fw_progress.specs.SentTally.{IsSentTally}
use Rattle.fw_progress.specs.Tally.{count_inside}
use Rattle.fw_progress.specs.StampData.{AreTheSame, HaveAdded, TakeUp, AreDelivered, AreTold, AreCausesOnEdges}
use Rattle.fw_progress.specs.Trace.{delivered_on, stamps_notified, stamps_where_sent, IsTraceIf, KeepsLists, KeepsOthers, AreEventsInside, AreRestoredTo}
use Rattle.fw_progress.specs.Traces.{ChangesInto}
use Rattle.fw_progress.proofs.OutLaws.{AreChanging, all-changed_out}
use Rattle.fw_progress.proofs.TraceLaws.{contains-head, each-itself, insert-each, each_of-insert}

abbrev Lists : Type 0
Lists = List (List Stamp)

-- ---- the same stamps

append-none : {A : Type 0} (xs : List A) → xs ++ [] ≡ xs
append-none [] = refl
append-none (x ∷ xs) = ap (λ ys. x ∷ ys) (append-none xs)

-- with no stamps more they are what they were
pub added-none : (old : List Stamp) → HaveAdded [] old old
added-none old all h = subst (λ ss. AreTheSame ss old) (sym (append-none all)) h

-- with one more
pub added-one : (s : Stamp) (old : List Stamp) → HaveAdded (s ∷ []) old (insert_key stamp_cmp old s)
added-one s old all h =
    let new = insert_key stamp_cmp old s in
    let both = all ++ s ∷ [] in
    let has = each_of-insert (Contains new) old s (each-itself new) in
    record {
      each = each-append (Contains new) all (s ∷ []) (each-weaker (Contains old) (Contains new) all (λ t c. each-contained (Contains new) t old c has.1) h.each) (has.0, tt);
      among = insert-each (Contains both) old s (Contains-append_right all (s ∷ []) s (contains-head s []))
          (each-weaker (Contains all) (Contains both) old (λ t c. Contains-append_left all (s ∷ []) t c) h.among);
    }

-- with some, and then with more
pub added-more : (ss more : List Stamp) (a b c : List Stamp) → HaveAdded ss a b → HaveAdded more b c → HaveAdded (ss ++ more) a c
added-more ss more a b c f g all h = subst (λ ts. AreTheSame ts c) (append_assoc all ss more) (g (all ++ ss) (f all h))

-- those that come to none
pub added-to_none : (ss new : List Stamp) → HaveAdded ss [] new → AreTheSame ss new
added-to_none ss new f = f [] (record { each = tt; among = tt })

-- in a loop
pub added-next : (ss : List Stamp) (i : ℕ) (s : Stamp) (old mid new : List Stamp) → i < length ss → s ≡ get_or ss i s → HaveAdded (take i ss) old mid → new ≡ insert_key stamp_cmp mid s
    → HaveAdded (take (i + 1) ss) old new
added-next ss i s old mid new l is a e =
    subst (λ ts. HaveAdded ts old new) (sym (take_more ss i s l ∙ ap (λ y. take i ss ++ y ∷ []) (sym is)))
    (added-more (take i ss) (s ∷ []) old mid new a (subst (HaveAdded (s ∷ []) mid) (sym e) (added-one s mid)))

-- stamps that are the same as thinned ones are thinned
pub same-thinned : (whole : Bool) (base : Frontier) (all ss kept : List Stamp) → AreTheSame ss kept → IsThinnedIf whole base all ss → IsThinnedIf whole base all kept
same-thinned whole base all ss kept same h = record {
  among = each-weaker (Contains ss) (Contains all) kept (λ s c. each-contained (Contains all) s ss c h.among) same.among;
  outside = each-weaker (λ t. base t ≡ false → Contains ss t) (λ t. base t ≡ false → Contains kept t) all (λ t f o. each-contained (Contains kept) t ss (f o) same.each) h.outside;
  inside = λ w. each-weaker (λ t. base t ≡ true → IsBelowKept base ss t) (λ t. base t ≡ true → IsBelowKept base kept t) all
      (λ t f i. let k = f i in record { above = k.above; is_kept = each-contained (Contains kept) k.above ss k.is_kept same.each; inside = k.inside; below = k.below }) (h.inside w);
}

-- ---- messages by their edges

-- places that are not told apart are one
pub equal-places : (x y : ℕ) (ne : Bool) → ne ≡ not (nat_eq x y) → ne ≡ false → x ≡ y
equal-places x y ne e f = eqb-true x y (by (nat_eq x y) (sym e ∙ f))
  where
    by : (b : Bool) → not b ≡ false → b ≡ true
    by true k = refl
    by false k = absurd (cc)

-- a message that is on one
pub taken-one : (flow : Dataflow) (p : ℕ) (m : Counted) (old new : Lists) → receiver flow m.edge ≡ p → ChangesAt m.edge [] (HaveAdded (m.at ∷ [])) old new → TakeUp flow p (m ∷ []) old new
taken-one flow p m old new e c = record {
  one_each = c.one_each;
  here = λ d r. elim (cases_eq d m.edge) [
    | inl i ↦ subst (λ n. HaveAdded (map (λ (x : Counted). x.at) (cond (m.edge == n) (m ∷ []) [])) (get_or old n []) (get_or new n [])) (sym i)
        (subst (λ b. HaveAdded (map (λ (x : Counted). x.at) (cond b (m ∷ []) [])) (get_or old m.edge []) (get_or new m.edge [])) (sym (eq-eqb m.edge m.edge refl)) c.here)
    | inr n ↦ subst (λ b. HaveAdded (map (λ (x : Counted). x.at) (cond b (m ∷ []) [])) (get_or old d []) (get_or new d [])) (sym (false_from_ne_true (m.edge == d) (λ k. n (sym (eqb-true m.edge d k)))))
        (subst (λ ss. HaveAdded [] (get_or old d []) ss) (sym (c.others d n)) (added-none (get_or old d [])))
  ];
  others = λ d n. c.others d (λ i. n (ap (receiver flow) i ∙ e));
}

-- of lists that were made empty
pub taken-delivered : (flow : Dataflow) (p : ℕ) (ms : List Counted) (old mid new : Lists) → ChangesInto flow p (λ x y. y ≡ []) old mid → TakeUp flow p ms mid new → AreDelivered flow p ms old new
taken-delivered flow p ms old mid new a b = record {
  one_each = b.one_each ∙ a.one_each;
  here = λ d l r. added-to_none (stamps_on d ms) (get_or new d []) (subst (λ ss. HaveAdded (stamps_on d ms) ss (get_or new d [])) (a.here d l r) (b.here d r));
  others = λ d n. b.others d n ∙ a.others d n;
}

-- ---- the traces

-- all that a node sent comes from a set that has its events
from-inside : (sys : System) (p : ℕ) (f : Frontier) (vs : List Event) → AllByRecursion (λ v. f (event_stamp v) ≡ true) vs → count_from f (sent_by sys p vs) ≡ length (sent_by sys p vs)
from-inside sys p f vs a = count (sent_by sys p vs) (inside-sent sys p f vs a)
  where
    count : (ms : List Message) → AllByRecursion (λ (m : Message). all_inside f m.causes ≡ true) ms → count_from f ms ≡ length ms
    count [] b = refl
    count (m ∷ ms) b = ap (λ c. cond c (count_from f ms + 1) (count_from f ms)) b.0 ∙ more (count_from f ms) (length ms) (count ms b.1)
      where
        more : (x y : ℕ) → x ≡ y → x + 1 ≡ suc y
        more x y e = omega (arith, e)

-- how the list of an edge becomes the causes of these messages on it
abbrev pub are_causes : List Counted → ℕ → List Stamp → List Stamp → Type 0
are_causes ms e old new = AreTheSame (causes_of (counted_on_edge e ms)) new

pub causes-on : (flow : Dataflow) (p : ℕ) (ms : List Counted) (edges : List ℕ) (old new : Lists) → edges ≡ out_edges flow p → AreChanging (are_causes ms) edges old new → AreCausesOnEdges flow p ms old new
causes-on flow p ms edges old new is a =
    let c = all-changed_out flow p (are_causes ms) edges old new is a in
    record { one_each = c.one_each; here = λ e l s n. c.here e l s; others = c.others }

-- nothing is kept of where a sequence sent
pub causes-none : (flow : Dataflow) (p : ℕ) (ms : List Counted) (old : Lists) → is_sequence_kind (kind_of flow p) ≡ true → AreCausesOnEdges flow p ms old old
causes-none flow p ms old k = record { one_each = refl; here = λ e l s n. absurd (two_ways (is_sequence_kind (kind_of flow p)) k (single-no_sequence (kind_of flow p) n)); others = λ e n. refl }

told-lists : (flow : Dataflow) (p : ℕ) (stamps : Stamps) (n : ℕ) (old new : Traces) → AreTold flow p stamps n old new → (q : ℕ) → q ≢ p → KeepsLists flow q old new
told-lists flow p stamps n old new c q k = record {
  delivered = λ d r. c.delivered.others d (λ i. k (sym r ∙ i));
  notified = c.notified.others q k;
  sent = λ e s. c.sent.others e (λ i. k (sym s ∙ i));
}

told-others : (flow : Dataflow) (p : ℕ) (stamps : Stamps) (n : ℕ) (old new : Traces) → AreTold flow p stamps n old new → KeepsOthers flow p old new
told-others flow p stamps n old new c whole sys h e q k base t = record {
  delivered = λ d l r. subst (IsThinnedIf whole base (map (λ (m : Message). m.at) (delivered_messages h d))) (sym (c.delivered.others d (λ i. k (sym r ∙ ap (λ f. receiver f d) e ∙ i)))) (t.delivered d l r);
  notified = subst (IsThinnedIf whole base (flat_map (stamp_of_notice q) h)) (sym (c.notified.others q k)) t.notified;
  sent = λ d l r s. subst (StandForCauses sys.flow q (whole && tells_sent sys.flow q) (base_of_sent sys.flow q base) (causes_in (sent_messages sys h d)))
      (sym (c.sent.others d (λ i. k (sym r ∙ ap (λ f. sender f d) e ∙ i)))) (t.sent d l r s);
  counted = λ s. subst (IsSentTally base (sent_by sys q (events_at sys.flow q h))) (sym (c.counted.others q k)) (t.counted s);
}

pub told-restored : (flow : Dataflow) (p : ℕ) (stamps : Stamps) (n : ℕ) (old new : Traces) → AreTold flow p stamps n old new → AreRestoredTo flow p stamps n old new
told-restored flow p stamps n old new c = record {
  here = λ whole sys h base e. here whole sys h base (subst (λ g. AreTold g p stamps n old new) (sym e) c);
  apart = told-lists flow p stamps n old new c;
  others = told-others flow p stamps n old new c;
}
  where
    here : (whole : Bool) (sys : System) (h : List Event) (base : Frontier) → AreTold sys.flow p stamps n old new → AreStampsIf whole sys h p base stamps → n ≡ length (sent_by sys p (events_at sys.flow p h))
        → AreEventsInside sys.flow h p base → IsTraceIf whole sys h p base new
    here whole sys h base t a is inside = record {
      delivered = λ d l r. same-thinned whole base (map (λ (m : Message). m.at) (delivered_messages h d)) (stamps_on d stamps.delivered) (delivered_on new d) (t.delivered.here d l r) (a.delivered d r);
      notified = same-thinned whole base (flat_map (stamp_of_notice p) h) stamps.notified (stamps_notified new p) t.notified.here a.notified;
      sent = λ d l r s. for-kept sys.flow p (whole && tells_sent sys.flow p) (base_of_sent sys.flow p base) (causes_in (sent_messages sys h d))
          (causes_of (counted_on_edge d stamps.sent)) (stamps_where_sent new d)
          (λ all. same-thinned (whole && tells_sent sys.flow p) (base_of_sent sys.flow p base) all (causes_of (counted_on_edge d stamps.sent)) (stamps_where_sent new d) (t.sent.here d l r s))
          (a.sent s d l r).thinned;
      counted = λ s f w.
          let tally = t.counted.here in
          let all = from-inside sys p f (events_at sys.flow p h) (each-weaker (λ v. base (event_stamp v) ≡ true) (λ v. f (event_stamp v) ≡ true) (events_at sys.flow p h) (λ v i. w (event_stamp v) i) inside) in
          let m = ap (λ (x : SentTally). x.inside + count_inside f x.outside) tally in
          omega (arith, m, is, all);
    }
