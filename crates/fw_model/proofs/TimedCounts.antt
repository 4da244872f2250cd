-- Bags of timed recs as their ascending lists.
use Rattle.std.proofs.Common.{◌≡◌, ℕ, ◌≤◌, true, false, cond, List, [], ◌∷◌, map, refl, sym, ap, subst, ◌∙◌, inl, inr, arith}
use Rattle.std.specs.List.{AllByRecursion}
use Rattle.std.specs.Prelude.{filter}
use Rattle.std.specs.Ordering.{is_gt, ordering_then}
use Rattle.std.specs.declared.cmp.Ordering.{Ordering}
use Rattle.std.specs.declared.cmp.Ordering.TheVariants.{Equal}
use Rattle.std.proofs.lemmas.Bool.{cases_Bool, cond_both}
use Rattle.std.proofs.lemmas.Cmp.{tied_itself, nat_list_cmp_total}
use Rattle.fw_time.specs.Stamp.{Stamp, same, stamp_cmp}
use Rattle.fw_bag.specs.declared.rec.Rec.{Rec}
use Rattle.fw_bag.specs.Rec.{rec_cmp, IsAscending}
use Rattle.fw_bag.specs.Bag.{how_often}
use Rattle.fw_bag.specs.Keyed.{sorted_recs}
use Rattle.fw_bag.proofs.BagLaws.{how_often-bag_sum, IsAscending-bag_sum, same_from_how_often}
use Rattle.fw_flow.specs.WholeBags.{Timed, timed_cmp, in_order, timed_where, outputs_of, outputs_of_kind}
use Rattle.fw_flow.specs.declared.event.Event.{Event}
use Rattle.fw_flow.specs.declared.event.Message.{Message}
use Rattle.fw_flow.specs.Dataflow.{System, sender, kind_of, in_edges, batches_of}
use Rattle.fw_flow.specs.NodeFunction.{sent_by}
use Rattle.fw_flow.specs.Projection.{events_at}
use Rattle.fw_model.specs.Carried.{carried_timed}
use Rattle.fw_model.specs.Denotation.{Family, IsDenotation, bag_at}
use Rattle.fw_model.proofs.AscentLaws.{put-weigh}
use Rattle.fw_model.proofs.CarriedLaws.{carried_timed-ascending, carried_timed-equal, carried_timed-fewer}
use Rattle.fw_model.proofs.TimedLaws.{IsAscendingTimed, ascending-in_order, timed_ascent}
use Rattle.fw_model.proofs.WeightLaws.{weigh, one, how_often-where}
use Rattle.fw_model.proofs.SentLaws.{timed_message, timed_of, timed_of-carried}
use Rattle.fw_model.proofs.StampLaws.{same-is}
use Rattle.fw_model.specs.History.{recs_at, sent_messages}

-- ---- the same recs

pub in_order-weigh : (w : Timed → ℕ) (xs : List Timed) → weigh w (in_order xs) ≡ weigh w xs
unfolding weigh
in_order-weigh w [] = refl
in_order-weigh w (x ∷ xs) = let h = in_order-weigh w xs in let a = put-weigh timed_ascent w x (in_order xs) in omega arith

-- ---- in order

then_gt : (o p : Ordering) → o ≡ Equal → is_gt (ordering_then o p) ≡ false → is_gt p ≡ false
then_gt o p e h = sym (ap (λ x. is_gt (ordering_then x p)) e) ∙ h

above-where : (t : Stamp) (x : Timed) (xs : List Timed) → same t x.at ≡ true → AllByRecursion (λ y. is_gt (timed_cmp x y) ≡ false) xs
    → AllByRecursion (λ r. is_gt (rec_cmp x.rec r) ≡ false) (timed_where (same t) xs)
above-where t x [] k a = tt
above-where t x (y ∷ ys) k a =
    let rest = above-where t x ys k a.1 in
    cond_both (same t y.at) (y ∷ filter (λ r. same t r.at) ys) (filter (λ r. same t r.at) ys)
    (λ zs. AllByRecursion (λ r. is_gt (rec_cmp x.rec r) ≡ false) (map (λ z. z.rec) zs))
    (λ e.
    let at : x.at ≡ y.at = sym (same-is t x.at k) ∙ same-is t y.at e in
    let tied : stamp_cmp x.at y.at ≡ Equal = sym (ap (stamp_cmp x.at) at) ∙ tied_itself nat_list_cmp_total x.at in
    (then_gt (stamp_cmp x.at y.at) (rec_cmp x.rec y.rec) tied a.0, rest))
    (λ e. rest)

pub ascending-where : (t : Stamp) (xs : List Timed) → IsAscendingTimed xs → IsAscending (timed_where (same t) xs)
unfolding IsAscendingTimed
ascending-where t [] s = tt
ascending-where t (x ∷ xs) s =
    let rest = ascending-where t xs s.1 in
    cond_both (same t x.at) (x ∷ filter (λ r. same t r.at) xs) (filter (λ r. same t r.at) xs) (λ zs. IsAscending (map (λ z. z.rec) zs))
    (λ e. (above-where t x xs e s.0, rest)) (λ e. rest)

-- ---- the bags of a denotation

-- the whole bag that the sender of an edge sends
abbrev pub sender_bag : System → Family → ℕ → List Timed
sender_bag sys family e =
    outputs_of_kind sys.flow (kind_of sys.flow (sender sys.flow e)) (batches_of sys (sender sys.flow e)) (map family (in_edges sys.flow (sender sys.flow e)))

-- what the sender of an edge sent
abbrev pub sender_sent : System → List Event → ℕ → List Message
sender_sent sys h e = sent_by sys (sender sys.flow e) (events_at sys.flow (sender sys.flow e) h)

-- the family has on an edge what it carries of the sender's bag
family-carried : (sys : System) (family : Family) → IsDenotation sys family → (e : ℕ) (t : Stamp) (q : Rec)
    → weigh (one t q) (family e) ≡ weigh (one t q) (carried_timed sys.flow e (sender_bag sys family e))
family-carried sys family d e t q =
    ap (weigh (one t q)) (d e)
    ∙ carried_timed-equal sys.flow e t q (in_order (sender_bag sys family e)) (sender_bag sys family e) (in_order-weigh (one t q) (sender_bag sys family e))

-- where the sender of an edge sent a rec as often as it is in its whole bag, the edge carried it as often as the family has it there
pub sent-as_denoted : (sys : System) (h : List Event) (family : Family) → IsDenotation sys family → (e : ℕ) (t : Stamp) (q : Rec)
    → weigh (one t q) (timed_of (sender_sent sys h e)) ≡ weigh (one t q) (sender_bag sys family e)
    → weigh (one t q) (timed_of (sent_messages sys h e)) ≡ weigh (one t q) (family e)
sent-as_denoted sys h family d e t q k =
    ap (weigh (one t q)) (timed_of-carried sys.flow e (sender_sent sys h e))
    ∙ carried_timed-equal sys.flow e t q (timed_of (sender_sent sys h e)) (sender_bag sys family e) k
    ∙ sym (family-carried sys family d e t q)

-- and where it sent it at most as often
pub sent-fewer : (sys : System) (h : List Event) (family : Family) → IsDenotation sys family → (e : ℕ) (t : Stamp) (q : Rec)
    → weigh (one t q) (timed_of (sender_sent sys h e)) ≤ weigh (one t q) (sender_bag sys family e)
    → weigh (one t q) (timed_of (sent_messages sys h e)) ≤ weigh (one t q) (family e)
sent-fewer sys h family d e t q k =
    let a = ap (weigh (one t q)) (timed_of-carried sys.flow e (sender_sent sys h e)) in
    let b = carried_timed-fewer sys.flow e t q (timed_of (sender_sent sys h e)) (sender_bag sys family e) k in
    let c = family-carried sys family d e t q in
    omega arith

pub bag-ascending : (sys : System) (family : Family) → IsDenotation sys family → (e : ℕ) (t : Stamp) → IsAscending (bag_at family e t)
bag-ascending sys family d e t =
    let q = sender sys.flow e in
    subst (λ xs. IsAscending (timed_where (same t) xs)) (sym (d e))
    (ascending-where t (carried_timed sys.flow e (outputs_of sys family q))
    (carried_timed-ascending sys.flow e (outputs_of sys family q) (ascending-in_order (sender_bag sys family e))))

recs_at-timed : (t : Stamp) (ms : List Message) → recs_at t ms ≡ timed_where (same t) (timed_of ms)
recs_at-timed t [] = refl
recs_at-timed t (m ∷ ms) =
    let h = recs_at-timed t ms in
    elim (cases_Bool (same t m.at)) [
      | inl e ↦
          ap (λ b. map (λ (x : Message). x.rec) (cond b (m ∷ filter (λ (x : Message). same t x.at) ms) (filter (λ (x : Message). same t x.at) ms))) e
          ∙ ap (λ rs. m.rec ∷ rs) h
          ∙ sym (ap (λ b. map (λ (x : Timed). x.rec) (cond b (timed_message m ∷ filter (λ (x : Timed). same t x.at) (timed_of ms)) (filter (λ (x : Timed). same t x.at) (timed_of ms)))) e)
      | inr e ↦
          ap (λ b. map (λ (x : Message). x.rec) (cond b (m ∷ filter (λ (x : Message). same t x.at) ms) (filter (λ (x : Message). same t x.at) ms))) e
          ∙ h
          ∙ sym (ap (λ b. map (λ (x : Timed). x.rec) (cond b (timed_message m ∷ filter (λ (x : Timed). same t x.at) (timed_of ms)) (filter (λ (x : Timed). same t x.at) (timed_of ms)))) e)
    ]

pub how_often-recs_at : (t : Stamp) (q : Rec) (ms : List Message) → how_often q (recs_at t ms) ≡ weigh (one t q) (timed_of ms)
how_often-recs_at t q ms = ap (how_often q) (recs_at-timed t ms) ∙ how_often-where t q (timed_of ms)

-- recs that are as often in an ascending list are that list, once sorted
pub sorted-is : (rs bag : List Rec) → IsAscending bag → ((q : Rec) → how_often q rs ≡ how_often q bag) → sorted_recs rs ≡ bag
sorted-is rs bag a k =
    same_from_how_often (sorted_recs rs) bag (IsAscending-bag_sum rs [] tt) a (λ q. let s = how_often-bag_sum q rs [] in let e = k q in omega arith)
