-- The text of a denotation, piece by piece.
use Rattle.std.proofs.Common.{◌≡◌, ℕ, ◌+◌, ◌<◌, ◌≤◌, max, Bool, true, false, cond, List, [], ◌∷◌, ◌++◌, length, map, filter, take, refl, sym, ◌∙◌, ap, arith, codes}
use Rattle.std.proofs.lemmas.List.{take_all}
use Rattle.std.proofs.lemmas.List.FromFn.{map-range_with_len_more, get_or-map-range_with_len}
use Rattle.std.specs.List.{flat_map, range_with_len}
use Rattle.fw_time.specs.Stamp.{same}
use Rattle.fw_bag.specs.declared.rec.Rec.{Rec}
use Rattle.fw_bag.specs.RecText.{rec_text}
use Rattle.fw_lines.specs.Batches.{batches_at}
use Rattle.fw_flow.specs.Dataflow.{Dataflow, System, system_of, batches_of, batches_of_nodes}
use Rattle.fw_flow.specs.WholeBags.{Timed, timed_where}
use Rattle.fw_running.specs.EffectText.{recs_text}
use Rattle.fw_flow.specs.WellFormed.{IsWellFormedSystem}
use Rattle.fw_model.specs.Denotation.{rounds}
use Rattle.fw_model.specs.Measure.{enough_rounds}
use Rattle.fw_model.proofs.DenotationLaws.{denotation-exists}
use Rattle.fw_outside.specs.declared.fault.OutFault.TheVariants.{NoMemory}
use Rattle.fw_outside.specs.Outside.{SinkView}
use Rattle.fw_command.proofs.WritingLaws.{cut_nothing}
use Rattle.fw_command.specs.DenotationText.{rec_at_text, greatest, denotation_text, PrintsDenotation}
use Rattle.fw_command.specs.Writing.{IsCutOff, WritesText}

-- the recs of an epoch, each as it comes
pub recs_made : (x : ℕ) (bag : List Timed) → flat_map (rec_at_text x) bag ≡ recs_text (timed_where (same (x ∷ [])) bag)
recs_made x [] = refl
recs_made x (r ∷ bag) = by (same (x ∷ []) r.at) (recs_made x bag)
  where
    by : (b : Bool) → flat_map (rec_at_text x) bag ≡ recs_text (timed_where (same (x ∷ [])) bag) → cond b (codes " " ++ rec_text r.rec) [] ++ flat_map (rec_at_text x) bag
        ≡ recs_text (map (λ (t : Timed). t.rec) (cond b (r ∷ filter (λ (t : Timed). same (x ∷ []) t.at) bag) (filter (λ (t : Timed). same (x ∷ []) t.at) bag)))
    by true h = ap (λ t. (codes " " ++ rec_text r.rec) ++ t) h
    by false h = h

-- and so of all of them
pub recs_all : (x : ℕ) (bag : List Timed) (i : ℕ) → length bag ≤ i → flat_map (rec_at_text x) (take i bag) ≡ recs_text (timed_where (same (x ∷ [])) bag)
recs_all x bag i l = ap (flat_map (rec_at_text x)) (take_all i bag l) ∙ recs_made x bag

-- the greatest of one number more
greatest-push : (ns : List ℕ) (n : ℕ) → greatest (ns ++ n ∷ []) ≡ max (greatest ns) n
greatest-push [] n = omega arith
greatest-push (m ∷ ns) n = omega (arith, greatest-push ns n)

-- the batches of a node as they were given
given_batches : (flow : Dataflow) (batches : List (ℕ × List (List Rec))) (p : ℕ) → p < length flow.nodes → batches_of (system_of flow batches) p ≡ batches_at batches p
unfolding batches_of batches_of_nodes
given_batches flow batches p l = get_or-map-range_with_len (batches_at batches) 0 (length flow.nodes) p p [] l (omega arith)

pub most_more : (flow : Dataflow) (batches : List (ℕ × List (List Rec))) (p most : ℕ) → p < length flow.nodes
    → most ≡ greatest (map (λ q. length (batches_of (system_of flow batches) q)) (range_with_len 0 p))
    → max most (length (batches_at batches p)) ≡ greatest (map (λ q. length (batches_of (system_of flow batches) q)) (range_with_len 0 (p + 1)))
most_more flow batches p most l e =
    let count : ℕ → ℕ = λ q. length (batches_of (system_of flow batches) q) in
    ap (λ m. max m (length (batches_at batches p))) e
    ∙ ap (λ n. max (greatest (map count (range_with_len 0 p))) n) (sym (ap (λ (b : List (List Rec)). length b) (given_batches flow batches p l)))
    ∙ sym (ap greatest (map-range_with_len_more count 0 p p (omega arith)) ∙ greatest-push (map count (range_with_len 0 p)) (count p))

-- nothing of the text was written where memory was refused first
pub denotation_cut : (sys : System) (view : SinkView) → IsWellFormedSystem sys → WritesText (PrintsDenotation sys) (λ printed. IsCutOff printed NoMemory view view)
denotation_cut sys view w =
    let family = rounds sys (enough_rounds sys.flow) in
    let printed = denotation_text sys family in
    record {
      printed = printed;
      text = record { family = family; denotes = denotation-exists sys w.flow; text = refl };
      written = cut_nothing printed view;
    }
