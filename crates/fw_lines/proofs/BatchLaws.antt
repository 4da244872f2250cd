-- Batches of nodes, as a map keeps them.
use Rattle.std.proofs.Common.{◌≡◌, ℕ, ◌==◌, nat_eq, Bool, true, false, cond, List, [], ◌∷◌, ◌++◌, Option, Some, None, refl, sym, ◌∙◌, ap, unwrap_or, eqb-true, IsSome, rules, subst}
use Rattle.std.proofs.lemmas.List.{map-append}
use Rattle.std.specs.List.{AllByRecursion}
use Rattle.std.specs.Map.{lookup}
use Rattle.std.specs.declared.alloc.Global.{Global}
use Rattle.std.specs.declared.vec.Vec.{Vec}
use Rattle.fw_bag.proofs.BagLaws.{AllByRecursion-with_rec, IsAscending-with_rec}
use Rattle.fw_bag.specs.Bag.{BagState, with_rec}
use Rattle.fw_bag.specs.declared.rec.Rec.{Rec}
use Rattle.fw_lines.specs.Batches.{batches_at, batches_of_entries, recs_of_bags, AddsBatch, KeepsBatches, AreBatches, IsBatch}
use Rattle.fw_bag.specs.Bag.{IsRec}

-- the recs of the bags that are found
abbrev pub recs_found : Option (Vec BagState Global) → List (List Rec)
recs_found None = []
recs_found (Some bags) = recs_of_bags bags.items

found_cond : (b : Bool) (v : Vec BagState Global) (o : Option (Vec BagState Global)) → recs_found (cond b (Some v) o) ≡ cond b (recs_of_bags v.items) (recs_found o)
found_cond true v o = refl
found_cond false v o = refl

at_cond : (b : Bool) (v : Vec BagState Global) (bags : Option (List (List Rec))) (o : Option (Vec BagState Global)) → unwrap_or bags [] ≡ recs_found o → unwrap_or (cond b (Some (recs_of_bags v.items)) bags) [] ≡ recs_found (cond b (Some v) o)
at_cond true v bags o e = refl
at_cond false v bags o e = e

-- the batches of a node are the recs of the bags that are found for it
pub batches_at-entries : (es : List (ℕ × Vec BagState Global)) (node : ℕ) → batches_at (batches_of_entries es) node ≡ recs_found (lookup (nat_eq node) es)
batches_at-entries [] node = refl
batches_at-entries (e ∷ es) node = at_cond (node == e.0) e.1 (lookup (λ k. node == k) (batches_of_entries es)) (lookup (nat_eq node) es) (batches_at-entries es node)

cond_there : (b : Bool) (m n : ℕ) (f : ℕ → List (List Rec)) (z : List (List Rec)) → (b ≡ true → m ≡ n) → cond b (f m) z ≡ cond b (f n) z
cond_there true m n f z e = ap f (e refl)
cond_there false m n f z e = refl

cond_both : (b : Bool) (z : List (List Rec)) → cond b z z ≡ z
cond_both true z = refl
cond_both false z = refl

updated : (es fs : List (ℕ × Vec BagState Global)) (node : ℕ) (bags : Vec BagState Global) → ((q : ℕ) → lookup (nat_eq q) fs ≡ cond (nat_eq node q) (Some bags) (lookup (nat_eq q) es))
    → (other : ℕ) → batches_at (batches_of_entries fs) other ≡ cond (node == other) (recs_of_bags bags.items) (batches_at (batches_of_entries es) other)
updated es fs node bags h other =
    batches_at-entries fs other
    ∙ ap recs_found (h other)
    ∙ found_cond (node == other) bags (lookup (nat_eq other) es)
    ∙ ap (cond (node == other) (recs_of_bags bags.items)) (sym (batches_at-entries es other))

-- where a node's bags have one more, so have its batches
pub pushed : (es fs : List (ℕ × Vec BagState Global)) (node : ℕ) (bags : Vec BagState Global) (bag : BagState) → ((q : ℕ) → lookup (nat_eq q) fs ≡ cond (nat_eq node q) (Some bags) (lookup (nat_eq q) es))
    → recs_of_bags bags.items ≡ recs_found (lookup (nat_eq node) es) ++ bag.recs ∷ []
    → (other : ℕ) → batches_at (batches_of_entries fs) other ≡ cond (node == other) (batches_at (batches_of_entries es) other ++ bag.recs ∷ []) (batches_at (batches_of_entries es) other)
pushed es fs node bags bag h e other =
    updated es fs node bags h other
    ∙ ap (λ x. cond (node == other) x (batches_at (batches_of_entries es) other)) (e ∙ ap (λ x. x ++ bag.recs ∷ []) (sym (batches_at-entries es node)))
    ∙ cond_there (node == other) node other (λ n. batches_at (batches_of_entries es) n ++ bag.recs ∷ []) (batches_at (batches_of_entries es) other) (eqb-true node other)

-- where a node's bags are as they were, so are all batches
pub kept : (es fs : List (ℕ × Vec BagState Global)) (node : ℕ) (bags : Vec BagState Global) → ((q : ℕ) → lookup (nat_eq q) fs ≡ cond (nat_eq node q) (Some bags) (lookup (nat_eq q) es))
    → recs_of_bags bags.items ≡ recs_found (lookup (nat_eq node) es)
    → (other : ℕ) → batches_at (batches_of_entries fs) other ≡ batches_at (batches_of_entries es) other
kept es fs node bags h e other =
    updated es fs node bags h other
    ∙ ap (λ x. cond (node == other) x (batches_at (batches_of_entries es) other)) (e ∙ sym (batches_at-entries es node))
    ∙ cond_there (node == other) node other (λ n. batches_at (batches_of_entries es) n) (batches_at (batches_of_entries es) other) (eqb-true node other)
    ∙ cond_both (node == other) (batches_at (batches_of_entries es) other)

-- the recs of bags, of which the last is this one
pub recs_of-push : (bags new : List BagState) (bag : BagState) (o : Option (Vec BagState Global)) → new ≡ bags ++ bag ∷ [] → recs_of_bags bags ≡ recs_found o → recs_of_bags new ≡ recs_found o ++ bag.recs ∷ []
recs_of-push bags new bag o e h = ap recs_of_bags e ∙ map-append (λ (b : BagState). b.recs) bags (bag ∷ []) ∙ ap (λ x. x ++ bag.recs ∷ []) h

pub some_found : {X : Type 0} (x : X) (o : Option X) → Some x ≡ o → IsSome o
some_found x None e = absurd (cc)
some_found x (Some y) e = search rules

each_and : (batches : List (List Rec)) (batch : List Rec) → AllByRecursion IsBatch batches → IsBatch batch → AllByRecursion IsBatch (batches ++ batch ∷ [])
each_and [] batch a b = (b, tt)
each_and (x ∷ xs) batch a b = (a.0, each_and xs batch a.1 b)

-- where one more bag of recs is a batch, each batch is one
pub AreBatches-added : (old new : List (ℕ × List (List Rec))) (node : ℕ) (batch : List Rec) → AreBatches old → IsBatch batch → AddsBatch old new node batch → AreBatches new
AreBatches-added old new node batch a b adds other = subst (AllByRecursion IsBatch) (sym (adds other)) (by (node == other))
  where
    by : (t : Bool) → AllByRecursion IsBatch (cond t (batches_at old other ++ batch ∷ []) (batches_at old other))
    by true = each_and (batches_at old other) batch (a other) b
    by false = a other

pub AreBatches-kept : (old new : List (ℕ × List (List Rec))) → AreBatches old → KeepsBatches old new → AreBatches new
AreBatches-kept old new a kept other = subst (AllByRecursion IsBatch) (sym (kept other)) (a other)

-- a batch with one rec more is a batch
pub IsBatch-with_rec : (r : Rec) (recs : List Rec) → IsRec r → IsBatch recs → IsBatch (with_rec r recs)
IsBatch-with_rec r recs small b = record {
  recs = AllByRecursion-with_rec IsRec r recs small b.recs;
  ascending = IsAscending-with_rec r recs b.ascending;
}
