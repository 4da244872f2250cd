use Rattle.std.proofs.Common.{◌≡◌, ℕ, List, [], ◌∷◌, ◌++◌, subst, ◌∙◌, Some, slice_get, ◌-◌, vec_len, arith}
use Rattle.fw_keep.specs.Catalogue.{AreDistinct}
use Rattle.fw_keep.specs.Stored.{AreThere, Sweeps}
use Rattle.fw_keep.proofs.IdLaws.{distinct-prefix}
use Rattle.fw_keep.proofs.StoredLaws.{at-end, there-at, there-more, last-out, sweeps-more}
use Rattle.fw_keep.proofs.sweep.remove_waiting.Goals as goal

pub remove_one-requires : goal.remove_one-requires
remove_one-requires g c =
    let at : slice_get c.loop-id.waiting.items (vec_len c.loop-id.waiting - 1) ≡ Some c.in-Some.id.now =
    at-end c.loop-id.waiting.items c.deref.result.now (vec_len c.loop-id.waiting) c.in-Some.id.now c.deref.ensures.value c.deref.ensures.len c.in-Some.ensures.value in
    record {
      there = λ alone.
          there-at c.loop-id.waiting.items (vec_len c.loop-id.waiting - 1) c.in-Some.id.now (g.K.Store.view c.loop-id.store).records at (c.loop-id.invariant.there alone);
    }

pub loop-id-preserved : goal.loop-id-preserved
loop-id-preserved g c =
    let id = c.in-Some.id.now in
    let rest = c.pop.new.self.items in
    let before = (g.K.Store.view c.loop-id.store).records in
    let after = (g.K.Store.view c.remove_one.new.store).records in
    let at : slice_get c.loop-id.waiting.items (vec_len c.loop-id.waiting - 1) ≡ Some c.in-Some.id.now =
    at-end c.loop-id.waiting.items c.deref.result.now (vec_len c.loop-id.waiting) c.in-Some.id.now c.deref.ensures.value c.deref.ensures.len c.in-Some.ensures.value in
    let parts : c.loop-id.waiting.items ≡ c.pop.new.self.items ++ c.in-Some.id.now ∷ [] =
    last-out c.loop-id.waiting.items rest c.pop.result (vec_len c.loop-id.waiting) id (omega (arith, c.loop-id.waiting.ok.0)) at c.pop.ensures.value c.pop.ensures.items in
    let distinct : AreDistinct (c.pop.new.self.items ++ c.in-Some.id.now ∷ []) = subst AreDistinct parts c.loop-id.invariant.distinct in
    record {
      distinct = distinct-prefix rest (id ∷ []) distinct;
      there = λ alone. there-more rest id before after distinct (subst (λ (ids : List ℕ). AreThere ids before) parts (c.loop-id.invariant.there alone)) c.in_ok-remove_one.ensures.removed;
      swept = sweeps-more c.args.waiting.now.items (g.K.Store.view c.args.store.now).records rest id before after
          (subst (λ (ids : List ℕ). Sweeps c.args.waiting.now.items (g.K.Store.view c.args.store.now).records ids before) parts c.loop-id.invariant.swept) c.in_ok-remove_one.ensures.removed;
      capacity = c.pop.ensures.capacity ∙ c.loop-id.invariant.capacity;
      given = c.remove_one.ensures.given ∙ c.loop-id.invariant.given;
      faults = c.in_ok-remove_one.ensures.faults ∙ c.loop-id.invariant.faults;
    }
