use Rattle.std.proofs.Common.{◌≡◌, inr, Some, None, sym, subst}
use Rattle.std.specs.FinMap as map
use Rattle.std.specs.Option.{ForSome}
use Rattle.fw_lemmas.proofs.Results.{on_err}
use Rattle.fw_root.specs.Spelling.{root_spelling}
use Rattle.fw_hold.specs.Found.{ChangesOnly, IsLeftOrGone}
use Rattle.fw_hold.proofs.FoundLaws.{IsCleared, changes-put, changes-same, changes-then, cleared_none, cleared_removed, gone_under, put-there}
use Rattle.fw_hold.proofs.found.put_root.Goals.{then-branch+in_ok-remove, else-branch}
use Rattle.fw_hold.proofs.found.put_root.Goals as goal

pub put_vec-requires : goal.put_vec-requires
put_vec-requires g c =
    let view = g.K.Store.view in
    let id = c.root_id-id.result in
    let old = (view c.args.store.now).records in
    let mid = (view c.if-branch.store).records in
    let k : IsCleared id old mid = elim c.if-branch.branch [
      | then-branch+in_ok-remove w ↦ subst (λ s. IsCleared id old (view s).records) (sym w.store-is)
          (cleared_removed id old (view c.has.new.self).records (view w.remove.new.self).records c.in_ok-has.ensures.records_stay w.in_ok-remove.ensures.removed)
      | else-branch w ↦ subst (λ s. IsCleared id old (view s).records) (sym w.store-is)
          (cleared_none id old (view c.has.new.self).records c.in_ok-has.field-0 c.in_ok-has.ensures.records_stay w.if-branch.false c.in_ok-has.ensures.there)
    ] in
    k.gone

pub returns-in_err-put_vec-clause-others : goal.returns-in_err-put_vec-clause-others
returns-in_err-put_vec-clause-others g c =
    let view = g.K.Store.view in
    let id = c.root_id-id.result in
    let old = (view c.args.store.now).records in
    let mid = (view c.if-branch.store).records in
    let k : IsCleared id old mid = elim c.if-branch.branch [
      | then-branch+in_ok-remove w ↦ subst (λ s. IsCleared id old (view s).records) (sym w.store-is)
          (cleared_removed id old (view c.has.new.self).records (view w.remove.new.self).records c.in_ok-has.ensures.records_stay w.in_ok-remove.ensures.removed)
      | else-branch w ↦ subst (λ s. IsCleared id old (view s).records) (sym w.store-is)
          (cleared_none id old (view c.has.new.self).records c.in_ok-has.field-0 c.in_ok-has.ensures.records_stay w.if-branch.false c.in_ok-has.ensures.there)
    ] in
    let new = (view c.put_vec.new.self).records in
    subst (λ i. ChangesOnly i old new) c.root_id-id.ensures.exact (changes-then id old mid new k.changes (changes-same id mid new c.in_err-put_vec.ensures.refused))

pub returns-in_err-put_vec-clause-refused : goal.returns-in_err-put_vec-clause-refused
returns-in_err-put_vec-clause-refused g c =
    let view = g.K.Store.view in
    let id = c.root_id-id.result in
    let old = (view c.args.store.now).records in
    let mid = (view c.if-branch.store).records in
    let k : IsCleared id old mid = elim c.if-branch.branch [
      | then-branch+in_ok-remove w ↦ subst (λ s. IsCleared id old (view s).records) (sym w.store-is)
          (cleared_removed id old (view c.has.new.self).records (view w.remove.new.self).records c.in_ok-has.ensures.records_stay w.in_ok-remove.ensures.removed)
      | else-branch w ↦ subst (λ s. IsCleared id old (view s).records) (sym w.store-is)
          (cleared_none id old (view c.has.new.self).records c.in_ok-has.field-0 c.in_ok-has.ensures.records_stay w.if-branch.false c.in_ok-has.ensures.there)
    ] in
    let new = (view c.put_vec.new.self).records in
    on_err c.from_residual-in_err-put_vec.result _
    (subst (λ i. IsLeftOrGone i old new) c.root_id-id.ensures.exact (λ told. inr (gone_under id new (subst (λ r. ForSome r (λ held. map.get held id ≡ None)) (sym c.in_err-put_vec.ensures.refused) k.gone))))

pub returns-clause-put : goal.returns-clause-put
returns-clause-put g c =
    let view = g.K.Store.view in
    let id = c.root_id-id.result in
    let mid = (view c.if-branch.store).records in
    let new = (view c.put_vec.new.self).records in
    λ held told. subst (λ i. map.get held i ≡ Some (root_spelling c.args.root.now)) c.root_id-id.ensures.exact
    (subst (λ b. map.get held id ≡ Some b) c.in_ok-bytes.ensures (put-there id c.in_ok-bytes.bytes.items mid new c.in_ok-put_vec.ensures.added held told))

pub returns-clause-others : goal.returns-clause-others
returns-clause-others g c =
    let view = g.K.Store.view in
    let id = c.root_id-id.result in
    let old = (view c.args.store.now).records in
    let mid = (view c.if-branch.store).records in
    let k : IsCleared id old mid = elim c.if-branch.branch [
      | then-branch+in_ok-remove w ↦ subst (λ s. IsCleared id old (view s).records) (sym w.store-is)
          (cleared_removed id old (view c.has.new.self).records (view w.remove.new.self).records c.in_ok-has.ensures.records_stay w.in_ok-remove.ensures.removed)
      | else-branch w ↦ subst (λ s. IsCleared id old (view s).records) (sym w.store-is)
          (cleared_none id old (view c.has.new.self).records c.in_ok-has.field-0 c.in_ok-has.ensures.records_stay w.if-branch.false c.in_ok-has.ensures.there)
    ] in
    let new = (view c.put_vec.new.self).records in
    subst (λ i. ChangesOnly i old new) c.root_id-id.ensures.exact (changes-then id old mid new k.changes (changes-put id c.in_ok-bytes.bytes.items mid new c.in_ok-put_vec.ensures.added))
