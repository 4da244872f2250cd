use Rattle.std.proofs.Common.{◌≡◌, List, ℕ, Option, option_map, sym, ap, subst, ◌∙◌}
use Rattle.std.specs.Prelude.{OnOk}
use Rattle.std.specs.FinMap as records
use Rattle.fw_keep.specs.Stored.{Records, IsNoneUnder, without_id}
use Rattle.fw_keep.proofs.StoredLaws.{none-after, put-over}
use Rattle.fw_keep.proofs.put.put_at.Goals as goal
use Rattle.fw_keep.proofs.put.put_at.Goals.{then-target+in_ok-remove_if_there, else-target}

pub put_vec-requires : goal.put_vec-requires
put_vec-requires g c =
    let id = c.args.target.id in
    let old = (g.K.Store.view c.args.store.now).records in
    elim c.if-target.branch [
      | then-target+in_ok-remove_if_there w ↦
          subst (IsNoneUnder id) (sym (ap (λ s. (g.K.Store.view s).records) w.store-is ∙ w.in_ok-remove_if_there.ensures.removed)) (none-after id old)
      | else-target w ↦ subst (IsNoneUnder id) (sym (ap (λ s. (g.K.Store.view s).records) w.store-is)) (c.requires.fresh w.if-target.false)
    ]

pub returns-clause-put : goal.returns-clause-put
returns-clause-put g c =
    let id = c.args.target.id in
    let bytes = c.args.bytes.items in
    let old = (g.K.Store.view c.args.store.now).records in
    let put : Option Records → Option Records = λ all. option_map (λ held. records.insert held id bytes) all in
    elim c.if-target.branch [
      | then-target+in_ok-remove_if_there w ↦
          subst (λ all. OnOk c.put_vec.result ((g.K.Store.view c.put_vec.new.self).records ≡ all))
          (ap put (ap (λ s. (g.K.Store.view s).records) w.store-is ∙ w.in_ok-remove_if_there.ensures.removed) ∙ put-over id bytes old) c.put_vec.ensures.added
      | else-target w ↦
          subst (λ all. OnOk c.put_vec.result ((g.K.Store.view c.put_vec.new.self).records ≡ all)) (ap put (ap (λ s. (g.K.Store.view s).records) w.store-is)) c.put_vec.ensures.added
    ]
