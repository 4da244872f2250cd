use Rattle.std.proofs.Common.{◌≡◌, Option, Some, None, List, [], ◌∷◌, cond, refl, sym, subst, rules, IsSome, BTreeMap}
use Rattle.std.proofs.lemmas.Result.{on_ok_weaker, on_err_weaker}
use Rattle.std.specs.BTreeMap.{get, is_at}
use Rattle.fw_bag.specs.Arrivals.{Arrival, arrivals_at}
use Rattle.fw_table.specs.Content.{IsContentOf}
use Rattle.fw_table.proofs.TableSteps.{table_more, table_same}
use Rattle.fw_table.proofs.per_time.put_at.Goals as goal

pub returns-in-Some-clause-ok : goal.returns-in-Some-clause-ok
returns-in-Some-clause-ok g c = λ came r.
    let old = c.args.contents.now in
    let found : get g.T.Ord.cmp old c.args.t ≡ Some c.in-Some.content.now = search rules in
    let here = subst (λ (o : Option g.row.C.Denot). IsContentOf g.C.Content.holds o (arrivals_at (g.T.Time.coords c.args.t) came)) found (r c.args.t) in
    let some : IsSome (get g.T.Ord.cmp old c.args.t) = search rules in
    let written = (c.get_mut.follows.holds c.put.new.self).3 some in
    on_ok_weaker c.put.result
    (λ h. table_more g.T.Ord.cmp g.T.Time.coords g.C.Content.holds g.met.T.Time.told_apart old (c.get_mut.follows.lender c.put.new.self) c.args.t c.put.new.self (record { side = c.args.side; at = g.T.Time.coords c.args.t; rec = c.args.rec }) came refl written.0 h r)
    (c.put.ensures.ok (g.T.Time.coords c.args.t) (arrivals_at (g.T.Time.coords c.args.t) came) here)

pub returns-in-Some-clause-err : goal.returns-in-Some-clause-err
returns-in-Some-clause-err g c = λ came r.
    let old = c.args.contents.now in
    let found : get g.T.Ord.cmp old c.args.t ≡ Some c.in-Some.content.now = search rules in
    let here = subst (λ (o : Option g.row.C.Denot). IsContentOf g.C.Content.holds o (arrivals_at (g.T.Time.coords c.args.t) came)) found (r c.args.t) in
    let some : IsSome (get g.T.Ord.cmp old c.args.t) = search rules in
    let written = (c.get_mut.follows.holds c.put.new.self).3 some in
    on_err_weaker c.put.result
    (λ h. table_same g.T.Ord.cmp g.T.Time.coords g.C.Content.holds g.met.T.Time.told_apart old (c.get_mut.follows.lender c.put.new.self) c.args.t c.put.new.self came written.0 h r)
    (c.put.ensures.err (arrivals_at (g.T.Time.coords c.args.t) came) here)

pub returns-clause-ok : goal.returns-clause-ok
returns-clause-ok g c = λ came r.
    let old = c.args.contents.now in
    let none : get g.T.Ord.cmp old c.args.t ≡ None = search rules in
    let nothing = subst (λ (o : Option g.row.C.Denot). IsContentOf g.C.Content.holds o (arrivals_at (g.T.Time.coords c.args.t) came)) none (r c.args.t) in
    let first = c.in_ok-put.ensures.ok (g.T.Time.coords c.args.t) [] c.empty-content.ensures in
    let a : Arrival = record { side = c.args.side; at = g.T.Time.coords c.args.t; rec = c.args.rec } in
    let here = subst (λ (xs : List Arrival). g.C.Content.holds c.put-2.new.self (a ∷ xs)) (sym nothing) first in
    let same = c.get_mut.follows.holds-at-none in
    let P : BTreeMap g.row.T.Denot g.row.C.Denot → Type 0 = λ m. (q : g.row.T.Denot) → get g.T.Ord.cmp c.insert.new.self q ≡ cond (is_at (g.T.Ord.cmp c.args.t) q) (Some c.put-2.new.self) (get g.T.Ord.cmp m q) in
    let updated = subst P same c.in_ok-insert.ensures.updates.0 in
    table_more g.T.Ord.cmp g.T.Time.coords g.C.Content.holds g.met.T.Time.told_apart old c.insert.new.self c.args.t c.put-2.new.self a came refl updated here r
