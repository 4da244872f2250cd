use Rattle.std.proofs.Common.{◌≡◌, ℕ, List, [], Option, None, reverse, sym, ap, ◌∙◌, subst, rules}
use Rattle.std.specs.BTreeMap.{get}
use Rattle.std.proofs.lemmas.Result.{IfOk-weaker}
use Rattle.fw_time.specs.Stamp.{Stamp}
use Rattle.fw_bag.specs.Arrivals.{Arrival, arrivals_at, recs_where}
use Rattle.fw_table.specs.Content.{IsContentOf}
use Rattle.fw_keyed.specs.declared.join.Sides.{Sides}
use Rattle.fw_keyed.specs.Sides.{HasValues, is_left, recs_across, values_with}
use Rattle.fw_keyed.proofs.SideLaws.{is_right, values_are, joins_are}
use Rattle.fw_keyed.proofs.join.Join.answer.Goals as goal

pub returns-in-Some : goal.returns-in-Some
returns-in-Some g c = λ came r l o.
    let t : Stamp = g.T.Time.coords c.args.t.now in
    let P : Option Sides → Type 0 = λ x. IsContentOf (λ (s : Sides) (xs : List Arrival). HasValues s.left (recs_where is_left xs) × HasValues s.right (recs_where is_right xs)) x (arrivals_at t came) in
    let held = subst P (sym c.in-Some.ensures.value) (r c.args.t.now) in
    let vs : List ℕ = reverse c.values_across.result.now in
    let values : vs ≡ values_with c.args.rec.key (recs_across c.args.side t came) =
    values_are c.args.side c.args.rec.key t came vs l o
    (λ e. c.values_across.ensures.left e (recs_where is_left (arrivals_at t came)) held.0)
    (λ e. c.values_across.ensures.right e (recs_where is_right (arrivals_at t came)) held.1) in
    IfOk-weaker c.pairs.result _ _
    (λ sent h. h ∙ joins_are c.args.rec vs (recs_across c.args.side t came) values)
    c.pairs.ensures

pub returns-in-None : goal.returns-in-None
returns-in-None g c = λ came r l o.
    let t : Stamp = g.T.Time.coords c.args.t.now in
    let P : Option Sides → Type 0 = λ x. IsContentOf (λ (s : Sides) (xs : List Arrival). HasValues s.left (recs_where is_left xs) × HasValues s.right (recs_where is_right xs)) x (arrivals_at t came) in
    let none : get g.T.Ord.cmp c.args.self.now.sides c.args.t.now ≡ None = search rules in
    let nothing : arrivals_at t came ≡ [] = subst P none (r c.args.t.now) in
    let values : [] ≡ values_with c.args.rec.key (recs_across c.args.side t came) =
    values_are c.args.side c.args.rec.key t came [] l o
    (λ e. sym (ap (λ xs. values_with c.args.rec.key (recs_where is_left xs)) nothing))
    (λ e. sym (ap (λ xs. values_with c.args.rec.key (recs_where is_right xs)) nothing)) in
    c.of.ensures ∙ joins_are c.args.rec [] (recs_across c.args.side t came) values
