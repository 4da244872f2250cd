use Rattle.std.proofs.Common.{◌≡◌, [], true, false, List, sym, ◌∙◌, subst, rules}
use Rattle.std.proofs.lemmas.Map.Iter.{rest_more}
use Rattle.std.specs.Map.Iter.{deref_pair}
use Rattle.fw_table.specs.declared.sums.Sums.{Sums}
use Rattle.fw_totals.specs.Gathered.{HasRooms}
use Rattle.fw_totals.proofs.settling.make_rooms.Goals as goal

pub loop-t-preserved-in-Continue-1 : goal.loop-t-preserved-in-Continue-1
loop-t-preserved-in-Continue-1 g c =
    let more = rest_more deref_pair c.loop-t.t-iterator c.next.new.self c.next.result (c.in-Some.t, c.in-Some.sums) c.in-Some.is c.next.ensures.steps in
    record {
      same = λ q. c.make_room.ensures.same q ∙ c.loop-t.invariant.same q;
      room = λ m keeps rest.
          let P : List (g.row.T.Denot × Sums) → Type 0 = λ es. HasRooms (g.T.Frontier.Frontier.inside c.args.f.now) m es in
          c.loop-t.invariant.room m (λ q h. keeps q (c.make_room.ensures.kept q h))
          (subst P (sym more) ((λ i q h. keeps q (c.in_ok-make_room.ensures.room q h)), rest));
    }

pub loop-t-preserved : goal.loop-t-preserved
loop-t-preserved g c =
    let more = rest_more deref_pair c.loop-t.t-iterator c.next.new.self c.next.result (c.in-Some.t, c.in-Some.sums) c.in-Some.is c.next.ensures.steps in
    record {
      same = c.loop-t.invariant.same;
      room = λ m keeps rest.
          let P : List (g.row.T.Denot × Sums) → Type 0 = λ es. HasRooms (g.T.Frontier.Frontier.inside c.args.f.now) m es in
          let out : g.T.Frontier.Frontier.inside c.args.f.now c.in-Some.t.now ≡ false = search rules in
          c.loop-t.invariant.room m keeps
          (subst P (sym more) ((λ i q h. let e : true ≡ false = sym i ∙ out in absurd (cc e)), rest));
    }

pub returns-clause-room : goal.returns-clause-room
returns-clause-room g c =
    let none : c.loop-t.t-iterator ≡ [] = search rules in
    let P : List (g.row.T.Denot × Sums) → Type 0 = λ es. HasRooms (g.T.Frontier.Frontier.inside c.args.f.now) c.loop-t.totals es in
    c.loop-t.invariant.room c.loop-t.totals (λ q h. h) (subst P (sym none) tt)
