use Rattle.std.proofs.Common.{◌≡◌, ◌∷◌, ◌∙◌, rules}
use Rattle.fw_totals.proofs.PlaceLaws.{places_kept, not_absent}
use Rattle.fw_totals.proofs.RestoreLaws.{write_step, rest_sums, rest_key, first_key}
use Rattle.fw_totals.proofs.totals.write.Goals as goal

pub loop-first-preserved : goal.loop-first-preserved
loop-first-preserved c =
    let i = c.loop-first.invariant in
    let more : c.loop-first.rest.now ≡ c.in-Some.first.now ∷ c.in-Some.later.now = search rules in
    let u = c.in_ok-insert.ensures.updates.0 in
    record {
      kept = λ q h. places_kept c.loop-first.totals c.insert.new.self c.in-Some.first.now.key _ u q (i.kept q h);
      among = λ q h. i.among q (rest_key c.in-Some.first.now c.loop-first.rest.now c.in-Some.later.now q more h);
      sums = λ rs a. rest_sums rs c.in-Some.first.now c.loop-first.rest.now c.in-Some.later.now more (i.sums rs a);
      to_come = λ rs a q.
          write_step rs c.in-Some.first.now c.loop-first.rest.now c.in-Some.later.now c.loop-first.totals c.insert.new.self more (i.sums rs a) u q
          ∙ i.to_come rs a q;
    }

pub returns-in_err-insert-clause-ok : goal.returns-in_err-insert-clause-ok
returns-in_err-insert-clause-ok c = λ room.
    let i = c.loop-first.invariant in
    let more : c.loop-first.rest.now ≡ c.in-Some.first.now ∷ c.in-Some.later.now = search rules in
    let key = c.in-Some.first.now.key in
    absurd (not_absent _ (i.kept key (room key (i.among key (first_key c.in-Some.first.now c.loop-first.rest.now c.in-Some.later.now more))))
    c.in_err-insert.ensures.absent)
