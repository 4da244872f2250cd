use Rattle.std.proofs.Common.{subst, ◌∙◌}
use Rattle.std.specs.Prelude.{IsSome}
use Rattle.std.specs.List.{All}
use Rattle.std.specs.Map.{keys_of}
use Rattle.std.specs.Map.Iter.{deref}
use Rattle.std.proofs.lemmas.List.Elements.{All-push, All-weaker, All-map, All-contains}
use Rattle.std.proofs.lemmas.Map.Iter.{iter_end}
use Rattle.fw_disk.specs.RunLines.{digests_of}
use Rattle.fw_disk.proofs.ClaimLaws.{key_there}
use Rattle.fw_disk.proofs.lines.RunLines.add_gone.Goals as goal

pub loop-id-preserved : goal.loop-id-preserved
loop-id-preserved c = (
  λ other. c.in_ok-add_line.ensures.same other ∙ c.loop-id.invariant.0 other,
  All-push (λ id. IsSome (digests_of c.add_line.new.self.told id.now)) c.loop-id.yielded c.in-Some.id
      (All-weaker (λ id. IsSome (digests_of c.loop-id.self.told id.now)) (λ id. IsSome (digests_of c.add_line.new.self.told id.now)) (λ id. c.in_ok-add_line.ensures.stay id.now) c.loop-id.yielded c.loop-id.invariant.1)
      c.in_ok-add_line.ensures.there,
)

pub returns-clause-have : goal.returns-clause-have
returns-clause-have c id some =
    let keys = keys_of c.args.others.now.told.entries in
    let all = iter_end deref keys c.loop-id.yielded c.into_iter-id-iterator.result c.loop-id.id-iterator c.next.new.self c.next.result
    (c.into_iter-id-iterator.ensures.into_iter_gives ∙ c.keys-id-items.ensures.rest) c.loop-id.yielded_by c.in-None.is c.next.ensures.steps in
    All-contains (λ id. IsSome (digests_of c.loop-id.self.told id)) keys id
    (subst (All (λ id. IsSome (digests_of c.loop-id.self.told id))) all.0 (All-map (λ id. IsSome (digests_of c.loop-id.self.told id)) deref c.loop-id.yielded c.loop-id.invariant.1))
    (key_there c.args.others.now.told id some)
