use Rattle.std.proofs.Common.{◌≡◌, ◌+◌, ◌<◌, ℕ, List, length, set, subst, sym, ap, ◌∙◌, arith}
use Rattle.std.proofs.lemmas.Bool.{or_parts}
use Rattle.fw_flow.specs.Dataflow.{system_of}
use Rattle.fw_flow.specs.WholeBags.{Timed, outputs_of}
use Rattle.fw_denote.specs.Holding.{AreBagsHeld, AreRight, family_held}
use Rattle.fw_denote.proofs.PassLaws.{held_more, solved_more, right_more}
use Rattle.fw_denote.proofs.passes.pass.Goals as goal

pub loop-place-preserved : goal.loop-place-preserved
loop-place-preserved c =
    let flow = c.args.flow.now in
    let sys = system_of flow c.args.batches.now in
    let w = c.requires.system in
    let bags : List (List Timed) = c.loop-place.bags.items in
    let new : List (List Timed) = c.run.new.bags.items in
    let p : ℕ = c.loop-place.place in
    let h = c.loop-place.invariant.held in
    let there : p < length flow.nodes = let t = c.loop-place-test.true in let n = c.nodes-place-end.ensures.count in omega arith in
    let e : new ≡ set bags p (outputs_of sys (family_held flow bags) p) =
    c.in_ok-anew.ensures.set ∙ ap (λ (q : ℕ). set bags q (outputs_of sys (family_held flow bags) q)) c.at.ensures in
    record {
      held = subst (λ (bs : List (List Timed)). AreBagsHeld flow bs) (sym e) (held_more flow c.args.batches.now w bags h p there);
      solved = λ n. let a = or_parts c.loop-place.changed c.in_ok-anew.anew n in
          solved_more sys bags new p e (c.in_ok-anew.ensures.same a.1) (let k = h.one_each in omega arith) (c.loop-place.invariant.solved a.0);
      closer = λ by family m d a. subst (λ (bs : List (List Timed)). AreRight flow by family (p + 1) m bs) (sym e)
          (right_more sys w.flow by family d bags h p m there (c.loop-place.invariant.closer by family m d a));
    }
