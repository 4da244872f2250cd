use Rattle.std.proofs.Common.{◌≡◌, ℕ, List}
use Rattle.std.specs.Prelude.{IsSome}
use Rattle.fw_engine.specs.Engine.{flow_of}
use Rattle.fw_command.specs.Writing.{IsWritten}
use Rattle.fw_session.specs.Story.{Story, IsStory}
use Rattle.fw_live.specs.Serving.{GivesMany, Serves}
use Rattle.fw_live.proofs.ServingLaws.{IsCalm}
use Rattle.fw_live.proofs.serving.serve.Given as goal

-- the lines that came in so far were answered, and their answers written
abbrev pub invariant-loop : goal.invariant-loop
invariant-loop g l = record {
  flow : flow_of (g.S.Living.engine_of l.live.session) ≡ flow_of (g.S.Living.engine_of l.fn.live.session);
  rests : l.live.rests ≡ l.fn.live.rests;
  told_before : IsSome (g.S.Living.records l.live.session) → IsSome (g.S.Living.records l.fn.live.session);
  texts : g.S.Living.digests_of l.live.session ≡ g.S.Living.digests_of l.fn.live.session;
  left : (story : Story) (kept : List ℕ) → g.S.Living.at l.fn.live.session story → g.S.Living.keeps l.fn.live.session story kept
      → g.S.Living.may_restart l.fn.live.session → IsSome (g.S.Living.records l.live.session) → g.S.Living.may_restart l.live.session;
  of_story : (story : Story) → g.S.Living.at l.live.session story → IsStory (flow_of (g.S.Living.engine_of l.live.session)) story;
  many : GivesMany l.counter (g.L.LineSource.given l.fn.input) (g.L.LineSource.given l.input);
  lines : g.L.LineSource.fault_count l.input ≡ g.L.LineSource.fault_count l.fn.input;
  calm : IsCalm (g.O.Sink.view l.fn.out) (g.O.Sink.view l.out);
  served : Serves l.fn.live.rests (flow_of (g.S.Living.engine_of l.fn.live.session))
      (record {
        counts = l.fn.live.counts;
        records = g.S.Living.records l.fn.live.session;
        faults = g.S.Living.fault_count l.fn.live.session;
        At = λ story kept. g.S.Living.at l.fn.live.session story × g.S.Living.keeps l.fn.live.session story kept;
      })
      (record {
        counts = l.live.counts;
        records = g.S.Living.records l.live.session;
        faults = g.S.Living.fault_count l.live.session;
        At = λ story kept. g.S.Living.at l.live.session story × g.S.Living.keeps l.live.session story kept;
      })
      (g.L.LineSource.given l.fn.input) (g.L.LineSource.given l.input) (λ text. IsWritten text (g.O.Sink.view l.fn.out) (g.O.Sink.view l.out));
}
