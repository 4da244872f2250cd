use Rattle.std.proofs.Common.{arith, ◌++◌, ap, ◌∙◌}
use Rattle.fw_keep.specs.Catalogue.{ids_of}
use Rattle.fw_keep.proofs.IdLaws.{length-parts}
use Rattle.fw_keep.proofs.TakingLaws.{kept_from, gone_from}
use Rattle.fw_keep.proofs.going.take_out.Goals as goal

pub returns-clause-entries : goal.returns-clause-entries
returns-clause-entries g c = c.keep_others.ensures ∙ kept_from (g.G.Going.goes c.args.going.now) c.args.from c.args.entries.now.items c.requires.others

pub returns-clause-waiting : goal.returns-clause-waiting
returns-clause-waiting g c =
    (rw c.deref.ensures.value at c.add_ids.ensures.waiting)
    ∙ ap (λ xs. c.args.waiting.now.items ++ ids_of xs) (gone_from (g.G.Going.goes c.args.going.now) c.args.from c.args.entries.now.items c.requires.others)

pub returns-clause-room : goal.returns-clause-room
returns-clause-room g c =
    let goes = g.G.Going.goes c.args.going.now in
    let es = c.args.entries.now.items in
    let entries = c.keep_others.new.entries in
    let waiting = c.add_ids.new.waiting in
    omega (
      arith,
      length-parts goes es entries.items c.args.waiting.now.items waiting.items
          (c.keep_others.ensures ∙ kept_from goes c.args.from es c.requires.others)
          ((rw c.deref.ensures.value at c.add_ids.ensures.waiting) ∙ ap (λ xs. c.args.waiting.now.items ++ ids_of xs) (gone_from goes c.args.from es c.requires.others)),
      entries.ok.0,
      waiting.ok.0,
      c.args.entries.now.ok.0,
      c.args.waiting.now.ok.0,
      c.add_ids.ensures.capacity,
      c.requires.room,
    )
