use Rattle.std.proofs.Common.{true, false, refl}
use Rattle.std.proofs.lemmas.Result.{on_ok_weaker}
use Rattle.fw_disk.specs.FolderCalls.{calls_of, linked}
use Rattle.fw_disk.specs.declared.cause.DiskPlace.TheVariants.{Record, Beside}
use Rattle.fw_disk.proofs.LineMoments.{one_beside, then_beside}
use Rattle.fw_disk.proofs.PutMoments.{then_puts, linked_puts, linked_ready, linked_named}
use Rattle.fw_disk.proofs.folder.Folder.give_name.Goals as goal

pub returns-in-Ok-clause-any_moment : goal.returns-in-Ok-clause-any_moment
returns-in-Ok-clause-any_moment g c start contents ready =
    linked_puts c.args.id contents start (calls_of c.args.self.now.calls) (calls_of c.link.new.self.calls) true c.in-Ok.ensures ready

pub returns-in-Ok-clause-named : goal.returns-in-Ok-clause-named
returns-in-Ok-clause-named g c start contents ready =
    linked_named c.args.id contents start (calls_of c.args.self.now.calls) (calls_of c.link.new.self.calls) c.in-Ok.ensures ready

pub returns-then-is_of_second_names-clause-any_moment : goal.returns-then-is_of_second_names-clause-any_moment
returns-then-is_of_second_names-clause-any_moment g c start contents ready =
    let id = c.args.id in
    let old = calls_of c.args.self.now.calls in
    let linked = calls_of c.link.new.self.calls in
    then_puts id contents start old linked (calls_of c.take_name.new.self.calls) (linked_puts id contents start old linked false c.in-Err.ensures ready)
    (c.take_name.ensures.any_moment start contents (linked_ready id contents start old linked false c.in-Err.ensures ready))

pub returns-then-is_of_second_names-clause-named : goal.returns-then-is_of_second_names-clause-named
returns-then-is_of_second_names-clause-named g c =
    on_ok_weaker c.take_name.result
    (λ named start contents ready. named start contents (linked_ready c.args.id contents start (calls_of c.args.self.now.calls) (calls_of c.link.new.self.calls) false c.in-Err.ensures ready))
    c.take_name.ensures.named

pub returns-else-is_of_second_names-clause-any_moment : goal.returns-else-is_of_second_names-clause-any_moment
returns-else-is_of_second_names-clause-any_moment g c start contents ready =
    linked_puts c.args.id contents start (calls_of c.args.self.now.calls) (calls_of c.link.new.self.calls) false c.in-Err.ensures ready

pub returns-in-Ok-clause-beside : goal.returns-in-Ok-clause-beside
returns-in-Ok-clause-beside g c =
    one_beside (calls_of c.args.self.now.calls) (calls_of c.link.new.self.calls) (linked (Beside c.args.id) (Record c.args.id) true) refl c.in-Ok.ensures

pub returns-then-is_of_second_names-clause-beside : goal.returns-then-is_of_second_names-clause-beside
returns-then-is_of_second_names-clause-beside g c =
    let old = calls_of c.args.self.now.calls in
    let tried = calls_of c.link.new.self.calls in
    then_beside old tried (calls_of c.take_name.new.self.calls) (one_beside old tried (linked (Beside c.args.id) (Record c.args.id) false) refl c.in-Err.ensures) c.take_name.ensures.beside

pub returns-else-is_of_second_names-clause-beside : goal.returns-else-is_of_second_names-clause-beside
returns-else-is_of_second_names-clause-beside g c =
    one_beside (calls_of c.args.self.now.calls) (calls_of c.link.new.self.calls) (linked (Beside c.args.id) (Record c.args.id) false) refl c.in-Err.ensures
