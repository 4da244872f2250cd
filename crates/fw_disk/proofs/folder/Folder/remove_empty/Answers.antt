use Rattle.std.proofs.Common.{true, false}
use Rattle.fw_disk.specs.FolderCalls.{calls_of}
use Rattle.fw_disk.proofs.PutMoments.{empty_goes}
use Rattle.fw_disk.proofs.folder.Folder.remove_empty.Goals as goal

pub returns-in_err-remove : goal.returns-in_err-remove
returns-in_err-remove g c start =
    empty_goes start c.args.id (calls_of c.args.self.now.calls) (calls_of c.seen_empty.new.self) (calls_of c.remove.new.self.calls) false c.seen_empty.ensures c.in_err-remove.ensures

pub returns : goal.returns
returns g c start =
    empty_goes start c.args.id (calls_of c.args.self.now.calls) (calls_of c.seen_empty.new.self) (calls_of c.remove.new.self.calls) true c.seen_empty.ensures c.in_ok-remove.ensures
