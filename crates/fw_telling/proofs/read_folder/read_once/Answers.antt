use Rattle.std.proofs.Common.{◌≡◌, List, [], ◌∷◌, ◌++◌, true, is_some, string_bytes, rules, sym, subst}
use Rattle.std.specs.Option.{option_copied}
use Rattle.fw_telling.specs.declared.read_folder.ReadText.{ReadText}
use Rattle.fw_telling.specs.Read.{AreTextsOf, reading_under}
use Rattle.fw_telling.proofs.TextLaws.{there_is, with_name, with_text}
use Rattle.fw_telling.proofs.read_folder.read_once.Goals as goal

pub returns-then-is_some : goal.returns-then-is_some
returns-then-is_some g c = λ names are.
    let texts = c.args.texts.now.items in
    let name = c.args.name.now in
    let found : option_copied c.find_reading.result ≡ reading_under texts name = search rules in
    let some : is_some c.find_reading.result ≡ true = search rules in
    with_name (g.T.NamedFiles.bytes c.args.files.now) c.args.limit names texts name are (there_is texts name c.find_reading.result true found some)

pub returns : goal.returns
returns g c = λ names are.
    let known = g.T.NamedFiles.bytes c.args.files.now in
    let texts = c.args.texts.now.items in
    let name = c.args.name.now in
    let text : ReadText = record { name = c.in_ok-from_str.field-0; reading = c.read_text.result } in
    let items : c.push.new.self.items ≡ texts ++ text ∷ [] = search rules in
    let is : string_bytes text.name ≡ name = search rules in
    subst (λ (ts : List ReadText). AreTextsOf known c.args.limit (names ++ name ∷ []) ts) (sym items)
    (with_text known c.args.limit names texts text name are is c.read_text.ensures)
