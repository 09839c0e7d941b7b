use Rattle.std.proofs.Common.{◌≡◌, Ok, sym, ap, ◌∙◌, rules}
use Rattle.jp_doc.specs.Json.{Json}
use Rattle.jp_doc.specs.Reading.{reading}
use Rattle.jp_doc.proofs.ReadingInLaws.{same_reading}
use Rattle.jp_flat.specs.inner.Filled.{room_source}
use Rattle.jp_flat.specs.inner.Held.{IsReadAs}
use Rattle.jp_flat.proofs.Kept.{told_value}
use Rattle.jp_flat.proofs.line_reader.LineReader.read.Goals as goal

pub returns-in-Ok : goal.returns-in-Ok
returns-in-Ok c =
    let line = c.args.line.now in
    let room = c.fill_by_tree.new.room in
    let told : (v : Json) × (reading line ≡ Ok v) × IsReadAs (Ok v) (room_source room) room.flat.nodes.items =
    search rules in
    record {
      answer = ap Ok (c.lend.ensures ∙ told_value told.0 _ told.2.value)
          ∙ sym (same_reading c.args.numbers line told.0 told.1);
      memory = tt;
    }
