use Rattle.std.proofs.Common.{◌≤◌, ap, length, arith}
use Rattle.std.specs.String.{string_bytes}
use Rattle.jp_doc.specs.Document.{document_value}
use Rattle.jp_doc.specs.Reading.{max_line}
use Rattle.jp_flat.proofs.PrintedTrees.{printed_value}
use Rattle.jp_flat.proofs.lines.lay_document.Goals as goal

pub lay_printed-requires : goal.lay_printed-requires
lay_printed-requires c =
    let few : length c.deref.result.now ≤ max_line =
    omega (arith, ap length c.deref.ensures, c.len.ensures) in
    record {
      printed = (
        document_value c.args.document.now,
        printed_value (string_bytes c.in_ok-text.text)
            c.deref.result.now c.root.result.now _ c.root.ensures.kept c.in_ok-text.ensures.order
            c.in_ok-text.ensures.reads_back c.deref.ensures c.deref.utf8 few c.root.ensures.value,
      );
    }

pub returns : goal.returns
returns c =
    let few : length c.deref.result.now ≤ max_line =
    omega (arith, ap length c.deref.ensures, c.len.ensures) in
    c.lay_printed.ensures (document_value c.args.document.now) (printed_value
    (string_bytes c.in_ok-text.text) c.deref.result.now c.root.result.now _ c.root.ensures.kept
    c.in_ok-text.ensures.order c.in_ok-text.ensures.reads_back c.deref.ensures c.deref.utf8 few
    c.root.ensures.value)
