use Rattle.std.proofs.Common.{◌+◌, arith}
use Rattle.jp_documents.proofs.ScanLaws.{going_passed, going_on, going_past, going_last}
use Rattle.jp_documents.proofs.ScanLaws.{going_behind, rest_bytes}
use Rattle.jp_documents.proofs.first.first_document.Goals as goal
use Rattle.jp_documents.proofs.first.first_document.Goals.{in-Skipped, in-Taken}

pub returns-in-Last : goal.returns-in-Last
returns-in-Last c =
    let e = c.passed-count.ensures in
    let g = going_passed _ _ _ _ _ _ _ _ c.bytes.invariant.0
    (rest_bytes c.args.bytes.now c.bytes.at) e.within e.cuts
    e.depth e.none e.between in
    rw (rest_bytes c.args.bytes.now (c.bytes.at + c.passed-count.result.0 + 1))
    (going_last _ _ _ _ _ g (omega arith) c.in-Last.ensures)

pub returns-in-Behind : goal.returns-in-Behind
returns-in-Behind c =
    let e = c.passed-count.ensures in
    let g = going_passed _ _ _ _ _ _ _ _ c.bytes.invariant.0
    (rest_bytes c.args.bytes.now c.bytes.at) e.within e.cuts
    e.depth e.none e.between in
    rw (rest_bytes c.args.bytes.now (c.bytes.at + c.passed-count.result.0))
    (going_behind _ _ _ _ _ g (omega arith) c.in-Behind.ensures)

pub bytes-preserved : goal.bytes-preserved
bytes-preserved c =
    let e = c.passed-count.ensures in
    let g = going_passed _ _ _ _ _ _ _ _ c.bytes.invariant.0
    (rest_bytes c.args.bytes.now c.bytes.at) e.within e.cuts
    e.depth e.none e.between in elim c.match-turn_at.branch [
      | in-Skipped w ↦ rw (w.place-is, w.from-is)
          (going_past _ _ _ _ _ g (omega arith) w.in-Skipped.ensures, omega arith)
      | in-Taken w ↦ rw (w.place-is, w.from-is)
          (going_on _ _ _ _ _ _ g (omega arith) w.in-Taken.ensures, omega arith)
    ]
