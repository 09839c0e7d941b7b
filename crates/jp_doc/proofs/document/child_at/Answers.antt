use Rattle.jp_doc.proofs.Found.{name_leads, index_leads, name_keeps, index_keeps}
use Rattle.jp_doc.proofs.TextLaws.{value_has}
use Rattle.jp_doc.proofs.document.child_at.Goals as goal

pub returns-in-Name-clause-value : goal.returns-in-Name-clause-value
returns-in-Name-clause-value c =
    rw (c.in-Name.is, ← c.as_str.ensures.value) (name_leads c.get.result c.args.value.now c.as_str.result.now
    c.get.ensures c.as_str.utf8 (value_has c.args.value.now))

pub returns-in-Name-clause-kept : goal.returns-in-Name-clause-kept
returns-in-Name-clause-kept c = name_keeps c.get.result c.args.value.now c.as_str.result.now c.get.ensures

pub returns-in-Index-clause-value : goal.returns-in-Index-clause-value
returns-in-Index-clause-value c =
    rw c.in-Index.is (index_leads c.get-in-Index.result c.args.value.now _ c.get-in-Index.ensures)

pub returns-in-Index-clause-kept : goal.returns-in-Index-clause-kept
returns-in-Index-clause-kept c = index_keeps c.get-in-Index.result c.args.value.now c.in-Index.index
    c.get-in-Index.ensures
