use Rattle.std.proofs.Common.{◌∙◌, arith, refl}
use Rattle.jp_documents.proofs.FeedLaws.{deep_open, piece_open, open_fed, ended_fed, rest_open, more_behind}
use Rattle.jp_documents.proofs.FeedLaws.{document_ended}
use Rattle.jp_documents.proofs.buffer.DocumentBuffer.feed_piece.Goals as goal

pub first_document-requires : goal.first_document-requires
first_document-requires c =
    omega (
      arith,
      deep_open c.self.inside.open_document.items c.self.inside.place c.self.invariant,
      c.self.inside.open_document.ok.0,
    )

pub invariant_of-self-in-Open : goal.invariant_of-self-in-Open
invariant_of-self-in-Open c =
    rw c.in_ok-extend_from_slice-in-Open.ensures.items
    (piece_open _ _ c.args.piece.now _ _ c.self.invariant c.in-Open.ensures.0).1

pub returns-in_err-left-in-Ended-clause-more_documents :
    goal.returns-in_err-left-in-Ended-clause-more_documents
returns-in_err-left-in-Ended-clause-more_documents c =
    more_behind _ c.args.self.now _ c.self.inside.waiting _ _ _ c.self.view_is
    c.in_ok-push-in-Ended.ensures.lines c.in_err-left-in-Ended.ensures.more_documents

pub returns-in_err-put_instead-in-Ended-clause-more_documents :
    goal.returns-in_err-put_instead-in-Ended-clause-more_documents
returns-in_err-put_instead-in-Ended-clause-more_documents c =
    more_behind _ c.args.self.now _ c.self.inside.waiting _ _ _ c.self.view_is
    c.in_ok-push-in-Ended.ensures.lines (_, c.in_ok-left-in-Ended.ensures.documents)

pub invariant_of-self-in-Ended : goal.invariant_of-self-in-Ended
invariant_of-self-in-Ended c =
    rest_open c.in-Ended.after.now _ _
    (c.in_ok-put_instead-in-Ended.ensures.ok ∙ c.in_ok-left-in-Ended.ensures.rest)
    c.in_ok-left-in-Ended.ensures.place

pub returns-in_ok-extend_from_slice-in-Open-clause-documents :
    goal.returns-in_ok-extend_from_slice-in-Open-clause-documents
returns-in_ok-extend_from_slice-in-Open-clause-documents c =
    (open_fed c.args.self.now c.self.inside.count _ _ c.args.piece.now _ c.self.inside.waiting _ _
    c.self.view_is c.self.invariant c.in-Open.ensures.0 c.in_ok-extend_from_slice-in-Open.ensures.items).0

pub returns-in_ok-extend_from_slice-in-Open-clause-progress :
    goal.returns-in_ok-extend_from_slice-in-Open-clause-progress
returns-in_ok-extend_from_slice-in-Open-clause-progress c =
    (open_fed c.args.self.now c.self.inside.count _ _ c.args.piece.now _ c.self.inside.waiting _ _
    c.self.view_is c.self.invariant c.in-Open.ensures.0 c.in_ok-extend_from_slice-in-Open.ensures.items).1

pub returns-in_ok-put_instead-in-Ended-clause-documents :
    goal.returns-in_ok-put_instead-in-Ended-clause-documents
returns-in_ok-put_instead-in-Ended-clause-documents c =
    (ended_fed c.args.self.now c.self.inside.count _ _ _ _ c.in-Ended.after.now c.args.piece.now _
    c.self.inside.waiting _ _ _ c.self.view_is c.self.invariant c.in-Ended.ensures.0 c.deref.ensures.value
    c.in_ok-push-in-Ended.ensures.lines c.in_ok-left-in-Ended.ensures.documents
    c.in_ok-left-in-Ended.ensures.count
    (c.in_ok-put_instead-in-Ended.ensures.ok ∙ c.in_ok-left-in-Ended.ensures.rest)).0

pub returns-in_ok-put_instead-in-Ended-clause-progress :
    goal.returns-in_ok-put_instead-in-Ended-clause-progress
returns-in_ok-put_instead-in-Ended-clause-progress c =
    (ended_fed c.args.self.now c.self.inside.count _ _ _ _ c.in-Ended.after.now c.args.piece.now _
    c.self.inside.waiting _ _ _ c.self.view_is c.self.invariant c.in-Ended.ensures.0 c.deref.ensures.value
    c.in_ok-push-in-Ended.ensures.lines c.in_ok-left-in-Ended.ensures.documents
    c.in_ok-left-in-Ended.ensures.count
    (c.in_ok-put_instead-in-Ended.ensures.ok ∙ c.in_ok-left-in-Ended.ensures.rest)).1

pub returns-then-has_nothing-clause-documents : goal.returns-then-has_nothing-clause-documents
returns-then-has_nothing-clause-documents c =
    (document_ended c.args.self.now c.self.inside.count c.self.inside.open_document.items
    c.in-Ended.document.now c.in-Ended.after.now c.args.piece.now c.self.inside.waiting _ c.self.inside.place
    c.self.view_is c.self.invariant c.in-Ended.ensures.0 (c.if-has_nothing.ensures refl)
    c.in_ok-end_document-in-Ended.ensures.documents).0

pub returns-then-has_nothing-clause-progress : goal.returns-then-has_nothing-clause-progress
returns-then-has_nothing-clause-progress c =
    c.in_ok-end_document-in-Ended.ensures.progress
    ∙ (document_ended c.args.self.now c.self.inside.count c.self.inside.open_document.items
    c.in-Ended.document.now c.in-Ended.after.now c.args.piece.now c.self.inside.waiting _ c.self.inside.place
    c.self.view_is c.self.invariant c.in-Ended.ensures.0 (c.if-has_nothing.ensures refl)
    c.in_ok-end_document-in-Ended.ensures.documents).1
