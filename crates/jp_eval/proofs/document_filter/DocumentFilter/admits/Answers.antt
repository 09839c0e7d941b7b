use Rattle.std.proofs.Common.{[], refl, sym, ap, ◌∙◌}
use Rattle.jp_compiled.specs.Parts.{roots_of}
use Rattle.jp_eval.specs.inner.Base.{base_of}
use Rattle.jp_eval.proofs.Deciding.{some_of}
use Rattle.jp_eval.proofs.Filtering.{asked_of_root}
use Rattle.jp_eval.proofs.document_filter.DocumentFilter.admits.Goals as goal

pub returns : goal.returns
returns c =
    let filter = c.args.self.now in
    asked_of_root (roots_of filter.query.now.roots.items) filter.test.now (base_of c.in_ok-context.context)
    c.args.root c.new-path.result c.in_ok-holds.field-0 (sym c.in_ok-context.ensures.root)
    (ap roots_of (c.in_ok-context.ensures.roots ∙ c.as_slice.ensures.value)) c.new-path.ensures
    c.in_ok-holds.ensures.truth

pub returns-in-Some : goal.returns-in-Some
returns-in-Some c =
    let filter = c.args.self.now in
    asked_of_root (roots_of filter.query.now.roots.items) filter.test.now (base_of c.in_ok-context.context)
    c.args.root [] c.in-Some.truth (sym c.in_ok-context.ensures.root)
    (ap roots_of (c.in_ok-context.ensures.roots ∙ c.as_slice.ensures.value)) refl
    (some_of _ _ _ c.in-Some.is c.in_ok-truth.ensures [])
