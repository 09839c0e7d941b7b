-- Filters of documents: an expression is asked of a document, which is both the current node `@` and the root
-- `$` (RFC 9535, 2.3.5).
use Rattle.std.specs.Prelude.{Bool, []}
use Rattle.jp_doc.specs.Json.{Json}
use Rattle.jp_doc.specs.Location.{node}
use Rattle.jp_tree.specs.Tree.{Logical}
use Rattle.jp_pattern.specs.Tests.{Tests}
use Rattle.jp_compiled.specs.Parts.{logical_in, roots_of}
use Rattle.jp_eval.specs.Nodelist.{holds}
use Rattle.jp_eval.specs.declared.document_filter.DocumentFilter.{DocumentFilter}

-- whether the expression is true of the document
abbrev pub document_holds : Tests → Logical → Json → Bool
document_holds tests l root = holds tests root l (node [] root)

-- the expression that a filter of documents asks
abbrev pub asked_filter : DocumentFilter → Logical
asked_filter f = logical_in (roots_of f.query.now.roots.items) f.test.now
