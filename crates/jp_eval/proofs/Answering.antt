-- Any two right tests give the same nodelists, and a visitor takes the nodes of a query on a document.
use Rattle.std.proofs.Common.{◌≡◌, List, [], ◌∷◌, sym, ap, ap₂, ◌∙◌}
use Rattle.std.specs.List.{fold}
use Rattle.jp_doc.specs.Json.{Json}
use Rattle.jp_doc.specs.Location.{Node}
use Rattle.jp_tree.specs.Tree.{Query}
use Rattle.jp_compiled.specs.Compiled.{compiled_query}
use Rattle.jp_compiled.specs.Parts.{roots_of, segments_in}
use Rattle.jp_compiled.specs.declared.compiled.CompiledQuery.{CompiledQuery}
use Rattle.jp_compiled.specs.declared.query.CompiledSegment.{CompiledSegment}
use Rattle.jp_node.specs.Part.{part_value}
use Rattle.jp_node.specs.declared.part.Part.{Part}
use Rattle.jp_node.specs.declared.link.Link.{Link}
use Rattle.jp_pattern.specs.Tests.{Tests, AreRight}
use Rattle.jp_value.specs.RightTests.{tests}
use Rattle.jp_value.proofs.Answering.{same_tests}
use Rattle.jp_eval.specs.Nodelist.{document_nodes}
use Rattle.jp_eval.specs.inner.Base.{Base}
use Rattle.jp_found.specs.Kept.{Kept, taken, put_found, plus}
use Rattle.jp_found.specs.Links.{here}
use Rattle.jp_eval.specs.inner.Rooted.{root_nodes}
use Rattle.jp_eval.specs.inner.Walk.{reached}
use Rattle.jp_eval.proofs.CompiledParts.{from_root, started}
use Rattle.jp_found.proofs.Keeping.{taken_out}

pub same_nodes : (t : Tests) (q : Query) (root : Json) → AreRight t → document_nodes tests q root
    ≡ document_nodes t q root
same_nodes t q root right = ap (λ u. document_nodes u q root) (same_tests t right)

-- a walk from the root that began with a visitor
-- where a walk began with what the visitor had taken
pub from_taken : {K : Type 0} (put : K → Node → K) (start : K) (held last : Kept K) (ns : List Node)
    → held ≡ taken start → last ≡ plus (put_found put) held ns → last ≡ plus (put_found put) (taken start) ns
from_taken put start held last ns began found = found ∙ ap (λ k. plus (put_found put) k ns) began

pub visited : {K : Type 0} (put : K → Node → K) (q : CompiledQuery) (base : Base) (ss : List CompiledSegment)
    (root : Part) (path : List Link) (start last : K) (held : Kept K)
    → ss ≡ q.segments.items → path ≡ [] → part_value root ≡ base.root → base.roots ≡ roots_of q.roots.items
    → taken last ≡ held → held ≡ plus (put_found put) (taken start) (reached base ss (here path root ∷ []))
    → (t : Tests) → AreRight t
    → last ≡ fold put start (document_nodes t (compiled_query q) (part_value root))
visited put q base ss root path start last held same none at roots out found t right =
    let value = part_value root in
    let nodes =
    from_root base q.segments ss root path same none at
    ∙ ap₂ (λ v rs. root_nodes v (segments_in rs q.segments.items)) (sym at) roots
    ∙ started q.start (segments_in (roots_of q.roots.items) q.segments.items) value in
    taken_out put last start _ (out ∙ found)
    ∙ ap (fold put start) (nodes ∙ same_nodes t (compiled_query q) value right)
