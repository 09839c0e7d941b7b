-- Whether a filter is true of a document.
use Rattle.std.proofs.Common.{◌≡◌, Bool, List, [], sym, ap, ap₂, ◌∙◌}
use Rattle.jp_doc.specs.Location.{node}
use Rattle.jp_compiled.specs.Parts.{Wanted, logical_in}
use Rattle.jp_compiled.specs.declared.query.CompiledLogical.{CompiledLogical}
use Rattle.jp_found.specs.Links.{here}
use Rattle.jp_node.specs.Part.{part_value}
use Rattle.jp_node.specs.declared.part.Part.{Part}
use Rattle.jp_node.specs.declared.link.Link.{Link}
use Rattle.jp_pattern.specs.Tests.{Tests, AreRight}
use Rattle.jp_value.specs.RightTests.{tests}
use Rattle.jp_value.proofs.Answering.{same_tests}
use Rattle.jp_eval.specs.Filter.{document_holds}
use Rattle.jp_eval.specs.Nodelist.{holds}
use Rattle.jp_eval.specs.inner.Base.{Base}
use Rattle.jp_eval.specs.inner.Walk.{is_true}

-- what was found at the root, where nothing but the document stands at the path's end
pub asked_of_root : (roots : List Wanted) (test : CompiledLogical) (base : Base) (root : Part)
    (path : List Link)
    (truth : Bool) → part_value root ≡ base.root → base.roots ≡ roots → path ≡ []
    → truth ≡ is_true base test (here path root) → (t : Tests) → AreRight t
    → truth ≡ document_holds t (logical_in roots test) (part_value root)
unfolding is_true
asked_of_root roots test base root path truth at same none told t right =
    told
    ∙ ap (λ p. holds tests base.root (logical_in base.roots test) (here p root)) none
    ∙ ap₂ (λ v rs. holds tests v (logical_in rs test) (node [] (part_value root))) (sym at) same
    ∙ ap (λ u. document_holds u (logical_in roots test) (part_value root)) (same_tests t right)
