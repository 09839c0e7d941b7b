use Rattle.std.proofs.Common.{◌∙◌, ap, [], ◌∷◌, ◌++◌}
use Rattle.std.proofs.lemmas.Result.{on_ok_weaker}
use Rattle.json.specs.Token as spec
use Rattle.serde_json.specs.Data as crate_data
use Rattle.jp_output.proofs.Written.{text_of_tokens}
use Rattle.jp_output.proofs.scalar_text.make_quoted.Goals as goal

pub returns : goal.returns
returns c =
    let s = c.args.text.now in
    on_ok_weaker c.string-written.result (λ e.
    text_of_tokens [] _ _ c.string-written.new.self.tokens (crate_data.string s) c.into_inner.ensures.items
    (c.string-written.ensures.room.0 ∙ c.new-writer.ensures.before ∙ ap (λ v. v.items) c.replace.ensures.value
    ∙ c.clear.ensures.items)
    (e ∙ ap (λ ts. ts ++ spec.string s ∷ []) c.new-writer.ensures.tokens))
    c.string-written.ensures.ok
