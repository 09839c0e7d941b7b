use Rattle.std.proofs.Common.{◌≡◌, Some, Option, ℕ, rules}
use Rattle.std.specs.String.{string_bytes}
use Rattle.jp_field.proofs.RootText.{put_together}
use Rattle.jp_field.proofs.field_text.root_query.Goals as goal

pub returns : goal.returns
returns c =
    let is : ◌≡◌ {A = Option ℕ} c.next.result (Some 64) = search rules in
    let steps = rw is at c.next.ensures.steps in
    put_together c.args.text.now c.as_str.result.now (string_bytes c.in_ok-query.query)
    (string_bytes c.push_str.new.self) (search (rules, steps)) c.in_ok-query.ensures.ok
    c.in_ok-push_str.ensures.bytes
