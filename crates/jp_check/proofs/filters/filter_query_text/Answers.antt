use Rattle.std.specs.String.{string_bytes}
use Rattle.jp_check.proofs.FilterTexts.{put_together}
use Rattle.jp_check.proofs.filters.filter_query_text.Goals as goal

pub returns : goal.returns
returns c =
    put_together (string_bytes c.in_ok-text.text) (string_bytes c.push_str.new.self)
    (string_bytes c.push_str-2.new.self) c.args.filter.now c.utf8.filter c.in_ok-text.ensures.ok
    c.in_ok-push_str.ensures.bytes c.in_ok-push_str-2.ensures.bytes
