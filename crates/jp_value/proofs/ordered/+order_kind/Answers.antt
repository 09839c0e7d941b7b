use Rattle.std.proofs.Common.{◌∙◌, sym, ap, map}
use Rattle.jp_doc.specs.Json.{object}
use Rattle.jp_node.specs.Members.{list_entries}
use Rattle.jp_value.specs.Ordered.{ordered_values}
use Rattle.jp_value.proofs.OrderedValues.{ordered_object, named_members}
use Rattle.jp_value.proofs.ordered.+order_kind.Goals as goal

pub order_members-returns : goal.order_members-returns
order_members-returns t c =
    ordered_object c.args.members c.in_ok-list.list c.in_ok-values.values
    ∙ ap object (named_members (list_entries c.in_ok-list.list) (ordered_values c.in_ok-values.values.items)
    (c.in_ok-values.ensures ∙ ap (map (λ e. e.1)) c.range.ensures)
    ∙ sym c.in_ok-list.ensures)
