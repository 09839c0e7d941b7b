use Rattle.std.proofs.Common.{rules, sym, ap, ◌∙◌, [], w64}
use mir.Val.{SFits}
use Rattle.std.proofs.lemmas.Int.{to_z-of_z}
use Rattle.jp_node.specs.Part.{part_value}
use Rattle.jp_output.specs.Rows.{first_in, step_of, step_value}
use Rattle.jp_output.proofs.field.step_from.Goals as goal

pub returns-in-Index : goal.returns-in-Index
returns-in-Index c =
    let v = part_value c.args.value in
    let f : SFits w64 c.in-Index.index = search rules in
    let placed = simp to_z-of_z at (c.place_in.ensures []) in
    c.item_at.ensures ∙ ap first_in placed ∙ sym (ap (λ s. step_value (step_of s) v) c.in-Index.is)
