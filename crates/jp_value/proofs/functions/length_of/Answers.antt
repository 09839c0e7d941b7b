use Rattle.std.proofs.Common.{◌≡◌, Some, sym, ap, ◌∙◌, arith, pos, to_z}
use Rattle.std.specs.Int.{w128}
use Rattle.std.proofs.lemmas.Int.{ints}
use Rattle.jp_node.specs.Inside.{item_values, kind_value}
use Rattle.jp_value.specs.Functions.{length_value}
use Rattle.jp_value.proofs.Lengths.{array_length}
use Rattle.jp_value.proofs.functions.length_of.Goals as goal

pub returns-in-Array : goal.returns-in-Array
returns-in-Array c =
    let n : to_z w128 c.count.result ≡ pos c.count.result = omega (arith, ints) in
    rw n (array_length (item_values c.in-Array.items) c.count.result c.count.ensures.count
    ∙ sym (ap (λ k. length_value (Some (kind_value k))) c.in-Array.is))
