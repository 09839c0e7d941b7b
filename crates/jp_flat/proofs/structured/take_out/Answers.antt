use Rattle.std.proofs.Common.{◌≡◌, ◌+◌, ◌++◌, suc, take, drop, sym, ap, ◌∙◌, arith}
use Rattle.std.proofs.lemmas.List.{take-append-drop}
use Rattle.std.specs.Str.{chars}
use Rattle.jp_doc.specs.Json.{no_members}
use Rattle.jp_flat.specs.Gathered.{gathered}
use Rattle.jp_flat.proofs.Sorted.{onto_both}
use Rattle.jp_flat.proofs.Structures.{taken_out}
use Rattle.jp_flat.proofs.structured.take_out.Goals as goal

pub returns-in-Same : goal.returns-in-Same
returns-in-Same c =
    let xs = c.args.list.now.items in
    let k = chars c.args.name.now in
    let i = c.in-Same.place in
    let is : c.as_slice.result.now ≡ xs = c.as_slice.ensures.value in
    let one : i + 1 ≡ suc i = omega arith in
    let found = rw is at c.in-Same.ensures.1 in
    ap gathered c.remove.ensures.by_index.2
    ∙ ap (λ n. gathered (take i xs ++ drop n xs)) one
    ∙ onto_both (take i xs) (drop (suc i) xs) no_members
    ∙ sym (taken_out k (gathered xs) (take i xs) (gathered (drop (suc i) xs)) c.requires found)

pub returns-in_default : goal.returns-in_default
returns-in_default c =
    let xs = c.args.list.now.items in
    let k = chars c.args.name.now in
    let i = c.in_default.field-0 in
    let is : c.as_slice.result.now ≡ xs = c.as_slice.ensures.value in
    let found = rw is at c.in_default.ensures.1 in
    ap gathered (sym (take-append-drop i xs))
    ∙ onto_both (take i xs) (drop i xs) no_members
    ∙ sym (taken_out k (gathered xs) (take i xs) (gathered (drop i xs)) c.requires found)
