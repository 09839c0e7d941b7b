-- A working file, which nobody has to believe: where a name belongs among names that rise.
use Rattle.std.specs.Prelude.{◌≡◌, ◌≤◌, ◌<◌, suc, take, drop, length, List}
use Rattle.jp_doc.specs.Json.{Text, Json, add_member}
use Rattle.jp_doc.specs.Tree.{put_member}
use Rattle.jp_flat.specs.Gathered.{onto, gathered}
use Rattle.jp_flat.specs.declared.insertion.NamePlace.{NamePlace}
use Rattle.jp_flat.specs.declared.insertion.NamePlace.TheVariants.{Before, Same}
use Rattle.jp_flat.specs.declared.value.FlatMember.{FlatMember}

-- a member of this name is put there
abbrev pub IsPlace : NamePlace → Text → List FlatMember → Type 0
IsPlace (Before i) k xs = (i ≤ length xs)
    × ((v : Json) → put_member k v (gathered xs) ≡ onto (take i xs) (add_member k v (gathered (drop i xs))))
IsPlace (Same i) k xs = (i < length xs)
    × ((v : Json) → put_member k v (gathered xs)
    ≡ onto (take i xs) (add_member k v (gathered (drop (suc i) xs))))
