-- What visitors keep of several nodes.
use Rattle.std.proofs.Common.{◌≡◌, List, [], ◌∷◌, ◌++◌, map, ap, sym, ◌∙◌, append_assoc, append-nil}
use Rattle.std.specs.List.{fold}
use Rattle.jp_doc.specs.Location.{Location, Node}
use Rattle.jp_node.specs.Taken.{put_location}

pub locations_fold : (ls : List Location) (ns : List Node) → fold put_location ls ns
    ≡ ls ++ map (λ n. n.location) ns
locations_fold ls [] = sym (append-nil ls)
locations_fold ls (n ∷ ns) = locations_fold (ls ++ n.location ∷ []) ns
    ∙ append_assoc ls (n.location ∷ []) (map (λ n. n.location) ns)

-- the locations of one visitor behind those of another
pub locations_append : (ls ms : List Location) (ns : List Node) → ms ≡ fold put_location [] ns
    → ls ++ ms ≡ fold put_location ls ns
locations_append ls ms ns e = ap (λ l. ls ++ l) (e ∙ locations_fold [] ns) ∙ sym (locations_fold ls ns)
