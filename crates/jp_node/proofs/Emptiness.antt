-- Objects without a member.
use Rattle.std.proofs.Common.{◌≡◌, Bool, true, false, List, [], ◌∷◌, refl, sym, ap, ◌∙◌}
use Rattle.std.proofs.Common.{Less, Equal, Greater, Ordering}
use Rattle.std.specs.Ordering.{match_ordering}
use Rattle.jp_doc.specs.Json.{Text, text_cmp, Json, Members, no_members, add_member}
use Rattle.jp_doc.specs.Tree.{put_member}
use Rattle.jp_flat.proofs.InsideObject.{members_are}
use Rattle.jp_flat.specs.Members.{put_all}
use Rattle.jp_flat.specs.Value.{entries, members_value}
use Rattle.jp_flat.specs.declared.value.FlatMembers.{FlatMembers}
use Rattle.jp_node.specs.Inside.{members_inside}

abbrev has_some : Members → Bool
has_some no_members = false
has_some (add_member k v ms) = true

some_placed : (o : Ordering) (a b c : Members) → has_some a ≡ true → has_some b ≡ true → has_some c ≡ true
    → has_some (match_ordering o a b c) ≡ true
some_placed Less a b c f g h = f
some_placed Equal a b c f g h = g
some_placed Greater a b c f g h = h

some_put : (k : Text) (v : Json) (ms : Members) → has_some (put_member k v ms) ≡ true
some_put k v no_members = refl
some_put k v (add_member l w ms) = some_placed (text_cmp k l) _ _ _ refl refl refl

all_some : (es : List (Text × Json)) (ms : Members) → has_some ms ≡ true → has_some (put_all es ms) ≡ true
all_some [] ms h = h
all_some (e ∷ es) ms h = all_some es (put_member e.0 e.1 ms) (some_put e.0 e.1 ms)

some_of : (es : List (Text × Json)) → put_all es no_members ≡ no_members → es ≡ []
some_of [] h = refl
some_of (e ∷ es) h =
    let some = all_some es (put_member e.0 e.1 no_members) (some_put e.0 e.1 no_members) in
    let none = ap has_some h in absurd cc

pub inside : (m : FlatMembers) → members_inside (members_value m) ≡ put_all (entries m) no_members
inside m = ap members_inside (members_are m)

-- the members of the line are none exactly where the object has none
pub none_inside : (m : FlatMembers) → entries m ≡ [] → members_inside (members_value m) ≡ no_members
none_inside m h = inside m ∙ ap (λ es. put_all es no_members) h

pub none_in_line : (m : FlatMembers) → members_inside (members_value m) ≡ no_members → entries m ≡ []
none_in_line m h = some_of (entries m) (sym (inside m) ∙ h)
