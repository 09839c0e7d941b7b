-- Names that stand among members.
use Rattle.std.proofs.Common.{◌≡◌, Bool, true, false, List, [], ◌∷◌}
use Rattle.std.proofs.Common.{Option, Some, None, is_some, if◌then◌else◌, refl, ap, ◌∙◌}
use Rattle.jp_doc.specs.Json.{Text, text_eq, Json, no_members}
use Rattle.jp_doc.specs.Location.{member_at}
use Rattle.jp_flat.proofs.Entries.{same_text, last_found}
use Rattle.jp_flat.specs.Members.{last_of}
use Rattle.jp_flat.specs.Value.{entries, members_value}
use Rattle.jp_flat.specs.declared.value.FlatMembers.{FlatMembers}
use Rattle.jp_node.specs.Inside.{members_inside}
use Rattle.jp_node.specs.Members.{members}
use Rattle.jp_node.proofs.Emptiness.{inside}

some_if : (b : Bool) (v : Json) (o : Option Json) → is_some o ≡ true
    → is_some (if b then Some v else o) ≡ true
some_if true v o h = refl
some_if false v o h = h

some_last : (k : Text) (es : List (Text × Json)) (o : Option Json) → is_some o ≡ true
    → is_some (last_of k es o) ≡ true
some_last k [] o h = h
some_last k (e ∷ es) o h = some_last k es _ (some_if (text_eq k e.0) e.1 o h)

found_if : (b : Bool) (k : Text) (v : Json) (es : List (Text × Json)) → is_some (last_of k es None) ≡ true
    → is_some (last_of k es (if b then Some v else None)) ≡ true
found_if true k v es h = some_last k es (Some v) refl
found_if false k v es h = h

-- the name of the first is found, and what is found behind it
pub first_found : (k : Text) (v : Json) (es : List (Text × Json))
    → is_some (last_of k ((k, v) ∷ es) None) ≡ true
first_found k v es = some_last k es _ (ap (λ b. is_some (if b then Some v else None)) (same_text k))

pub found_behind : (k : Text) (e : Text × Json) (es : List (Text × Json))
    → is_some (last_of k es None) ≡ true → is_some (last_of k (e ∷ es) None) ≡ true
found_behind k e es h = found_if (text_eq k e.0) k e.1 es h

-- what is found in the line is a member of the object
pub found_inside : (k : Text) (m : FlatMembers) → is_some (last_of k (entries m) None) ≡ true
    → is_some (member_at k (members_inside (members_value m))) ≡ true
found_inside k m h = ap is_some (ap (member_at k) (inside m) ∙ last_found k (entries m) no_members) ∙ h

-- a member of another name is passed over
pub passed_over : (k : Text) (e : Text × Json) (es : List (Text × Json)) → text_eq k e.0 ≡ false
    → member_at k (members (e ∷ es)) ≡ member_at k (members es)
passed_over k e es h = ap (λ b. if b then Some e.1 else member_at k (members es)) h
