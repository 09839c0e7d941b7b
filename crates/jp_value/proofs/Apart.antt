-- Objects of which one has a name that the other lacks.
use Rattle.std.proofs.Common.{◌≡◌, Bool, true, false, ◌&&◌, cond, Option, Some, None, is_some, refl, ap}
use Rattle.std.proofs.Common.{sym, ◌∙◌}
use Rattle.std.proofs.lemmas.Slice.Eq.{bytes_eq-Decides}
use Rattle.jp_doc.specs.Json.{Text, text_eq, Json, Members, no_members, add_member}
use Rattle.jp_doc.specs.Location.{member_at}
use Rattle.jp_value.specs.Comparison.{same, same_members}
use Rattle.std.proofs.lemmas.Bool.{and_parts, false_from_ne_true}

either_found : (b : Bool) (v w : Json) (o p : Option Json) → is_some o ≡ is_some p
    → is_some (cond b (Some v) o) ≡ is_some (cond b (Some w) p)
either_found true v w o p h = refl
either_found false v w o p h = h

-- equal objects have the same names
names_alike : (k : Text) (ms ns : Members) → same_members ms ns ≡ true
    → is_some (member_at k ms) ≡ is_some (member_at k ns)
names_alike k no_members no_members h = refl
names_alike k no_members (add_member l w ns) h = absurd cc
names_alike k (add_member j v ms) no_members h = absurd cc
names_alike k (add_member j v ms) (add_member l w ns) h =
    let p = and_parts (text_eq j l && same v w) (same_members ms ns) h in
    let e : j ≡ l = (bytes_eq-Decides j l).0 (and_parts (text_eq j l) (same v w) p.0).0 in
    ap (λ i. is_some (cond (text_eq k i) (Some v) (member_at k ms))) e
    ∙ either_found (text_eq k l) v w (member_at k ms) (member_at k ns) (names_alike k ms ns p.1)

clash : (k : Text) (ms ns : Members) → is_some (member_at k ms) ≡ true → member_at k ns ≡ None
    → is_some (member_at k ms) ≡ is_some (member_at k ns) → ⊥
clash k ms ns has lacks alike = let f = ap is_some lacks in absurd cc

pub apart : (k : Text) (ms ns : Members) → is_some (member_at k ms) ≡ true → member_at k ns ≡ None
    → false ≡ same_members ms ns
apart k ms ns has lacks =
    sym (false_from_ne_true (same_members ms ns) (λ e. clash k ms ns has lacks (names_alike k ms ns e)))

pub apart_too : (k : Text) (ms ns : Members) → is_some (member_at k ms) ≡ true → member_at k ns ≡ None
    → false ≡ same_members ns ms
apart_too k ms ns has lacks =
    sym (false_from_ne_true (same_members ns ms) (λ e. clash k ms ns has lacks (sym (names_alike k ns ms e))))

-- an object with members is not one without
pub some_beside_none : (ms ns : Members) → (ms ≡ no_members → ⊥) → ns ≡ no_members
    → false ≡ same_members ms ns
some_beside_none no_members ns h e = absurd (h refl)
some_beside_none (add_member k v ms) ns h e = ap (same_members (add_member k v ms)) (sym e)
