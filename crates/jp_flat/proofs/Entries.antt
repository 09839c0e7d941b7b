-- The members of a tree, as the definitions put them together, and how a name is looked up among them.
use Rattle.std.proofs.Common.{◌≡◌, Bool, true, false, List, [], ◌∷◌, Some, Ordering, Less, Equal}
use Rattle.std.proofs.Common.{Greater, is_eq, refl, sym, ap, ◌∙◌, if◌then◌else◌, subst}
use Rattle.std.proofs.lemmas.Map.Text.{is_eq-slice_cmp}
use Rattle.std.proofs.lemmas.Slice.Eq.{bytes_eq-Decides}
use Rattle.std.specs.Ordering.{match_ordering}
use Rattle.std.specs.Str.{chars}
use Rattle.json.specs.Json as text
use Rattle.jp_doc.specs.Json as json
use Rattle.jp_doc.specs.Json.{Text, text_cmp, text_eq, Json}
use Rattle.jp_doc.specs.Location.{member_at}
use Rattle.jp_doc.specs.Tree.{put_member, tree_json, tree_members}
use Rattle.jp_doc.proofs.OrderLaws.{text_order}
use Rattle.jp_flat.specs.Members.{put_all, last_of, entries_of}

-- the members of a tree's object are put one after another
pub all_put : (ms : text.Members) (put : json.Members) → tree_members ms put ≡ put_all (entries_of ms) put
all_put text.no_members put = refl
all_put (text.member k j ms) put = all_put ms (put_member (chars k) (tree_json j) put)

-- ---- looking up

pub same_text : (k : Text) → text_eq k k ≡ true
same_text k = (bytes_eq-Decides k k).1 refl

pub by_order : (k l : Text) → is_eq (text_cmp k l) ≡ text_eq k l
by_order k l = ap is_eq (text_order k l) ∙ is_eq-slice_cmp k l

here_at : (o : Ordering) (k l : Text) (v w : Json) (ms : json.Members) → text_cmp k l ≡ o
    → member_at k (put_member k v ms) ≡ Some v
    → member_at k (match_ordering o (json.add_member k v (json.add_member l w ms)) (json.add_member l v ms)
    (json.add_member l w (put_member k v ms))) ≡ Some v
here_at Less k l v w ms is later = rw (same_text k) refl
here_at Equal k l v w ms is later =
    ap (λ b. if b then Some v else member_at k ms) (sym (by_order k l) ∙ ap is_eq is)
here_at Greater k l v w ms is later =
    ap (λ b. if b then Some w else member_at k (put_member k v ms)) (sym (by_order k l) ∙ ap is_eq is) ∙ later

-- what was put at a name is found there
put_here : (k : Text) (v : Json) (ms : json.Members) → member_at k (put_member k v ms) ≡ Some v
put_here k v json.no_members = rw (same_text k) refl
put_here k v (json.add_member l w ms) = here_at (text_cmp k l) k l v w ms refl (put_here k v ms)

other_at : (o : Ordering) (q k l : Text) (v w : Json) (ms : json.Members) → text_cmp k l ≡ o
    → text_eq q k ≡ false
    → member_at q (put_member k v ms) ≡ member_at q ms
    → member_at q (match_ordering o (json.add_member k v (json.add_member l w ms)) (json.add_member l v ms)
    (json.add_member l w (put_member k v ms))) ≡ member_at q (json.add_member l w ms)
other_at Less q k l v w ms is other later = rw other refl
other_at Equal q k l v w ms is other later =
    let same : k ≡ l = (bytes_eq-Decides k l).0 (sym (by_order k l) ∙ ap is_eq is) in
    let apart : text_eq q l ≡ false = subst (λ x. text_eq q x ≡ false) same other in
    rw apart refl
other_at Greater q k l v w ms is other later = ap (λ r. if text_eq q l then Some w else r) later

put_elsewhere : (q k : Text) (v : Json) (ms : json.Members) → text_eq q k ≡ false
    → member_at q (put_member k v ms) ≡ member_at q ms
put_elsewhere q k v json.no_members other = rw other refl
put_elsewhere q k v (json.add_member l w ms) other =
    other_at (text_cmp k l) q k l v w ms refl other (put_elsewhere q k v ms other)

put_found : (q k : Text) (v : Json) (ms : json.Members)
    → member_at q (put_member k v ms) ≡ (if text_eq q k then Some v else member_at q ms)
put_found q k v ms = go (text_eq q k) refl
  where
    go : (b : Bool) → text_eq q k ≡ b
        → member_at q (put_member k v ms) ≡ (if text_eq q k then Some v else member_at q ms)
    go true e =
        let same : q ≡ k = (bytes_eq-Decides q k).0 e in
        subst (λ x. member_at q (put_member x v ms) ≡ Some v) same (put_here q v ms)
        ∙ ap (λ b. if b then Some v else member_at q ms) (sym e)
    go false e = put_elsewhere q k v ms e ∙ ap (λ b. if b then Some v else member_at q ms) (sym e)

-- the last of a name is what is found
pub last_found : (q : Text) (es : List (Text × Json)) (ms : json.Members)
    → member_at q (put_all es ms) ≡ last_of q es (member_at q ms)
last_found q [] ms = refl
last_found q (e ∷ es) ms =
    last_found q es (put_member e.0 e.1 ms) ∙ ap (last_of q es) (put_found q e.0 e.1 ms)
