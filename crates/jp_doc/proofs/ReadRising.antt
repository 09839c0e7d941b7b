-- The names in what the JSON crate reads rise.
use Rattle.std.proofs.Common.{◌≡◌, ℕ, List, Option, Some, None, IfSome, option_map, option_and_then, Ordering}
use Rattle.std.proofs.Common.{Less, Equal, Greater, nat_cmp, refl, ap, ◌∙◌, subst}
use Rattle.std.proofs.lemmas.Cmp.{nat_list_cmp_total}
use Rattle.std.proofs.lemmas.Str.{encodes-chars}
use Rattle.std.specs.Cmp.Lexicographic.{slice_cmp}
use Rattle.std.specs.Ordering.{match_ordering, ordering_reverse}
use Rattle.std.specs.Str.{chars, IsUtf8}
use Rattle.json.specs.Json as text
use Rattle.json.specs.Lex.{tokens}
use Rattle.serde_json.specs.Data.{Data, null, boolean, number, string, array, object, Items, no_items, item}
use Rattle.serde_json.specs.Data.{Members, no_members, member, put}
use Rattle.serde_json.specs.Read.{number_of, of_json, of_items, of_members, read, max_depth}
use Rattle.jp_doc.specs.Json.{json_of, items_of, members_of}
use Rattle.jp_doc.specs.Rising.{IsBelow, IsTextBelow, IsRising, ItemsRise, MembersRise}
use Rattle.jp_doc.proofs.TextLaws.{IsOfValue, ItemsAreOfValue, MembersAreOfValue}

-- the name of the first member, if there is one, is above this one by its bytes
abbrev BytesBelow : List ℕ → Members → Type 0
BytesBelow k no_members = Unit {0}
BytesBelow k (member l d ms) = slice_cmp nat_cmp k l ≡ Less

-- names rise by their bytes at every level
abbrev mutual
  BytesRise : Data → Type 0
  BytesRise null = Unit {0}
  BytesRise (boolean b) = Unit {0}
  BytesRise (number n) = Unit {0}
  BytesRise (string s) = Unit {0}
  BytesRise (array ds) = ItemBytesRise ds
  BytesRise (object ms) = MemberBytesRise ms

  ItemBytesRise : Items → Type 0
  ItemBytesRise no_items = Unit {0}
  ItemBytesRise (item d ds) = BytesRise d × ItemBytesRise ds

  MemberBytesRise : Members → Type 0
  MemberBytesRise no_members = Unit {0}
  MemberBytesRise (member k d ms) = BytesRise d × BytesBelow k ms × MemberBytesRise ms

below_at : (o : Ordering) (m k l : List ℕ) (d e : Data) (ms : Members) → slice_cmp nat_cmp m k ≡ Less
    → slice_cmp nat_cmp m l ≡ Less
    → BytesBelow m (match_ordering o (member k d (member l e ms)) (member l d ms) (member l e (put k d ms)))
below_at Less m k l d e ms p q = p
below_at Equal m k l d e ms p q = q
below_at Greater m k l d e ms p q = q

below_put : (m k : List ℕ) (d : Data) (ms : Members) → slice_cmp nat_cmp m k ≡ Less → BytesBelow m ms
    → BytesBelow m (put k d ms)
below_put m k d no_members p q = p
below_put m k d (member l e ms) p q = below_at (slice_cmp nat_cmp k l) m k l d e ms p q

rise_at : (o : Ordering) (k l : List ℕ) (d e : Data) (ms : Members) → slice_cmp nat_cmp k l ≡ o → BytesRise d
    → MemberBytesRise (member l e ms) → MemberBytesRise (put k d ms)
    → MemberBytesRise (match_ordering o (member k d (member l e ms)) (member l d ms)
    (member l e (put k d ms)))
rise_at Less k l d e ms is p q later = (p, is, q)
rise_at Equal k l d e ms is p q later = (p, q.1, q.2)
rise_at Greater k l d e ms is p q later =
    (q.0, below_put l k d ms (nat_list_cmp_total.antisymm l k ∙ ap ordering_reverse is) q.1, later)

rise_put : (k : List ℕ) (d : Data) (ms : Members) → BytesRise d → MemberBytesRise ms
    → MemberBytesRise (put k d ms)
rise_put k d no_members p q = (p, tt, tt)
rise_put k d (member l e ms) p q = rise_at (slice_cmp nat_cmp k l) k l d e ms refl p q (rise_put k d ms p q.2)

mapped : {X Y : Type 0} (f : X → Y) (P : X → Type 0) (Q : Y → Type 0) → ((x : X) → P x → Q (f x))
    → (o : Option X) → IfSome o P → IfSome (option_map f o) Q
mapped f P Q h None p = tt
mapped f P Q h (Some x) p = h x p

followed : {X Y : Type 0} (f : X → Option Y) (P : X → Type 0) (Q : Y → Type 0)
    → ((x : X) → P x → IfSome (f x) Q) → (o : Option X) → IfSome o P → IfSome (option_and_then f o) Q
followed f P Q h None p = tt
followed f P Q h (Some x) p = h x p

always : {X : Type 0} (o : Option X) → IfSome o (λ _. Unit {0})
always None = tt
always (Some x) = tt

mutual
  rises : (t : text.Json) → IfSome (of_json t) BytesRise
  rises text.null = tt
  rises (text.boolean b) = tt
  rises (text.number s) = mapped number (λ _. Unit {0}) BytesRise (λ _ _. tt) (number_of s)
      (always (number_of s))
  rises (text.string s) = tt
  rises (text.array ts) = mapped array ItemBytesRise BytesRise (λ _ p. p) (of_items ts) (items_rise ts)
  rises (text.object ms) = mapped object MemberBytesRise BytesRise (λ _ p. p) (of_members ms no_members)
      (members_rise ms no_members tt)

  items_rise : (ts : text.Items) → IfSome (of_items ts) ItemBytesRise
  items_rise text.no_items = tt
  items_rise (text.item t ts) =
      followed (λ d. option_map (item d) (of_items ts)) BytesRise ItemBytesRise
      (λ d p. mapped (item d) ItemBytesRise ItemBytesRise (λ _ q. (p, q)) (of_items ts) (items_rise ts))
      (of_json t) (rises t)

  members_rise : (ms : text.Members) (found : Members) → MemberBytesRise found
      → IfSome (of_members ms found) MemberBytesRise
  members_rise text.no_members found p = p
  members_rise (text.member k t ms) found p =
      followed (λ d. of_members ms (put k d found)) BytesRise MemberBytesRise
      (λ d q. members_rise ms (put k d found) (rise_put k d found q p)) (of_json t) (rises t)

rising_read : (line : List ℕ) → IfSome (read line) BytesRise
rising_read line =
    let whole : Option text.Json = option_and_then (λ p. text.if_last p.0 p.1)
    (text.value max_depth (tokens line)) in
    followed of_json (λ _. Unit {0}) BytesRise (λ t _. rises t) whole (always whole)

-- by scalar values, as by the bytes that spell them

text_below : (k l : List ℕ) → IsUtf8 k → IsUtf8 l → slice_cmp nat_cmp k l ≡ Less
    → IsTextBelow (chars k) (chars l)
text_below k l u v h = rw (encodes-chars k u, encodes-chars l v) h

texts_below : (k : List ℕ) (ms : Members) → IsUtf8 k → MembersAreOfValue ms → BytesBelow k ms
    → IsBelow (chars k) (members_of ms)
texts_below k no_members u v p = tt
texts_below k (member l d ms) u v p = text_below k l u v.0 p

mutual
  texts_rise : (d : Data) → IsOfValue d → BytesRise d → IsRising (json_of d)
  texts_rise null u p = tt
  texts_rise (boolean b) u p = tt
  texts_rise (number n) u p = tt
  texts_rise (string s) u p = tt
  texts_rise (array ds) u p = item_texts_rise ds u p
  texts_rise (object ms) u p = member_texts_rise ms u p

  item_texts_rise : (ds : Items) → ItemsAreOfValue ds → ItemBytesRise ds → ItemsRise (items_of ds)
  item_texts_rise no_items u p = tt
  item_texts_rise (item d ds) u p = (texts_rise d u.0 p.0, item_texts_rise ds u.1 p.1)

  member_texts_rise : (ms : Members) → MembersAreOfValue ms → MemberBytesRise ms → MembersRise (members_of ms)
  member_texts_rise no_members u p = tt
  member_texts_rise (member k d ms) u p =
      (texts_rise d u.1 p.0, texts_below k ms u.0 u.2 p.1, member_texts_rise ms u.2 p.2)

pub read_rises : (line : List ℕ) (d : Data) → read line ≡ Some d → IsOfValue d → IsRising (json_of d)
read_rises line d e u = texts_rise d u (subst (λ o. IfSome o BytesRise) e (rising_read line))
