-- A member that is put among others keeps the names in rising order.
use Rattle.std.proofs.Common.{◌≡◌, ℕ, List, Ordering, Less, Equal, Greater, nat_cmp, refl, ap, ◌∙◌}
use Rattle.std.proofs.lemmas.Cmp.{nat_list_cmp_total}
use Rattle.std.proofs.lemmas.Str.{encodes-chars}
use Rattle.std.specs.Cmp.Lexicographic.{slice_cmp}
use Rattle.std.specs.Ordering.{match_ordering, ordering_reverse}
use Rattle.std.specs.Str.{chars, IsUtf8}
use Rattle.serde_json.specs.Data.{Data, Members, no_members, member, put}
use Rattle.jp_doc.specs.Json.{json_of, members_of}
use Rattle.jp_doc.specs.Rising.{IsTextBelow, IsBelow, IsRising, MembersRise, NamesAreUtf8}

text_below : (k l : List ℕ) → IsUtf8 k → IsUtf8 l → slice_cmp nat_cmp k l ≡ Less
    → IsTextBelow (chars k) (chars l)
text_below k l u v h = rw (encodes-chars k u, encodes-chars l v) h

below_at : (o : Ordering) (m k l : List ℕ) (d e : Data) (ms : Members) → IsTextBelow (chars m) (chars k)
    → IsTextBelow (chars m) (chars l)
    → IsBelow (chars m) (members_of (match_ordering o (member k d (member l e ms)) (member l d ms)
    (member l e (put k d ms))))
below_at Less m k l d e ms p q = p
below_at Equal m k l d e ms p q = q
below_at Greater m k l d e ms p q = q

below_put : (m k : List ℕ) (d : Data) (ms : Members) → IsTextBelow (chars m) (chars k)
    → IsBelow (chars m) (members_of ms) → IsBelow (chars m) (members_of (put k d ms))
below_put m k d no_members p q = p
below_put m k d (member l e ms) p q = below_at (slice_cmp nat_cmp k l) m k l d e ms p q

rise_at : (o : Ordering) (k l : List ℕ) (d e : Data) (ms : Members) → slice_cmp nat_cmp k l ≡ o → IsUtf8 k
    → IsUtf8 l
    → IsRising (json_of d) → MembersRise (members_of (member l e ms)) → MembersRise (members_of (put k d ms))
    → MembersRise (members_of (match_ordering o (member k d (member l e ms)) (member l d ms)
    (member l e (put k d ms))))
rise_at Less k l d e ms is u v p q later = (p, text_below k l u v is, q)
rise_at Equal k l d e ms is u v p q later = (p, q.1, q.2)
rise_at Greater k l d e ms is u v p q later = (
  q.0,
  below_put l k d ms (text_below l k v u (nat_list_cmp_total.antisymm l k ∙ ap ordering_reverse is))
      q.1,
  later,
)

pub rise_put : (k : List ℕ) (d : Data) (ms : Members) → IsUtf8 k → NamesAreUtf8 ms → IsRising (json_of d)
    → MembersRise (members_of ms) → MembersRise (members_of (put k d ms))
rise_put k d no_members u v p q = (p, tt, tt)
rise_put k d (member l e ms) u v p q = rise_at (slice_cmp nat_cmp k l) k l d e ms refl u v.0 p q
    (rise_put k d ms u v.1 p q.2)

utf8_at : (o : Ordering) (k l : List ℕ) (d e : Data) (ms : Members) → IsUtf8 k → NamesAreUtf8 (member l e ms)
    → NamesAreUtf8 (put k d ms)
    → NamesAreUtf8 (match_ordering o (member k d (member l e ms)) (member l d ms) (member l e (put k d ms)))
utf8_at Less k l d e ms u v later = (u, v)
utf8_at Equal k l d e ms u v later = v
utf8_at Greater k l d e ms u v later = (v.0, later)

pub utf8_put : (k : List ℕ) (d : Data) (ms : Members) → IsUtf8 k → NamesAreUtf8 ms → NamesAreUtf8 (put k d ms)
utf8_put k d no_members u v = (u, tt)
utf8_put k d (member l e ms) u v = utf8_at (slice_cmp nat_cmp k l) k l d e ms u v (utf8_put k d ms u v.1)
