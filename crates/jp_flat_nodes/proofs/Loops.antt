-- Items and members that are read one after another.
use Rattle.std.proofs.Common.{◌≡◌, ℕ, ◌+◌, ◌<◌, ◌≤◌, Bool, true, false, List, [], ◌∷◌, ◌++◌, length}
use Rattle.std.proofs.Common.{drop, get_or, set, refl, sym, ap, ◌∙◌, subst, arith, append_assoc}
use Rattle.std.proofs.Common.{append-nil}
use Rattle.json.specs.Json.{Json, array, object, Items, no_items, item, Members, no_members, member}
use Rattle.json.specs.Token.{Token, begin_array, end_array, begin_object, end_object, key}
use Rattle.json.specs.Tree as tree
use Rattle.json.specs.Tree.{json_tokens, items_tokens, members_tokens, HasNumbers, ItemsHaveNumbers}
use Rattle.json.specs.Tree.{MembersHaveNumbers}
use Rattle.jp_flat_nodes.specs.Nodes.{Source, source, are_taken, items_are_taken, members_are_taken}
use Rattle.jp_flat_nodes.specs.inner.Reads.{Grows, Prints, Reads, ReadsKey, ended, begin, GoesOn}
use Rattle.jp_flat_nodes.specs.inner.Reads.{ReadsOn, ReadsKeyOn}
use Rattle.jp_flat_nodes.specs.declared.node.FlatNode.{FlatNode}
use Rattle.jp_flat_nodes.specs.declared.node.FlatNodes.{FlatNodes}
use Rattle.jp_flat_nodes.specs.declared.node.FlatNode.TheVariants.{Object, EndObject, Array, EndArray}
use Rattle.jp_flat_nodes.proofs.Cuts.{Blanks, byte_then}
use Rattle.jp_flat_nodes.proofs.Digits.{both_true}
use Rattle.jp_flat_nodes.proofs.Growing.{grown_by, nothing_more, then_more, closes}
use Rattle.jp_flat_nodes.proofs.Printing.{both, one, here, behind, after_comma, ends_with, value_begins}

-- The line from `start` on is an opening bracket and these tokens, up to a value or a member that comes next,
-- which begins at `cursor`; the nodes behind the bracket's are theirs.
pub record SoFar (src : Source) (start cursor : ℕ) (bracket : Token) (opened now : List FlatNode)
    (made : List Token) : Type 0 where
  pub later : start < cursor
  pub grows : Grows src opened now made
  pub text : (end : ℕ) (ts : List Token) → begin ts ≡ true → Prints src.line false cursor end ts
      → Prints src.line false start end (bracket ∷ (made ++ ts))

-- none yet, behind the bracket
nothing_yet : (src : Source) (start cursor : ℕ) (bracket : Token) (opened : List FlatNode)
    → Prints src.line false start (start + 1) (bracket ∷ []) → ended false (bracket ∷ []) ≡ false
    → Blanks src.line (start + 1) cursor → SoFar src start cursor bracket opened opened []
nothing_yet src start cursor bracket opened first state blanks = record {
  later = omega (arith, blanks.later);
  grows = nothing_more src opened;
  text = λ end ts some p. both src.line false start (start + 1) end (bracket ∷ []) ts first
      (subst (λ b. Prints src.line b (start + 1) end ts) (sym state)
      (behind src.line (start + 1) cursor end ts some blanks p));
}

-- these and a value more, with a comma behind it
one_more : (src : Source) (start cursor end next : ℕ) (bracket : Token) (opened now new : List FlatNode)
    (made ts : List Token) (j : Json) → SoFar src start cursor bracket opened now made
    → begin (ts ++ json_tokens j) ≡ true → cursor < end → Prints src.line false cursor end (ts ++
    json_tokens j)
    → Grows src now new (ts ++ json_tokens j) → drop end src.line ≡ 44 ∷ drop (end + 1) src.line
    → Blanks src.line (end + 1) next → SoFar src start next bracket opened new (made ++ (ts ++ json_tokens j))
one_more src start cursor end next bracket opened now new made ts j s some later text grows comma blanks =
    let more = ts ++ json_tokens j in
    record {
      later = omega (arith, s.later, later, blanks.later);
      grows = then_more src opened now new made more s.grows grows;
      text = λ stop us begun p. both src.line false start end stop (bracket ∷ (made ++ more)) us
          (s.text end more some text)
          (subst (λ b. Prints src.line b end stop us)
          (sym (ap (ended false) (ap (λ l. bracket ∷ l) (sym (append_assoc made ts (json_tokens j))))
          ∙ ends_with false (bracket ∷ (made ++ ts)) j))
          (after_comma src.line end (end + 1) stop us begun comma
          (behind src.line (end + 1) next stop us begun blanks p)));
    }

-- the whole text, with a value more and the closing bracket
all_text : (src : Source) (start cursor end stop : ℕ) (bracket last : Token) (opened now : List FlatNode)
    (made ts : List Token) (j : Json) → SoFar src start cursor bracket opened now made
    → begin (ts ++ json_tokens j) ≡ true → Prints src.line false cursor end (ts ++ json_tokens j)
    → Prints src.line true end stop (last ∷ [])
    → Prints src.line false start stop (bracket ∷ ((made ++ (ts ++ json_tokens j)) ++ (last ∷ [])))
all_text src start cursor end stop bracket last opened now made ts j s some text closing =
    let more = ts ++ json_tokens j in
    both src.line false start end stop (bracket ∷ (made ++ more)) (last ∷ []) (s.text end more some text)
    (subst (λ b. Prints src.line b end stop (last ∷ []))
    (sym (ap (ended false) (ap (λ l. bracket ∷ l) (sym (append_assoc made ts (json_tokens j))))
    ∙ ends_with false (bracket ∷ (made ++ ts)) j)) closing)

-- ---- items

pub record ItemsSoFar (src : Source) (decimals : Bool) (start cursor depth : ℕ)
    (opened now : List FlatNode) : Type 0 where
  pub made : List Token
  pub so_far : SoFar src start cursor begin_array opened now made
  pub whole : Items → Items
  pub tokens : (js : Items) → made ++ items_tokens js ≡ items_tokens (whole js)
  pub nests : (js : Items) → tree.items_depth js ≤ depth → tree.items_depth (whole js) ≤ depth
  pub numbers : (js : Items) → ItemsHaveNumbers js → ItemsHaveNumbers (whole js)
  pub short : (js : Items) → items_are_taken decimals js ≡ true → items_are_taken decimals (whole js) ≡ true

pub items_begin : (src : Source) (decimals : Bool) (start cursor depth : ℕ) (opened : List FlatNode)
    → start < length src.line → get_or src.line start 0 ≡ 91 → Blanks src.line (start + 1) cursor
    → ItemsSoFar src decimals start cursor depth opened opened
items_begin src decimals start cursor depth opened inside byte blanks = record {
  made = [];
  so_far = nothing_yet src start cursor begin_array opened
      (here src.line false start (start + 1) begin_array _ refl refl (byte_then src.line start 91 inside
      byte))
      refl blanks;
  whole = λ js. js;
  tokens = λ js. refl;
  nests = λ js h. h;
  numbers = λ js h. h;
  short = λ js h. h;
}

pub items_more : (src : Source) (decimals : Bool) (start cursor end next depth : ℕ)
    (opened now new : List FlatNode)
    → ItemsSoFar src decimals start cursor depth opened now → Reads src decimals cursor end depth now new
    → drop end src.line ≡ 44 ∷ drop (end + 1) src.line → Blanks src.line (end + 1) next
    → ItemsSoFar src decimals start next depth opened new
items_more src decimals start cursor end next depth opened now new s v comma blanks = record {
  made = s.made ++ json_tokens v.value;
  so_far = one_more src start cursor end next begin_array opened now new s.made [] v.value s.so_far
      (value_begins v.value) v.later v.text v.grows comma blanks;
  whole = λ js. s.whole (item v.value js);
  tokens = λ js. append_assoc s.made (json_tokens v.value) (items_tokens js) ∙ s.tokens (item v.value js);
  nests = λ js h. s.nests (item v.value js) (omega (arith, v.nests));
  numbers = λ js h. s.numbers (item v.value js) (v.numbers, h);
  short = λ js h. s.short (item v.value js) (both_true _ _ v.taken h);
}

-- the array of no items
pub no_items_close : (src : Source) (decimals : Bool) (start cursor depth : ℕ)
    (old opened final : List FlatNode) (place : ℕ)
    → start < length src.line → get_or src.line start 0 ≡ 91 → Blanks src.line (start + 1) cursor
    → cursor < length src.line → get_or src.line cursor 0 ≡ 93
    → place ≡ length old → opened ≡ old ++ (Array 0 ∷ [])
    → final ≡ set (opened ++ (EndArray ∷ [])) place (Array (length opened + 1))
    → Reads src decimals start (cursor + 1) (depth + 1) old final
no_items_close src decimals start cursor depth old opened final place inside byte blanks within closing at
    begun made =
    let text = both src.line false start (start + 1) (cursor + 1) (begin_array ∷ []) (end_array ∷ [])
    (here src.line false start (start + 1) begin_array _ refl refl (byte_then src.line start 91 inside byte))
    (one src.line false (start + 1) cursor (cursor + 1) end_array _ refl refl blanks
    (byte_then src.line cursor 93 within closing)) in
    record {
      value = array no_items;
      later = omega (arith, blanks.later);
      numbers = tt;
      taken = refl;
      nests = omega arith;
      text = text;
      grows = closes src old opened opened final place (array no_items) (record {
        first = Array 0;
        linked = Array (length opened + 1);
        last = EndArray;
        inner = [];
        begun = begun;
        at = at;
        grows = nothing_more src opened;
        made = made;
        same = refl;
        whole = refl;
        link = refl;
        none = refl;
        within = (tt, tt, tt);
      });
    }

pub items_close : (src : Source) (decimals : Bool) (start cursor end stop depth : ℕ)
    (old opened now new final : List FlatNode)
    (place : ℕ) → ItemsSoFar src decimals start cursor depth opened now
    → Reads src decimals cursor end depth now new
    → Blanks src.line end stop → stop < length src.line → get_or src.line stop 0 ≡ 93
    → place ≡ length old → opened ≡ old ++ (Array 0 ∷ [])
    → final ≡ set (new ++ (EndArray ∷ [])) place (Array (length new + 1))
    → Reads src decimals start (stop + 1) (depth + 1) old final
items_close src decimals start cursor end stop depth old opened now new final place s v blanks within
    closing at begun
    made =
    let js = s.whole (item v.value no_items) in
    let inner = s.made ++ json_tokens v.value in
    let tokens : inner ++ (end_array ∷ []) ≡ items_tokens js =
    append_assoc s.made (json_tokens v.value) (end_array ∷ []) ∙ s.tokens (item v.value no_items) in
    let text = all_text src start cursor end (stop + 1) begin_array end_array opened now s.made [] v.value
    s.so_far (value_begins v.value) v.text
    (one src.line true end stop (stop + 1) end_array _ refl refl blanks (byte_then src.line stop 93 within
    closing)) in
    record {
      value = array js;
      later = omega (arith, s.so_far.later, v.later, blanks.later);
      numbers = s.numbers (item v.value no_items) (v.numbers, tt);
      taken = s.short (item v.value no_items) (both_true _ _ v.taken refl);
      nests = omega (arith, s.nests (item v.value no_items) (omega (arith, v.nests)));
      text = subst (λ ts. Prints src.line false start (stop + 1) (begin_array ∷ ts)) tokens text;
      grows = closes src old opened new final place (array js) (record {
        first = Array 0;
        linked = Array (length new + 1);
        last = EndArray;
        inner = inner;
        begun = begun;
        at = at;
        grows = then_more src opened now new s.made (json_tokens v.value) s.so_far.grows v.grows;
        made = made;
        same = refl;
        whole = ap (λ ts. begin_array ∷ ts) (sym tokens);
        link = refl;
        none = refl;
        within = (tt, tt, tt);
      });
    }

-- ---- members

pub record MembersSoFar (src : Source) (decimals : Bool) (start cursor depth : ℕ)
    (opened now : List FlatNode) : Type 0 where
  pub made : List Token
  pub so_far : SoFar src start cursor begin_object opened now made
  pub whole : Members → Members
  pub tokens : (ms : Members) → made ++ members_tokens ms ≡ members_tokens (whole ms)
  pub nests : (ms : Members) → tree.members_depth ms ≤ depth → tree.members_depth (whole ms) ≤ depth
  pub numbers : (ms : Members) → MembersHaveNumbers ms → MembersHaveNumbers (whole ms)
  pub short : (ms : Members) → members_are_taken decimals ms ≡ true
      → members_are_taken decimals (whole ms) ≡ true

pub members_begin : (src : Source) (decimals : Bool) (start cursor depth : ℕ) (opened : List FlatNode)
    → start < length src.line → get_or src.line start 0 ≡ 123 → Blanks src.line (start + 1) cursor
    → MembersSoFar src decimals start cursor depth opened opened
members_begin src decimals start cursor depth opened inside byte blanks = record {
  made = [];
  so_far = nothing_yet src start cursor begin_object opened
      (here src.line false start (start + 1) begin_object _ refl refl
      (byte_then src.line start 123 inside byte)) refl blanks;
  whole = λ ms. ms;
  tokens = λ ms. refl;
  nests = λ ms h. h;
  numbers = λ ms h. h;
  short = λ ms h. h;
}

-- a name and its value
pub record ReadsMember (src : Source) (decimals : Bool) (at end depth : ℕ)
    (old new : List FlatNode) : Type 0 where
  pub name : List ℕ
  pub value : Json
  pub later : at < end
  pub numbers : HasNumbers value
  pub short : are_taken decimals value ≡ true
  pub nests : tree.depth value ≤ depth
  pub text : Prints src.line false at end (key name ∷ json_tokens value)
  pub grows : Grows src old new (key name ∷ json_tokens value)

pub member_read : (src : Source) (decimals : Bool) (at inside from end depth : ℕ)
    (old mid new : List FlatNode)
    → ReadsKey src at inside old mid → Blanks src.line inside from → Reads src decimals from end depth mid new
    → ReadsMember src decimals at end depth old new
member_read src decimals at inside from end depth old mid new k blanks v = record {
  name = k.name;
  value = v.value;
  later = omega (arith, k.later, blanks.later, v.later);
  numbers = v.numbers;
  short = v.taken;
  nests = v.nests;
  text = both src.line false at inside end (key k.name ∷ []) (json_tokens v.value) k.text
      (behind src.line inside from end (json_tokens v.value) (value_begins v.value) blanks v.text);
  grows = then_more src old mid new (key k.name ∷ []) (json_tokens v.value) k.grows v.grows;
}

pub members_more : (src : Source) (decimals : Bool) (start cursor end next depth : ℕ)
    (opened now new : List FlatNode)
    → MembersSoFar src decimals start cursor depth opened now
    → ReadsMember src decimals cursor end depth now new
    → drop end src.line ≡ 44 ∷ drop (end + 1) src.line → Blanks src.line (end + 1) next
    → MembersSoFar src decimals start next depth opened new
members_more src decimals start cursor end next depth opened now new s m comma blanks =
    let more = key m.name ∷ json_tokens m.value in
    record {
      made = s.made ++ more;
      so_far = one_more src start cursor end next begin_object opened now new s.made
          (key m.name ∷ []) m.value
          s.so_far refl m.later m.text m.grows comma blanks;
      whole = λ ms. s.whole (member m.name m.value ms);
      tokens = λ ms. append_assoc s.made more (members_tokens ms) ∙ s.tokens (member m.name m.value ms);
      nests = λ ms h. s.nests (member m.name m.value ms) (omega (arith, m.nests));
      numbers = λ ms h. s.numbers (member m.name m.value ms) (m.numbers, h);
      short = λ ms h. s.short (member m.name m.value ms) (both_true _ _ m.short h);
    }

-- the object of no members
pub no_members_close : (src : Source) (decimals : Bool) (start cursor depth : ℕ)
    (old opened final : List FlatNode) (place : ℕ)
    → start < length src.line → get_or src.line start 0 ≡ 123 → Blanks src.line (start + 1) cursor
    → cursor < length src.line → get_or src.line cursor 0 ≡ 125
    → place ≡ length old → opened ≡ old ++ (Object 0 ∷ [])
    → final ≡ set (opened ++ (EndObject ∷ [])) place (Object (length opened + 1))
    → Reads src decimals start (cursor + 1) (depth + 1) old final
no_members_close src decimals start cursor depth old opened final place inside byte blanks within closing
    at begun made =
    let text = both src.line false start (start + 1) (cursor + 1) (begin_object ∷ []) (end_object ∷ [])
    (here src.line false start (start + 1) begin_object _ refl refl (byte_then src.line start 123 inside
    byte))
    (one src.line false (start + 1) cursor (cursor + 1) end_object _ refl refl blanks
    (byte_then src.line cursor 125 within closing)) in
    record {
      value = object no_members;
      later = omega (arith, blanks.later);
      numbers = tt;
      taken = refl;
      nests = omega arith;
      text = text;
      grows = closes src old opened opened final place (object no_members) (record {
        first = Object 0;
        linked = Object (length opened + 1);
        last = EndObject;
        inner = [];
        begun = begun;
        at = at;
        grows = nothing_more src opened;
        made = made;
        same = refl;
        whole = refl;
        link = refl;
        none = refl;
        within = (tt, tt, tt);
      });
    }

pub members_close : (src : Source) (decimals : Bool) (start cursor end stop depth : ℕ)
    (old opened now new final : List FlatNode)
    (place : ℕ) → MembersSoFar src decimals start cursor depth opened now
    → ReadsMember src decimals cursor end depth now new
    → Blanks src.line end stop → stop < length src.line → get_or src.line stop 0 ≡ 125
    → place ≡ length old → opened ≡ old ++ (Object 0 ∷ [])
    → final ≡ set (new ++ (EndObject ∷ [])) place (Object (length new + 1))
    → Reads src decimals start (stop + 1) (depth + 1) old final
members_close src decimals start cursor end stop depth old opened now new final place s m blanks within
    closing at begun
    made =
    let ms = s.whole (member m.name m.value no_members) in
    let more = key m.name ∷ json_tokens m.value in
    let tokens : (s.made ++ more) ++ (end_object ∷ []) ≡ members_tokens ms =
    append_assoc s.made more (end_object ∷ []) ∙ s.tokens (member m.name m.value no_members) in
    let text = all_text src start cursor end (stop + 1) begin_object end_object opened now s.made
    (key m.name ∷ []) m.value s.so_far refl m.text
    (one src.line true end stop (stop + 1) end_object _ refl refl blanks (byte_then src.line stop 125 within
    closing)) in
    record {
      value = object ms;
      later = omega (arith, s.so_far.later, m.later, blanks.later);
      numbers = s.numbers (member m.name m.value no_members) (m.numbers, tt);
      taken = s.short (member m.name m.value no_members) (both_true _ _ m.short refl);
      nests = omega (arith, s.nests (member m.name m.value no_members) (omega (arith, m.nests)));
      text = subst (λ ts. Prints src.line false start (stop + 1) (begin_object ∷ ts)) tokens text;
      grows = closes src old opened new final place (object ms) (record {
        first = Object 0;
        linked = Object (length new + 1);
        last = EndObject;
        inner = s.made ++ more;
        begun = begun;
        at = at;
        grows = then_more src opened now new s.made more s.so_far.grows m.grows;
        made = made;
        same = refl;
        whole = ap (λ ts. begin_object ∷ ts) (sym tokens);
        link = refl;
        none = refl;
        within = (tt, tt, tt);
      });
    }

-- ---- whatever is put behind the texts

pub none_behind : (texts : List ℕ) → GoesOn texts texts
none_behind texts = record { more = []; is = sym (append-nil texts) }

abbrev pub ItemsOn : List ℕ → Bool → ℕ → ℕ → ℕ → FlatNodes → FlatNodes → Type 0
ItemsOn line decimals start cursor depth opened now =
    (all : List ℕ) → GoesOn now.texts.items all → GoesOn opened.texts.items all
    × ItemsSoFar (source line all) decimals start cursor depth opened.nodes.items now.nodes.items

abbrev pub MembersOn : List ℕ → Bool → ℕ → ℕ → ℕ → FlatNodes → FlatNodes → Type 0
MembersOn line decimals start cursor depth opened now =
    (all : List ℕ) → GoesOn now.texts.items all → GoesOn opened.texts.items all
    × MembersSoFar (source line all) decimals start cursor depth opened.nodes.items now.nodes.items

-- the nodes that a value, or a member, has put behind others
pub value_grown : (line : List ℕ) (decimals : Bool) (at end depth : ℕ) (old new : FlatNodes)
    → ReadsOn line decimals at end depth old new → length old.nodes.items ≤ length new.nodes.items
value_grown line decimals at end depth old new v =
    let r = v new.texts.items (none_behind new.texts.items) in
    omega (arith, grown_by (source line new.texts.items) old.nodes.items new.nodes.items _ r.1.grows)

pub key_grown : (line : List ℕ) (at end : ℕ) (old new : FlatNodes) → ReadsKeyOn line at end old new
    → length old.nodes.items ≤ length new.nodes.items
key_grown line at end old new k =
    let r = k new.texts.items (none_behind new.texts.items) in
    omega (arith, grown_by (source line new.texts.items) old.nodes.items new.nodes.items _ r.1.grows)
