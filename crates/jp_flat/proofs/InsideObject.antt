-- The members of an object, as the tokens behind its opening brace.
use Rattle.std.proofs.Common.{◌≡◌, ℕ, suc, ◌+◌, ◌<◌, ◌≤◌, true, false, ◌&&◌, List, [], ◌∷◌, ◌++◌, map}
use Rattle.std.proofs.Common.{length, drop}
use Rattle.std.proofs.Common.{Some, refl, sym, ap, ◌∙◌, subst, arith}
use Rattle.std.proofs.Common.{append_assoc, length-append}
use Rattle.std.proofs.Common.{true≢false, lt_of_not-le}
use Rattle.std.proofs.Common as common
use Rattle.std.proofs.lemmas.List.{drop_all, length-map}
use Rattle.std.proofs.lemmas.Str.{IsUtf8-from_is_utf8}
use Rattle.std.specs.Str.{chars, is_utf8, IsUtf8}
use Rattle.json.specs.Token.{Token}
use Rattle.json.specs.Json as text
use Rattle.json.specs.Tree as tree
use Rattle.json.specs.Tree.{json_tokens, members_tokens}
use Rattle.serde_json.specs.Read.{max_depth}
use Rattle.jp_doc.specs.Json as json
use Rattle.jp_doc.specs.Json.{Text, Json}
use Rattle.jp_flat.specs.Document.{document_tokens}
use Rattle.jp_flat.specs.Flat.{value_at}
use Rattle.jp_flat_nodes.specs.Nodes.{Source, source, token_at, tokens_at}
use Rattle.jp_flat_nodes.specs.declared.node.FlatNode.{FlatNode}
use Rattle.jp_flat_nodes.specs.declared.node.FlatNode.TheVariants.{Object}
use Rattle.jp_doc.specs.Reading.{max_line}
use Rattle.jp_flat.specs.inner.Held.{IsNoKey}
use Rattle.jp_flat.specs.inner.Plain.{is_flat, is_fit, members_are_fit}
use Rattle.jp_flat.specs.Members.{entries_of, entries_read, entries_at, put_all}
use Rattle.jp_flat.specs.Value.{members_value, entries}
use Rattle.jp_flat.specs.declared.value.FlatMembers.{FlatMembers}
use Rattle.jp_flat.proofs.Entries.{all_put}
use Rattle.jp_flat.proofs.Numbers.{both}
use Rattle.jp_flat.proofs.PlainTokens.{some_token}
use Rattle.jp_flat.proofs.Reading.{Flat, flat_of, flat_is, read_of_flat, value_is}
use Rattle.jp_flat.proofs.Shapes.{shape}

-- the tokens begin with the members of an object, and its closing brace
pub record InMembers (ts : List Token) : Type 0 where
  pub source : text.Members
  pub rest : List Token
  pub spelled : ts ≡ members_tokens source ++ rest
  pub nests : suc (tree.members_depth source) ≤ 127
  pub few : suc (length (members_tokens source)) ≤ max_line
  pub fit : members_are_fit source ≡ true

object_inside : (ts : List Token) (f : Flat (Token.begin_object ∷ ts)) (ms : text.Members)
    → f.source ≡ text.object ms → InMembers ts
object_inside ts f ms e = record {
  source = ms;
  rest = f.rest;
  spelled = ap (drop 1) (f.spelled ∙ ap (λ j. json_tokens j ++ f.rest) e);
  nests = subst (λ j. tree.depth j ≤ 127) e f.nests;
  few = subst (λ j. length (json_tokens j) ≤ max_line) e f.few;
  fit = subst (λ j. is_fit j ≡ true) e f.fit;
}

-- inside of an object
pub in_members : (ts : List Token) → is_flat (Token.begin_object ∷ ts) ≡ true → InMembers ts
in_members ts h =
    let f = flat_of (Token.begin_object ∷ ts) h in
    let sh : (ms : text.Members) × (f.source ≡ text.object ms) = shape (source [] [])
    (Object 0) ts f.source max_depth f.rest
    (read_of_flat (Token.begin_object ∷ ts) f) in
    object_inside ts f sh.0 sh.1

-- and back
object_around : (ts : List Token) → InMembers ts → Flat (Token.begin_object ∷ ts)
object_around ts i = record {
  source = text.object i.source;
  rest = i.rest;
  spelled = ap (λ l. Token.begin_object ∷ l) i.spelled;
  nests = i.nests;
  few = i.few;
  fit = i.fit;
}

entries_are : (ts : List Token) (i : InMembers ts) → entries_at ts ≡ entries_of i.source
unfolding object_around
entries_are ts i = ap entries_read (read_of_flat (Token.begin_object ∷ ts) (object_around ts i))

-- the value of an object is its members, put together
pub object_value : (ts : List Token) → is_flat (Token.begin_object ∷ ts) ≡ true
    → value_at (Token.begin_object ∷ ts) ≡ json.object (put_all (entries_at ts) json.no_members)
unfolding object_around
object_value ts h =
    let i = in_members ts h in
    value_is (Token.begin_object ∷ ts) (object_around ts i)
    ∙ ap json.object (all_put i.source json.no_members
    ∙ ap (λ es. put_all es json.no_members) (sym (entries_are ts i)))

-- the same of members that are left
pub members_are : (m : FlatMembers) → members_value m ≡ json.object (put_all (entries m) json.no_members)
members_are m = object_value (drop m.at (document_tokens m.document.now)) m.flat

-- ---- by the nodes

first_member : (ts : List Token) (i : InMembers ts) (k : List ℕ) (j : text.Json) (ms : text.Members)
    → i.source ≡ text.member k j ms → ts ≡ Token.key k ∷ (json_tokens j ++ (members_tokens ms ++ i.rest))
first_member ts i k j ms e =
    i.spelled ∙ ap (λ s. members_tokens s ++ i.rest) e
    ∙ ap (λ l. Token.key k ∷ l) (append_assoc (json_tokens j) (members_tokens ms) i.rest)

-- what is known where there is a member more
record OneMore (ts us : List Token) (i : InMembers ts) (k : List ℕ) : Type 0 where
  source : text.Json
  others : text.Members
  is : i.source ≡ text.member k source others
  here : us ≡ json_tokens source ++ (members_tokens others ++ i.rest)

abbrev is_end_object : Token → common.Bool
is_end_object Token.begin_object = false
is_end_object Token.end_object = true
is_end_object Token.begin_array = false
is_end_object Token.end_array = false
is_end_object (Token.key s) = false
is_end_object (Token.string s) = false
is_end_object (Token.number s) = false
is_end_object (Token.boolean b) = false
is_end_object Token.null = false
is_end_object Token.bad = false

abbrev first_ends : List Token → common.Bool
first_ends [] = false
first_ends (t ∷ ts) = is_end_object t

abbrev key_in : Token → List ℕ
key_in Token.begin_object = []
key_in Token.end_object = []
key_in Token.begin_array = []
key_in Token.end_array = []
key_in (Token.key s) = s
key_in (Token.string s) = []
key_in (Token.number s) = []
key_in (Token.boolean b) = []
key_in Token.null = []
key_in Token.bad = []

abbrev first_key : List Token → List ℕ
first_key [] = []
first_key (t ∷ ts) = key_in t

one_more : (ts us : List Token) (i : InMembers ts) (k : List ℕ) → ts ≡ Token.key k ∷ us → OneMore ts us i k
one_more ts us i k e = go i.source refl
  where
    go : (s : text.Members) → i.source ≡ s → OneMore ts us i k
    go text.no_members is =
        absurd (true≢false (sym (ap first_ends (sym e ∙ i.spelled
        ∙ ap (λ s. members_tokens s ++ i.rest) is))))
    go (text.member l j ms) is =
        let spelled = sym e ∙ first_member ts i l j ms is in
        let same : k ≡ l = ap first_key spelled in
        record {
          source = j;
          others = ms;
          is = is ∙ ap (λ x. text.member x j ms) (sym same);
          here = ap (drop 1) spelled;
        }

-- the tokens do not begin with a key
abbrev pub NoKey : List Token → Type 0
NoKey ts = (k : List ℕ) (us : List Token) → ts ≡ Token.key k ∷ us → ⊥

pub no_more : (ts : List Token) → is_flat (Token.begin_object ∷ ts) ≡ true → NoKey ts → entries_at ts ≡ []
no_more ts h none = go (in_members ts h).source refl
  where
    go : (s : text.Members) → (in_members ts h).source ≡ s → entries_at ts ≡ []
    go text.no_members is = entries_are ts (in_members ts h) ∙ ap entries_of is
    go (text.member k j ms) is = absurd (none k _ (first_member ts (in_members ts h) k j ms is))

-- an object whose first member is here, and whose others begin at the end of it
pub record SplitMember (ts us after : List Token) (k : List ℕ) : Type 0 where
  pub utf8 : IsUtf8 k
  pub flat : is_flat us ≡ true
  pub after_flat : is_flat (Token.begin_object ∷ after) ≡ true
  pub entries : entries_at ts ≡ (chars k, value_at us) ∷ entries_at after

pub split_members : (ts us after : List Token) (k : List ℕ) → is_flat (Token.begin_object ∷ ts) ≡ true
    → ts ≡ Token.key k ∷ us
    → ((depth : ℕ) (j : text.Json) (rest : List Token) → text.value depth us ≡ Some (j, rest) → rest ≡ after)
    → SplitMember ts us after k
split_members ts us after k h e link =
    let i = in_members ts h in
    let one = one_more ts us i k e in
    let sum = length-append (json_tokens one.source) (members_tokens one.others) in
    let few = subst (λ s. suc (length (members_tokens s)) ≤ max_line) one.is i.few in
    let nests = subst (λ s. suc (tree.members_depth s) ≤ 127) one.is i.nests in
    let sound = subst (λ s. members_are_fit s ≡ true) one.is i.fit in
    let a = both (is_utf8 k) _ sound in
    let b = both (is_fit one.source) _ a.1 in
    let first : Flat us = record {
      source = one.source;
      rest = members_tokens one.others ++ i.rest;
      spelled = one.here;
      nests = omega (arith, nests);
      few = omega (arith, few, sum);
      fit = b.0;
    } in
    let passed : members_tokens one.others ++ i.rest ≡ after = link max_depth one.source
    (members_tokens one.others
    ++ i.rest) (read_of_flat us first) in
    let later : InMembers after = record {
      source = one.others;
      rest = i.rest;
      spelled = sym passed;
      nests = omega (arith, nests);
      few = omega (arith, few, sum);
      fit = b.1;
    } in
    record {
      utf8 = IsUtf8-from_is_utf8 k a.0;
      flat = flat_is us first;
      after_flat = flat_is (Token.begin_object ∷ after) (object_around after later);
      entries =
          entries_are ts i ∙ ap entries_of one.is
          ∙ ap (λ v. (chars k, v) ∷ entries_of one.others) (sym (value_is us first))
          ∙ ap (λ es. (chars k, value_at us) ∷ es) (sym (entries_are after later));
    }

some_members : (ms : text.Members) (rest : List Token) → 0 < length (members_tokens ms ++ rest)
some_members text.no_members rest = omega arith
some_members (text.member k j ms) rest = omega arith

pub members_within : (bytes : Source) (ns : List FlatNode) (at : ℕ)
    → is_flat (Token.begin_object ∷ drop at (tokens_at bytes ns)) ≡ true
    → at < length ns
members_within bytes ns at h =
    let all = tokens_at bytes ns in
    let i = in_members (drop at all) h in
    lt_of_not-le (λ k.
    let none : [] ≡ members_tokens i.source ++ i.rest = sym (drop_all at all (omega
    (arith, length-map ns (token_at bytes))))
    ∙ i.spelled in
    omega (arith, ap length none, some_members i.source i.rest))

-- the value of the first member begins behind its key
pub value_within : (bytes : Source) (ns : List FlatNode) (at : ℕ) (k : List ℕ)
    → is_flat (Token.begin_object ∷ drop at (tokens_at bytes ns)) ≡ true
    → drop at (tokens_at bytes ns) ≡ Token.key k ∷ drop (at + 1) (tokens_at bytes ns) → at + 1 < length ns
value_within bytes ns at k h e =
    let all = tokens_at bytes ns in
    let i = in_members (drop at all) h in
    let one = one_more (drop at all) (drop (at + 1) all) i k e in
    lt_of_not-le (λ past.
    let none : [] ≡ json_tokens one.source ++ (members_tokens one.others ++ i.rest) =
    sym (drop_all (at + 1) all (omega (arith, past, length-map ns (token_at bytes)))) ∙ one.here in
    omega (
      arith,
      ap length none,
      length-append (json_tokens one.source)
          (members_tokens one.others ++ i.rest),
      some_token one.source,
    ))

abbrev is_key : Token → common.Bool
is_key Token.begin_object = false
is_key Token.end_object = false
is_key Token.begin_array = false
is_key Token.end_array = false
is_key (Token.key s) = true
is_key (Token.string s) = false
is_key (Token.number s) = false
is_key (Token.boolean b) = false
is_key Token.null = false
is_key Token.bad = false

abbrev first_is_key : List Token → common.Bool
first_is_key [] = false
first_is_key (t ∷ ts) = is_key t

not_key : (ts : List Token) → first_is_key ts ≡ false → NoKey ts
not_key ts h k us e = true≢false (sym (ap first_is_key e) ∙ h)

pub no_key : (t : Token) (us : List Token) → IsNoKey t → NoKey (t ∷ us)
no_key Token.begin_object us p = not_key _ refl
no_key Token.end_object us p = not_key _ refl
no_key Token.begin_array us p = not_key _ refl
no_key Token.end_array us p = not_key _ refl
no_key (Token.key s) us p = absurd (p s refl)
no_key (Token.string s) us p = not_key _ refl
no_key (Token.number s) us p = not_key _ refl
no_key (Token.boolean b) us p = not_key _ refl
no_key Token.null us p = not_key _ refl
no_key Token.bad us p = not_key _ refl
