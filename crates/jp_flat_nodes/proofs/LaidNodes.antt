-- What stands among the texts stands there still when more is put behind, and links are those of the kit.
use Rattle.std.proofs.Common.{◌≡◌, ℕ, ◌+◌, ◌-◌, ◌<◌, ◌≤◌, List, [], ◌∷◌, ◌++◌, length, map, take, drop}
use Rattle.std.proofs.Common.{get_or}
use Rattle.std.proofs.Common.{Some, None, inl, inr, ◌⊎◌, refl, sym, ap, ap₂, ◌∙◌, subst, arith}
use Rattle.std.proofs.Common.{length-append, length-drop}
use Rattle.std.proofs.lemmas.Bool.{cases_lt}
use Rattle.std.proofs.lemmas.List.{take-append-le, drop-append-le, map-append, get_or_past, get_or-map}
use Rattle.std.proofs.lemmas.List.{length-map}
use Rattle.std.proofs.Math.ListN.{get_or-append}
use Rattle.json.specs.Print.{quoted}
use Rattle.json.specs.Tape.{node_token, Linked, LinkAt, Passes}
use Rattle.json.specs.Token as token
use Rattle.json.specs.Token.{Token}
use Rattle.json.specs.declared.tape.Node as tape
use Rattle.json.specs.declared.tape.Node.TheVariants as taped
use Rattle.json.proofs.Found.{Some_inj}
use Rattle.jp_flat_nodes.specs.Nodes.{Source, source, piece, token_at, tokens_at, link_of, AreLinked}
use Rattle.jp_flat_nodes.specs.Nodes.{IsPlain, IsWithin, AreWithin}
use Rattle.jp_flat_nodes.specs.declared.node.FlatNode.{FlatNode}
use Rattle.jp_flat_nodes.specs.declared.node.FlatNode.TheVariants.{Object, EndObject, Array, EndArray, Key}
use Rattle.jp_flat_nodes.specs.declared.node.FlatNode.TheVariants.{Text, EscapedKey, Escaped}
use Rattle.jp_flat_nodes.specs.declared.node.FlatNode.TheVariants.{Number, Truth, Null}
use Rattle.jp_flat_nodes.specs.inner.Laid.{link_in, EndsWithin, IsLaid}
use Rattle.jp_flat_nodes.proofs.Growing.{within_more}

piece_stays : (text more : List ℕ) (from count : ℕ) → from + count ≤ length text
    → piece (text ++ more) from count ≡ piece text from count
piece_stays text more from count h =
    ap (take count) (drop-append-le from text more (omega arith))
    ∙ take-append-le count (drop from text) more (omega (arith, length-drop from text))

-- what is laid, in the texts alone
abbrev laid_in : List ℕ → Source
laid_in texts = source texts texts

plain_stays : (text more : List ℕ) (from count : ℕ) → IsPlain text from count
    → IsPlain (text ++ more) from count
plain_stays text more from count h = record {
  behind = h.behind;
  before = omega (arith, h.before, length-append text more);
  is = piece_stays text more (from - 1) (count + 2) (omega (arith, h.behind, h.before)) ∙ h.is
      ∙ ap quoted (sym (piece_stays text more from count (omega (arith, h.before))));
}

token_stays : (text more : List ℕ) (n : FlatNode) → IsWithin (laid_in text) n
    → token_at (laid_in (text ++ more)) n ≡ token_at (laid_in text) n
token_stays text more (Object end) h = refl
token_stays text more EndObject h = refl
token_stays text more (Array end) h = refl
token_stays text more EndArray h = refl
token_stays text more (Key from count) h =
    ap token.key (piece_stays text more from count (omega (arith, h.0.before)))
token_stays text more (Text from count) h =
    ap token.string (piece_stays text more from count (omega (arith, h.before)))
token_stays text more (EscapedKey from count) h = ap token.key (piece_stays text more from count h)
token_stays text more (Escaped from count) h = ap token.string (piece_stays text more from count h)
token_stays text more (Number from count) h = ap token.number (piece_stays text more from count h)
token_stays text more (Truth b) h = refl
token_stays text more Null h = refl

tokens_stay : (text more : List ℕ) (ns : List FlatNode) → AreWithin (laid_in text) ns
    → tokens_at (laid_in (text ++ more)) ns ≡ tokens_at (laid_in text) ns
tokens_stay text more [] h = refl
tokens_stay text more (n ∷ ns) h =
    ap₂ (λ t ts. t ∷ ts) (token_stays text more n h.0) (tokens_stay text more ns h.1)

colon_inside : (text : List ℕ) (i : ℕ) → get_or text i 0 ≡ 58 → i < length text
colon_inside text i e = go (cases_lt i (length text))
  where
    go : (i < length text) ⊎ (length text ≤ i) → i < length text
    go (inl lt) = lt
    go (inr ge) = absurd (omega (arith, e, get_or_past text i 0 ge))

stays_within : (text more : List ℕ) (n : FlatNode) → IsWithin (laid_in text) n
    → IsWithin (laid_in (text ++ more)) n
stays_within text more (Object end) h = tt
stays_within text more EndObject h = tt
stays_within text more (Array end) h = tt
stays_within text more EndArray h = tt
stays_within text more (Key from count) h = (
  plain_stays text more from count h.0,
  get_or-append text more 0 (from + count + 1) (colon_inside text (from + count + 1) h.1) ∙ h.1,
)
stays_within text more (Text from count) h = plain_stays text more from count h
stays_within text more (EscapedKey from count) h = omega (arith, h, length-append text more)
stays_within text more (Escaped from count) h = omega (arith, h, length-append text more)
stays_within text more (Number from count) h = omega (arith, h, length-append text more)
stays_within text more (Truth b) h = tt
stays_within text more Null h = tt

all_stay_within : (text more : List ℕ) (ns : List FlatNode) → AreWithin (laid_in text) ns
    → AreWithin (laid_in (text ++ more)) ns
all_stay_within text more [] h = tt
all_stay_within text more (n ∷ ns) h = (stays_within text more n h.0, all_stay_within text more ns h.1)

-- so many of the kit's nodes are laid
pub record LaidSoFar (texts : List ℕ) (done : List tape.Node) (nodes : List FlatNode) : Type 0 where
  pub tokens : tokens_at (source texts texts) nodes ≡ map node_token done
  pub links : map link_of nodes ≡ map link_in done
  pub within : AreWithin (source texts texts) nodes

pub none_laid : (texts : List ℕ) (nodes : List FlatNode) → nodes ≡ [] → LaidSoFar texts [] nodes
none_laid texts nodes e = record {
  tokens = ap (tokens_at (laid_in texts)) e;
  links = ap (map link_of) e;
  within = subst (AreWithin (laid_in texts)) (sym e) tt;
}

-- one more
pub one_laid : (old new : List ℕ) (done all : List tape.Node) (nodes more : List FlatNode) (n : tape.Node)
    (own : FlatNode)
    → LaidSoFar old done nodes → IsLaid old new n own → more ≡ nodes ++ (own ∷ []) → all ≡ done ++ (n ∷ [])
    → LaidSoFar new all more
one_laid old new done all nodes more n own s is made next =
    let stay : tokens_at (laid_in new) nodes ≡ map node_token done =
    ap (λ l. tokens_at (laid_in l) nodes) is.behind
    ∙ tokens_stay old is.more nodes s.within ∙ s.tokens in
    record {
      tokens = ap (tokens_at (laid_in new)) made ∙ map-append (token_at (laid_in new)) nodes (own ∷ [])
          ∙ ap₂ (λ l t. l ++ (t ∷ [])) stay is.token ∙ sym (map-append node_token done (n ∷ []))
          ∙ ap (map node_token) (sym next);
      links = ap (map link_of) made ∙ map-append link_of nodes (own ∷ [])
          ∙ ap₂ (λ l t. l ++ (t ∷ [])) s.links is.link ∙ sym (map-append link_in done (n ∷ []))
          ∙ ap (map link_in) (sym next);
      within = subst (AreWithin (laid_in new)) (sym made) (within_more (laid_in new) nodes own
          (subst (λ l. AreWithin (laid_in l) nodes) (sym is.behind)
          (all_stay_within old is.more nodes s.within)) is.within);
    }

-- ---- links

no_link : (end : ℕ) (P : Type 0) → None ≡ Some end → P
no_link end P e = absurd (cc)

passes : (all : List Token) (i : ℕ) (n : tape.Node) (end : ℕ) → LinkAt all i n → link_in n ≡ Some end
    → Passes all i end
passes all i (taped.Object a) end h e = subst (Passes all i) (Some_inj a end e) h
passes all i taped.EndObject end h e = no_link end _ e
passes all i (taped.Array a) end h e = subst (Passes all i) (Some_inj a end e) h
passes all i taped.EndArray end h e = no_link end _ e
passes all i (taped.Key s) end h e = no_link end _ e
passes all i (taped.String s) end h e = no_link end _ e
passes all i (taped.Number s) end h e = no_link end _ e
passes all i (taped.Bool b) end h e = no_link end _ e
passes all i taped.Null end h e = no_link end _ e

pub all_linked : (all : List Token) (nodes : List FlatNode) (kit : List tape.Node) → Linked all 0 kit
    → map link_of nodes ≡ map link_in kit → AreLinked all nodes
all_linked all nodes kit linked same i end e = go (cases_lt i (length nodes))
  where
    count : length nodes ≡ length kit
    count = sym (length-map nodes link_of) ∙ ap length same ∙ length-map kit link_in

    go : (i < length nodes) ⊎ (length nodes ≤ i) → Passes all i end
    go (inl lt) =
        passes all i (get_or kit i taped.Null) end (linked i (omega arith) (omega (arith, count)))
        (sym (get_or-map link_in kit i taped.Null None (omega (arith, count)))
        ∙ ap (λ l. get_or l i None) (sym same) ∙ get_or-map link_of nodes i Null None lt ∙ e)
    go (inr ge) = no_link end _ (sym (ap link_of (get_or_past nodes i Null ge)) ∙ e)

at_most : (all : List Token) (i most : ℕ) (n : tape.Node) → LinkAt all i n → length all ≤ most
    → EndsWithin most n
at_most all i most (taped.Object a) h le = omega (arith, h.3)
at_most all i most taped.EndObject h le = tt
at_most all i most (taped.Array a) h le = omega (arith, h.3)
at_most all i most taped.EndArray h le = tt
at_most all i most (taped.Key s) h le = tt
at_most all i most (taped.String s) h le = tt
at_most all i most (taped.Number s) h le = tt
at_most all i most (taped.Bool b) h le = tt
at_most all i most taped.Null h le = tt

pub ends_within : (kit : List tape.Node) (i most : ℕ) → Linked (map node_token kit) 0 kit → i < length kit
    → length kit ≤ most → EndsWithin most (get_or kit i taped.Null)
ends_within kit i most linked lt few =
    at_most (map node_token kit) i most (get_or kit i taped.Null) (linked i (omega arith) lt)
    (omega (arith, length-map kit node_token))
