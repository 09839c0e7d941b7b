-- Nodes that are put behind others, and the closing of an array or object.
use Rattle.std.proofs.Common.{◌≡◌, ℕ, zero, suc, ◌+◌, ◌-◌, ◌<◌, ◌≤◌, List, [], ◌∷◌, ◌++◌, length, get_or, set}
use Rattle.std.proofs.Common.{Some, None, inl, inr, ◌⊎◌, refl, sym, ap, ap₂, ◌∙◌, subst, arith}
use Rattle.std.proofs.Common.{append_assoc, append-nil, length-append}
use Rattle.std.proofs.lemmas.Bool.{cases_lt, cases_eq}
use Rattle.std.proofs.lemmas.List.{get_or_past, get_or-append_right, get_or-set_other, get_or-set_same}
use Rattle.std.proofs.lemmas.List.{length-set, length-map, map-append, map-set}
use Rattle.std.proofs.Math.ListN.{get_or-append}
use Rattle.std.proofs.Math.Seq.{set-append_seam}
use Rattle.json.specs.Json.{Json}
use Rattle.json.specs.Token.{Token}
use Rattle.json.specs.Tree.{json_tokens}
use Rattle.json.proofs.Found.{Some_inj}
use Rattle.jp_flat_nodes.specs.Nodes.{Source, tokens_at, token_at, link_of, IsWithin, AreWithin}
use Rattle.jp_flat_nodes.specs.inner.Reads.{Spans, LinkedFrom, AreKept, Grows}
use Rattle.jp_flat_nodes.specs.declared.node.FlatNode.{FlatNode}
use Rattle.jp_flat_nodes.specs.declared.node.FlatNode.TheVariants.{Null}

no_link : (end : ℕ) (P : Type 0) → None ≡ Some end → P
no_link end P e = absurd (cc)

pub one_longer : (old new : List FlatNode) (n : FlatNode) → new ≡ old ++ (n ∷ [])
    → length new ≡ length old + 1
one_longer old new n e = ap length e ∙ length-append old (n ∷ [])

pub grown_by : (src : Source) (old new : List FlatNode) (ts : List Token) → Grows src old new ts
    → length new ≡ length old + length ts
grown_by src old new ts g =
    sym (length-map new (token_at src)) ∙ ap length g.tokens ∙ length-append (tokens_at src old) ts
    ∙ ap (λ n. n + length ts) (length-map old (token_at src))

-- ---- nothing, and one node more

pub nothing_more : (src : Source) (old : List FlatNode) → Grows src old old []
nothing_more src old = record {
  tokens = sym (append-nil (tokens_at src old));
  kept = λ i lt. refl;
  linked = λ i end le e. no_link end _ (sym (ap link_of (get_or_past old i Null le)) ∙ e);
  within = λ h. h;
}

pub within_more : (src : Source) (ns : List FlatNode) (n : FlatNode) → AreWithin src ns → IsWithin src n
    → AreWithin src (ns ++ (n ∷ []))
within_more src [] n h k = (k, tt)
within_more src (m ∷ ns) n h k = (h.0, within_more src ns n h.1 k)

push_kept : (old new : List FlatNode) (n : FlatNode) → new ≡ old ++ (n ∷ []) → AreKept old new
push_kept old new n e i lt = ap (λ l. get_or l i Null) e ∙ get_or-append old (n ∷ []) Null i lt

at_end : (old : List FlatNode) (n : FlatNode) (i : ℕ) → length old ≤ i → link_of n ≡ None
    → link_of (get_or (old ++ (n ∷ [])) i Null) ≡ None
at_end old n i le none = go (cases_eq i (length old))
  where
    zero_left : i ≡ length old → i - length old ≡ 0
    zero_left e = omega arith

    go : (i ≡ length old) ⊎ (i ≡ length old → ⊥) → link_of (get_or (old ++ (n ∷ [])) i Null) ≡ None
    go (inl e) =
        ap link_of (get_or-append_right old (n ∷ []) (length old) i Null refl le
        ∙ ap (λ k. get_or (n ∷ []) k Null) (zero_left e)) ∙ none
    go (inr ne) =
        ap link_of (get_or_past (old ++ (n ∷ [])) i Null (omega (arith, length-append old (n ∷ []))))

pub one_more : (src : Source) (old new : List FlatNode) (n : FlatNode) → link_of n ≡ None
    → IsWithin src n → new ≡ old ++ (n ∷ []) → Grows src old new (token_at src n ∷ [])
one_more src old new n none within made = record {
  tokens = ap (tokens_at src) made ∙ map-append (token_at src) old (n ∷ []);
  kept = push_kept old new n made;
  linked = λ i end le e. no_link end _ (sym (at_end old n i le none)
      ∙ ap (λ l. link_of (get_or l i Null)) (sym made) ∙ e);
  within = λ h. subst (AreWithin src) (sym made) (within_more src old n h within);
}

-- ---- one part behind another

spans_more : (all more : List Token) (from end : ℕ) → Spans all from end → Spans (all ++ more) from end
spans_more all more from end s = record {
  front = s.front;
  value = s.value;
  back = s.back ++ more;
  whole = ap (λ l. l ++ more) s.whole ∙ append_assoc s.front (json_tokens s.value ++ s.back) more
      ∙ ap (λ l. s.front ++ l) (append_assoc (json_tokens s.value) s.back more);
  begins = s.begins;
  ends = s.ends;
}

links_more : (src : Source) (k : ℕ) (now new : List FlatNode) (more : List Token) → LinkedFrom src k now
    → Grows src now new more → LinkedFrom src k new
links_more src k now new more h g i end le e = go (cases_lt i (length now))
  where
    go : (i < length now) ⊎ (length now ≤ i) → Spans (tokens_at src new) i end
    go (inl lt) =
        subst (λ l. Spans l i end) (sym g.tokens)
        (spans_more (tokens_at src now) more i end (h i end le (ap link_of (sym (g.kept i lt)) ∙ e)))
    go (inr ge) = g.linked i end ge e

pub then_more : (src : Source) (old now new : List FlatNode) (ts us : List Token) → Grows src old now ts
    → Grows src now new us → Grows src old new (ts ++ us)
then_more src old now new ts us g h = record {
  tokens = h.tokens ∙ ap (λ l. l ++ us) g.tokens ∙ append_assoc (tokens_at src old) ts us;
  kept = λ i lt. h.kept i (omega (arith, grown_by src old now ts g)) ∙ g.kept i lt;
  linked = links_more src (length old) now new us g.linked h;
  within = λ w. h.within (g.within w);
}

-- ---- an array or object is closed

within_set : (src : Source) (ns : List FlatNode) (i : ℕ) (n : FlatNode) → AreWithin src ns → IsWithin src n
    → AreWithin src (set ns i n)
within_set src [] i n h k = h
within_set src (m ∷ ns) zero n h k = (k, h.1)
within_set src (m ∷ ns) (suc i) n h k = (h.0, within_set src ns i n h.1 k)

-- what is known where one is closed: `first` began it, and has become `linked`
pub record Closing (src : Source) (old opened mid final : List FlatNode) (place : ℕ)
    (value : Json) : Type 0 where
  pub first : FlatNode
  pub linked : FlatNode
  pub last : FlatNode
  pub inner : List Token
  pub begun : opened ≡ old ++ (first ∷ [])
  pub at : place ≡ length old
  pub grows : Grows src opened mid inner
  pub made : final ≡ set (mid ++ (last ∷ [])) place linked
  pub same : token_at src first ≡ token_at src linked
  pub whole : json_tokens value ≡ token_at src linked ∷ (inner ++ (token_at src last ∷ []))
  pub link : link_of linked ≡ Some (length mid + 1)
  pub none : link_of last ≡ None
  pub within : IsWithin src first × IsWithin src linked × IsWithin src last

module _ (src : Source) (old opened mid final : List FlatNode) (place : ℕ) (value : Json)
    (c : Closing src old opened mid final place value) where
  opened_longer : length opened ≡ length old + 1
  opened_longer = one_longer old opened c.first c.begun

  mid_longer : length opened ≤ length mid
  mid_longer = omega (arith, grown_by src opened mid c.inner c.grows)

  ended_longer : length (mid ++ (c.last ∷ [])) ≡ length mid + 1
  ended_longer = length-append mid (c.last ∷ [])

  kept : AreKept old final
  kept i lt =
      ap (λ l. get_or l i Null) c.made
      ∙ get_or-set_other (mid ++ (c.last ∷ [])) place i c.linked Null (λ e. omega (arith, c.at))
      ∙ get_or-append mid (c.last ∷ []) Null i (omega (arith, opened_longer, mid_longer))
      ∙ c.grows.kept i (omega (arith, opened_longer)) ∙ push_kept old opened c.first c.begun i lt

  mid_tokens : tokens_at src mid ≡ tokens_at src old ++ (token_at src c.linked ∷ c.inner)
  mid_tokens =
      c.grows.tokens
      ∙ ap (λ l. l ++ c.inner) (ap (tokens_at src) c.begun ∙ map-append (token_at src) old (c.first ∷ []))
      ∙ append_assoc (tokens_at src old) (token_at src c.first ∷ []) c.inner
      ∙ ap (λ t. tokens_at src old ++ (t ∷ c.inner)) c.same

  final_tokens : tokens_at src final ≡ tokens_at src mid ++ (token_at src c.last ∷ [])
  final_tokens =
      let t = token_at src c.linked in
      let e = token_at src c.last in
      let ts = tokens_at src old in
      let whole : tokens_at src (mid ++ (c.last ∷ [])) ≡ ts ++ (t ∷ (c.inner ++ (e ∷ []))) =
      map-append (token_at src) mid (c.last ∷ []) ∙ ap (λ l. l ++ (e ∷ [])) mid_tokens
      ∙ append_assoc ts (t ∷ c.inner) (e ∷ []) in
      let here : place ≡ length ts = c.at ∙ sym (length-map old (token_at src)) in
      ap (tokens_at src) c.made ∙ map-set (token_at src) (mid ++ (c.last ∷ [])) place c.linked
      ∙ ap₂ (λ l i. set l i t) whole here ∙ set-append_seam ts t (c.inner ++ (e ∷ [])) t
      ∙ sym (append_assoc ts (t ∷ c.inner) (e ∷ [])) ∙ ap (λ l. l ++ (e ∷ [])) (sym mid_tokens)

  all_tokens : tokens_at src final ≡ tokens_at src old ++ json_tokens value
  all_tokens =
      final_tokens ∙ ap (λ l. l ++ (token_at src c.last ∷ [])) mid_tokens
      ∙ append_assoc (tokens_at src old) (token_at src c.linked ∷ c.inner) (token_at src c.last ∷ [])
      ∙ ap (λ l. tokens_at src old ++ l) (sym c.whole)

  linked_first : (i end : ℕ) → i ≡ length old → link_of (get_or final i Null) ≡ Some end
      → Spans (tokens_at src final) i end
  linked_first i end same is =
      let node : get_or final i Null ≡ c.linked = ap (λ l. get_or l i Null) c.made
      ∙ ap (λ k. get_or (set (mid ++ (c.last ∷ [])) k c.linked) i Null) (c.at ∙ sym same)
      ∙ get_or-set_same (mid ++ (c.last ∷ [])) i c.linked Null
      (omega (arith, same, opened_longer, mid_longer, ended_longer)) in
      let found : end ≡ length mid + 1 = Some_inj end (length mid + 1) (sym is ∙ ap link_of node ∙ c.link) in
      let long : length (tokens_at src final) ≡ length mid + 1 = length-map final (token_at src)
      ∙ ap length c.made ∙ length-set (mid ++ (c.last ∷ [])) place c.linked ∙ ended_longer in
      let parts : length (tokens_at src final) ≡ length old + length (json_tokens value) =
      ap length all_tokens ∙ length-append (tokens_at src old) (json_tokens value)
      ∙ ap (λ n. n + length (json_tokens value)) (length-map old (token_at src)) in
      record {
        front = tokens_at src old;
        value = value;
        back = [];
        whole = all_tokens ∙ ap (λ l. tokens_at src old ++ l) (sym (append-nil (json_tokens value)));
        begins = length-map old (token_at src) ∙ sym same;
        ends = omega (arith, found, long, parts, same);
      }

  linked_inside : (i end : ℕ) → length old ≤ i → (i ≡ length old → ⊥)
      → link_of (get_or final i Null) ≡ Some end → Spans (tokens_at src final) i end
  linked_inside i end le other is = go (cases_lt i (length mid))
    where
      node : get_or final i Null ≡ get_or (mid ++ (c.last ∷ [])) i Null
      node =
          ap (λ l. get_or l i Null) c.made
          ∙ get_or-set_other (mid ++ (c.last ∷ [])) place i c.linked Null (λ h. other (h ∙ c.at))

      go : (i < length mid) ⊎ (length mid ≤ i) → Spans (tokens_at src final) i end
      go (inl lt) =
          subst (λ l. Spans l i end) (sym final_tokens)
          (spans_more (tokens_at src mid) (token_at src c.last ∷ []) i end
          (c.grows.linked i end (omega (arith, opened_longer))
          (ap link_of (sym (node ∙ get_or-append mid (c.last ∷ []) Null i lt)) ∙ is)))
      go (inr ge) = no_link end _ (sym (at_end mid c.last i ge c.none) ∙ ap link_of (sym node) ∙ is)

  links : LinkedFrom src (length old) final
  links i end le is = go (cases_eq i (length old))
    where
      go : (i ≡ length old) ⊎ (i ≡ length old → ⊥) → Spans (tokens_at src final) i end
      go (inl same) = linked_first i end same is
      go (inr other) = linked_inside i end le other is

  all_within : AreWithin src old → AreWithin src final
  all_within h =
      subst (AreWithin src) (sym c.made)
      (within_set src (mid ++ (c.last ∷ [])) place c.linked
      (within_more src mid c.last
      (c.grows.within (subst (AreWithin src) (sym c.begun)
      (within_more src old c.first h c.within.0))) c.within.2) c.within.1)

  pub closes : Grows src old final (json_tokens value)
  closes = record { tokens = all_tokens; kept = kept; linked = links; within = all_within }
