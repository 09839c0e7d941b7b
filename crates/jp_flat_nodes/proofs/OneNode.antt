-- Values with nothing inside, names, and the text of a line.
use Rattle.std.proofs.Common.{◌≡◌, ℕ, ◌+◌, ◌-◌, ◌<◌, ◌≤◌, Bool, true, false, None, List, [], ◌∷◌, ◌++◌}
use Rattle.std.proofs.Common.{length, take, drop, get_or}
use Rattle.std.proofs.Common.{refl, sym, ap, ap₂, ◌∙◌, subst, arith, append_assoc, length-append}
use Rattle.std.proofs.Common.{length-drop}
use Rattle.std.proofs.Math.Seq.{take-append_seam, drop-append_seam}
use Rattle.std.proofs.lemmas.List.{length-take}
use Rattle.json.specs.Json.{Json, string, number}
use Rattle.json.specs.Print.{escape, quoted, separator, IsNumber}
use Rattle.json.specs.Token as token
use Rattle.json.specs.Token.{Token, key}
use Rattle.json.specs.Tree as tree
use Rattle.json.specs.Tree.{json_tokens, HasNumbers}
use Rattle.jp_flat_nodes.specs.Digits.{is_taken}
use Rattle.jp_flat_nodes.specs.Nodes.{Source, source, piece, token_at, link_of, IsPlain, IsWithin, are_taken}
use Rattle.jp_flat_nodes.specs.inner.Reads.{Reads, ReadsKey, IsPlainText, Grows, Prints, GoesOn, IsWritten}
use Rattle.jp_flat_nodes.specs.inner.Reads.{IsSpelling, Stands}
use Rattle.jp_flat_nodes.specs.declared.node.FlatNode.{FlatNode}
use Rattle.jp_flat_nodes.specs.declared.node.FlatNode.TheVariants.{Number}
use Rattle.jp_flat_nodes.proofs.Cuts.{byte_then, cut, quoted_text}
use Rattle.jp_flat_nodes.proofs.Growing.{one_more}
use Rattle.jp_flat_nodes.proofs.Printing.{here}

-- one node more, whose token is a value
pub leaf : (src : Source) (decimals : Bool) (at end depth : ℕ) (old new : List FlatNode) (n : FlatNode)
    (j : Json) (t : Token) (w : List ℕ)
    → at < end → json_tokens j ≡ (t ∷ []) → token_at src n ≡ t → HasNumbers j → are_taken decimals j ≡ true
    → tree.depth j ≡ 0 → separator false t ≡ [] → IsSpelling t w → drop at src.line ≡ w ++ drop end src.line
    → link_of n ≡ None → IsWithin src n → new ≡ old ++ (n ∷ [])
    → Reads src decimals at end depth old new
leaf src decimals at end depth old new n j t w later is same numbers whole flat none spelling text no_link
    within
    made = record {
      value = j;
      later = later;
      numbers = numbers;
      taken = whole;
      nests = omega (arith, flat);
      text = subst (λ ts. Prints src.line false at end ts) (sym is) (here src.line false at end t w none
          spelling text);
      grows = subst (Grows src old new) (ap (λ u. u ∷ []) same ∙ sym is)
          (one_more src old new n no_link within made);
    }

pub number_leaf : (src : Source) (decimals : Bool) (at end count depth : ℕ) (old new : List FlatNode)
    → at < end → end ≤ length src.line
    → IsNumber (piece src.line at (end - at)) × (is_taken decimals (piece src.line at (end - at)) ≡ true)
    → count ≡ end - at → new ≡ old ++ (Number at count ∷ []) → Reads src decimals at end depth old new
number_leaf src decimals at end count depth old new later inside is c made =
    let s = piece src.line at (end - at) in
    leaf src decimals at end depth old new (Number at count) (number s) (token.number s) s later refl
    (ap (λ k. token.number (piece src.line at k)) c) is.0 is.1 refl refl refl (cut src.line at end (omega
    arith))
    refl (omega arith) made

-- ---- texts

-- a text that is a part of a line between its quotes, and the node that tells it
pub record IsTold (src : Source) (at end : ℕ) (text : List ℕ) : Type 0 where
  pub later : at < end
  pub part : List ℕ
  pub is : drop at src.line ≡ (34 ∷ (part ++ 34 ∷ [])) ++ drop end src.line
  pub stands : Stands part text

-- a plain one
pub told_plain : (src : Source) (at stop : ℕ) → at < length src.line → get_or src.line at 0 ≡ 34
    → IsPlainText src.line (at + 1) stop
    → IsTold src at (stop + 1) (piece src.line (at + 1) (stop - (at + 1)))
told_plain src at stop inside quote p = record {
  later = omega (arith, p.ordered);
  part = piece src.line (at + 1) (stop - (at + 1));
  is = quoted_text src.line at stop inside quote p
      ∙ ap (λ l. (34 ∷ (l ++ 34 ∷ [])) ++ drop (stop + 1) src.line) p.plain;
  stands = p.stands;
}

pub plain_within : (line : List ℕ) (at stop count : ℕ) → at < length line → get_or line at 0 ≡ 34
    → IsPlainText line (at + 1) stop → count ≡ stop - (at + 1) → IsPlain line (at + 1) count
plain_within line at stop count inside quote p c =
    let s = piece line (at + 1) (stop - (at + 1)) in
    let here : at + 1 - 1 ≡ at = omega arith in
    let long : count + 2 ≡ length (quoted s) = omega (
      arith,
      c,
      p.ordered,
      p.inside,
      ap length p.plain,
      length-append (escape s) (34 ∷ []),
      length-take (stop - (at + 1)) (drop (at + 1) line),
      length-drop (at + 1) line,
    ) in
    record {
      behind = omega arith;
      before = omega (arith, c, p.ordered, p.inside);
      is = ap (λ k. take (count + 2) (drop k line)) here
          ∙ ap (take (count + 2)) (quoted_text line at stop inside quote p)
          ∙ ap (λ k. take k (quoted s ++ drop (stop + 1) line)) long
          ∙ take-append_seam (quoted s) (drop (stop + 1) line)
          ∙ ap (λ k. quoted (piece line (at + 1) k)) (sym c);
    }

-- one with escapes, which was put behind the texts
pub told_written : (line all : List ℕ) (at stop : ℕ) (old new : List ℕ)
    (w : IsWritten line (at + 1) stop old new) → at < length line → get_or line at 0 ≡ 34
    → stop < length line → get_or line stop 0 ≡ 34 → IsTold (source line all) at (stop + 1) w.more
told_written line all at stop old new w inside quote within last = record {
  later = omega (arith, w.ordered);
  part = w.part;
  is = byte_then line at 34 inside quote
      ∙ ap (λ l. 34 ∷ l) (w.text ∙ ap (λ l. w.part ++ l) (byte_then line stop 34 within last)
      ∙ sym (append_assoc w.part (34 ∷ []) (drop (stop + 1) line)));
  stands = w.stands;
}

-- it stands where it was put, whatever is put behind it
pub stands_behind : (old new all : List ℕ) (more : List ℕ) (from count : ℕ) → new ≡ old ++ more
    → GoesOn new all → from ≡ length old → count ≡ length new - length old
    → (piece all from count ≡ more) × (from + count ≤ length all)
stands_behind old new all more from count made g f c =
    let long : length new ≡ length old + length more = ap length made ∙ length-append old more in
    let size : count ≡ length more = omega (arith, c, long) in
    let whole : all ≡ old ++ (more ++ g.more) = g.is ∙ ap (λ l. l ++ g.more) made
    ∙ append_assoc old more g.more in (
      ap₂ (λ k l. take count (drop k l)) f whole
          ∙ ap (take count) (drop-append_seam old (more ++ g.more))
          ∙ ap (λ k. take k (more ++ g.more)) size
          ∙ take-append_seam more g.more,
      omega (arith, f, c, long, ap length g.is, length-append new g.more),
    )

pub goes_on_before : (old new all more : List ℕ) → new ≡ old ++ more → GoesOn new all → GoesOn old all
goes_on_before old new all more made g = record {
  more = more ++ g.more;
  is = g.is ∙ ap (λ l. l ++ g.more) made ∙ append_assoc old more g.more;
}

pub text_leaf : (src : Source) (decimals : Bool) (at end depth : ℕ) (old new : List FlatNode)
    (n : FlatNode) (s : List ℕ) → IsTold src at end s → token_at src n ≡ token.string s → link_of n ≡ None
    → IsWithin src n → new ≡ old ++ (n ∷ []) → Reads src decimals at end depth old new
text_leaf src decimals at end depth old new n s told same none within made =
    leaf src decimals at end depth old new n (string s) (token.string s) (34 ∷ (told.part ++ 34 ∷ []))
    told.later
    refl same tt refl refl refl (told.part, refl, told.stands) told.is none within made

pub key_read : (src : Source) (at end : ℕ) (old new : List FlatNode) (n : FlatNode) (s : List ℕ)
    → IsTold src at end s → end < length src.line → get_or src.line end 0 ≡ 58 → token_at src n ≡ key s
    → link_of n ≡ None → IsWithin src n → new ≡ old ++ (n ∷ []) → ReadsKey src at (end + 1) old new
key_read src at end old new n s told more colon same none within made = record {
  name = s;
  later = omega (arith, told.later);
  text = let q = 34 ∷ (told.part ++ 34 ∷ []) in
      here src.line false at (end + 1) (key s) (q ++ 58 ∷ []) refl (told.part, refl, told.stands)
      (told.is ∙ ap (λ l. q ++ l) (byte_then src.line end 58 more colon)
      ∙ sym (append_assoc q (58 ∷ []) (drop (end + 1) src.line)));
  grows = subst (λ t. Grows src old new (t ∷ [])) same (one_more src old new n none within made);
}
