-- What keeps the text of a path stack that of its first links.
use Rattle.std.proofs.Common.{◌≡◌, ℕ, zero, suc, ◌+◌, ◌-◌, ◌<◌, ◌≤◌, List, [], ◌∷◌, ◌++◌, length, take, drop}
use Rattle.std.proofs.Common.{get_or, Some, refl, sym, ap, ◌∙◌, arith, append_assoc, append-nil}
use Rattle.std.proofs.Common.{length-append, zero-add}
use Rattle.std.specs.Prelude.{encode_utf8_all}
use Rattle.std.specs.List.{flat_map}
use Rattle.std.proofs.lemmas.List.{take-append-le, take-append-drop}
use Rattle.std.proofs.lemmas.List.Concat.{flat_map-append}
use Rattle.std.proofs.lemmas.Option.{same_Some}
use Rattle.std.proofs.lemmas.Str.{encodes-append, encode_ascii}
use Rattle.std.proofs.Math.Seq.{take-append-add, take-append_seam, drop-append_seam, drop-cons}
use lib.Utf8.{encode}
use Rattle.jp_node.specs.Links.{link_step, link_steps, link_bytes, links_bytes}
use Rattle.jp_node.specs.inner.Made.{marks, IsMade}
use Rattle.jp_node.specs.Path.{step_text, path_text}
use Rattle.jp_node.specs.declared.link.Link.{Link}

none_left : (ls : List Link) → length ls ≡ 0 → ls ≡ []
none_left [] h = refl
none_left (l ∷ ls) h = absurd (omega arith)

-- ---- marks

length-marks : (n : ℕ) (ls : List Link) → length (marks n ls) ≡ length ls
length-marks n [] = refl
length-marks n (l ∷ ls) = ap suc (length-marks (n + length (link_bytes l)) ls)

marks-push : (n : ℕ) (ls : List Link) (l : Link)
    → marks n (ls ++ l ∷ []) ≡ marks n ls ++ (n + length (links_bytes ls)) ∷ []
marks-push n [] l = let e : n ≡ n + 0 = omega arith in ap (λ k. k ∷ []) e
marks-push n (x ∷ ls) l =
    let e : n + length (link_bytes x) + length (links_bytes ls) ≡ n + length (link_bytes x ++ links_bytes ls)
    = omega (arith, length-append (link_bytes x) (links_bytes ls)) in
    ap (λ ks. n ∷ ks) (marks-push (n + length (link_bytes x)) ls l
    ∙ ap (λ k. marks (n + length (link_bytes x)) ls ++ k ∷ []) e)

take-marks : (n i : ℕ) (ls : List Link) → take i (marks n ls) ≡ marks n (take i ls)
take-marks n zero ls = refl
take-marks n (suc i) [] = refl
take-marks n (suc i) (l ∷ ls) = ap (λ ks. n ∷ ks) (take-marks (n + length (link_bytes l)) i ls)

mark_at : (n i : ℕ) (ls : List Link) (d : ℕ) → i < length ls
    → get_or (marks n ls) i d ≡ n + length (links_bytes (take i ls))
mark_at n i [] d h = absurd (omega arith)
mark_at n zero (l ∷ ls) d h = omega arith
mark_at n (suc i) (l ∷ ls) d h =
    let e : get_or (marks (n + length (link_bytes l)) ls) i d
    ≡ n + length (link_bytes l) + length (links_bytes (take i ls)) =
    mark_at (n + length (link_bytes l)) i ls d (omega arith) in
    omega (arith, length-append (link_bytes l) (links_bytes (take i ls)))

-- ---- bytes

links_bytes-push : (ls : List Link) (l : Link) → links_bytes (ls ++ l ∷ []) ≡ links_bytes ls ++ link_bytes l
links_bytes-push ls l = flat_map-append link_bytes ls (l ∷ [])
    ∙ ap (λ bs. links_bytes ls ++ bs) (append-nil (link_bytes l))

first_bytes : (ls : List Link) (i : ℕ) → take (length (links_bytes (take i ls))) (links_bytes ls)
    ≡ links_bytes (take i ls)
first_bytes ls i =
    let front = links_bytes (take i ls) in
    ap (λ xs. take (length front) (links_bytes xs)) (sym (take-append-drop i ls))
    ∙ ap (take (length front)) (flat_map-append link_bytes (take i ls) (drop i ls))
    ∙ take-append_seam front (links_bytes (drop i ls))

encoded_links : (ls : List Link) → encode_utf8_all (flat_map step_text (link_steps ls)) ≡ links_bytes ls
encoded_links [] = refl
encoded_links (l ∷ ls) = encodes-append (step_text (link_step l)) (flat_map step_text (link_steps ls))
    ∙ ap (λ bs. link_bytes l ++ bs) (encoded_links ls)

path_bytes : (ls : List Link) → encode_utf8_all (path_text (link_steps ls)) ≡ 36 ∷ links_bytes ls
path_bytes ls =
    let dollar : encode 36 ≡ 36 ∷ [] = encode_ascii 36 (omega arith) in
    ap (λ bs. bs ++ encode_utf8_all (flat_map step_text (link_steps ls))) dollar
    ∙ ap (λ bs. 36 ∷ bs) (encoded_links ls)

pub path_appended : (old opened new text : List ℕ) (ls : List Link) → opened ≡ old ++ 36 ∷ []
    → text ≡ links_bytes ls → new ≡ opened ++ text → new ≡ old ++ encode_utf8_all (path_text (link_steps ls))
path_appended old opened new text ls e f g = g ∙ ap (λ xs. xs ++ text) e ∙ append_assoc old (36 ∷ []) text
    ∙ ap (λ bs. old ++ 36 ∷ bs) f ∙ ap (λ bs. old ++ bs) (sym (path_bytes ls))

-- ---- what is made

module _ (links : List Link) (text starts : List ℕ) (m : IsMade links text starts) where
  made_count : length starts ≡ length m.done
  made_count = ap length m.starts_are ∙ length-marks 0 m.done

  links_count : length links ≡ length m.done + length m.rest
  links_count = ap length m.whole ∙ length-append m.done m.rest

  -- a link goes whose text was not made
  pub bare_link_gone : length starts < length links → IsMade (take (length links - 1) links) text starts
  bare_link_gone h =
      let left = length links - 1 - length m.done in
      let e : length links - 1 ≡ length m.done + left = omega (arith, made_count) in record {
        done = m.done;
        rest = take left m.rest;
        whole = ap (take (length links - 1)) m.whole ∙ ap (λ k. take k (m.done ++ m.rest)) e
            ∙ take-append-add m.done m.rest left;
        text_is = m.text_is;
        starts_are = m.starts_are;
      }

  -- a link goes whose text was made
  pub made_link_gone : (text' starts' : List ℕ) (start : ℕ) → length links ≤ length starts
      → 0 < length starts → Some start ≡ Some (get_or starts (length starts - 1) start)
      → starts' ≡ take (length starts - 1) starts → text' ≡ take start text
      → IsMade (take (length links - 1) links) text' starts'
  made_link_gone text' starts' start h some found e f =
      let i = length starts - 1 in
      let last : length links - 1 ≡ i = omega (arith, made_count, links_count) in
      let within : i ≤ length m.done = omega (arith, made_count) in
      let at : start ≡ 0 + length (links_bytes (take i m.done)) =
      same_Some start _ found ∙ ap (λ ks. get_or ks i start) m.starts_are
      ∙ mark_at 0 i m.done start (omega (arith, made_count)) in
      let cut : start ≡ length (links_bytes (take i m.done)) = omega (arith, at) in record {
        done = take i m.done;
        rest = [];
        whole = ap (take (length links - 1)) m.whole ∙ ap (λ k. take k (m.done ++ m.rest)) last
            ∙ take-append-le i m.done m.rest within ∙ sym (append-nil (take i m.done));
        text_is = f ∙ ap (take start) m.text_is ∙ ap (λ k. take k (links_bytes m.done)) cut
            ∙ first_bytes m.done i;
        starts_are = e ∙ ap (take i) m.starts_are ∙ take-marks 0 i m.done;
      }

  -- one more is made
  pub one_made : (text' starts' : List ℕ) (i : ℕ) (d : Link) → length starts ≡ i → i < length links
      → text' ≡ text ++ link_bytes (get_or links i d) → starts' ≡ starts ++ length text ∷ []
      → IsMade links text' starts'
  one_made text' starts' i d count h e f =
      let l = get_or links i d in
      let later = drop (suc i) links in
      let seam : i ≡ length m.done = sym count ∙ made_count in
      let there : m.rest ≡ drop i links = sym (ap (drop i) m.whole ∙ ap (λ k. drop k (m.done ++ m.rest)) seam
      ∙ drop-append_seam m.done m.rest) in
      let first : m.rest ≡ l ∷ later = there ∙ drop-cons links i d h in
      let begins : length text ≡ 0 + length (links_bytes m.done) = ap length m.text_is
      ∙ sym (zero-add (length (links_bytes m.done))) in record {
        done = m.done ++ l ∷ [];
        rest = later;
        whole = m.whole ∙ ap (λ xs. m.done ++ xs) first ∙ sym (append_assoc m.done (l ∷ []) later);
        text_is = e ∙ ap (λ bs. bs ++ link_bytes l) m.text_is ∙ sym (links_bytes-push m.done l);
        starts_are = f ∙ ap (λ ks. ks ++ length text ∷ []) m.starts_are
            ∙ ap (λ k. marks 0 m.done ++ k ∷ []) begins ∙ sym (marks-push 0 m.done l);
      }

  -- all is made
  pub all_made : length links ≤ length starts → text ≡ links_bytes links
  all_made h =
      let none : m.rest ≡ [] = none_left m.rest (omega (arith, made_count, links_count)) in
      m.text_is ∙ ap links_bytes (sym (m.whole ∙ ap (λ xs. m.done ++ xs) none ∙ append-nil m.done))
