-- Where bytes are cut_between into all_documents.
use Rattle.std.proofs.Common.{◌≡◌, ℕ, suc, ◌+◌, ◌-◌, ◌≤◌, Bool, true, false, ◌||◌, ◌==◌, cond, nat_le}
use Rattle.std.proofs.Common.{List, [], ◌∷◌, ◌++◌, refl, sym, ◌∙◌, ap, length, arith}
use Rattle.std.proofs.Common.{append-nil}
use Rattle.std.proofs.Common.{subst}
use Rattle.jp_documents.specs.Documents.{CutAt, cut_between, cut_at, onto, onto_parts, behind, first}
use Rattle.jp_documents.specs.Documents.{by_turn, turn, is_blank_byte, is_opening}
use Rattle.jp_documents.specs.Documents.{is_closing, is_quote, place_behind_first, opened, lead_behind}
use Rattle.jp_documents.specs.inner.Finding.{depth_of}
use Rattle.jp_documents.specs.declared.place.Lead.{Lead}
use Rattle.jp_documents.specs.declared.place.Lead.TheVariants.{MayBegin, Within, AtLine}
use Rattle.jp_documents.specs.declared.place.Place.{Place}
use Rattle.jp_documents.specs.declared.place.Place.TheVariants.{Between, InWord, InBrackets, InText, InEscape}
use Rattle.jp_documents.specs.declared.place.Turn.{Turn}
use Rattle.jp_documents.specs.declared.place.Turn.TheVariants.{Skipped, Taken, Last, Behind}

-- what is true of each turn at a place
abbrev pub Fair : Place → Turn → Type 0
Fair p Skipped = p ≡ Between
Fair p (Taken q) = (depth_of q ≤ depth_of p + 1) × (q ≡ Between → ⊥)
Fair p Last = p ≡ Between → ⊥
Fair p Behind = p ≡ Between → ⊥

fair_if : (t : Bool) (p : Place) (a b : Turn) → Fair p a → Fair p b → Fair p (cond t a b)
fair_if true p a b f g = f
fair_if false p a b f g = g

fair_first : (s t : Bool) → Fair Between (Taken (cond s (InBrackets 1 MayBegin) (cond t (InText 0) InWord)))
fair_first true t = (omega arith, λ e. cc)
fair_first false true = (omega arith, λ e. cc)
fair_first false false = (omega arith, λ e. cc)

fair_opened : (d : ℕ) (l : Lead) → Fair (InBrackets d l) (opened l d)
fair_opened d MayBegin = (omega arith, λ e. cc)
fair_opened d Within = (omega arith, λ e. cc)
fair_opened d AtLine = λ e. cc

pub fair : (p : Place) (b : ℕ) → Fair p (turn p b)
fair Between b = fair_if (is_blank_byte b) Between Skipped (Taken (place_behind_first b)) refl
    (fair_first (is_opening b) (is_quote b))
fair InWord b = fair_if (is_blank_byte b || (is_opening b || is_quote b)) InWord Behind (Taken InWord)
    (λ e. cc) (omega arith, λ e. cc)
fair (InBrackets d l) b =
    fair_if (is_opening b) (InBrackets d l) _ _ (fair_opened d l)
    (fair_if (is_closing b) (InBrackets d l) _ _
    (fair_if (nat_le d 1) (InBrackets d l) Last (Taken (InBrackets (d - 1) Within)) (λ e. cc)
    (omega arith, λ e. cc))
    (fair_if (is_quote b) (InBrackets d l) (Taken (InText d)) (Taken (InBrackets d (lead_behind l b)))
    (omega arith, λ e. cc) (omega arith, λ e. cc)))
fair (InText d) b =
    fair_if (is_quote b) (InText d) _ _
    (fair_if (d == 0) (InText d) Last (Taken (InBrackets d Within)) (λ e. cc) (omega arith, λ e. cc))
    (fair_if (b == 92) (InText d) _ _ (omega arith, λ e. cc)
    (fair_if (b == 10) (InText d) _ _
    (fair_if (d == 0) (InText d) Behind (Taken (InBrackets d AtLine)) (λ e. cc) (omega arith, λ e. cc))
    (omega arith, λ e. cc)))
fair (InEscape d) b =
    fair_if (b == 10) (InEscape d) _ _
    (fair_if (d == 0) (InEscape d) Behind (Taken (InBrackets d AtLine)) (λ e. cc) (omega arith, λ e. cc))
    (omega arith, λ e. cc)

pub fair_at : (place : Place) (b : ℕ) (t : Turn) → t ≡ turn place b → Fair place t
fair_at place b t e = let P : Turn → Type 0 = λ u. Fair place u in subst P (sym e) (fair place b)

-- a first part that was cut_between, and what the bytes behind it are cut_between into
abbrev pub join_parts : List (List ℕ) → List ℕ → List (List ℕ) → List ℕ → Place → CutAt
join_parts ds o [] rest p = record { ended = ds; open_document = o ++ rest; place = p }
join_parts ds o (e ∷ es) rest p = record { ended = ds ++ (o ++ e) ∷ es; open_document = rest; place = p }

abbrev pub join : CutAt → CutAt → CutAt
join c d = join_parts c.ended c.open_document d.ended d.open_document d.place

join_start : (es : List (List ℕ)) (r : List ℕ) (p : Place) → join_parts [] [] es r p
    ≡ record { ended = es; open_document = r; place = p }
join_start [] r p = refl
join_start (e ∷ es) r p = refl

onto_join : (b : ℕ) (ds : List (List ℕ)) (o : List ℕ) (q : Place) (es : List (List ℕ)) (r : List ℕ)
    (p : Place)
    → onto (b ∷ []) (join_parts ds o es r p) ≡
    (let c = onto_parts (b ∷ []) ds o q in join_parts c.ended c.open_document es r p)
onto_join b [] o q [] r p = refl
onto_join b [] o q (e ∷ es) r p = refl
onto_join b (d ∷ ds) o q [] r p = refl
onto_join b (d ∷ ds) o q (e ∷ es) r p = refl

behind_join : (d : List ℕ) (ds : List (List ℕ)) (o : List ℕ) (es : List (List ℕ)) (r : List ℕ) (p : Place)
    → behind d (join_parts ds o es r p) ≡ join_parts (d ∷ ds) o es r p
behind_join d ds o [] r p = refl
behind_join d ds o (e ∷ es) r p = refl

onto_place : (b : ℕ) (ds : List (List ℕ)) (o : List ℕ) (q : Place) → (onto_parts (b ∷ []) ds o q).place ≡ q
onto_place b [] o q = refl
onto_place b (d ∷ ds) o q = refl

-- what is cut_between behind the first part, from where that ends
abbrev pub further : CutAt → List ℕ → CutAt
further c ys = join c (cut_at c.place ys)

goes_further : (b : ℕ) (c : CutAt) (ys : List ℕ) → onto (b ∷ []) (further c ys) ≡ further (onto (b ∷ []) c) ys
goes_further b c ys =
    let d = cut_at c.place ys in
    onto_join b c.ended c.open_document c.place d.ended d.open_document d.place
    ∙ ap (λ q. join (onto (b ∷ []) c) (cut_at q ys)) (sym (onto_place b c.ended c.open_document c.place))

behind_further : (d : List ℕ) (c : CutAt) (ys : List ℕ) → behind d (further c ys) ≡ further (behind d c) ys
behind_further d c ys =
    let e = cut_at c.place ys in
    behind_join d c.ended c.open_document e.ended e.open_document e.place

first_further : (t : Bool) (b : ℕ) (xs ys : List ℕ) → is_blank_byte b ≡ t
    → ((p : Place) → cut_at p (xs ++ ys) ≡ further (cut_at p xs) ys)
    → first b (λ p. cut_at p (xs ++ ys)) ≡ further (first b (λ p. cut_at p xs)) ys
first_further true b xs ys e h = rw e (h Between)
first_further false b xs ys e h =
    rw e (ap (λ c. onto (b ∷ []) c) (h (place_behind_first b))
    ∙ goes_further b (cut_at (place_behind_first b) xs) ys)

turn_further : (t : Turn) (b : ℕ) (xs ys : List ℕ)
    → ((p : Place) → cut_at p (xs ++ ys) ≡ further (cut_at p xs) ys)
    → by_turn t b (λ p. cut_at p (xs ++ ys)) ≡ further (by_turn t b (λ p. cut_at p xs)) ys
turn_further Skipped b xs ys h = h Between
turn_further (Taken p) b xs ys h = ap (λ c. onto (b ∷ []) c) (h p) ∙ goes_further b (cut_at p xs) ys
turn_further Last b xs ys h = ap (λ c. behind (b ∷ []) c) (h Between)
    ∙ behind_further (b ∷ []) (cut_at Between xs) ys
turn_further Behind b xs ys h =
    ap (λ c. behind [] c) (first_further (is_blank_byte b) b xs ys refl h)
    ∙ behind_further [] (first b (λ p. cut_at p xs)) ys

pub cut_further : (p : Place) (xs ys : List ℕ) → cut_at p (xs ++ ys) ≡ further (cut_at p xs) ys
cut_further p [] ys = sym (join_start (cut_at p ys).ended (cut_at p ys).open_document (cut_at p ys).place)
cut_further p (x ∷ xs) ys = turn_further (turn p x) x xs ys (λ q. cut_further q xs ys)

-- ---- what is open can be cut_between again

abbrev pub Reopens_parts : Place → List (List ℕ) → List ℕ → Place → Type 0
Reopens_parts p [] o q = cut_at p o ≡ record { ended = []; open_document = o; place = q }
Reopens_parts p (d ∷ ds) o q = cut_between o ≡ record { ended = []; open_document = o; place = q }

abbrev pub Reopens : Place → CutAt → Type 0
Reopens p c = Reopens_parts p c.ended c.open_document c.place

settled : (ds : List (List ℕ)) (o : List ℕ) (q : Place) → Reopens_parts Between ds o q
    → cut_between o ≡ record { ended = []; open_document = o; place = q }
settled [] o q h = h
settled (d ∷ ds) o q h = h

goes_reopens : (p n : Place) (b : ℕ) (ds : List (List ℕ)) (o : List ℕ) (q : Place) → turn p b ≡ Taken n
    → Reopens_parts n ds o q → Reopens p (onto_parts (b ∷ []) ds o q)
goes_reopens p n b [] o q e h =
    ap (λ t. by_turn t b (λ m. cut_at m o)) e ∙ ap (λ c. onto (b ∷ []) c) h
goes_reopens p n b (d ∷ ds) o q e h = h

first_goes : (b : ℕ) → is_blank_byte b ≡ false → turn Between b ≡ Taken (place_behind_first b)
first_goes b e = rw e refl

first_reopens : (t : Bool) (b : ℕ) (xs : List ℕ) → is_blank_byte b ≡ t
    → ((p : Place) → Reopens p (cut_at p xs))
    → Reopens Between (first b (λ p. cut_at p xs))
first_reopens true b xs e h = rw e (h Between)
first_reopens false b xs e h =
    let n = place_behind_first b in
    let c = cut_at n xs in
    let k : Reopens Between (onto (b ∷ []) c) =
    goes_reopens Between n b c.ended c.open_document c.place (first_goes b e) (h n) in
    rw e k

turn_reopens : (t : Turn) (p : Place) (b : ℕ) (xs : List ℕ) → turn p b ≡ t
    → ((q : Place) → Reopens q (cut_at q xs)) → Reopens p (by_turn t b (λ q. cut_at q xs))
turn_reopens Skipped p b xs e h =
    let f : Fair p Skipped = fair_at p b Skipped (sym e) in
    let P : Place → Type 0 = λ q. Reopens q (cut_at Between xs) in
    subst P (sym f) (h Between)
turn_reopens (Taken n) p b xs e h =
    let c = cut_at n xs in
    goes_reopens p n b c.ended c.open_document c.place e (h n)
turn_reopens Last p b xs e h =
    let c = cut_between xs in
    settled c.ended c.open_document c.place (h Between)
turn_reopens Behind p b xs e h =
    let c = first b (λ q. cut_at q xs) in
    settled c.ended c.open_document c.place (first_reopens (is_blank_byte b) b xs refl h)

pub reopens : (p : Place) (xs : List ℕ) → Reopens p (cut_at p xs)
reopens p [] = refl
reopens p (x ∷ xs) = turn_reopens (turn p x) p x xs refl (λ q. reopens q xs)

-- what is open, cut_between again, is open
pub open_again : (xs : List ℕ) → cut_between (cut_between xs).open_document
    ≡ record { ended = []; open_document = (cut_between xs).open_document; place = (cut_between xs).place }
open_again xs = settled (cut_between xs).ended (cut_between xs).open_document (cut_between xs).place
    (reopens Between xs)

-- bytes behind an open document
pub behind_open : (o : List ℕ) (p : Place) (ys : List ℕ)
    → cut_between o ≡ record { ended = []; open_document = o; place = p }
    → cut_between (o ++ ys) ≡ join_parts [] o (cut_at p ys).ended (cut_at p ys).open_document
    (cut_at p ys).place
behind_open o p ys e = cut_further Between o ys ∙ ap (λ c. further c ys) e

both_parts : (ds : List (List ℕ)) (o : List ℕ) (es : List (List ℕ)) (r : List ℕ) (p : Place)
    → join_parts ds o es r p ≡ (let c = join_parts [] o es r p in
    record { ended = ds ++ c.ended; open_document = c.open_document; place = c.place })
both_parts ds o [] r p = ap (λ l. record { ended = l; open_document = o ++ r; place = p })
    (sym (append-nil ds))
both_parts ds o (e ∷ es) r p = refl

-- bytes are cut_between alike in one piece and in two
pub cut_both : (a b : List ℕ) → cut_between (a ++ b) ≡ record {
  ended = (cut_between a).ended ++ (cut_between ((cut_between a).open_document ++ b)).ended;
  open_document = (cut_between ((cut_between a).open_document ++ b)).open_document;
  place = (cut_between ((cut_between a).open_document ++ b)).place;
}
cut_both a b =
    let c = cut_between a in
    let d = cut_at c.place b in
    cut_further Between a b ∙ both_parts c.ended c.open_document d.ended d.open_document d.place
    ∙ ap (λ (k : CutAt). record {
      ended = c.ended ++ k.ended;
      open_document = k.open_document;
      place =
          k.place;
    })
    (sym (behind_open c.open_document c.place b (open_again a)))

-- ---- how deep

deep_onto : (n b : ℕ) (ds : List (List ℕ)) (o : List ℕ) (q : Place) → depth_of q ≤ n
    → depth_of (onto_parts (b ∷ []) ds o q).place ≤ n
deep_onto n b [] o q h = h
deep_onto n b (d ∷ ds) o q h = h

deep_first : (t : Bool) (n b : ℕ) (xs : List ℕ) → is_blank_byte b ≡ t
    → ((p : Place) → depth_of (cut_at p xs).place ≤ depth_of p + length xs) → length xs + 1 ≤ n
    → depth_of (first b (λ p. cut_at p xs)).place ≤ n
deep_first true n b xs e h k = rw e (let r : depth_of (cut_at Between xs).place ≤ 0 + length xs =
    h Between in omega arith)
deep_first false n b xs e h k =
    let m = place_behind_first b in
    let f : Fair Between (Taken m) = fair_at Between b (Taken m) (sym (first_goes b e)) in
    let c = cut_at m xs in
    let r : depth_of c.place ≤ depth_of m + length xs = h m in
    let l : depth_of (onto (b ∷ []) c).place ≤ n =
    deep_onto n b c.ended c.open_document c.place (omega (arith, f.0)) in
    rw e l

deep_turn : (t : Turn) (p : Place) (b : ℕ) (xs : List ℕ) → turn p b ≡ t
    → ((q : Place) → depth_of (cut_at q xs).place ≤ depth_of q + length xs)
    → depth_of (by_turn t b (λ q. cut_at q xs)).place ≤ depth_of p + suc (length xs)
deep_turn Skipped p b xs e h = let r : depth_of (cut_at Between xs).place ≤ 0 + length xs = h Between in
    omega arith
deep_turn (Taken n) p b xs e h =
    let f : Fair p (Taken n) = fair_at p b (Taken n) (sym e) in
    let c = cut_at n xs in
    let r : depth_of c.place ≤ depth_of n + length xs = h n in
    deep_onto (depth_of p + suc (length xs)) b c.ended c.open_document c.place (omega (arith, f.0))
deep_turn Last p b xs e h = let r : depth_of (cut_at Between xs).place ≤ 0 + length xs = h Between in
    omega arith
deep_turn Behind p b xs e h = deep_first (is_blank_byte b) (depth_of p + suc (length xs)) b xs refl h
    (omega arith)

pub deep : (p : Place) (xs : List ℕ) → depth_of (cut_at p xs).place ≤ depth_of p + length xs
deep p [] = omega arith
deep p (x ∷ xs) = deep_turn (turn p x) p x xs refl (λ q. deep q xs)
