-- A text is one field at most.
use Rattle.std.proofs.Common.{◌≡◌, ◌<◌, ◌≤◌, ◌+◌, ◌⊎◌, inl, inr, ℕ, zero, suc, List, [], ◌∷◌, ◌++◌, length}
use Rattle.std.proofs.Common.{get_or, drop, map, Option, Some, None}
use Rattle.std.proofs.Common.{Ok, Err, Result, refl, sym, ap, ap₂, ◌∙◌, subst, append_assoc, append-nil}
use Rattle.std.proofs.Common.{arith}
use Rattle.std.proofs.lemmas.List.{at_drop_more, at_drop_all, map-append}
use Rattle.std.proofs.lemmas.Option.{same_Some, none-some}
use Rattle.std.specs.Borrow.{Bor}
use Rattle.std.specs.Str.{chars}
use Rattle.jp_number.specs.declared.numbers.Numbers.TheVariants.{Whole}
use Rattle.jp_tree.specs.Tree.{Text, Query}
use Rattle.jp_tree.specs.declared.fault.QueryFault.{QueryFault}
use Rattle.jp_check.specs.Verdict.{IsAccepted, IsVerdict}
use Rattle.jp_check.proofs.OneVerdict.{one_verdict}
use Rattle.jp_output.specs.Rows.{Path, field_of}
use Rattle.jp_output.specs.declared.field.Field.{Field}
use Rattle.jp_field.specs.FieldText.{AreFields, IsFieldRefused, IsFieldText, IsRefusedAfter, path_of}

behind_same : (a b : ℕ) (s t : Text) → ◌≡◌ {A = Text} (a ∷ s) (b ∷ t) → s ≡ t
behind_same a b s t e = cc

first_same : (f g : Path) (fs gs : List Path) → ◌≡◌ {A = List Path} (f ∷ fs) (g ∷ gs) → f ≡ g
first_same f g fs gs e = cc

ok_same : (p q : Query) → ◌≡◌ {A = Result Query QueryFault} (Ok p) (Ok q) → p ≡ q
ok_same p q e = cc

ok_err : (p : Query) (f : QueryFault) → ◌≡◌ {A = Result Query QueryFault} (Ok p) (Err f) → ⊥
ok_err p f e = cc

one_query : (t : Text) (p q : Query) → IsAccepted t p → IsAccepted t q → p ≡ q
one_query t p q a b = ok_same p q (one_verdict Whole t (Ok p) (Ok q) a b)

pub one_path : (t : Text) (f g : Path) → IsFieldText t f → IsFieldText t g → f ≡ g
one_path t f g a b =
    let rest : a.0 ≡ b.0 = behind_same 64 64 a.0 b.0 (sym a.1 ∙ b.1) in
    let same : a.2 ≡ b.2 = one_query (36 ∷ b.0) a.2 b.2
    (subst (λ (r : Text). IsAccepted (36 ∷ r) a.2) rest a.3) b.3 in
    same_Some f g (sym a.4 ∙ ap path_of same ∙ b.4)

refused_after : (rest : Text) (q : Query) (f : Path) (fault : QueryFault) → IsAccepted (36 ∷ rest) q
    → path_of q ≡ Some f → IsRefusedAfter rest fault → ⊥
refused_after rest q f fault a p (inl h) = ok_err q fault (one_verdict Whole (36 ∷ rest) (Ok q) (Err fault)
    a h)
refused_after rest q f fault a p (inr h) =
    none-some f (sym h.2 ∙ ap path_of (one_query (36 ∷ rest) h.0 q h.1 a) ∙ p)

pub not_refused : (t : Text) (f : Path) (fault : QueryFault) → IsFieldText t f → IsFieldRefused t fault → ⊥
not_refused t f fault a (inl h) = h.0 a.0 a.1
not_refused t f fault a (inr h) =
    let rest : h.0 ≡ a.0 = behind_same 64 64 h.0 a.0 (sym h.1 ∙ a.1) in
    refused_after a.0 a.2 f fault a.3 a.4 (subst (λ (r : Text). IsRefusedAfter r fault) rest h.2)

pub one_each : (ts : List (List ℕ)) (fs gs : List Path) → AreFields ts fs → AreFields ts gs → fs ≡ gs
one_each [] fs gs a b = a ∙ sym b
one_each (t ∷ ts) fs gs a b =
    a.2 ∙ ap₂ (λ (f : Path) (rest : List Path). f ∷ rest) (one_path (chars t) a.0 b.0 a.3 b.3)
    (one_each ts a.1 b.1 a.4 b.4) ∙ sym b.2

-- texts, one after another

abbrev pub now : Bor (List ℕ) → List ℕ
now t = t.now

pub each_is : (ts : List (Bor (List ℕ))) (fs : List Path) (i : ℕ) (d : Bor (List ℕ)) → AreFields (map now
    ts) fs
    → i < length ts → (f : Path) × IsFieldText (chars (get_or ts i d).now) f
each_is [] fs i d a h = absurd (omega (arith, h))
each_is (u ∷ ts) fs zero d a h = (a.0, a.3)
each_is (u ∷ ts) fs (suc i) d a h = each_is ts a.1 i d a.4 (omega (arith, h))

-- what stands for an item past the end does not matter
same_item : (ts : List (Bor (List ℕ))) (i : ℕ) (d e : Bor (List ℕ)) → i < length ts → get_or ts i d ≡ get_or
    ts i e
same_item [] i d e h = absurd (omega (arith, h))
same_item (u ∷ ts) zero d e h = refl
same_item (u ∷ ts) (suc i) d e h = same_item ts i d e (omega (arith, h))

-- where the texts that are left are fields, all are these behind those that were read
abbrev pub Reads : List (Bor (List ℕ)) → ℕ → List Field → Type 0
Reads ts i done = (fs : List Path) → AreFields (map now (drop i ts)) fs
    → AreFields (map now ts) (map field_of done ++ fs)

module _ (ts : List (Bor (List ℕ))) (i : ℕ) where
  pub read_more : (d : Bor (List ℕ)) (done more : List Field) (f : Field) → i < length ts
      → more ≡ done ++ f ∷ [] → IsFieldText (chars (get_or ts i d).now) (field_of f) → Reads ts i done
      → Reads ts (i + 1) more
  read_more d done more f h put field reads fs a =
      let t = get_or ts i d in
      let is : t ≡ get_or ts i t = same_item ts i d t h in
      let here : AreFields (map now (drop i ts)) (field_of f ∷ fs) = subst (λ (u : List (List ℕ)). AreFields
      u (field_of f ∷ fs))
      (sym (at_drop_more (map now) ts i t h ∙ ap (λ x. map now (x ∷ drop (i + 1) ts)) (sym is)))
      (field_of f, fs, refl, field, a) in
      subst (AreFields (map now ts))
      (sym (ap (λ (m : List Field). map field_of m ++ fs) put
      ∙ ap (λ (m : List Path). m ++ fs) (map-append field_of done (f ∷ []))
      ∙ append_assoc (map field_of done) (field_of f ∷ []) fs))
      (reads (field_of f ∷ fs) here)

  pub read_all : (done : List Field) → length ts ≤ i → Reads ts i done → AreFields (map now ts) (map
      field_of done)
  read_all done h reads = subst (AreFields (map now ts)) (append-nil (map field_of done))
      (reads [] (subst (λ (u : List (List ℕ)). AreFields u []) (sym (at_drop_all (map now) ts i h)) refl))
