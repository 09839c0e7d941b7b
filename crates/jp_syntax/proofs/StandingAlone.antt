-- Arguments that are a query or a call by itself.
use Rattle.std.proofs.Common.{◌≡◌, Bool, true, false, not, IsTrue, refl, sym, ap, subst, ◌∙◌, ◌↔◌, ◌==◌}
use Rattle.std.proofs.Common.{codes, List, [], ◌∷◌, ◌++◌}
use Rattle.std.proofs.lemmas.Bool.{not_from_false, false_from_ne_true}
use Rattle.std.proofs.lemmas.List.{append-nil}
use Rattle.jp_tree.specs.Tree.{Text}
use Rattle.jp_tree.specs.Tree as tree
use Rattle.jp_tree.specs.Characters.{is_lower}
use Rattle.jp_tree.specs.Parts.{run, none, more, Separated, separated}
use Rattle.jp_tree.specs.Spelling as sp
use Rattle.jp_tree.specs.Spelling.{LogicalIs, begins_with}
use Rattle.jp_tokens.proofs.Following.{never_at}

-- what is one query or one call
abbrev pub is_single : tree.Logical → Bool
is_single (tree.test q) = true
is_single (tree.test_call c) = true
is_single _ = false

-- one part alone is that part
pub lone_part : (mark : Text) (Part : Text → tree.Logical → Type 0) (make : tree.Logicals → tree.Logical)
    (l : tree.Logical) → ((ls : tree.Logicals) → is_single (make ls) ≡ false) → is_single l ≡ true
    → (t : Text) (ls : List tree.Logical) → Separated mark Part t ls → sp.joined make ls ≡ l → Part t l
lone_part mark Part make l made single t ls (separated s u x xs p none) e =
    subst (λ (k : tree.Logical). Part (s ++ []) k) e (subst (λ (w : Text). Part w x) (sym (append-nil s)) p)
lone_part mark Part make l made single t ls (separated s u x xs p (more v w y ys q rest)) e =
    let h = made (tree.logicals (x ∷ y ∷ ys)) in
    let k = ap is_single e in absurd cc

module _ (Inner : Text → tree.Logical → Type 0) where
  lone_basic : (t : Text) (l : tree.Logical) → is_single l ≡ true → sp.AndIs Inner t l → sp.BasicIs Inner t l
  lone_basic t l single (sp.and u ls p) = lone_part (codes "&&") (sp.BasicIs Inner) tree.all
      (sp.joined tree.all ls) (λ ks. refl) single u ls p refl

  lone_and : (t : Text) (l : tree.Logical) → is_single l ≡ true → sp.OrIs Inner t l → sp.AndIs Inner t l
  lone_and t l single (sp.or u ls p) = lone_part (codes "||") (sp.AndIs Inner) tree.any
      (sp.joined tree.any ls) (λ ks. refl) single u ls p refl

  lone_plain : (t : Text) (l : tree.Logical) → is_single l ≡ true → sp.BasicIs Inner t l
      → sp.PlainIs Inner t l
  lone_plain t l single (sp.plain u k p) = p
  lone_plain t l single (sp.negated s u k b p) = absurd cc
  lone_plain t l single (sp.compared s u left right o p q) = absurd cc

  lone : (t : Text) (l : tree.Logical) → is_single l ≡ true → sp.OrIs Inner t l → sp.PlainIs Inner t l
  lone t l single p = lone_plain t l single (lone_basic t l single (lone_and t l single p))

  plain_query : (t : Text) (q : tree.Query) → sp.PlainIs Inner t (tree.test q)
      → IsTrue (not (begins_with 40 t)) → sp.QueryIs Inner t q
  plain_query t q (sp.tested u r p) h = p
  plain_query t q (sp.grouped s u v l a p b) h = absurd cc

  plain_call : (t : Text) (c : tree.Call) → sp.PlainIs Inner t (tree.test_call c)
      → IsTrue (not (begins_with 40 t)) → sp.CallIs Inner t c
  plain_call t c (sp.called u d p) h = p
  plain_call t c (sp.grouped s u v l a p b) h = absurd cc

  pub query_of : (t : Text) (q : tree.Query) → sp.OrIs Inner t (tree.test q) → IsTrue (not (begins_with 40 t))
      → sp.QueryIs Inner t q
  query_of t q p h = plain_query t q (lone t (tree.test q) refl p) h

  pub call_of : (t : Text) (c : tree.Call) → sp.OrIs Inner t (tree.test_call c)
      → IsTrue (not (begins_with 40 t)) → sp.CallIs Inner t c
  call_of t c p h = plain_call t c (lone t (tree.test_call c) refl p) h

  alone : (t : Text) (l : tree.Logical) → sp.BasicIs Inner t l → sp.OrIs Inner ((t ++ []) ++ []) l
  alone t l p =
      sp.or ((t ++ []) ++ []) (l ∷ [])
      (separated (t ++ []) [] l [] (sp.and (t ++ []) (l ∷ []) (separated t [] l [] p none)) none)

  by_itself : (t : Text) (l : tree.Logical) → sp.PlainIs Inner t l → sp.OrIs Inner t l
  by_itself t l p =
      let h : sp.OrIs Inner ((t ++ []) ++ []) l = alone t l (sp.plain t l p) in
      subst (λ (w : Text). sp.OrIs Inner w l) (append-nil (t ++ []) ∙ append-nil t) h

  query_start : (t : Text) (q : tree.Query) → sp.QueryIs Inner t q → IsTrue (not (begins_with 40 t))
  query_start t q (sp.query s u start ss sp.root p) = refl
  query_start t q (sp.query s u start ss sp.current p) = refl

  name_start : (f t : Text) → sp.IsFunctionName f → IsTrue (not (begins_with 40 (f ++ t)))
  name_start f t (run c u h k) =
      not_from_false (c == 40) (false_from_ne_true (c == 40) (never_at is_lower 40 refl c h))

  call_start : (t : Text) (c : tree.Call) → sp.CallIs Inner t c → IsTrue (not (begins_with 40 t))
  call_start t c (sp.call_of_none f s n b) = name_start f _ n
  call_start t c (sp.call f r s u xs n a p b) = name_start f _ n

  pub query_alone : (t : Text) (q : tree.Query)
      → (sp.OrIs Inner t (tree.test q) × IsTrue (not (begins_with 40 t))) ↔ sp.QueryIs Inner t q
  query_alone t q = (
    λ h. query_of t q h.0 h.1,
    λ p. (
      by_itself t (tree.test q) (sp.tested t q p),
      query_start
          t q p,
    ),
  )

  pub call_alone : (t : Text) (c : tree.Call)
      → (sp.OrIs Inner t (tree.test_call c) × IsTrue (not (begins_with 40 t))) ↔ sp.CallIs Inner t c
  call_alone t c = (
    λ h. call_of t c h.0 h.1,
    λ p. (
      by_itself t (tree.test_call c) (sp.called t c p),
      call_start t c p,
    ),
  )
