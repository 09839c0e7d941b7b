-- What is asked, in terms of its texts: they spell one thing, or are refused with one fault.
use Rattle.std.proofs.Common.{◌≡◌, ◌∙◌, ◌⊎◌, inl, inr, Option, Some, None, Result, Ok, Err, IsErrAnd, refl}
use Rattle.std.proofs.Common.{IfErr, ap, ap₂, sym, subst}
use Rattle.jp_number.specs.declared.numbers.Numbers.{Numbers}
use Rattle.jp_number.specs.declared.numbers.Numbers.TheVariants.{Whole, Decimals}
use Rattle.jp_tree.specs.Tree as tree
use Rattle.jp_tree.specs.Tree.{Text, Logical}
use Rattle.jp_tree.specs.declared.fault.QueryFault.{QueryFault}
use Rattle.jp_tree.specs.declared.fault.QueryFault.TheVariants.{TooDeep, Syntax, Fraction, Range, IllTyped}
use Rattle.jp_tree.specs.declared.fault.QueryFault.TheVariants as query_fault
use Rattle.jp_compiled.specs.Filter.{filter_query}
use Rattle.jp_check.specs.Filter.{IsFilterVerdictIn, IsMoreThanFilter, filter_inside, filter_text}
use Rattle.jp_check.specs.Verdict.{IsAcceptedIn, IsVerdictIn}
use Rattle.jp_check.proofs.OneVerdict.{one_verdict}
use Rattle.jp_check.proofs.WithDecimals.{text_accepted}
use Rattle.jp_answer.specs.FilteredQuery.{FilteredQuery}
use Rattle.jp_run.specs.AskedTexts.{AskedTexts, AreAcceptedIn, AreRefusedIn, IsFilterOf, IsFilterRefused}
use Rattle.jp_run.specs.declared.fault.RunFault.{RunFault}
use Rattle.jp_run.specs.declared.fault.RunFault.TheVariants.{Query, Filter, Document, Read, Write, Limit}
use Rattle.jp_run.specs.declared.fault.RunFault.TheVariants.{Memory, Settings}

same_ok : {X E : Type 0} (x y : X) → ◌≡◌ {A = Result X E} (Ok x) (Ok y) → x ≡ y
same_ok x y e = cc

same_err : {X E : Type 0} (x y : E) → ◌≡◌ {A = Result X E} (Err x) (Err y) → x ≡ y
same_err x y e = cc

-- what is walked is what was accepted
pub spelled : (n m : Numbers) (asked : AskedTexts) (q : tree.Query) (f : Option Logical) (p : FilteredQuery)
    → n ≡ m → q ≡ p.query → f ≡ p.filter → AreAcceptedIn n asked p
    → AreAcceptedIn m asked (record { filter = f; query = q })
spelled n m asked q f p same is chosen h = record {
  query = subst (λ n. IsAcceptedIn n asked.query q) same (subst (IsAcceptedIn n asked.query) (sym is)
      h.query);
  filter = subst (λ n. IsFilterOf n asked.filter f) same
      (subst (IsFilterOf n asked.filter) (sym chosen) h.filter);
}

-- texts spell one thing
module _ (n : Numbers) where
  one_query : (text : Text) (q r : tree.Query) → IsAcceptedIn n text q → IsAcceptedIn n text r → q ≡ r
  one_query text q r h k = same_ok {E = QueryFault} q r (one_verdict n text (Ok q) (Ok r) h k)

  one_filter : (filter : Option Text) (f g : Option Logical) → IsFilterOf n filter f → IsFilterOf n filter g
      → f ≡ g
  one_filter None f g h k = h ∙ sym k
  one_filter (Some text) f g (l, is, h) (m, be, k) = is ∙ ap Some (ap filter_inside
      (one_query (filter_text text) (filter_query l) (filter_query m) h k)) ∙ sym be

  pub one_asked : (asked : AskedTexts) (q r : FilteredQuery) → AreAcceptedIn n asked q
      → AreAcceptedIn n asked r → q ≡ r
  one_asked asked q r h k = ap₂ (λ f s. record { filter = f; query = s })
      (one_filter asked.filter q.filter r.filter h.filter k.filter)
      (one_query asked.query q.query r.query h.query k.query)

  -- a refused one has one fault

  pub not_both : {P : Type 0} (text : Text) (q : tree.Query) (f : QueryFault) → IsAcceptedIn n text q
      → IsVerdictIn n text (Err f) → P
  not_both text q f h k =
      let e : ◌≡◌ {A = Result tree.Query QueryFault} (Ok q) (Err f) =
      one_verdict n text (Ok q) (Err f) h k in
      absurd cc

  -- a filter's text is refused as the query's text with it, or since it is more than a filter
  Refusal : Text → QueryFault → Type 0
  Refusal text f = IsVerdictIn n (filter_text text) (Err f)
      ⊎ ((f ≡ Syntax) × IsMoreThanFilter n (filter_text text))

  refusal : (text : Text) (f : QueryFault) → IsFilterVerdictIn n text (Err f) → Refusal text f
  unfolding Refusal
  refusal text TooDeep v = inl v
  refusal text Syntax (inl v) = inl v
  refusal text Syntax (inr more) = inr (refl, more)
  refusal text Fraction v = inl v
  refusal text Range v = inl v
  refusal text IllTyped v = inl v
  refusal text query_fault.Memory v = inl v

  one_of : (text : Text) (f g : QueryFault) → Refusal text f → Refusal text g → f ≡ g
  unfolding Refusal
  one_of text f g (inl v) (inl w) =
      same_err {X = tree.Query} f g (one_verdict n (filter_text text) (Err f) (Err g) v w)
  one_of text f g (inl v) (inr (d, more)) = not_both (filter_text text) more.0 f more.1 v
  one_of text f g (inr (e, more)) (inl w) = not_both (filter_text text) more.0 g more.1 w
  one_of text f g (inr (e, more)) (inr (d, less)) = e ∙ sym d

  one_fault : (filter : Option Text) (f g : QueryFault) → IsFilterRefused n filter f
      → IsFilterRefused n filter g → f ≡ g
  one_fault None f g h k = absurd h
  one_fault (Some text) f g h k = one_of text f g (refusal text f h) (refusal text g k)

  never_refused : {P : Type 0} (text : Text) (l : Logical) (f : QueryFault)
      → IsAcceptedIn n (filter_text text) (filter_query l) → Refusal text f → P
  unfolding Refusal
  never_refused text l f h (inl v) = not_both (filter_text text) (filter_query l) f h v
  never_refused text l f h (inr (e, more)) =
      absurd (more.2 l (one_query (filter_text text) more.0 (filter_query l) more.1 h))

  pub not_refused : {P : Type 0} (filter : Option Text) (o : Option Logical) (f : QueryFault)
      → IsFilterOf n filter o → IsFilterRefused n filter f → P
  not_refused None o f h k = absurd k
  not_refused (Some text) o f (l, is, h) k = never_refused text l f h (refusal text f k)

  pub one_refusal : (asked : AskedTexts) (a b : RunFault) → AreRefusedIn n asked a → AreRefusedIn n asked b
      → a ≡ b
  one_refusal asked (Query f) (Query g) h k =
      ap Query (same_err {X = tree.Query} f g (one_verdict n asked.query (Err f) (Err g) h k))
  one_refusal asked (Query f) (Filter g) h k = not_both asked.query k.0.0 f k.0.1 h
  one_refusal asked (Filter f) (Query g) h k = not_both asked.query h.0.0 g h.0.1 k
  one_refusal asked (Filter f) (Filter g) h k = ap Filter (one_fault asked.filter f g h.1 k.1)
  one_refusal asked (Query f) (Document line fault) h k = absurd k
  one_refusal asked (Query f) Read h k = absurd k
  one_refusal asked (Query f) Write h k = absurd k
  one_refusal asked (Query f) Limit h k = absurd k
  one_refusal asked (Query f) Memory h k = absurd k
  one_refusal asked (Query f) Settings h k = absurd k
  one_refusal asked (Filter f) (Document line fault) h k = absurd k
  one_refusal asked (Filter f) Read h k = absurd k
  one_refusal asked (Filter f) Write h k = absurd k
  one_refusal asked (Filter f) Limit h k = absurd k
  one_refusal asked (Filter f) Memory h k = absurd k
  one_refusal asked (Filter f) Settings h k = absurd k
  one_refusal asked (Document line fault) b h k = absurd h
  one_refusal asked Read b h k = absurd h
  one_refusal asked Write b h k = absurd h
  one_refusal asked Limit b h k = absurd h
  one_refusal asked Memory b h k = absurd h
  one_refusal asked Settings b h k = absurd h

  -- what is accepted is not refused
  pub taken_or_refused : {P : Type 0} (asked : AskedTexts) (q : FilteredQuery) (fault : RunFault)
      → AreAcceptedIn n asked q → AreRefusedIn n asked fault → P
  taken_or_refused asked q (Query f) h k = not_both asked.query q.query f h.query k
  taken_or_refused asked q (Filter f) h k = not_refused asked.filter q.filter f h.filter k.1
  taken_or_refused asked q (Document line fault) h k = absurd k
  taken_or_refused asked q Read h k = absurd k
  taken_or_refused asked q Write h k = absurd k
  taken_or_refused asked q Limit h k = absurd k
  taken_or_refused asked q Memory h k = absurd k
  taken_or_refused asked q Settings h k = absurd k

-- what a call tells that ends in a fault

told_by : {T : Type 0} (told fault : RunFault) (r : Result T RunFault) → IsErrAnd r (λ e. e ≡ fault)
    → r ≡ Err told → fault ≡ told
told_by told fault (Ok x) is e = absurd is
told_by {T} told fault (Err g) is e = sym is ∙ same_err {X = T} g told e

err_is : {T : Type 0} (fault : RunFault) (r : Result T RunFault) → IsErrAnd r (λ e. e ≡ fault) → r ≡ Err fault
err_is fault (Ok x) is = absurd is
err_is fault (Err g) is = ap Err is

-- the texts are refused so, or memory was wanted
abbrev pub IsPreparing : Numbers → AskedTexts → RunFault → Type 0
IsPreparing n asked fault = (fault ≡ Memory) ⊎ AreRefusedIn n asked fault

-- the query is accepted, and the filter is not
pub filter_preparing : {T : Type 0} (n : Numbers) (asked : AskedTexts) (q : tree.Query) (fault : RunFault)
    (r : Result T RunFault) → IsErrAnd r (λ e. e ≡ fault) → IsAcceptedIn n asked.query q
    → (fault ≡ Memory) ⊎ ((f : QueryFault) × (fault ≡ Filter f) × IsFilterRefused n asked.filter f)
    → IfErr r (IsPreparing n asked)
filter_preparing n asked q fault (Ok x) is h refused = absurd is
filter_preparing n asked q fault (Err e) is h (inl memory) = inl (is ∙ memory)
filter_preparing n asked q fault (Err e) is h (inr (f, same, refused)) =
    inr (subst (AreRefusedIn n asked) (sym (is ∙ same)) ((q, h), refused))

module _ (n m : Numbers) (asked : AskedTexts) (same : n ≡ m) where
  told_of : (told fault : RunFault) → fault ≡ told → IsPreparing n asked fault → (told ≡ Memory → ⊥)
      → AreRefusedIn m asked told
  told_of told fault e (inl memory) not = absurd (not (sym e ∙ memory))
  told_of told fault e (inr refused) not =
      subst (λ k. AreRefusedIn k asked told) same (subst (AreRefusedIn n asked) e refused)

  -- what is told is why they are refused
  pub refusal_told : {T : Type 0} (told fault : RunFault) (r : Result T RunFault)
      → IsErrAnd r (λ e. e ≡ fault) → IsPreparing n asked fault → (told ≡ Memory → ⊥) → r ≡ Err told
      → AreRefusedIn m asked told
  refusal_told told fault r is h not e = told_of told fault (told_by told fault r is e) h not

  told_for : {T : Type 0} (told fault : RunFault) (r : Result T RunFault) → r ≡ Err fault
      → IsPreparing n asked fault → AreRefusedIn n asked told → (r ≡ Err told) ⊎ (r ≡ Err Memory)
  told_for told fault r e (inl memory) v = inr (e ∙ ap Err memory)
  told_for told fault r e (inr refused) v = inl (e ∙ ap Err (one_refusal n asked fault told refused v))

  -- and of refused texts that is told, or want of memory
  pub refused_so : {T : Type 0} (told fault : RunFault) (r : Result T RunFault)
      → IsErrAnd r (λ e. e ≡ fault) → IsPreparing n asked fault → AreRefusedIn m asked told
      → (r ≡ Err told) ⊎ (r ≡ Err Memory)
  refused_so told fault r is h v =
      told_for told fault r (err_is fault r is) h (subst (λ k. AreRefusedIn k asked told) (sym same) v)

  filter_for : {T : Type 0} (f : QueryFault) (fault : RunFault) (r : Result T RunFault) → r ≡ Err fault
      → IsPreparing n asked fault → IsFilterRefused n asked.filter f
      → (r ≡ Err (Filter f)) ⊎ (r ≡ Err Memory) ⊎ ((g : QueryFault) × (r ≡ Err (Query g)))
  filter_for f (Query g) r e h v = inr (inr (g, e))
  filter_for f (Filter g) r e (inl memory) v = absurd cc
  filter_for f (Filter g) r e (inr h) v =
      inl (e ∙ ap (λ (x : QueryFault). Err (Filter x)) (one_fault n asked.filter g f h.1 v))
  filter_for f (Document line fault) r e (inl memory) v = absurd cc
  filter_for f (Document line fault) r e (inr h) v = absurd h
  filter_for f Read r e (inl memory) v = absurd cc
  filter_for f Read r e (inr h) v = absurd h
  filter_for f Write r e (inl memory) v = absurd cc
  filter_for f Write r e (inr h) v = absurd h
  filter_for f Limit r e (inl memory) v = absurd cc
  filter_for f Limit r e (inr h) v = absurd h
  filter_for f Memory r e h v = inr (inl e)
  filter_for f Settings r e (inl memory) v = absurd cc
  filter_for f Settings r e (inr h) v = absurd h

  -- of a refused filter that is told, or that the query is, or want of memory
  pub filter_refused_so : {T : Type 0} (f : QueryFault) (fault : RunFault) (r : Result T RunFault)
      → IsErrAnd r (λ e. e ≡ fault) → IsPreparing n asked fault → IsFilterRefused m asked.filter f
      → (r ≡ Err (Filter f)) ⊎ (r ≡ Err Memory) ⊎ ((g : QueryFault) × (r ≡ Err (Query g)))
  filter_refused_so f fault r is h v = filter_for f fault r (err_is fault r is) h
      (subst (λ k. IsFilterRefused k asked.filter f) (sym same) v)

  -- of accepted texts nothing is
  pub none_refused : {P : Type 0} (q : FilteredQuery) (fault : RunFault) → AreAcceptedIn n asked q
      → AreRefusedIn m asked fault → P
  none_refused q fault h k =
      taken_or_refused n asked q fault h (subst (λ k. AreRefusedIn k asked fault) (sym same) k)

  pub no_filter_refused : {P : Type 0} (q : FilteredQuery) (f : QueryFault) → AreAcceptedIn n asked q
      → IsFilterRefused m asked.filter f → P
  no_filter_refused q f h k = not_refused n asked.filter q.filter f h.filter
      (subst (λ k. IsFilterRefused k asked.filter f) (sym same) k)

-- what is accepted with whole numbers is accepted with decimals
filter_accepted : (filter : Option Text) (f : Option Logical) → IsFilterOf Whole filter f
    → IsFilterOf Decimals filter f
filter_accepted None f h = h
filter_accepted (Some text) f (l, is, h) = (l, is, text_accepted (filter_text text) (filter_query l) h)

pub with_decimals : (asked : AskedTexts) (q : FilteredQuery) → AreAcceptedIn Whole asked q
    → AreAcceptedIn Decimals asked q
with_decimals asked q h = record {
  query = text_accepted asked.query q.query h.query;
  filter = filter_accepted asked.filter q.filter h.filter;
}
