-- A loop whose each round is one turn.
use Rattle.std.proofs.Common.{◌≡◌, ℕ, zero, suc, ◌+◌, ◌<◌, List, [], ◌∷◌, ◌++◌, length, Option, Some, None}
use Rattle.std.proofs.Common.{refl, ap, ◌∙◌, arith, add-one, length-append}
use Rattle.jp_tree.specs.declared.fault.QueryFault.{QueryFault}
use Rattle.jp_tree.specs.declared.fault.QueryFault.TheVariants as faults
use Rattle.jp_tree.specs.Tree.{Text}
use Rattle.jp_tokens.specs.Gives.{Fails, Refuses}
use Rattle.jp_tokens.specs.Reading.{Outcome, Turn, ◌>>=◌, goes_on, many, all_of}
use Rattle.jp_tokens.proofs.Fronts.{Front, IsTurn}

-- where a part is not read, the whole is not read
pub still_fails : {X Y : Type 0} (e : QueryFault) (part : Option X) (whole : Option Y)
    → (part ≡ None → whole ≡ None) → Fails e part → Fails e whole
still_fails faults.Memory part whole none h = tt
still_fails faults.Syntax part whole none h = none h
still_fails faults.TooDeep part whole none h = absurd h
still_fails faults.Fraction part whole none h = absurd h
still_fails faults.Range part whole none h = absurd h
still_fails faults.IllTyped part whole none h = absurd h

-- what a function that takes no memory says of a refusal is what any function says of it
pub refusal_fails : {Y : Type 0} (e : QueryFault) (part : Option Y) → Refuses e part → Fails e part
refusal_fails faults.Memory part h = tt
refusal_fails faults.Syntax part h = h
refusal_fails faults.TooDeep part h = h
refusal_fails faults.Fraction part h = h
refusal_fails faults.Range part h = h
refusal_fails faults.IllTyped part h = h

-- behind another item less is left to read
pub record GetsOn {A : Type 0} (turn : Text → Turn A) : Type 0 where
  pub shorter : (t : Text) (x : A) (rest : Text) → turn t ≡ Some (Some x, rest) → length rest < length t

pub gets_on : {A : Type 0} (turn : Text → Turn A) (Part : Text → A → Type 0) (End : Text → Type 0)
    → ((t : Text) (o : Option A) (rest : Text) → turn t ≡ Some (o, rest)
    → Front (IsTurn turn Part End) t o rest)
    → ((s : Text) (x : A) → Part s x → 0 < length s) → GetsOn turn
gets_on turn Part End sound some = record {
  shorter = λ t x rest e.
      let f = sound t (Some x) rest e in
      let least = some f.front x f.part in
      let sizes = ap length f.whole in
      omega (arith, length-append f.front rest);
}

bind_same : {A B : Type 0} (o : Option A) (f g : A → Option B) → ((x : A) → o ≡ Some x → f x ≡ g x)
    → (o >>= f) ≡ (o >>= g)
bind_same None f g h = refl
bind_same (Some x) f g h = h x refl

goes_same : {A : Type 0} (go ho : List A → Text → Outcome (List A)) (found : List A) (o : Option A) (t : Text)
    → ((x : A) → o ≡ Some x → go (found ++ x ∷ []) t ≡ ho (found ++ x ∷ []) t)
    → goes_on go found o t ≡ goes_on ho found o t
goes_same go ho found None t h = refl
goes_same go ho found (Some x) t h = h x refl

module _ {A : Type 0} (turn : Text → Turn A) (on : GetsOn turn) where
  -- more turns than there are characters are enough
  enough : (n m : ℕ) (found : List A) (t : Text) → length t < n → length t < m
      → many turn n found t ≡ many turn m found t
  unfolding many
  enough zero m found t h k = absurd (omega arith)
  enough (suc n) zero found t h k = absurd (omega arith)
  enough (suc n) (suc m) found t h k =
      bind_same (turn t) (λ p. goes_on (many turn n) found p.0 p.1) (λ p. goes_on (many turn m) found p.0 p.1)
      (λ p e.
      goes_same (many turn n) (many turn m) found p.0 p.1 (λ x is.
      let less = on.shorter t x p.1 (e ∙ ap (λ (o : Option A). Some (o, p.1)) is) in
      enough n m (found ++ x ∷ []) p.1 (omega arith) (omega arith)))

  one_turn : (found : List A) (t : Text) → many turn (suc (length t)) found t
      ≡ (turn t >>= λ p. goes_on (all_of turn) found p.0 p.1)
  unfolding many all_of
  one_turn found t =
      bind_same (turn t) (λ p. goes_on (many turn (length t)) found p.0 p.1)
      (λ p. goes_on (all_of turn) found p.0 p.1) (λ p e.
      goes_same (many turn (length t)) (all_of turn) found p.0 p.1 (λ x is.
      let less = on.shorter t x p.1 (e ∙ ap (λ (o : Option A). Some (o, p.1)) is) in
      enough (length t) (length p.1 + 1) (found ++ x ∷ []) p.1 (omega arith) (omega arith)))

  all_turn : (found : List A) (t : Text)
      → all_of turn found t ≡ (turn t >>= λ p. goes_on (all_of turn) found p.0 p.1)
  unfolding all_of
  all_turn found t = ap (λ (n : ℕ). many turn n found t) (add-one (length t)) ∙ one_turn found t

  module _ (total : Outcome (List A)) (found : List A) (t : Text) (so : total ≡ all_of turn found t) where
    pub turn_fails : (e : QueryFault) → Fails e (turn t) → Fails e total
    turn_fails e h = still_fails e (turn t) total (λ none. so ∙ all_turn found t ∙ rw none refl) h

    pub turn_ends : (o : Option A) (rest : Text) → turn t ≡ Some (o, rest) → o ≡ None
        → total ≡ Some (found, rest)
    turn_ends o rest h k = so ∙ all_turn found t ∙ rw (h, k) refl

    pub turn_goes : (o : Option A) (x : A) (rest : Text) → turn t ≡ Some (o, rest) → o ≡ Some x
        → total ≡ all_of turn (found ++ x ∷ []) rest
    turn_goes o x rest h k = so ∙ all_turn found t ∙ rw (h, k) refl

  pub turn_shortens : (t : Text) (o : Option A) (x : A) (rest : Text) → turn t ≡ Some (o, rest) → o ≡ Some x
      → length rest < length t
  turn_shortens t o x rest h k = on.shorter t x rest (h ∙ ap (λ (p : Option A). Some (p, rest)) k)
