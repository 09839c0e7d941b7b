-- Inputs in turn: one more of them, and where they ended.
use Rattle.std.proofs.Common.{◌≡◌, ◌∙◌, ℕ, ◌+◌, ◌<◌, List, [], ◌∷◌, ◌++◌, take, drop, suc, length}
use Rattle.std.proofs.Common.{get_or, map}
use Rattle.std.proofs.Common.{zero, Option, Bool, true, false, ◌||◌, refl, sym, ap, subst, arith}
use Rattle.std.proofs.Common.{take-append-drop, length-take-le}
use Rattle.std.proofs.Math.ListN.{length-map}
use Rattle.std.proofs.Math.Seq.{drop-cons}
use Rattle.std.proofs.lemmas.List.{get_or-map, take_more}
use Rattle.std.proofs.lemmas.List.Elements.{All-push, All-contains, Contains-push, All-nil, All-cons}
use Rattle.std.proofs.lemmas.List.Elements.{All-head, All-tail}
use Rattle.std.specs.Borrow.{Bor}
use Rattle.std.specs.List.{All}
use Rattle.clap.specs.Walk.{Text, texts}
use Rattle.jp_run.specs.Counts.{counted}
use Rattle.jp_program.specs.Inputs.{Course, EachInTurn, EndsAt, EndsIn, Held, Input, Standing, inputs_of}
use Rattle.jp_program.specs.Inputs.{counted_times, named, standard}

pub each_more : {A : Type 0} (Did : Input → A → A → Type 0) (inputs : List Input) (input : Input)
    (old mid new : A) → EachInTurn Did inputs old mid → Did input mid new
    → EachInTurn Did (inputs ++ input ∷ []) old new
each_more Did [] input old mid new h d = subst (λ s. Did input s new) h d
each_more Did (x ∷ []) input old mid new h d = (mid, h, d)
each_more Did (x ∷ y ∷ inputs) input old mid new h d =
    (h.0, h.1, each_more Did (y ∷ inputs) input h.0 mid new h.2 d)

-- what each was done with, said more weakly
pub each_weaker : {A : Type 0} (Did Does : Input → A → A → Type 0)
    → ((input : Input) (old new : A) → Did input old new → Does input old new) → (inputs : List Input)
    (old new : A) → EachInTurn Did inputs old new → EachInTurn Does inputs old new
each_weaker Did Does k [] old new h = h
each_weaker Did Does k (x ∷ []) old new h = k x old new h
each_weaker Did Does k (x ∷ y ∷ inputs) old new h =
    (h.0, k x old h.0 h.1, each_weaker Did Does k (y ∷ inputs) h.0 new h.2)

-- the input of the name at a place
pub input_at : (holds : Text → Held) (names : List (Bor Text)) (i : ℕ) (d : Bor Text) → i < length names
    → named holds (get_or names i d).now
    ≡ get_or (map (named holds) (texts names)) i (named holds (get_or names i d).now)
input_at holds names i d h =
    let text : get_or (texts names) i (get_or names i d).now ≡ (get_or names i d).now =
    get_or-map (λ (s : Bor Text). s.now) names i d (get_or names i d).now h in
    let long : i < length (texts names) = rw length-map h in
    sym (get_or-map (named holds) (texts names) i (get_or names i d).now
    (named holds (get_or names i d).now) long ∙ ap (named holds) text)

pub inputs_long : (holds : Text → Held) (names : List (Bor Text))
    → length (map (named holds) (texts names)) ≡ length names
inputs_long holds names = rw length-map (rw length-map refl)

-- the inputs before a place and the one there
module _ (inputs : List Input) (i : ℕ) (input : Input) (h : i < length inputs)
    (is : input ≡ get_or inputs i input) where
  front_more : take (i + 1) inputs ≡ take i inputs ++ input ∷ []
  front_more = take_more inputs i input h ∙ ap (λ x. take i inputs ++ x ∷ []) (sym is)

  pub turn_more : {A : Type 0} (Did : Input → A → A → Type 0) (old mid new : A)
      → EachInTurn Did (take i inputs) old mid → Did input mid new
      → EachInTurn Did (take (i + 1) inputs) old new
  turn_more Did old mid new each did = subst (λ xs. EachInTurn Did xs old new)
      (sym front_more) (each_more Did (take i inputs) input old mid new each did)

  -- all of them: those before, this one, and those behind
  cut_at : inputs ≡ take i inputs ++ input ∷ drop (suc i) inputs
  cut_at = sym (take-append-drop i inputs) ∙ ap (λ xs. take i inputs ++ xs)
      (drop-cons inputs i input h ∙ ap (λ x. x ∷ drop (suc i) inputs) (sym is))

  pub ended_at : (Did : Input → Standing → Standing → Type 0)
      (Ended : Input → Option (List ℕ) → Option (List ℕ) → Type 0) (mid : Option (List ℕ)) (failed : ℕ)
      (c : Course) → EachInTurn Did (take i inputs) (c.contents, 0) (mid, failed)
      → Ended input mid c.contents_new → c.opens_new ≡ counted c.opens (i + 1)
      → c.broken_new ≡ counted_times failed c.broken → EndsAt Did Ended inputs c
  ended_at Did Ended mid failed c each ended e failures = record {
    front = take i inputs;
    input = input;
    behind = drop (suc i) inputs;
    mid = mid;
    failed = failed;
    inputs_are = cut_at;
    before = each;
    ended = ended;
    opened = e ∙ ap (λ n. counted c.opens (n + 1)) (sym (length-take-le i inputs (omega (arith, h))));
    failures = failures;
  }

-- the same, where a sink has this
abbrev pub course_with : Course → Option (List ℕ) → Course
course_with c after = record {
  opens = c.opens;
  opens_new = c.opens_new;
  broken = c.broken;
  broken_new = c.broken_new;
  contents = c.contents;
  contents_new = after;
}

-- where it ended, said more weakly, or of another sink
module _ (Did : Input → Standing → Standing → Type 0)
    (Ended Ends : Input → Option (List ℕ) → Option (List ℕ) → Type 0) (c : Course) (after : Option (List ℕ))
    (k : (input : Input) (mid : Option (List ℕ)) → Ended input mid c.contents_new → Ends input mid after)
  where
    pub ends_weaker : (inputs : List Input) → EndsAt Did Ended inputs c
        → EndsAt Did Ends inputs (course_with c after)
    ends_weaker inputs h = record {
      front = h.front;
      input = h.input;
      behind = h.behind;
      mid = h.mid;
      failed = h.failed;
      inputs_are = h.inputs_are;
      before = h.before;
      ended = k h.input h.mid h.ended;
      opened = h.opened;
      failures = h.failures;
    }

    pub in_weaker : (files : List Text) (holds : Text → Held) (first : Held)
        → EndsIn Did Ended files holds first c → EndsIn Did Ends files holds first (course_with c after)
    in_weaker [] holds first h = k (standard first) c.contents h
    in_weaker (name ∷ names) holds first h = ends_weaker (map (named holds) (name ∷ names)) h

-- where no file is named there is standard input alone
module _ (files : List Text) (none : files ≡ []) (holds : Text → Held) (first : Held) where
  pub alone : {A : Type 0} (Did : Input → A → A → Type 0) (old new : A) → Did (standard first) old new
      → EachInTurn Did (inputs_of files holds first) old new
  alone Did old new h = subst (λ fs. EachInTurn Did (inputs_of fs holds first) old new) (sym none) h

  pub ended_alone : (Did : Input → Standing → Standing → Type 0)
      (Ended : Input → Option (List ℕ) → Option (List ℕ) → Type 0) (c : Course)
      → Ended (standard first) c.contents c.contents_new → EndsIn Did Ended files holds first c
  ended_alone Did Ended c h = subst (λ fs. EndsIn Did Ended fs holds first c) (sym none) h

-- where files are named there is no other input
pub all_named : (files : List Text) (holds : Text → Held) (first : Held) → 0 < length files
    → inputs_of files holds first ≡ map (named holds) files
all_named [] holds first some = absurd (omega (arith, some))
all_named (name ∷ names) holds first some = refl

pub ended_named : (Did : Input → Standing → Standing → Type 0)
    (Ended : Input → Option (List ℕ) → Option (List ℕ) → Type 0) (files : List Text) (holds : Text → Held)
    (first : Held) (c : Course) → 0 < length files → EndsAt Did Ended (map (named holds) files) c
    → EndsIn Did Ended files holds first c
ended_named Did Ended [] holds first c some h = absurd (omega (arith, some))
ended_named Did Ended (name ∷ names) holds first c some h = h

-- all of them have some property
module _ (P : Input → Type 0) where
  all_left : (xs ys : List Input) → All P (xs ++ ys) → All P xs
  all_left [] ys all = All-nil P
  all_left (x ∷ xs) ys all =
      All-cons P x xs (All-head P x (xs ++ ys) all) (all_left xs ys (All-tail P x (xs ++ ys) all))

  pub all_but_last : (inputs : List Input) (i : ℕ) (input : Input) (h : i < length inputs)
      → input ≡ get_or inputs i input → All P (take (i + 1) inputs) → All P (take i inputs) × P input
  all_but_last inputs i input h is all =
      let more : take (i + 1) inputs ≡ take i inputs ++ input ∷ [] =
      take_more inputs i input h ∙ ap (λ x. take i inputs ++ x ∷ []) (sym is) in
      let both : All P (take i inputs ++ input ∷ []) = subst (λ xs. All P xs) more all in (
        all_left (take i inputs) (input ∷ []) both,
        All-contains P (take i inputs ++ input ∷ []) input both (Contains-push (take i inputs) input),
      )

  pub all_and_last : (inputs : List Input) (i : ℕ) (input : Input) (h : i < length inputs)
      → input ≡ get_or inputs i input → All P (take i inputs) → P input → All P (take (i + 1) inputs)
  all_and_last inputs i input h is all p =
      let more : take (i + 1) inputs ≡ take i inputs ++ input ∷ [] =
      take_more inputs i input h ∙ ap (λ x. take i inputs ++ x ∷ []) (sym is) in
      subst (λ xs. All P xs) (sym more) (All-push P (take i inputs) input all p)

-- what was written for two
pub none_of_two : (a b both : Bool) → both ≡ a || b → both ≡ false → (a ≡ false) × (b ≡ false)
none_of_two false b both is e = (refl, sym is ∙ e)
none_of_two true b both is e = absurd (let k : true ≡ false = sym is ∙ e in cc)

-- the same of two counts
pub none_counted : (a b both : ℕ) → both ≡ counted a b → both ≡ 0 → (a ≡ 0) × (b ≡ 0)
none_counted a b both is e = (omega (arith, is, e), omega (arith, is, e))

pub one_counted : {P : Type 0} (a b both : ℕ) → both ≡ counted a b → 0 < both → (0 < a → P) → (0 < b → P)
    → P
one_counted zero b both is e p q = q (omega (arith, is, e))
one_counted (suc a) b both is e p q = p (omega arith)

-- the same of files by their names, of which what opens them says what they hold
module _ (holds held : Text → Held) (same : held ≡ holds) (names : List (Bor Text)) (i : ℕ) (d : Bor Text)
    (h : i < length names) where
  abbrev inputs : List Input
  inputs = map (named holds) (texts names)

  long : i < length inputs
  long = subst (λ n. i < n) (sym (inputs_long holds names)) h

  here : named holds (get_or names i d).now ≡ get_or inputs i (named holds (get_or names i d).now)
  here = input_at holds names i d h

  pub file_more : {A : Type 0} (Did : Input → A → A → Type 0) (old mid new : A)
      → EachInTurn Did (take i inputs) old mid → Did (named held (get_or names i d).now) mid new
      → EachInTurn Did (take (i + 1) inputs) old new
  file_more Did old mid new each did = turn_more inputs i _ long here Did old mid new each
      (subst (λ (f : Text → Held). Did (named f (get_or names i d).now) mid new) same did)

  pub file_ended : (Did : Input → Standing → Standing → Type 0)
      (Ended : Input → Option (List ℕ) → Option (List ℕ) → Type 0) (mid : Option (List ℕ)) (failed : ℕ)
      (c : Course) → EachInTurn Did (take i inputs) (c.contents, 0) (mid, failed)
      → Ended (named held (get_or names i d).now) mid c.contents_new → c.opens_new ≡ counted c.opens (i + 1)
      → c.broken_new ≡ counted_times failed c.broken → EndsAt Did Ended inputs c
  file_ended Did Ended mid failed c each ended e failures = ended_at inputs i _ long here Did Ended mid failed
      c each
      (subst (λ (f : Text → Held). Ended (named f (get_or names i d).now) mid c.contents_new) same ended)
      e failures

  pub all_files_but_last : (P : Input → Type 0) → All P (take (i + 1) inputs)
      → All P (take i inputs) × P (named held (get_or names i d).now)
  all_files_but_last P all =
      let both = all_but_last P inputs i _ long here all in
      (both.0, subst (λ (f : Text → Held). P (named f (get_or names i d).now)) (sym same) both.1)

  pub all_files_and_last : (P : Input → Type 0) → All P (take i inputs)
      → P (named held (get_or names i d).now) → All P (take (i + 1) inputs)
  all_files_and_last P all p = all_and_last P inputs i _ long here all
      (subst (λ (f : Text → Held). P (named f (get_or names i d).now)) same p)
