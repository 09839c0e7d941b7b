-- What `get_one` reads is what is said of an option.
use Rattle.std.proofs.Common.{◌≡◌, ◌∙◌, ℕ, ◌≤◌, ◌<◌, ◌^◌, Bool, true, false, List, Option, Some, None}
use Rattle.std.proofs.Common.{IfSome, option_map, unwrap_or, codes, []}
use Rattle.std.proofs.Common.{Result, Ok, Err, refl, sym, ap, arith, subst}
use Rattle.std.specs.Borrow.{Bor}
use Rattle.std.specs.Prelude.{IsNone}
use Rattle.std.specs.Str.Parse.{ParsesUnsigned, ParsesBool}
use Rattle.clap.specs.Matches.{ReadsOne}
use Rattle.std.specs.Str.{chars}
use Rattle.clap.specs.Walk.{Text, Row, texts, all_of, first_of, one_of}
use Rattle.jp_run.specs.declared.output.Output.{Output}
use Rattle.jp_output.specs.declared.layout.Ending.{Ending}
use Rattle.jp_output.specs.declared.layout.Ending.TheVariants.{LineFeed, Null}
use Rattle.jp_program.specs.Wanted.{SaysNumber, SaysFlag, flag_text, SaysOutput, SaysEnding, GoesWith}
use Rattle.jp_program.specs.Wanted.{CountsIn, SaysCounts, ends_with_null, is_of_nodes, is_of_values}
use Rattle.jp_program.specs.Wanted.{AreSaid, SaysFilter, output_text}
use Rattle.jp_program.proofs.OneWish.{flag_same}

-- a text that is read as an option's value, by the type's own reading
module _ {T E : Type 0} (reads : List ℕ → Result T E → Type 0) (o : Option Text) where
  read_at : (r : Option T) (t : Option Text) → o ≡ t → (o ≡ None → r ≡ None)
      → ((x : Text) → o ≡ Some x → ReadsOne reads x r)
      → IfSome r (λ v. (x : Text) × (o ≡ Some x) × reads x (Ok v))
  read_at None t e none value = tt
  read_at (Some v) None e none value = absurd (let bad = none e in cc)
  read_at (Some v) (Some x) e none value = (x, e, value x e)

  -- a value comes from the option's text
  pub read_some : (r : Option T) → (o ≡ None → r ≡ None) → ((x : Text) → o ≡ Some x → ReadsOne reads x r)
      → IfSome r (λ v. (x : Text) × (o ≡ Some x) × reads x (Ok v))
  read_some r none value = read_at r o refl none value

  -- and where there is none, a text is not read
  pub read_none : (r : Option T) → ((x : Text) → o ≡ Some x → ReadsOne reads x r) → IsNone r → (x : Text)
      → o ≡ Some x → (e : E) × reads x (Err e)
  read_none None value h x e = value x e
  read_none (Some v) value h x e = absurd (cc)

some_weaker : {T : Type 0} (r : Option T) (P R : T → Type 0) → ((v : T) → P v → R v) → IfSome r P → IfSome r R
some_weaker None P R f h = tt
some_weaker (Some v) P R f h = f v h

flag_read : (E : Type 0) (b : Bool) (x : Text) → ParsesBool {E = E} x (Ok b) → x ≡ flag_text b
flag_read E true x h = h
flag_read E false x h = h

module _ (E : Type 0) (name : Text) (rows : List Row) (o : Option Text) (is : o ≡ one_of name rows) where
  module _ (reads : List ℕ → Result ℕ E → Type 0)
      (number : (x : Text) (r : Result ℕ E) → reads x r → ParsesUnsigned 64 10 x r) where
    pub number_some : (r : Option ℕ) → (o ≡ None → r ≡ None)
        → ((x : Text) → o ≡ Some x → ReadsOne reads x r) → IfSome r (SaysNumber name rows)
    number_some r none value = some_weaker r _ _ (λ v h. let n = number h.0 (Ok v) h.2 in
        (h.0, sym is ∙ h.1, n.0.0, sym n.1)) (read_some reads o r none value)

    pub number_none : (r : Option ℕ) → ((x : Text) → o ≡ Some x → ReadsOne reads x r) → IsNone r
        → (n : ℕ) → SaysNumber name rows n → 2 ^ 64 ≤ n
    number_none r value h n s =
        let e = read_none reads o r value h s.0 (is ∙ s.1) in
        let not_few : n < 2 ^ 64 → ⊥ = λ lt. number s.0 (Err e.0) e.1 (s.2, omega (arith, lt, s.3)) in
        omega (arith, not_few)

  pub flag_some : (r : Option Bool) → (o ≡ None → r ≡ None)
      → ((x : Text) → o ≡ Some x → ReadsOne (ParsesBool {E = E}) x r)
      → IfSome r (SaysFlag name rows)
  flag_some r none value = some_weaker r _ _
      (λ b h. sym is ∙ h.1 ∙ ap Some (flag_read E b h.0 h.2)) (read_some ParsesBool o r none value)

  pub flag_none : (r : Option Bool) → ((x : Text) → o ≡ Some x → ReadsOne (ParsesBool {E = E}) x r)
      → IsNone r → (b : Bool) → SaysFlag name rows b → ⊥
  flag_none r value h true s = (read_none ParsesBool o r value h (flag_text true) (is ∙ s)).1.0 refl
  flag_none r value h false s = (read_none ParsesBool o r value h (flag_text false) (is ∙ s)).1.1 refl

-- the form is what is said of it
module _ (rows : List Row) (o : Option Text) (is : o ≡ first_of (codes "output") rows) where
  pub output_some : (word : Text) → o ≡ Some word → (r : Option Output)
      → IfSome r (λ x. word ≡ output_text x) → IfSome r (SaysOutput rows)
  output_some word e r h =
      some_weaker r (λ x. word ≡ output_text x) (SaysOutput rows) (λ x g. sym is ∙ e ∙ ap Some g) h

  pub output_unsaid : o ≡ None → (x : Output) → SaysOutput rows x → ⊥
  output_unsaid e x s = let bad : ◌≡◌ None (Some (output_text x)) = sym e ∙ is ∙ s in absurd (cc)

  pub output_none : (word : Text) → o ≡ Some word → (r : Option Output)
      → (IsNone r → (x : Output) → word ≡ output_text x → ⊥) → IsNone r → (x : Output)
      → SaysOutput rows x → ⊥
  output_none word e r h none x s =
      let both : ◌≡◌ (Some word) (Some (output_text x)) = sym e ∙ is ∙ s in
      h none x (let same : word ≡ output_text x = cc in same)

-- the way of cutting is what the flag says
pub flag_said : (name : Text) (rows : List Row) (there shown : Bool) → SaysFlag name rows there
    → there ≡ shown → SaysFlag name rows shown
flag_said name rows there shown s e = subst (SaysFlag name rows) e s

-- the ending is what is said of it, beside the form
pub ending_said : (rows : List Row) (o p : Output) (e f : Ending) → p ≡ o → f ≡ e → SaysEnding rows o e
    → SaysEnding rows p f
ending_said rows o p e f form ending h =
    subst (λ x. SaysEnding rows x f) (sym form) (subst (SaysEnding rows o) (sym ending) h)

pub null_unsaid : (rows : List Row) (o : Output) (e : Ending) → SaysFlag (codes "null") rows true
    → is_of_values o ≡ false → SaysEnding rows o e → ⊥
null_unsaid rows o LineFeed there off s =
    let no : true ≡ false = flag_same true false (sym there ∙ s.0) in absurd (cc)
null_unsaid rows o Null there off s = absurd (let no : true ≡ false = sym s.1 ∙ off in cc)

pub goes_with : (o : Output) (e : Ending) (null : Bool) → null ≡ ends_with_null e
    → (null ≡ true → is_of_values o ≡ true) → GoesWith e o
goes_with o LineFeed null is h = tt
goes_with o Null null is h = h is

-- nodes are counted as is said of it, beside the form
pub counts_said : (rows : List Row) (o p : Output) (counts : Bool) → p ≡ o → SaysCounts rows o counts
    → SaysCounts rows p counts
counts_said rows o p counts form h = subst (λ x. SaysCounts rows x counts) (sym form) h

pub count_unsaid : (rows : List Row) (o : Output) (counts : Bool) → SaysFlag (codes "count") rows true
    → is_of_nodes o ≡ false → SaysCounts rows o counts → ⊥
count_unsaid rows o false there off s =
    let no : true ≡ false = flag_same true false (sym there ∙ s.0) in absurd (cc)
count_unsaid rows o true there off s = absurd (let no : true ≡ false = sym s.1 ∙ off in cc)

pub count_goes : (o : Output) (counts : Bool) → (counts ≡ true → is_of_nodes o ≡ true) → CountsIn o counts
count_goes o false h = tt
count_goes o true h = h refl

-- the query's text is what is said of it
module _ (name : Text) (rows : List Row) (o : Option Text) (is : o ≡ first_of name rows) where
  pub query_some : (s : Text) → o ≡ Some s → option_map chars (first_of name rows) ≡ Some (chars s)
  query_some s e = ap (option_map chars) (sym is ∙ e)

  pub query_none : o ≡ None → (text : List ℕ) → option_map chars (first_of name rows) ≡ Some text → ⊥
  query_none e text said = let none = ap (option_map chars) (sym is ∙ e) in absurd (cc)

-- so is the filter's
twice : (r : Option (Bor Text)) → option_map chars (option_map (λ s. s.now) r) ≡ option_map (λ f. chars f.now)
    r
twice None = refl
twice (Some s) = refl

pub filter_said : (rows : List Row) (o : Option Text) → o ≡ first_of (codes "where") rows
    → (r : Option (Bor Text)) → option_map (λ s. s.now) r ≡ o → SaysFilter rows
    (option_map (λ f. chars f.now) r)
filter_said rows o is r said = ap (option_map chars) (sym is ∙ sym said) ∙ twice r

-- the same sizes are said
pub sizes_kept : (rows : List Row) (v p b f w q d e : ℕ) → w ≡ v → q ≡ p → d ≡ b → e ≡ f
    → AreSaid rows v p b f → AreSaid rows w q d e
sizes_kept rows v p b f w q d e same piece batch first h =
    subst (λ n. AreSaid rows n q d e) (sym same) (subst (λ n. AreSaid rows v n d e) (sym piece)
    (subst (λ n. AreSaid rows v p n e) (sym batch) (subst (λ n. AreSaid rows v p b n) (sym first) h)))

-- the files are what is said of them
module _ (rows : List Row) (got : Option (Bor (List (Bor Text))))
    (is : option_map (λ s. texts s.now) got ≡ all_of (codes "file") rows) where
  pub files_some : (given : Bor (List (Bor Text))) → got ≡ Some given
      → unwrap_or (all_of (codes "file") rows) [] ≡ texts given.now
  files_some given e = ap (λ (o : Option (List Text)). unwrap_or o [])
      (sym is ∙ ap (option_map (λ (s : Bor (List (Bor Text))). texts s.now)) e)

  pub files_none : got ≡ None → unwrap_or (all_of (codes "file") rows) [] ≡ []
  files_none e = ap (λ (o : Option (List Text)). unwrap_or o [])
      (sym is ∙ ap (option_map (λ (s : Bor (List (Bor Text))). texts s.now)) e)

-- the texts of an option that is given as often are what is said of it
module _ (name : Text) (rows : List Row) (got : Option (Bor (List (Bor Text))))
    (is : option_map (λ s. texts s.now) got ≡ all_of name rows) where
  pub texts_some : (given : Bor (List (Bor Text))) → got ≡ Some given
      → texts given.now ≡ unwrap_or (all_of name rows) []
  texts_some given e = sym (ap (λ (o : Option (List Text)). unwrap_or o [])
      (sym is ∙ ap (option_map (λ (s : Bor (List (Bor Text))). texts s.now)) e))

  pub texts_none : got ≡ None → [] ≡ unwrap_or (all_of name rows) []
  texts_none e = sym (ap (λ (o : Option (List Text)). unwrap_or o [])
      (sym is ∙ ap (option_map (λ (s : Bor (List (Bor Text))). texts s.now)) e))
