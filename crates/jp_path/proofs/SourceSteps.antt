-- The steps of `src/`, and the segments made of them.
use Rattle.std.proofs.Common.{◌≡◌, ℕ, ◌+◌, ◌<◌, add-one, drop, length, get_or, map, Result, Ok}
use Rattle.std.proofs.Common.{Err, List, [], ◌∷◌, ◌++◌, refl, ap, sym, ◌∙◌, subst, append_assoc, arith}
use Rattle.std.specs.Prelude.{IfOk, String, string_bytes}
use Rattle.std.specs.Str.{chars, IsAscii}
use Rattle.std.specs.declared.alloc.Global.{Global}
use Rattle.std.proofs.Math.Seq.{drop-cons}
use Rattle.std.proofs.lemmas.List.{map-append}
use Rattle.std.proofs.lemmas.Str.{chars-IsAscii, IsUtf8-string_bytes}
use Rattle.jp_doc.specs.Location.{step_of}
use Rattle.jp_doc.specs.declared.location.Step as code
use Rattle.jp_tree.specs.Tree as tree
use Rattle.jp_tree.specs.Characters.{is_scalar}
use Rattle.jp_tree.specs.Parts.{Each}
use Rattle.jp_tree.specs.PartViews.{segment_of, segments_of}
use Rattle.jp_tree.specs.declared.tree.Segment.{Segment}
use Rattle.jp_quote.proofs.Scalars.{chars_are_scalar}
use Rattle.jp_path.specs.PathQuery.{step_segment, IsStep, AreSteps}

-- a text of ASCII characters
pub ascii_text : {E : Type 0} (r : Result (String Global) E) (bs ds : List ℕ) → IsAscii bs → bs ≡ ds
    → IfOk r (λ s. string_bytes s ≡ bs) → IfOk r (λ s. chars (string_bytes s) ≡ ds)
ascii_text (Ok s) bs ds a e h = ap chars h ∙ chars-IsAscii bs a ∙ e
ascii_text (Err x) bs ds a e h = tt

-- a string holds scalar values alone
pub text_is_scalar : (s : String Global) → Each is_scalar (chars (string_bytes s))
text_is_scalar s = chars_are_scalar (string_bytes s) (IsUtf8-string_bytes s)

abbrev segments_behind : List code.Step → List tree.Segment
segments_behind steps = map step_segment (map step_of steps)

module _ (steps : List code.Step) (i : ℕ) (s : code.Step) (here : i < length steps)
    (is : s ≡ get_or steps i s) where
  cut : drop i steps ≡ s ∷ drop (i + 1) steps
  cut = drop-cons steps i s here ∙ rw (← is, add-one i) refl

  pub next_segment : (old new : List Segment) (x : Segment) (total : List tree.Segment)
      → segments_of old ++ segments_behind (drop i steps) ≡ total → new ≡ old ++ x ∷ []
      → segment_of x ≡ step_segment (step_of s) → segments_of new ++ segments_behind (drop (i + 1) steps)
      ≡ total
  next_segment old new x total e pushed made =
      let more : List tree.Segment = segments_behind (drop (i + 1) steps) in
      ap (λ (xs : List Segment). segments_of xs ++ more) pushed
      ∙ ap (λ (ys : List tree.Segment). ys ++ more) (map-append segment_of old (x ∷ []))
      ∙ append_assoc (segments_of old) (segment_of x ∷ []) more
      ∙ ap (λ (y : tree.Segment). segments_of old ++ (y ∷ more)) made
      ∙ ap (λ (xs : List code.Step). segments_of old ++ segments_behind xs) (sym cut)
      ∙ e

  pub next_steps : (P : Type 0) → (AreSteps (map step_of (drop i steps)) → P) → IsStep (step_of s)
      → AreSteps (map step_of (drop (i + 1) steps)) → P
  next_steps P f h rest = f (subst (λ (xs : List code.Step). AreSteps (map step_of xs)) (sym cut) (h, rest))
