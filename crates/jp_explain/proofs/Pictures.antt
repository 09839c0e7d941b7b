-- Lines in which no character has to be escaped.
use Rattle.std.proofs.Common.{◌≡◌, ℕ, Bool, true, false, not, List, [], ◌∷◌, ◌++◌, refl, ap, ◌∙◌}
use Rattle.std.proofs.Common.{append_assoc, ◌<◌, ◌≤◌, length, get_or, sym, true≢false}
use Rattle.std.proofs.Common.{Result, Ok, Err, inr, subst}
use Rattle.std.specs.Prelude.{String, IfOk, OnOk, is_ok, if◌then◌else◌}
use Rattle.std.specs.declared.alloc.Global.{Global}
use Rattle.std.specs.Str.{chars, IsUtf8}
use Rattle.std.specs.List.{list_all}
use Rattle.std.proofs.lemmas.List.Folds.{list_all-append, list_all_at}
use Rattle.std.proofs.Math.Utf8.{encode, scalars}
use Rattle.jp_tree.specs.Tree.{Text}
use Rattle.jp_tree.specs.View.{text_of}
use Rattle.jp_tokens.proofs.Cuts.{pushed}
use Rattle.jp_explain.specs.Picture.{is_escaped, is_shown, picture, IsPictureWith, IsPicture, ShowsShort}
use Rattle.jp_explain.specs.Picture.{IsLinePicture, IsLinePictureWith, IsHelp, AreWords}
use Rattle.jp_explain.specs.Picture.{AreWordsAlone, IsPictureAlone}

all_pushed : (p : ℕ → Bool) (xs : List ℕ) (c : ℕ) → list_all p xs ≡ true → p c ≡ true
    → list_all p (xs ++ c ∷ []) ≡ true
all_pushed p xs c h k = list_all-append p xs (c ∷ []) ∙ rw (h, k) refl

shown_by : {X E : Type 0} (r : Result X E) (old new : List ℕ) (c : ℕ)
    → OnOk r (chars new ≡ chars old ++ c ∷ [])
    → new ≡ (if is_ok r then old ++ encode c else old) → is_escaped c ≡ false → is_shown (chars old) ≡ true
    → is_shown (chars new) ≡ true
shown_by (Ok x) old new c more e k h =
    ap is_shown more ∙ all_pushed (λ d. not (is_escaped d)) (chars old) c h (ap not k)
shown_by (Err x) old new c more e k h = ap (λ t. is_shown (chars t)) e ∙ h

-- one more character that has not to be escaped
pub shown_pushed : {X E : Type 0} (r : Result X E) (old new : List ℕ) (c : ℕ) → IsUtf8 old
    → scalars (c ∷ []) ≡ true → new ≡ (if is_ok r then old ++ encode c else old) → is_escaped c ≡ false
    → is_shown (chars old) ≡ true → is_shown (chars new) ≡ true
shown_pushed r old new c u s e k h = shown_by r old new c (pushed r old new c u s e) e k h

-- each character of a text in which none has to be escaped
pub shown_at : (t : Text) (i c : ℕ) → i < length t → c ≡ get_or t i c → is_shown t ≡ true
    → is_escaped c ≡ false
shown_at t i c lt at h = go (is_escaped c) refl
  where
    go : (b : Bool) → is_escaped c ≡ b → is_escaped c ≡ false
    go false e = e
    go true e =
        let here : not (is_escaped (get_or t i c)) ≡ false =
        ap (λ d. not (is_escaped d)) (sym at) ∙ ap not e in
        absurd (true≢false (sym h ∙ list_all_at (λ d. not (is_escaped d)) t i c lt here))

-- a line with a caret below it, and words
pub pictured : {E : Type 0} (r : Result (String Global) E) (line : Text) (column : ℕ) (words given : Text)
    → given ≡ words → is_shown line ≡ true → IfOk r (λ s. text_of s ≡ picture line column given)
    → IfOk r (λ s. IsPictureWith words (text_of s))
pictured (Ok s) line column words given same shown value =
    (line, column, shown, value ∙ ap (picture line column) same)
pictured (Err e) line column words given same shown value = tt

-- a line that shows a query with a caret below it, and words
pub query_pictured : {E : Type 0} (r : Result (String Global) E) (query line : Text) (column : ℕ)
    (words given : Text) → given ≡ words → ShowsShort query line → is_shown line ≡ true → AreWords words
    → IfOk r (λ s. text_of s ≡ picture line column given) → IfOk r (λ s. IsPicture query (text_of s))
query_pictured (Ok s) query line column words given same shows shown right value =
    (line, column, words, shows, shown, right, value ∙ ap (picture line column) same)
query_pictured (Err e) query line column words given same shows shown right value = tt

-- what is shown of a text that has no room, where each short one has
pub cut_short : {E T : Type 0} (r : Result T E) (line : T → Text) (query : Text) (has : Bool) → has ≡ false
    → (is_shown query ≡ true → length query ≤ 35 → has ≡ true) → IfOk r (λ x. ShowsShort query (line x))
cut_short (Ok x) line query has off room = λ plain few.
    let bad : false ≡ true = sym off ∙ room plain few in absurd (cc)
cut_short (Err e) line query has off room = tt

-- what is shown of a text that has room
pub whole_short : {E T : Type 0} (r : Result T E) (line : T → Text) (query : Text)
    → (is_shown query ≡ true → IfOk r (λ x. line x ≡ query)) → IfOk r (λ x. ShowsShort query (line x))
whole_short (Ok x) line query whole = λ plain few. whole plain
whole_short (Err e) line query whole = tt

-- a line above nothing
pub helped : {E : Type 0} (r : Result (String Global) E) (help given : Text) → given ≡ []
    → is_shown help ≡ true → IfOk r (λ s. text_of s ≡ help ++ (10 ∷ given)) → IfOk r (λ s. IsHelp (text_of s))
helped (Ok s) help given none shown value =
    inr (help, shown, value ∙ ap (λ (t : Text). help ++ (10 ∷ t)) none)
helped (Err e) help given none shown value = tt

-- a line above what helps
pub worded : {E : Type 0} (r : Result (String Global) E) (said help given : Text) → given ≡ help
    → is_shown said ≡ true → IsHelp help → IfOk r (λ s. text_of s ≡ said ++ (10 ∷ given))
    → IfOk r (λ s. AreWords (text_of s))
worded (Ok s) said help given same shown helps value =
    (said, help, shown, helps, value ∙ ap (λ (t : Text). said ++ (10 ∷ t)) same)
worded (Err e) said help given same shown helps value = tt

-- a line above nothing, where there is nothing that helps
pub worded_alone : {E : Type 0} (r : Result (String Global) E) (said given : Text) → given ≡ []
    → is_shown said ≡ true → IfOk r (λ s. text_of s ≡ said ++ (10 ∷ given))
    → IfOk r (λ s. AreWordsAlone (text_of s))
worded_alone (Ok s) said given same shown value =
    (said, shown, value ∙ ap (λ (t : Text). said ++ (10 ∷ t)) same)
worded_alone (Err e) said given same shown value = tt

-- a line with a caret below it, and such words
pub pictured_alone : {E : Type 0} (r : Result (String Global) E) (line : Text) (column : ℕ)
    (words given : Text) → given ≡ words → is_shown line ≡ true → AreWordsAlone words
    → IfOk r (λ s. text_of s ≡ picture line column given) → IfOk r (λ s. IsPictureAlone (text_of s))
pictured_alone (Ok s) line column words given same shown alone value =
    (words, alone, (line, column, shown, value ∙ ap (picture line column) same))
pictured_alone (Err e) line column words given same shown alone value = tt

-- one text, a line feed, and another
pub with_line_feed : (empty front back one two three : Text) → empty ≡ [] → one ≡ empty ++ front
    → two ≡ one ++ 10 ∷ [] → three ≡ two ++ back → three ≡ front ++ (10 ∷ back)
with_line_feed empty front back one two three nothing first second third =
    third ∙ ap (λ (t : Text). t ++ back) (second ∙ ap (λ (t : Text). t ++ 10 ∷ []) (first
    ∙ ap (λ (t : Text). t ++ front) nothing)) ∙ append_assoc front (10 ∷ []) back

-- what is said, and the lines below it, under which these words stand
pub line_pictured : {E : Type 0} (r : Result (String Global) E) (words head below given : Text)
    → given ≡ below → is_shown head ≡ true → IsPictureWith words below
    → IfOk r (λ s. text_of s ≡ head ++ (10 ∷ given)) → IfOk r (λ s. IsLinePictureWith words (text_of s))
line_pictured (Ok s) words head below given same shown pictured_below value =
    (head, below, shown, pictured_below, value ∙ ap (λ (t : Text). head ++ (10 ∷ t)) same)
line_pictured (Err e) words head below given same shown pictured_below value = tt

-- the same where the words are what helps
pub line_helped : {E : Type 0} (r : Result (String Global) E) (help : Text) → IsHelp help
    → IfOk r (λ s. IsLinePictureWith help (text_of s)) → IfOk r (λ s. IsLinePicture (text_of s))
line_helped (Ok s) help is_help pictured_so = (help, is_help, pictured_so)
line_helped (Err e) help is_help pictured_so = tt

-- the same where there are none
pub line_bare : {E : Type 0} (r : Result (String Global) E) (help : Text) → help ≡ []
    → IfOk r (λ s. IsLinePictureWith help (text_of s)) → IfOk r (λ s. IsLinePictureWith [] (text_of s))
line_bare r help none pictured_so =
    subst (λ (t : Text). IfOk r (λ s. IsLinePictureWith t (text_of s))) none pictured_so
