-- JSON texts, and one document with nothing but blanks around it.
use Rattle.std.specs.Prelude.{◌≡◌, ℕ, Bool, not, true, false, List, [], ◌∷◌, ◌++◌, Some, option_and_then}
use Rattle.std.specs.List.{list_all}
use Rattle.json.specs.Json.{Json, value, if_last}
use Rattle.json.specs.Lex.{tokens}
use Rattle.jp_documents.specs.Documents.{all_documents, is_blank_byte}

-- the text is a JSON text by the grammar of the JSON crate (RFC 8259), nested no deeper than some depth
pub record IsJsonText (text : List ℕ) : Type 0 where
  pub depth : ℕ
  pub tree : Json
  pub is : option_and_then (λ p. if_last p.0 p.1) (value depth (tokens text)) ≡ Some tree

-- the text is one document, and blanks before and behind it
pub record IsOneDocument (text : List ℕ) : Type 0 where
  pub front : List ℕ
  pub document : List ℕ
  pub back : List ℕ
  pub is : text ≡ front ++ (document ++ back)
  pub front_blank : list_all is_blank_byte front ≡ true
  pub back_blank : list_all is_blank_byte back ≡ true
  pub one : all_documents text ≡ document ∷ []

-- the bytes begin with one that is no blank
abbrev pub begins : List ℕ → Bool
begins [] = false
begins (x ∷ xs) = not (is_blank_byte x)
