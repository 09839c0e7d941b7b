-- A step of a proof, which nobody has to believe: the part of a path stack's text that has been made.
use Rattle.std.specs.Prelude.{◌≡◌, ℕ, ◌+◌, List, [], ◌∷◌, ◌++◌, length}
use Rattle.jp_node.specs.Links.{link_bytes, links_bytes}
use Rattle.jp_node.specs.declared.link.Link.{Link}

-- where the text of each link begins, when the first begins at n
abbrev pub marks : ℕ → List Link → List ℕ
marks n [] = []
marks n (l ∷ ls) = n ∷ marks (n + length (link_bytes l)) ls

-- the text is that of the first links, and the starts are where the text of each of those begins
pub record IsMade (links : List Link) (text starts : List ℕ) : Type 0 where
  pub done : List Link
  pub rest : List Link
  pub whole : links ≡ done ++ rest
  pub text_is : text ≡ links_bytes done
  pub starts_are : starts ≡ marks 0 done
