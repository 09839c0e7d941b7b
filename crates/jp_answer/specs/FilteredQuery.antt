-- What is asked of each document: a query, of those that make a filter true.
use Rattle.std.specs.Prelude.{Bool, true, List, [], Option, Some, None, Result, Ok, Err, cond}
use Rattle.std.specs.List.{filter as lines_of}
use Rattle.jp_number.specs.declared.numbers.Numbers.{Numbers}
use Rattle.jp_doc.specs.Json.{Json}
use Rattle.jp_doc.specs.Lines.{Line}
use Rattle.jp_doc.specs.Location.{Node}
use Rattle.jp_doc.specs.ReadingIn.{reading_in}
use Rattle.jp_doc.specs.declared.fault.DocFault.{DocFault}
use Rattle.jp_tree.specs.Tree.{Query, Logical}
use Rattle.jp_pattern.specs.Tests.{Tests}
use Rattle.jp_eval.specs.Filter.{document_holds}
use Rattle.jp_eval.specs.Nodelist.{document_nodes}

pub record FilteredQuery : Type 0 where
  pub filter : Option Logical
  pub query : Query

-- a query of every document
abbrev pub unfiltered : Query → FilteredQuery
unfiltered q = record { filter = None; query = q }

-- In a document with this root:
module _ (tests : Tests) (root : Json) where
  -- whether it makes the filter true, if there is one
  abbrev pub is_chosen : Option Logical → Bool
  is_chosen None = true
  is_chosen (Some l) = document_holds tests l root

  -- the nodelist of the query, and none of a document that is left out
  abbrev pub selected_nodes : FilteredQuery → List Node
  selected_nodes q = cond (is_chosen q.filter) (document_nodes tests q.query root) []

-- Of lines whose documents may have these numbers:
module _ (numbers : Numbers) (tests : Tests) (f : Option Logical) where
  -- a faulty line is never left out
  abbrev pub is_chosen_line : Result Json DocFault → Bool
  is_chosen_line (Ok root) = is_chosen tests root f
  is_chosen_line (Err fault) = true

  -- the lines whose documents are chosen, and the faulty ones
  abbrev pub chosen_lines : List Line → List Line
  chosen_lines ls = lines_of (λ l. is_chosen_line (reading_in numbers l.1)) ls
