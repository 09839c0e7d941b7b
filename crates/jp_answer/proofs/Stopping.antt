-- The answer that keeps going has the bytes of the other first.
use Rattle.std.proofs.Common.{◌≡◌, ◌∙◌, ℕ, List, [], ◌∷◌, ◌++◌, Result, Ok, Err, refl, sym, ap, subst, None}
use Rattle.std.proofs.Common.{append_assoc}
use Rattle.jp_number.specs.declared.numbers.Numbers.TheVariants.{Whole}
use Rattle.jp_doc.specs.Json.{Json}
use Rattle.jp_doc.specs.Lines.{Line}
use Rattle.jp_doc.specs.Reading.{reading}
use Rattle.jp_doc.specs.declared.fault.DocFault.{DocFault}
use Rattle.jp_tree.specs.Tree.{Query}
use Rattle.jp_pattern.specs.Tests.{Tests}
use Rattle.jp_output.specs.FaultLine.{fault_line}
use Rattle.jp_output.specs.OutputForm.{node_lines}
use Rattle.jp_answer.specs.Answer.{Answer, answer, document_lines, joined, whole, FollowsStop}
use Rattle.jp_answer.specs.FilteredQuery.{unfiltered}
use Rattle.jp_answer.specs.declared.on_fault.OnFault.TheVariants.{Stop, KeepGoing}
use Rattle.jp_answer.proofs.Joining.{cons_on, line_answer}

-- bytes begin with those of an answer, and go on behind them as it stops
Begins : List ℕ → Answer → Type 0
Begins bytes a = (rest : List ℕ) × (bytes ≡ a.bytes ++ rest) × FollowsStop a.stopped rest

module _ (t : Tests) (q : Query) where
  one_more : (l : Line) (r : Result Json DocFault) (bytes : List ℕ) (n : ℕ) (a : Answer) → Begins bytes a
      → Begins (joined (line_answer node_lines t (unfiltered q) KeepGoing l r)
      (record { bytes = bytes; stopped = None; faulty = n })).bytes
      (joined (line_answer node_lines t (unfiltered q) Stop l r) a)
  unfolding Begins
  one_more l (Ok root) bytes n a b =
      let first : List ℕ = document_lines t (unfiltered q) l.0 root in (
        b.0,
        ap (λ bs. first ++ bs) b.1 ∙ sym (append_assoc first a.bytes b.0),
        b.2,
      )
  one_more l (Err fault) bytes n a b = (fault_line l.0 fault ++ bytes, refl, (bytes, refl))

  begins : (ls : List Line) → Begins (whole t q ls).bytes (answer t q ls)
  unfolding Begins
  begins [] = ([], refl, refl)
  begins (l ∷ ls) =
      subst (λ a. Begins a.bytes (answer t q (l ∷ ls)))
      (sym (cons_on Whole node_lines t (unfiltered q) KeepGoing l ls))
      (subst (Begins (joined (line_answer node_lines t (unfiltered q) KeepGoing l (reading l.1))
      (whole t q ls)).bytes) (sym (cons_on Whole node_lines t (unfiltered q) Stop l ls))
      (one_more l (reading l.1) (whole t q ls).bytes (whole t q ls).faulty (answer t q ls) (begins ls)))

pub stops_before : (t : Tests) (q : Query) (ls : List Line) → (rest : List ℕ)
    × ((whole t q ls).bytes ≡ (answer t q ls).bytes ++ rest) × FollowsStop (answer t q ls).stopped rest
unfolding Begins
stops_before t q ls = begins t q ls
