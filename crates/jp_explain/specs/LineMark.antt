-- Where the mark of a faulty line stands.
use Rattle.std.specs.Prelude.{ℕ, ◌≡◌, ◌<◌, ◌≤◌, ◌-◌, ◌⊎◌, Bool, true, false, List, length, take, drop}
use Rattle.std.specs.List.{list_all}
use Rattle.jp_doc.specs.declared.fault.DocFault.{DocFault}
use Rattle.jp_doc.specs.declared.fault.DocFault.TheVariants.{LongLine, LongArray, Memory}
use Rattle.jp_number.specs.Number.{written, IsShort}
use Rattle.jp_line_scan.specs.NumberBytes.{is_of_number}
use Rattle.jp_explain.specs.declared.line_explanation.LineExplanation.{LineExplanation}
use Rattle.jp_line_scan.specs.declared.line_reason.NotWhole.{NotWhole as Number}
use Rattle.jp_line_scan.specs.declared.line_reason.LongNumber.{LongNumber as Long}
use Rattle.jp_line_scan.specs.declared.line_reason.LineReason.{LineReason}
use Rattle.jp_line_scan.specs.declared.line_reason.LineReason.TheVariants.{Ended, NotWhole, LongNumber}
use Rattle.jp_line_scan.specs.declared.line_reason.LineReason.TheVariants.{Rule}
use Rattle.jp_line_scan.specs.declared.line_reason.LineRule.TheVariants.{TooLarge}
use Rattle.jp_line_scan.specs.declared.line_reason.LineExpected.{LineExpected}
use Rattle.jp_line_scan.specs.declared.line_reason.LineExpected.TheVariants.{Value, FirstItem, ItemEnd}
use Rattle.jp_line_scan.specs.declared.line_reason.LineExpected.TheVariants.{FirstName, Name, Colon}
use Rattle.jp_line_scan.specs.declared.line_reason.LineExpected.TheVariants.{MemberEnd}

-- a fault that has no place in the line
abbrev pub IsSilent : DocFault → Type 0
IsSilent f = (f ≡ LongLine) ⊎ (f ≡ LongArray) ⊎ (f ≡ Memory)

-- what is told is a number: from the mark to its end there stand such characters, and one at least
abbrev pub IsNumber : LineExplanation → List ℕ → Type 0
IsNumber x line = (n : Number) × (x.reason ≡ NotWhole n) × (x.mark < n.end) × (n.end ≤ length line)
    × (list_all is_of_number (take (n.end - x.mark) (drop x.mark line)) ≡ true)

-- what is told is a number over the limits: from the mark to its end there stand such characters, one at
-- least, and they write a number of too many digits
abbrev pub IsLongNumber : LineExplanation → List ℕ → Type 0
IsLongNumber x line = (n : Long) × (x.reason ≡ LongNumber n) × (x.mark < n.end) × (n.end ≤ length line)
    × (list_all is_of_number (take (n.end - x.mark) (drop x.mark line)) ≡ true)
    × (¬ IsShort (written (take (n.end - x.mark) (drop x.mark line))))

-- a document may go on so in the next line: between its tokens (RFC 8259, 2)
abbrev pub may_go_on : LineExpected → Bool
may_go_on Value = true
may_go_on FirstItem = true
may_go_on ItemEnd = true
may_go_on FirstName = true
may_go_on Name = true
may_go_on Colon = true
may_go_on MemberEnd = true
may_go_on _ = false

-- it is known what helps: where a number is not whole or beyond a float, and where a document may go on in
-- the next line
abbrev pub has_help : LineReason → Bool
has_help (NotWhole n) = true
has_help (Rule TooLarge) = true
has_help (Ended expected) = may_go_on expected
has_help _ = false
