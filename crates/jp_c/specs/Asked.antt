-- What C is answered with, in the terms of a run.
use Rattle.std.specs.Prelude.{◌≡◌, ℕ, ◌<◌, List, Some, IsUtf8}
use Rattle.jp_answer.specs.Answer.{Answer}
use Rattle.jp_run.specs.Answered.{IsAnswerBy}
use Rattle.jp_run.specs.AskedTexts.{AreRefusedIn}
use Rattle.jp_run.specs.Cutting.{last_number}
use Rattle.jp_run.specs.Limits.{max_lines}
use Rattle.jp_run.specs.declared.fault.RunFault.TheVariants as run
use Rattle.jp_run.specs.declared.output.Output.{Output}
use Rattle.jp_c.specs.Options.{AreOutOfRange, form_named, manner_by, numbers_by, texts_by}
use Rattle.jp_c.specs.declared.options.Options.{Options}
use Rattle.jp_c.specs.declared.refused.Refused.{Refused}
use Rattle.jp_c.specs.declared.refused.Refused.TheVariants as refused

-- of these options, and these bytes for the query, the filter and the input:
module _ (o : Options) (query filter input : List ℕ) where
  -- the options name a form, the texts are accepted, and this is the answer to the input
  pub record IsAnswerAsked (a : Answer) : Type 0 where
    pub form : Output
    pub named : form_named o.form ≡ Some form
    pub answer : IsAnswerBy (manner_by o form) (texts_by o query filter) input a

  -- there are more lines than have numbers
  pub record IsOverLimit : Type 0 where
    pub form : Output
    pub named : form_named o.form ≡ Some form
    pub over : max_lines < last_number (manner_by o form).numbering input

  -- this is why there is none; that memory was refused says nothing
  abbrev pub IsRefusedSo : Refused → Type 0
  IsRefusedSo refused.Options = AreOutOfRange o
  IsRefusedSo refused.QueryText = ¬ IsUtf8 query
  IsRefusedSo refused.FilterText = ¬ IsUtf8 filter
  IsRefusedSo (refused.Query f) =
      AreRefusedIn (numbers_by o.decimals) (texts_by o query filter) (run.Query f)
  IsRefusedSo (refused.Filter f) =
      AreRefusedIn (numbers_by o.decimals) (texts_by o query filter) (run.Filter f)
  IsRefusedSo refused.Limit = IsOverLimit
  IsRefusedSo refused.Memory = Unit {0}
