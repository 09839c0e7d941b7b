-- Why there is no answer, in the terms of the options and of the bytes.
use Rattle.std.proofs.Common.{◌≡◌, ℕ, ◌<◌, List, Some, ◌⊎◌, inl, inr, subst}
use Rattle.jp_number.specs.declared.numbers.Numbers.{Numbers}
use Rattle.jp_run.specs.AskedTexts.{AskedTexts, AreRefusedIn}
use Rattle.jp_run.specs.Cutting.{Numbering, last_number}
use Rattle.jp_run.specs.Limits.{max_lines}
use Rattle.jp_run.specs.declared.fault.RunFault.{RunFault}
use Rattle.jp_run.specs.declared.fault.RunFault.TheVariants.{Query, Filter, Document, Read, Write, Limit}
use Rattle.jp_run.specs.declared.fault.RunFault.TheVariants.{Memory, Settings}
use Rattle.jp_run.specs.declared.output.Output.{Output}
use Rattle.jp_c.specs.Asked.{IsRefusedSo}
use Rattle.jp_c.specs.Options.{form_named, manner_by, numbers_by, texts_by}
use Rattle.jp_c.specs.declared.options.Options.{Options}
use Rattle.jp_c.specs.inner.Refusals.{refusal_of}

module _ (o : Options) (query filter input : List ℕ) (form : Output) (n : Numbers) (asked : AskedTexts)
    (m : Numbering) (named : form_named o.form ≡ Some form) (is : n ≡ numbers_by o.decimals)
    (same : asked ≡ texts_by o query filter) (cut : m ≡ (manner_by o form).numbering) where
  moved : (fault : RunFault) → AreRefusedIn n asked fault
      → AreRefusedIn (numbers_by o.decimals) (texts_by o query filter) fault
  moved fault h = subst (λ (k : Numbers). AreRefusedIn k (texts_by o query filter) fault) is
      (subst (λ (a : AskedTexts). AreRefusedIn n a fault) same h)

  pub refused_so : (fault : RunFault) → (fault ≡ Memory) ⊎ AreRefusedIn n asked fault
      ⊎ ((fault ≡ Limit) × (max_lines < last_number m input))
      → IsRefusedSo o query filter input (refusal_of fault)
  refused_so (Query f) (inl memory) = absurd (cc)
  refused_so (Query f) (inr (inl h)) = moved (Query f) h
  refused_so (Query f) (inr (inr (limit, over))) = absurd (cc)
  refused_so (Filter f) (inl memory) = absurd (cc)
  refused_so (Filter f) (inr (inl h)) = moved (Filter f) h
  refused_so (Filter f) (inr (inr (limit, over))) = absurd (cc)
  refused_so Limit (inl memory) = absurd (cc)
  refused_so Limit (inr (inl h)) = absurd h
  refused_so Limit (inr (inr (limit, over))) = record {
    form = form;
    named = named;
    over = subst (λ (k : Numbering). max_lines < last_number k input) cut over;
  }
  refused_so (Document line fault) h = tt
  refused_so Read h = tt
  refused_so Write h = tt
  refused_so Memory h = tt
  refused_so Settings h = tt
