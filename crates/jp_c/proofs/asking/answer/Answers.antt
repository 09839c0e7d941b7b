use Rattle.std.proofs.Common.{◌≡◌, ◌∙◌, ℕ, List, Option, ap, ap₂, option_map, subst, sym}
use Rattle.std.specs.Borrow.{Bor}
use Rattle.std.specs.Str.{chars}
use Rattle.jp_tree.specs.Tree.{Text}
use Rattle.jp_run.specs.Answered.{numbering_of}
use Rattle.jp_run.specs.AskedTexts.{asked_by}
use Rattle.jp_run.specs.Manner.{Manner}
use Rattle.jp_c.specs.Asked.{IsRefusedSo}
use Rattle.jp_c.specs.Options.{filter_by}
use Rattle.jp_c.proofs.Refusing.{refused_so}
use Rattle.jp_c.proofs.asking.answer.Goals as goal

pub returns-in-Err-clause-refused : goal.returns-in-Err-clause-refused
returns-in-Err-clause-refused c =
    let o = c.args.options.now in
    let settings = c.settings_by-settings.result in
    let read : c.in-Ok.text.now ≡ c.args.query.now = c.in-Ok.ensures.cases.0 in
    let chosen : option_map (λ (t : Bor (List ℕ)). chars t.now) settings.filter
    ≡ filter_by o.has_filter c.args.filter.now =
    ap (option_map (λ (t : Bor (List ℕ)). chars t.now)) c.settings_by-settings.ensures.filter
    ∙ c.in-Ok-filter_text.ensures.text in
    subst (IsRefusedSo o c.args.query.now c.args.filter.now c.args.input.now) (sym c.of.ensures)
    (refused_so o c.args.query.now c.args.filter.now c.args.input.now c.in-Some.form settings.numbers
    (asked_by c.in-Ok.text.now settings) (numbering_of settings)
    (sym c.form_named.ensures ∙ c.in-Some.is) c.settings_by-settings.ensures.numbers
    (ap₂ (λ (q : List ℕ) (f : Option Text). record { query = chars q; filter = f }) read chosen)
    (ap (λ (m : Manner). m.numbering) c.settings_by-settings.ensures.manner) c.in-Err.fault
    c.in-Err.ensures.fault)
