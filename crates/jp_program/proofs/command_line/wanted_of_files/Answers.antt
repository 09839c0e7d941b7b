use Rattle.std.proofs.Common.{◌∙◌, codes, map, option_map, ap, sym, refl, subst}
use Rattle.std.specs.Str.{chars}
use Rattle.clap.specs.Words.{found_of, rows_of, first_value}
use Rattle.clap.proofs.WalkLemmas.{first_value-rows}
use Rattle.jp_program.specs.Wanted.{SaysCutting, SaysEnding, SaysFilter, SaysNames, SaysNumbers, SaysOnFault}
use Rattle.jp_program.specs.Wanted.{SaysCounts, SaysFields, SaysOutput}
use Rattle.jp_output.specs.Rows.{field_of}
use Rattle.jp_program.proofs.OneWish.{output_same}
use Rattle.jp_program.proofs.Saying.{counts_said, ending_said, filter_said, flag_said, query_some, query_none}
use Rattle.jp_program.proofs.Saying.{sizes_kept}
use Rattle.jp_program.proofs.command_line.wanted_of_files.Goals as goal

pub returns-in_err-query-clause-none : goal.returns-in_err-query-clause-none
returns-in_err-query-clause-none c = λ h w s.
    let found = found_of c.args.matches.now in
    query_none (codes "query") (rows_of found) (first_value found (codes "query"))
    (first_value-rows found (codes "query"))
    (sym c.get_str.ensures ∙ ap (option_map (λ s. s.now)) (c.in_err-query.was)) w.query s.query

pub returns-in_err-names-clause-none : goal.returns-in_err-names-clause-none
returns-in_err-names-clause-none c = λ h w s. c.in_err-names.ensures.none refl w.names
    (subst (λ fs. SaysNames (rows_of (found_of c.args.matches.now)) fs w.names)
    (sym s.files.0 ∙ c.requires.said.0) s.names)

pub returns-in_err-counts-clause-none : goal.returns-in_err-counts-clause-none
returns-in_err-counts-clause-none c = λ h w s. c.in_err-counts.ensures.none refl w.counts
    (subst (λ o. SaysCounts (rows_of (found_of c.args.matches.now)) o w.counts)
    (output_same w.output c.args.output (sym s.output ∙ c.requires.form)) s.counts)

pub returns-in_err-ending-clause-none : goal.returns-in_err-ending-clause-none
returns-in_err-ending-clause-none c = λ h w s. c.in_err-ending.ensures.none refl w.ending
    (subst (λ o. SaysEnding (rows_of (found_of c.args.matches.now)) o w.ending)
    (output_same w.output c.args.output (sym s.output ∙ c.requires.form)) s.ending)

pub returns-in_err-settings-clause-none : goal.returns-in_err-settings-clause-none
returns-in_err-settings-clause-none c = λ h w s.
    c.in_err-settings.ensures.none refl w.workers w.piece w.batch w.before s.settings

pub returns-clause-some : goal.returns-clause-some
returns-clause-some c =
    let found = found_of c.args.matches.now in
    let kept = c.with_filter.ensures.same in
    let ended = c.with_ending.ensures.same in
    let form = kept.5 ∙ ended.5 ∙ c.in_ok-settings.ensures.form in
    record {
      query = query_some (codes "query") (rows_of found) (first_value found (codes "query"))
          (first_value-rows found (codes "query")) c.in_ok-query.query.now
          (sym c.get_str.ensures ∙ ap (option_map (λ s. s.now)) (c.in_ok-query.was));
      filter = subst (λ r. SaysFilter (rows_of found) (option_map (λ f. chars f.now) r))
          (sym c.with_filter.ensures.filter) (filter_said (rows_of found) (first_value found (codes "where"))
          (first_value-rows found (codes "where")) c.get_str-2.result c.get_str-2.ensures);
      files = c.requires.said;
      names = c.in_ok-names.ensures.some;
      cutting = subst (SaysCutting (rows_of found))
          (sym (kept.7 ∙ ended.7 ∙ c.in_ok-settings.ensures.cutting))
          (flag_said (codes "documents") (rows_of found) _ _ c.in_ok-documents.ensures.some
          c.cutting_of.ensures);
      check = c.in_ok-check.ensures.some;
      counts = counts_said (rows_of found) _ _ _ form c.in_ok-counts.ensures.some;
      output = subst (SaysOutput (rows_of found)) (sym form) c.requires.form;
      ending = ending_said (rows_of found) _ _ _ _ form (kept.9 ∙ c.with_ending.ensures.ending)
          c.in_ok-ending.ensures.some;
      fields = subst (λ o. SaysFields (rows_of found) o (map field_of c.args.fields.items)) (sym form)
          c.requires.fields;
      numbers = subst (SaysNumbers (rows_of found))
          (sym (kept.4 ∙ ended.4 ∙ c.in_ok-settings.ensures.numbers))
          (flag_said (codes "decimals") (rows_of found) _ _ c.in_ok-decimals.ensures.some
          c.numbers_for.ensures);
      on_fault = subst (SaysOnFault (rows_of found))
          (sym (kept.3 ∙ ended.3 ∙ c.in_ok-settings.ensures.on_fault))
          (flag_said (codes "keep-going") (rows_of found) _ _ c.in_ok-keep_going.ensures.some
          c.on_fault_for.ensures);
      explain = c.in_ok-explain.ensures.some;
      exit_status = c.in_ok-exit_status.ensures.some;
      settings = sizes_kept (rows_of found) _ _ _ _ _ _ _ _ (kept.0 ∙ ended.0) (kept.1 ∙ ended.1)
          (kept.2 ∙ ended.2) (kept.8 ∙ ended.8) c.in_ok-settings.ensures.some;
    }
