-- Where a run stands: what has come, and what of it is answered.
use Rattle.std.proofs.Common.{◌≡◌, ℕ, ◌+◌, ◌<◌, ◌≤◌, ◌⊎◌, inl, inr, Bool, true, false, List, [], ◌++◌, length}
use Rattle.std.proofs.Common.{Option, None, refl, sym, ◌∙◌, ap, subst, arith, append_assoc, append-nil}
use Rattle.std.proofs.Common.{length-append}
use Rattle.std.proofs.lemmas.List.{nil_from_length}
use Rattle.std.specs.Io.KnownBytes.{Consumes, IsAtEnd, Keeps}
use Rattle.std.proofs.KnownBytes.{Consumes-nil, Consumes-trans, Appends-nil, Appends-kept}
use Rattle.jp_doc.specs.Lines.{Line}
use Rattle.jp_doc.specs.Feeding.{Progress}
use Rattle.jp_answer.specs.FilteredQuery.{FilteredQuery}
use Rattle.jp_answer.specs.Answer.{nothing}
use Rattle.jp_answer.specs.Policy.{passed_in}
use Rattle.jp_answer.proofs.OnFaults.{nothing_in, passed_joined, passed_few, passed_none}
use Rattle.jp_run.specs.Manner.{Manner}
use Rattle.jp_run.specs.Cutting.{documents_in, fed, fed_lines, progress_in}
use Rattle.jp_run.specs.Handed.{Handed}
use Rattle.jp_run.specs.Limits.{max_lines}
use Rattle.jp_run.specs.inner.Input.{Input, nothing_come}
use Rattle.jp_run.specs.inner.Reading.{HasRead, HasCome}
use Rattle.jp_run.specs.inner.Standing.{IsCounted, HasAnswered, HasSettled, Stands, BeginsPrompt, BeginsNear}
use Rattle.jp_run.specs.inner.Wrote.{HasBytes}
use Rattle.jp_run.specs.declared.gathering.Came.{Came}
use Rattle.jp_run.specs.declared.gathering.Came.TheVariants.{More, End, Failure}
use Rattle.jp_run.specs.declared.stream.Answered.{Answered}
use Rattle.jp_run.specs.declared.stream.Stream.{Stream}
use Rattle.jp_run.proofs.Coming.{documents_both, few_documents, progress_both}
use Rattle.jp_run.proofs.Cuttings.{documents_nothing, fed_nothing}
use Rattle.jp_run.proofs.Handing.{handed_both}
use Rattle.jp_run.proofs.Pieces.{lines_twice, lines_nothing}
use Rattle.jp_run.proofs.Wrote.{wrote_none, wrote_more}

module _ (going : Manner) (q : FilteredQuery) where
  pub stands_start : (a s u : Option (List ℕ)) (st : Stream) → Keeps s u
      → st.buffer ≡ nothing_come going.numbering → st.come ≡ 0
      → st.answered ≡ record { lines = 0; faulty = 0; wrote = 0 }
      → Stands going q a a s u st
  stands_start a s u st same e g h = record {
    front = [];
    more = [];
    consumed = Consumes-nil a;
    cutting = ap (λ (b : Input). b.cutting) e;
    progress = ap (λ (b : Input). b.progress) e ∙ sym (fed_nothing going.numbering);
    waiting = ap (λ (b : Input). b.lines) e ∙ sym (lines_nothing going.numbering []);
    come = g;
    lines = ap (λ (n : Answered). n.lines) h ∙ ap length (sym (documents_nothing going.numbering));
    faulty = ap (λ (n : Answered). n.faulty) h ∙ sym (passed_none going.policy)
        ∙ ap (passed_in going.policy) (sym (documents_nothing going.numbering));
    wrote = subst (λ (l : List Line). HasBytes going q l st.answered.wrote)
        (sym (documents_nothing going.numbering))
        (λ t right. ap (λ (n : Answered). n.wrote) h ∙ wrote_none going q t right);
    handed = subst (λ (l : List Line). Handed going q l None s u) (sym (documents_nothing going.numbering))
        (record {
          whole = nothing;
          is = λ t right. nothing_in going.form t q going.policy;
          stopped = refl;
          appended = Appends-kept s s u [] (Appends-nil s) same;
        });
  }

  module _ (a b s u : Option (List ℕ)) (st : Stream) (h : Stands going q a b s u st) where
    pub all_documents : documents_in going.numbering (h.front ++ h.more)
        ≡ documents_in going.numbering h.front
        ++ st.buffer.lines
    all_documents = documents_both going.numbering h.front h.more ∙ ap
        (λ l. documents_in going.numbering h.front ++ l) (sym h.waiting)

    -- what waited is answered too
    pub answered_all : (c v : Option (List ℕ)) (next : Stream) → c ≡ b → HasAnswered going q u v st next
        → Stands going q a c s v next
    answered_all c v next e k =
        let all : List ℕ = h.front ++ h.more in
        record {
          front = all;
          more = [];
          consumed = subst (λ l. Consumes a c l) (sym (append-nil all))
              (subst (λ (o : Option (List ℕ)). Consumes a o all) (sym e) h.consumed);
          cutting = k.cutting ∙ h.cutting;
          progress = k.progress ∙ h.progress ∙ ap (λ l. progress_in going.numbering l)
              (sym (append-nil all));
          waiting = k.none ∙ sym (lines_nothing going.numbering all);
          come = k.come;
          lines = omega (
            arith,
            k.lines,
            h.lines,
            ap length all_documents,
            length-append (documents_in going.numbering h.front) st.buffer.lines,
          );
          faulty = omega (
            arith,
            k.faulty,
            h.faulty,
            ap (passed_in going.policy) all_documents,
            passed_joined going.policy (documents_in going.numbering h.front) st.buffer.lines,
          );
          wrote = subst (λ (l : List Line). HasBytes going q l next.answered.wrote) (sym all_documents)
              (wrote_more going q (documents_in going.numbering h.front) st.buffer.lines s u st.answered.wrote
              next.answered.wrote h.handed h.wrote k.wrote);
          handed = subst (λ (l : List Line). Handed going q l None s v) (sym all_documents)
              (handed_both going q (documents_in going.numbering h.front) st.buffer.lines None s u v h.handed
              k.handed);
        }

    nothing_done : (c v : Option (List ℕ)) (next : Stream) → c ≡ b → next ≡ st → v ≡ u
        → Stands going q a c s v next
    nothing_done c v next e f g =
        subst (λ (o : Option (List ℕ)). Stands going q a o s v next) (sym e)
        (subst (λ (o : Option (List ℕ)). Stands going q a b s o next) (sym g)
        (subst (λ (n : Stream). Stands going q a b s u n) (sym f) h))

    pub settled : (c v : Option (List ℕ)) (next : Stream) → c ≡ b → HasSettled going q u v st next
        → Stands going q a c s v next
    settled c v next e (inl k) = nothing_done c v next e k.stream k.sink
    settled c v next e (inr k) = answered_all c v next e k

    pub read_more : (c : Option (List ℕ)) (next : Stream) → HasRead b c st next → Stands going q a c s u next
    read_more c next r =
        let cut = append_assoc h.front h.more r.piece in
        record {
          front = h.front;
          more = h.more ++ r.piece;
          consumed = subst (λ l. Consumes a c l) cut
              (Consumes-trans a b c (h.front ++ h.more) r.piece h.consumed r.consumed);
          cutting = r.cutting ∙ h.cutting;
          progress = r.progress ∙ ap (λ c. fed c st.buffer.progress r.piece) h.cutting
              ∙ ap (λ (p : Progress). fed going.numbering.cutting p r.piece) h.progress
              ∙ sym (progress_both going.numbering (h.front ++ h.more) r.piece) ∙ ap
              (λ l. progress_in going.numbering l) cut;
          waiting = r.lines ∙ ap (λ c. st.buffer.lines ++ fed_lines c st.buffer.progress r.piece) h.cutting
              ∙ ap (λ l. l ++ fed_lines going.numbering.cutting st.buffer.progress r.piece) h.waiting
              ∙ ap (λ (p : Progress). fed_lines going.numbering.cutting
              (progress_in going.numbering h.front) h.more
              ++ fed_lines going.numbering.cutting p r.piece)
              (h.progress ∙ progress_both going.numbering h.front h.more)
              ∙ sym (lines_twice going.numbering.cutting (progress_in going.numbering h.front) h.more
              r.piece);
          come = omega (arith, r.come, h.come, length-append h.more r.piece);
          lines = ap (λ (n : Answered). n.lines) r.answered ∙ h.lines;
          faulty = ap (λ (n : Answered). n.faulty) r.answered ∙ h.faulty;
          wrote = λ t right. ap (λ (n : Answered). n.wrote) r.answered ∙ h.wrote t right;
          handed = h.handed;
        }

    -- no more lines were answered, or wait, than have come
    pub few_lines : (most : ℕ) → st.buffer.progress.count ≤ most
        → st.answered.lines + length st.buffer.lines ≤ most
    few_lines most few = omega (
      arith,
      few,
      ap (λ (p : Progress). p.count) h.progress,
      few_documents going.numbering (h.front ++ h.more),
      ap length all_documents,
      length-append (documents_in going.numbering h.front) st.buffer.lines,
      h.lines,
    )

    pub few_faulty : st.answered.faulty ≤ st.answered.lines
    few_faulty = omega (
      arith,
      h.lines,
      h.faulty,
      passed_few going.policy
          (documents_in going.numbering h.front),
    )

    -- no fewer lines have ended than stand before the input
    pub behind_others : going.numbering.before ≤ st.buffer.progress.count
    behind_others = omega (arith, ap (λ (p : Progress). p.count) h.progress)

    pub are_counted : st.buffer.progress.count ≤ max_lines → IsCounted st
    are_counted few = record {
      lines = omega (arith, few_lines max_lines few);
      faulty = few_faulty;
    }

    -- a read that may wait begins where all is answered
    pub begins_prompt : (ready flushed : Bool) → (ready ≡ true) ⊎ (st.come ≡ 0) → flushed ≡ true
        → BeginsPrompt going q a s (record { ready = ready; remaining = b; contents = u; flushed = flushed })
    begins_prompt ready flushed (inl e) f = λ not. absurd (cc)
    begins_prompt ready flushed (inr e) f = λ not.
        let none : h.more ≡ [] = nil_from_length h.more (omega (arith, h.come, e)) in
        let all : h.front ++ h.more ≡ h.front = ap (λ l. h.front ++ l) none ∙ append-nil h.front in (
          h.front,
          subst (λ l. Consumes a b l) all h.consumed,
          h.handed,
          f,
        )

    pub begins_near : (most : ℕ) (ready flushed : Bool) → st.come < most → BeginsNear most going q a s
        (record { ready = ready; remaining = b; contents = u; flushed = flushed })
    begins_near most ready flushed few = (
      h.front,
      h.more,
      h.consumed,
      omega (arith, h.come, few),
      h.handed,
    )

-- what a read came to

pub more_so : (failed : Bool) (old new : Option (List ℕ)) (before after : Stream) (came : Came)
    → came ≡ More → HasCome failed old new before after came → (failed ≡ false) × HasRead old new before after
more_so failed old new before after came e = subst (HasCome failed old new before after) e

pub end_so : (failed : Bool) (old new : Option (List ℕ)) (before after : Stream) (came : Came)
    → came ≡ End → HasCome failed old new before after came
    → (failed ≡ false) × HasRead old new before after × IsAtEnd new
end_so failed old new before after came e = subst (HasCome failed old new before after) e

pub failure_so : (failed : Bool) (old new : Option (List ℕ)) (before after : Stream) (came : Came)
    → came ≡ Failure → HasCome failed old new before after came
    → (failed ≡ true) × Keeps old new × (after.buffer ≡ before.buffer) × (after.answered ≡ before.answered)
    × (after.come ≡ before.come)
failure_so failed old new before after came e = subst (HasCome failed old new before after) e

-- where nothing has changed that is counted
pub counted_same : (st next : Stream) → next.buffer ≡ st.buffer → next.answered ≡ st.answered → IsCounted st
    → IsCounted next
counted_same st next e f h = record {
  lines = omega (arith, h.lines, ap (λ (n : Answered). n.lines) f, ap (λ b. length b.lines) e);
  faulty = omega (
    arith,
    h.faulty,
    ap (λ (n : Answered). n.lines) f,
    ap (λ (n : Answered). n.faulty) f,
  );
}
