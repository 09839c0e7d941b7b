-- What is gathered while blocks are out: as it begins, as a block goes out and as its answer is put behind,
-- and at the end.
use Rattle.std.proofs.Common.{◌≡◌, ℕ, ◌+◌, ◌≤◌, ◌⊎◌, inl, inr, List, [], ◌∷◌, ◌++◌, length, Option, Some}
use Rattle.std.proofs.Common.{true, false, map, take, drop, option_map, take-append-drop}
use Rattle.std.proofs.Common.{None, refl, ap, sym, ◌∙◌, subst, arith, append_assoc, append-nil, ⊎_elim}
use Rattle.std.specs.Prelude.{IsSome, is_some}
use Rattle.std.proofs.lemmas.List.{drop-drop, map-append}
use Rattle.std.proofs.lemmas.List.Elements.{All-head, All-nil, All-push, All-tail}
use Rattle.jp_board.specs.Limits.{max_pieces}
use Rattle.jp_number.specs.declared.numbers.Numbers.{Numbers}
use Rattle.jp_buffer.specs.Buffered.{line_at}
use Rattle.jp_buffer.specs.declared.line_ref.LineRef.{LineRef}
use Rattle.jp_doc.specs.Lines.{Line}
use Rattle.jp_doc.specs.declared.fault.DocFault.{DocFault}
use Rattle.jp_node.specs.declared.visit.Visit as visit
use Rattle.jp_output.specs.OutputForm.{OutputForm}
use Rattle.jp_output.specs.declared.form.Form as form
use Rattle.jp_output.specs.declared.layout.Layout.{Layout}
use Rattle.jp_answer.specs.Answer.{Answer, joined, nothing, unless_stopped}
use Rattle.jp_answer.specs.Answered.{outcome_of}
use Rattle.jp_answer.specs.Asking.{asked_query}
use Rattle.jp_answer.specs.Blocks.{IsTaskAnswer}
use Rattle.jp_answer.specs.Policy.{passed_in, stop_in, stop_on}
use Rattle.jp_answer.specs.Queued.{sent_lines, sent_task}
use Rattle.jp_answer.specs.inner.Gathering.{asked_answer, Gathers, GathersOn, HasPut, IsAllOf, gathered_of}
use Rattle.jp_answer.specs.declared.asked.Asked.{Asked}
use Rattle.jp_answer.specs.declared.gathered.Gathered.{Gathered}
use Rattle.jp_answer.specs.declared.on_fault.OnFault.{OnFault}
use Rattle.jp_answer.specs.declared.on_fault.OnFault.TheVariants.{Stop, KeepGoing}
use Rattle.jp_answer.specs.declared.outcome.DocStop.{DocStop}
use Rattle.jp_answer.specs.declared.outcome.Outcome.{Outcome}
use Rattle.jp_answer.specs.declared.policy.LinePolicy.{LinePolicy}
use Rattle.jp_answer.specs.declared.queue.Queue.{Queue}
use Rattle.jp_answer.specs.declared.queue.Sent.{Sent}
use Rattle.jp_answer.specs.declared.task.Task.{Task}
use Rattle.jp_answer.proofs.Joining.{joined_assoc, none_before, nothing_first}
use Rattle.jp_answer.proofs.OnFaults.{formed_joined, nothing_in, passed_few, passed_joined, passed_none}
use Rattle.jp_answer.proofs.OnFaults.{passed_on}
use Rattle.jp_answer.proofs.Streams.{joined_nothing}

-- an answer that stops says so of its policy
stops_on : (n : Numbers) (k : OnFault) (ls : List Line) → (stop_on n k ls ≡ None) ⊎ (k ≡ Stop)
stops_on n Stop ls = inr refl
stops_on n KeepGoing ls = inl refl

stops_in : (p : LinePolicy) (ls : List Line) → (stop_in p ls ≡ None) ⊎ (p.on_fault ≡ Stop)
stops_in p ls = stops_on p.numbers p.on_fault ls

none_on : (n : Numbers) (k : OnFault) (ls : List Line) → k ≡ Stop → passed_on n k ls ≡ 0
none_on n Stop ls e = none_before n ls
none_on n KeepGoing ls e = absurd (cc)

-- what has stopped is all
first_ends : (stop : Option (ℕ × DocFault)) (a b : Answer) → IsSome stop → unless_stopped stop a b ≡ a
first_ends None a b h = absurd (cc)
first_ends (Some s) a b h = refl

not_both : (stop : Option (ℕ × DocFault)) → stop ≡ None → IsSome stop → ⊥
not_both None e h = absurd (cc)
not_both (Some s) e h = absurd (cc)

joined_first : (d : Answer) (a : Answer) → d ≡ nothing → joined d a ≡ a
joined_first d a e = ap (λ (x : Answer). joined x a) e ∙ nothing_first a

-- the answer to a task is put behind what was gathered, which has not stopped
pub has_put : (form : Layout → OutputForm) (task : Task) (before after : Gathered) (more : Outcome)
    → (gathered_of before).stopped ≡ None → IsTaskAnswer form task more
    → gathered_of after ≡ joined (gathered_of before) (outcome_of more) → HasPut form task before after
has_put form task before after more unstopped is put =
    let plain : gathered_of after ≡ unless_stopped None (gathered_of before) (outcome_of more) =
    put ∙ ap (λ s. unless_stopped s (gathered_of before) (outcome_of more)) unstopped in
    record {
      answer = λ t right. put ∙ ap (joined (gathered_of before)) (sym (is.answer t right));
      passed = ap (λ (a : Answer). a.faulty) plain ∙ ap (λ n. before.faulty + n) (sym is.passed);
      stopped = ap (λ (a : Answer). a.stopped) plain ∙ sym is.stopped;
    }

module _ {F : Type 0} {g : form.Ghosts F} {v : visit.Ghosts F} where
  lines_push : (out : List (Sent F g v)) (s : Sent F g v)
      → sent_lines (out ++ s ∷ []) ≡ sent_lines out ++ (sent_task s).lines
  lines_push [] s = append-nil (sent_task s).lines
  lines_push (x ∷ out) s = ap (λ l. (sent_task x).lines ++ l) (lines_push out s)
      ∙ sym (append_assoc (sent_task x).lines (sent_lines out) (sent_task s).lines)

  -- two steps, of which the first keeps what is asked
  pub gathers_then : (f : Layout → OutputForm) (o p r : Queue F g v) (x y z : Gathered)
      → p.asked ≡ o.asked → GathersOn f o p x y → GathersOn f p r y z → GathersOn f o r x z
  gathers_then f o p r x y z same first second = λ all rest h.
      subst (λ a. Gathers f a all rest r.sent.items z) same
      (second all rest (subst (λ a. Gathers f a all rest p.sent.items y) (sym same) (first all rest h)))

  module _ (f : Layout → OutputForm) (asked : Asked) (all : List Line) where
    pub gathers_start : (done : Gathered) → length all ≤ max_pieces → gathered_of done ≡ nothing
        → done.faulty ≡ 0 → Gathers {F = F} {g = g} {v = v} f asked all all [] done
    gathers_start done few e n = record {
      answer = λ t right. sym (joined_first (gathered_of done) (asked_answer f asked t all) e);
      passed = omega (arith, n);
      asks = All-nil _;
      stops = inl (ap (λ (a : Answer). a.stopped) e);
      few = few;
    }

    -- a block more is out
    pub gathers_sent : (rest front more : List Line) (out : List (Sent F g v)) (s : Sent F g v)
        (done : Gathered) → rest ≡ front ++ more → (sent_task s).lines ≡ front → (sent_task s).asked ≡ asked
        → Gathers f asked all rest out done → Gathers f asked all more (out ++ s ∷ []) done
    gathers_sent rest front more out s done cut is asks h =
        let same : sent_lines out ++ rest ≡ sent_lines (out ++ s ∷ []) ++ more =
        ap (λ l. sent_lines out ++ l) (cut ∙ ap (λ l. l ++ more) (sym is))
        ∙ sym (append_assoc (sent_lines out) (sent_task s).lines more)
        ∙ ap (λ l. l ++ more) (sym (lines_push out s)) in
        record {
          answer = λ t right. h.answer t right
              ∙ ap (λ l. joined (gathered_of done) (asked_answer f asked t l)) same;
          passed = omega (arith, h.passed, ap (passed_in asked.policy) same);
          asks = All-push (λ (x : Sent F g v). (sent_task x).asked ≡ asked) out s h.asks asks;
          stops = h.stops;
          few = h.few;
        }

    -- the answer to the front block is put behind
    pub gathers_put : (rest : List Line) (s : Sent F g v) (out : List (Sent F g v)) (done after : Gathered)
        → Gathers f asked all rest (s ∷ out) done → HasPut f (sent_task s) done after
        → Gathers f asked all rest out after
    gathers_put rest s out done after h k =
        let ls : List Line = (sent_task s).lines in
        let more : List Line = sent_lines out ++ rest in
        let cut : sent_lines (s ∷ out) ++ rest ≡ ls ++ more = append_assoc ls (sent_lines out) rest in
        let asks : (sent_task s).asked ≡ asked =
        All-head (λ (x : Sent F g v). (sent_task x).asked ≡ asked) s out h.asks in
        let same : (sent_task s).asked.policy ≡ asked.policy = ap (λ (a : Asked). a.policy) asks in
        record {
          answer = λ t right.
              let first : Answer = asked_answer f asked t ls in
              let put : gathered_of after ≡ joined (gathered_of done) first =
              k.answer t right ∙ ap (λ (a : Asked). joined (gathered_of done) (asked_answer f a t ls)) asks in
              h.answer t right
              ∙ ap (λ l. joined (gathered_of done) (asked_answer f asked t l)) cut
              ∙ ap (joined (gathered_of done))
              (formed_joined (f asked.layout.now) t (asked_query asked) asked.policy ls more)
              ∙ sym (joined_assoc (gathered_of done) first (asked_answer f asked t more))
              ∙ ap (λ (a : Answer). joined a (asked_answer f asked t more)) (sym put);
          passed = omega (
            arith,
            h.passed,
            ap (passed_in asked.policy) cut,
            passed_joined asked.policy ls more,
            k.passed,
            ap (λ (x : LinePolicy). passed_in x ls) same,
          );
          asks = All-tail (λ (x : Sent F g v). (sent_task x).asked ≡ asked) s out h.asks;
          stops = subst (λ (x : LinePolicy). ((gathered_of after).stopped ≡ None) ⊎ (x.on_fault ≡ Stop)) same
              (⊎_elim (λ e. inl (k.stopped ∙ e)) (λ e. inr e) (stops_in (sent_task s).asked.policy ls));
          few = h.few;
        }

    -- nothing is left, or what was gathered has stopped
    pub all_gathered : (rest : List Line) (out : List (Sent F g v)) (done : Gathered)
        → Gathers f asked all rest out done
        → (sent_lines out ++ rest ≡ []) ⊎ IsSome (gathered_of done).stopped → IsAllOf f asked all done
    all_gathered rest out done h (inl none) = record {
      answer = λ t right. h.answer t right
          ∙ ap (λ l. joined (gathered_of done) (asked_answer f asked t l)) none
          ∙ ap (joined (gathered_of done))
          (nothing_in (f asked.layout.now) t (asked_query asked) asked.policy)
          ∙ joined_nothing (gathered_of done);
      passed = omega (arith, h.passed, ap (passed_in asked.policy) none, passed_none asked.policy);
    }
    all_gathered rest out done h (inr ends) = record {
      answer = λ t right. h.answer t right
          ∙ first_ends (gathered_of done).stopped (gathered_of done)
          (asked_answer f asked t (sent_lines out ++ rest)) ends;
      passed = ⊎_elim (λ e. absurd (not_both (gathered_of done).stopped e ends))
          (λ e. omega (
            arith,
            h.passed,
            none_on asked.policy.numbers asked.policy.on_fault (sent_lines out ++ rest) e,
          ))
          h.stops;
    }

    -- there are no more faulty lines than a board has pieces
    pub few_gathered : (rest : List Line) (out : List (Sent F g v)) (done : Gathered)
        → Gathers f asked all rest out done → done.faulty ≤ max_pieces
    few_gathered rest out done h = omega (arith, h.passed, passed_few asked.policy all, h.few)

-- the lines from a place on, cut where a piece ends
pub cut_lines : (lines : List LineRef) (i n : ℕ) → map line_at (drop i lines)
    ≡ map line_at (take n (drop i lines)) ++ map line_at (drop (i + n) lines)
cut_lines lines i n = ap (map line_at) (sym (take-append-drop n (drop i lines)))
    ∙ map-append line_at (take n (drop i lines)) (drop n (drop i lines))
    ∙ ap (λ l. map line_at (take n (drop i lines)) ++ map line_at l) (drop-drop n i lines)

-- what is told of a stop
pub none_told : (s : Option DocStop) → false ≡ is_some s
    → option_map {U = ℕ × DocFault} (λ x. (x.line, x.fault)) s ≡ None
none_told None e = refl
none_told (Some x) e = absurd (cc)

pub some_told : (s : Option DocStop) → true ≡ is_some s
    → IsSome (option_map {U = ℕ × DocFault} (λ x. (x.line, x.fault)) s)
some_told None e = absurd (cc)
some_told (Some x) e = refl

-- an answer to a task passes no more faulty lines than a board has pieces
pub few_of_task : (f : Layout → OutputForm) (task : Task) (a : Outcome) → IsTaskAnswer f task a
    → a.faulty ≤ max_pieces
few_of_task f task a h = omega (arith, h.passed, passed_few task.asked.policy task.lines, task.few_lines)
