-- What stands as a run ends.
use Rattle.std.proofs.Common.{◌≡◌, ℕ, ◌+◌, List, ◌++◌, length, Option, Some, None, IfSome, inr}
use Rattle.std.proofs.Common.{Bool, true, refl, sym, ◌∙◌, ap, subst, arith, append_assoc, append-nil}
use Rattle.std.proofs.Common.{length-append}
use Rattle.std.proofs.Common.{Result, Ok, Err, IfOk, OnOk}
use Rattle.std.specs.Io.KnownBytes.{Consumes, IsAtEnd, Keeps}
use Rattle.std.proofs.KnownBytes.{Consumes-trans, Consumes-kept}
use Rattle.jp_doc.specs.Lines.{Line}
use Rattle.jp_doc.specs.Feeding.{Progress, finished, finished_lines}
use Rattle.jp_doc.specs.declared.fault.DocFault.{DocFault}
use Rattle.jp_answer.specs.FilteredQuery.{FilteredQuery}
use Rattle.jp_pattern.proofs.RightTests.{right_tests}
use Rattle.jp_answer.specs.Answer.{Answer}
use Rattle.jp_number.specs.declared.numbers.Numbers.{Numbers}
use Rattle.jp_answer.specs.Policy.{passed_in, stop_on}
use Rattle.jp_answer.specs.declared.on_fault.OnFault.{OnFault}
use Rattle.jp_answer.specs.declared.on_fault.OnFault.TheVariants.{Stop, KeepGoing}
use Rattle.jp_answer.proofs.Joining.{none_before}
use Rattle.jp_answer.proofs.OnFaults.{passed_joined, passed_on}
use Rattle.jp_run.specs.Manner.{Manner}
use Rattle.jp_run.specs.declared.fault.RunFault.{RunFault}
use Rattle.jp_run.specs.declared.fault.RunFault.TheVariants.{Query, Filter, Document, Read, Write, Limit}
use Rattle.jp_run.specs.declared.fault.RunFault.TheVariants.{Memory, Settings}
use Rattle.jp_run.specs.declared.running.Totals.{Totals}
use Rattle.jp_run.specs.declared.stream.Stream.{Stream}
use Rattle.jp_run.specs.Cutting.{documents, documents_in, fed, part_count, progress_in}
use Rattle.jp_run.specs.inner.Ended.{Ends, InputFront, ReadEnded, AnswerEnded, RestEnded, FailureEnded}
use Rattle.jp_run.specs.inner.Ended.{StreamEnded}
use Rattle.jp_run.specs.inner.Standing.{Stands}
use Rattle.jp_run.specs.inner.Wrote.{HasBytes, HasBytesMore}
use Rattle.jp_run.specs.Handed.{Handed, HandedFront}
use Rattle.jp_run.proofs.Coming.{documents_more, documents_whole, count_whole, count_below}
use Rattle.jp_run.proofs.Coming.{progress_both}
use Rattle.jp_run.proofs.Handing.{handed_both, handed_stopped, handed_front, front_more, front_after}
use Rattle.jp_run.proofs.Standing.{all_documents}
use Rattle.jp_run.proofs.Wrote.{wrote_more}

-- what bytes that begin with these say
known : (P : List ℕ → Type 0) (old now : Option (List ℕ)) (bytes : List ℕ) → Consumes old now bytes
    → ((rest : List ℕ) → P (bytes ++ rest)) → IfSome old P
known P None now bytes h k = tt
known P (Some xs) None bytes h k = absurd h
known P (Some xs) (Some ys) bytes h k = subst P (sym h) (k ys)

-- what bytes that are all say
known_all : (P : List ℕ → Type 0) (old now : Option (List ℕ)) (bytes : List ℕ) → Consumes old now bytes
    → IsAtEnd now → P bytes → IfSome old P
known_all P None now bytes h e p = tt
known_all P (Some xs) None bytes h e p = absurd h
known_all P (Some xs) (Some ys) bytes h e p = subst P
    (sym (h ∙ ap (λ bs. bytes ++ bs) e ∙ append-nil bytes)) p

-- an answer that stops does not keep going
no_stop : (k : OnFault) (n : Numbers) (ls : List Line) (s : ℕ × DocFault) → stop_on n k ls ≡ Some s → k ≡ Stop
no_stop Stop n ls s e = refl
no_stop KeepGoing n ls s e = absurd (cc)

module _ (going : Manner) (q : FilteredQuery) where
  never_going : (ls : List Line) (s : ℕ × DocFault) (a b : Option (List ℕ))
      → Handed going q ls (Some s) a b → going.policy.on_fault ≡ Stop
  never_going ls s a b h = no_stop going.policy.on_fault going.policy.numbers ls s
      (ap (λ (r : Answer). r.stopped) (h.is right_tests.0 right_tests.1) ∙ h.stopped)

  -- what was handed out of the first lines is a front of the whole
  input_front : (a c s u : Option (List ℕ)) (bytes : List ℕ) → Consumes a c bytes
      → HandedFront going q (documents_in going.numbering bytes) s u
      → IfSome a (λ input. HandedFront going q (documents going.numbering input) s u)
  input_front a c s u bytes h front = known
      (λ input. HandedFront going q (documents going.numbering input) s u)
      a c bytes h
      (λ rest. let more = documents_more going.numbering bytes rest in
      subst (λ (l : List Line). HandedFront going q l s u) (sym more.1)
      (front_more going q (documents_in going.numbering bytes) more.0 s u front))

  stopped_front : (a s u : Option (List ℕ)) (stop : ℕ × DocFault)
      → IfSome a (λ input. Handed going q (documents going.numbering input) (Some stop) s u)
      → IfSome a (λ input. HandedFront going q (documents going.numbering input) s u)
  stopped_front None s u stop h = tt
  stopped_front (Some input) s u stop h = handed_front going q (documents going.numbering input)
      (Some stop) s u
      h

  -- however a run ends, a front of the whole was handed out
  pub ended_front : (e : Ends) (f : RunFault) → StreamEnded going q e f → InputFront going q e
  ended_front e (Document line fault) h = stopped_front e.source_old e.sink_old e.sink_new (line, fault) h.0
  ended_front e Read h = input_front e.source_old e.source_new e.sink_old e.sink_new h.1 h.2
      (handed_front going q (documents_in going.numbering h.1) None e.sink_old e.sink_new h.3)
  ended_front e Write h = h.1
  ended_front e Limit h = h.1
  ended_front e Memory h = h
  ended_front e (Query fault) h = absurd h
  ended_front e (Filter fault) h = absurd h
  ended_front e Settings h = absurd h

  module _ (a b s u : Option (List ℕ)) (st : Stream) (h : Stands going q a b s u st) where
    pub stands_front : IfSome a (λ input. HandedFront going q (documents going.numbering input) s u)
    stands_front = input_front a b s u (h.front ++ h.more) h.consumed
        (subst (λ (l : List Line). HandedFront going q l s u) (sym (all_documents going q a b s u st h))
        (front_more going q (documents_in going.numbering h.front) st.buffer.lines s u
        (handed_front going q (documents_in going.numbering h.front) None s u h.handed)))

    waiting_front : (v : Option (List ℕ)) → HandedFront going q st.buffer.lines u v
        → IfSome a (λ input. HandedFront going q (documents going.numbering input) s v)
    waiting_front v k = input_front a b s v (h.front ++ h.more) h.consumed
        (subst (λ (l : List Line). HandedFront going q l s v) (sym (all_documents going q a b s u st h))
        (front_after going q (documents_in going.numbering h.front) st.buffer.lines s u v h.handed k))

    waiting_stopped : (v : Option (List ℕ)) (stop : ℕ × DocFault)
        → Handed going q st.buffer.lines (Some stop) u v
        → IfSome a (λ input. Handed going q (documents going.numbering input) (Some stop) s v)
    waiting_stopped v stop k = known
        (λ input. Handed going q (documents going.numbering input) (Some stop) s v)
        a b
        (h.front ++ h.more) h.consumed
        (λ rest. let more = documents_more going.numbering (h.front ++ h.more) rest in
        subst (λ (l : List Line). Handed going q l (Some stop) s v)
        (ap (λ l. l ++ more.0) (sym (all_documents going q a b s u st h)) ∙ sym more.1)
        (handed_stopped going q (documents_in going.numbering h.front ++ st.buffer.lines) more.0 stop s v
        (handed_both going q (documents_in going.numbering h.front) st.buffer.lines (Some stop) s u v h.handed
        k)))

  -- the lines that waited were not answered to their end
  pub waiting_ended : (e : Ends) (b u : Option (List ℕ)) (st : Stream) (f : RunFault)
      → Stands going q e.source_old b e.sink_old u st
      → AnswerEnded going q st.buffer.lines e.sink_failed u e.sink_new f → StreamEnded going q e f
  waiting_ended e b u st (Document line fault) h k = (
    waiting_stopped e.source_old b e.sink_old u st h e.sink_new (line, fault) k,
    never_going st.buffer.lines (line, fault) u e.sink_new k,
  )
  waiting_ended e b u st Write h k =
      (k.0, waiting_front e.source_old b e.sink_old u st h e.sink_new k.1)
  waiting_ended e b u st Memory h k = waiting_front e.source_old b e.sink_old u st h e.sink_new k
  waiting_ended e b u st (Query fault) h k = absurd k
  waiting_ended e b u st (Filter fault) h k = absurd k
  waiting_ended e b u st Read h k = absurd k
  waiting_ended e b u st Limit h k = absurd k
  waiting_ended e b u st Settings h k = absurd k

  -- a read came to a limit
  pub limit_ended : (e : Ends) (b : Option (List ℕ)) (st : Stream) (f : RunFault)
      → Stands going q e.source_old b e.sink_old e.sink_new st
      → ReadEnded st.buffer.cutting st.buffer.progress b e.source_new f
      → StreamEnded going q e f
  limit_ended e b st Limit h k = (
    inr (
      (h.front ++ h.more) ++ k.0,
      Consumes-trans e.source_old b e.source_new (h.front ++ h.more) k.0 h.consumed k.1,
      omega (
        arith,
        k.2,
        ap (λ c. (fed c st.buffer.progress k.0).count) h.cutting,
        ap (λ (p : Progress). (fed going.numbering.cutting p k.0).count) h.progress,
        ap (λ (p : Progress). p.count) (progress_both going.numbering (h.front ++ h.more) k.0),
        count_below going.numbering ((h.front ++ h.more) ++ k.0),
      ),
    ),
    stands_front e.source_old b e.sink_old e.sink_new st h,
  )
  limit_ended e b st Memory h k = stands_front e.source_old b e.sink_old e.sink_new st h
  limit_ended e b st Read h k = absurd k
  limit_ended e b st (Query fault) h k = absurd k
  limit_ended e b st (Filter fault) h k = absurd k
  limit_ended e b st (Document line fault) h k = absurd k
  limit_ended e b st Write h k = absurd k
  limit_ended e b st Settings h k = absurd k

  -- a read failed, and what had come was answered then
  pub failure_ended : (e : Ends) (b u : Option (List ℕ)) (st : Stream) (f : RunFault)
      → Stands going q e.source_old b e.sink_old u st → e.source_failed ≡ true → Keeps b e.source_new
      → FailureEnded going q st.buffer.lines e.sink_failed u e.sink_new f → StreamEnded going q e f
  failure_ended e b u st Read h k same m = (
    k,
    h.front ++ h.more,
    Consumes-kept e.source_old b e.source_new (h.front ++ h.more) h.consumed same,
    subst (λ (l : List Line). Handed going q l None e.sink_old e.sink_new)
        (sym (all_documents going q e.source_old b e.sink_old u st h))
        (handed_both going q (documents_in going.numbering h.front) st.buffer.lines None e.sink_old u
        e.sink_new
        h.handed m),
  )
  failure_ended e b u st (Document line fault) h k same m = waiting_ended e b u st (Document line fault) h m
  failure_ended e b u st Write h k same m = waiting_ended e b u st Write h m
  failure_ended e b u st Memory h k same m = waiting_ended e b u st Memory h m
  failure_ended e b u st (Query fault) h k same m = absurd m
  failure_ended e b u st (Filter fault) h k same m = absurd m
  failure_ended e b u st Limit h k same m = absurd m
  failure_ended e b u st Settings h k same m = absurd m

  -- the rest of an input that was read to its end
  module _ (a b s u v : Option (List ℕ)) (st : Stream) (h : Stands going q a b s u st) (end : IsAtEnd b)
    where
      rest : List Line
      rest = st.buffer.lines ++ finished_lines st.buffer.progress

      lines_are : documents going.numbering (h.front ++ h.more) ≡ documents_in going.numbering h.front ++ rest
      unfolding rest
      lines_are = documents_whole going.numbering (h.front ++ h.more)
          ∙ ap (λ l. l ++ finished_lines (progress_in going.numbering (h.front ++ h.more)))
          (all_documents going q a b s u st h)
          ∙ append_assoc (documents_in going.numbering h.front) st.buffer.lines
          (finished_lines (progress_in going.numbering
          (h.front ++ h.more)))
          ∙ ap (λ (p : Progress). documents_in going.numbering h.front
          ++ (st.buffer.lines ++ finished_lines p))
          (sym h.progress)

      rest_front : HandedFront going q (st.buffer.lines ++ finished_lines st.buffer.progress) u v
          → IfSome a (λ input. HandedFront going q (documents going.numbering input) s v)
      unfolding rest
      rest_front k = known_all (λ input. HandedFront going q (documents going.numbering input) s v) a b
          (h.front
          ++ h.more)
          h.consumed end
          (subst (λ (l : List Line). HandedFront going q l s v) (sym lines_are)
          (front_after going q (documents_in going.numbering h.front) rest s u v h.handed k))

      rest_handed : (stop : Option (ℕ × DocFault))
          → Handed going q (st.buffer.lines ++ finished_lines st.buffer.progress) stop u v
          → IfSome a (λ input. Handed going q (documents going.numbering input) stop s v)
      unfolding rest
      rest_handed stop k = known_all (λ input. Handed going q (documents going.numbering input) stop s v) a b
          (h.front ++ h.more) h.consumed end
          (subst (λ (l : List Line). Handed going q l stop s v) (sym lines_are)
          (handed_both going q (documents_in going.numbering h.front) rest stop s u v h.handed k))

      rest_counts : (all seen : ℕ) → all + going.numbering.before ≡ (finished st.buffer.progress).count
          → seen ≡ st.answered.lines
          + length (st.buffer.lines ++ finished_lines st.buffer.progress)
          → IfSome a (λ input. (all ≡ part_count going.numbering.cutting input)
          × (seen ≡ length (documents going.numbering input)))
      unfolding rest
      rest_counts all seen e f = known_all
          (λ input. (all ≡ part_count going.numbering.cutting input) × (seen
          ≡ length (documents going.numbering input))) a b (h.front ++ h.more)
          h.consumed end (
            omega (
              arith,
              e,
              ap (λ (p : Progress). (finished p).count) h.progress,
              count_whole going.numbering (h.front ++ h.more),
            ),
            omega (
              arith,
              f,
              h.lines,
              ap length lines_are,
              length-append (documents_in going.numbering h.front)
                  rest,
            ),
          )

      rest_passed : (faulty : ℕ) → faulty ≡ st.answered.faulty
          + passed_in going.policy (st.buffer.lines ++ finished_lines st.buffer.progress)
          → IfSome a (λ input. faulty ≡ passed_in going.policy (documents going.numbering input))
      unfolding rest
      rest_passed faulty e = known_all (λ input. faulty ≡ passed_in going.policy
          (documents going.numbering input)) a b
          (h.front ++ h.more) h.consumed end (omega (
            arith,
            e,
            h.faulty,
            ap (passed_in going.policy) lines_are,
            passed_joined going.policy (documents_in going.numbering h.front) rest,
          ))

      pub faulty_ok : {E : Type 0} (r : Result Totals E)
          → IfOk r (λ t. t.faulty ≡ st.answered.faulty
          + passed_in going.policy (st.buffer.lines ++ finished_lines st.buffer.progress))
          → IfOk r (λ t. IfSome a (λ input. t.faulty ≡ passed_in going.policy
          (documents going.numbering input)))
      faulty_ok (Ok t) k = rest_passed t.faulty k
      faulty_ok (Err f) k = tt

      rest_wrote : (wrote : ℕ)
          → HasBytesMore going q (st.buffer.lines ++ finished_lines st.buffer.progress)
          st.answered.wrote wrote
          → IfSome a (λ input. HasBytes going q (documents going.numbering input) wrote)
      unfolding rest
      rest_wrote wrote k = known_all (λ input. HasBytes going q (documents going.numbering input) wrote) a b
          (h.front ++ h.more)
          h.consumed end (subst (λ (l : List Line). HasBytes going q l wrote) (sym lines_are)
          (wrote_more going q (documents_in going.numbering h.front) rest s u st.answered.wrote wrote h.handed
          h.wrote k))

      pub wrote_ok : {E : Type 0} (r : Result Totals E)
          → IfOk r (λ t. HasBytesMore going q (st.buffer.lines ++ finished_lines st.buffer.progress)
          st.answered.wrote t.wrote)
          → IfOk r (λ t. IfSome a (λ input. HasBytes going q (documents going.numbering input) t.wrote))
      wrote_ok (Ok t) k = rest_wrote t.wrote k
      wrote_ok (Err f) k = tt

      pub rest_ok : {T E : Type 0} (r : Result T E)
          → OnOk r (Handed going q (st.buffer.lines ++ finished_lines st.buffer.progress) None u v)
          → OnOk r (IfSome a (λ input. Handed going q (documents going.numbering input) None s v))
      rest_ok (Ok x) k = rest_handed None k
      rest_ok (Err f) k = tt

      pub totals_ok : {E : Type 0} (r : Result Totals E)
          → IfOk r (λ t. t.lines + going.numbering.before ≡ (finished st.buffer.progress).count)
          → IfOk r (λ t. t.documents ≡ st.answered.lines
          + length (st.buffer.lines ++ finished_lines st.buffer.progress))
          → IfOk r (λ t. IfSome a (λ input. (t.lines ≡ part_count going.numbering.cutting input)
          × (t.documents ≡ length (documents going.numbering input))))
      totals_ok (Ok t) k m = rest_counts t.lines t.documents k m
      totals_ok (Err f) k m = tt

  pub rest_ended : (e : Ends) (u : Option (List ℕ)) (st : Stream) (f : RunFault)
      → Stands going q e.source_old e.source_new e.sink_old u st → IsAtEnd e.source_new
      → RestEnded going q (st.buffer.lines ++ finished_lines st.buffer.progress)
      (finished st.buffer.progress).count e.sink_failed u e.sink_new f
      → StreamEnded going q e f
  rest_ended e u st (Document line fault) h end k = (
    rest_handed e.source_old e.source_new e.sink_old u e.sink_new st h end (Some (line, fault)) k,
    never_going (st.buffer.lines ++ finished_lines st.buffer.progress) (line, fault) u e.sink_new k,
  )
  rest_ended e u st Write h end k =
      (k.0, rest_front e.source_old e.source_new e.sink_old u e.sink_new st h end k.1)
  rest_ended e u st Limit h end k = (
    inr (
      h.front ++ h.more,
      h.consumed,
      omega (
        arith,
        k.0,
        ap (λ (p : Progress). (finished p).count) h.progress,
        count_whole going.numbering (h.front ++ h.more),
      ),
    ),
    rest_front e.source_old e.source_new e.sink_old u e.sink_new st h end k.1,
  )
  rest_ended e u st Memory h end k =
      rest_front e.source_old e.source_new e.sink_old u e.sink_new st h end k
  rest_ended e u st (Query fault) h end k = absurd k
  rest_ended e u st (Filter fault) h end k = absurd k
  rest_ended e u st Read h end k = absurd k
  rest_ended e u st Settings h end k = absurd k

-- what is left at the end of an input was not answered to its end
module _ (going : Manner) (q : FilteredQuery) (ls : List Line) (count : ℕ) (failed : Bool) where
  pub rest_answer : (a b : Option (List ℕ)) (f : RunFault) → AnswerEnded going q ls failed a b f
      → RestEnded going q ls count failed a b f
  rest_answer a b (Document line fault) h = h
  rest_answer a b Write h = h
  rest_answer a b Memory h = h
  rest_answer a b (Query fault) h = absurd h
  rest_answer a b (Filter fault) h = absurd h
  rest_answer a b Read h = absurd h
  rest_answer a b Limit h = absurd h
  rest_answer a b Settings h = absurd h

-- an answer that does not keep going passes no faulty line
pub none_ok : (k : OnFault) (numbers : Numbers) (before after : List Line) (n : ℕ)
    (r : Result Totals RunFault) → n ≡ passed_on numbers k before
    → IfOk r (λ totals. totals.faulty ≡ n + passed_on numbers k after) → k ≡ Stop
    → IfOk r (λ totals. totals.faulty ≡ 0)
none_ok Stop numbers before after n (Ok totals) e h off =
    omega (arith, e, h, none_before numbers before, none_before numbers after)
none_ok Stop numbers before after n (Err fault) e h off = tt
none_ok KeepGoing numbers before after n r e h off = absurd (cc)
