-- Where a run stands while blocks are out.
use Rattle.std.proofs.Common.{◌≡◌, ℕ, ◌+◌, ◌≤◌, Bool, List, [], ◌∷◌, ◌++◌, length, Option, None}
use Rattle.std.proofs.Common.{inr, refl, sym, ◌∙◌, ap, subst, arith, append_assoc, append-nil, length-append}
use Rattle.std.specs.Io.KnownBytes.{Consumes}
use Rattle.std.proofs.KnownBytes.{Consumes-trans}
use Rattle.jp_doc.specs.Lines.{Line}
use Rattle.jp_doc.specs.Feeding.{Progress}
use Rattle.jp_answer.specs.FilteredQuery.{FilteredQuery}
use Rattle.jp_output.specs.declared.form.Form as form
use Rattle.jp_answer.below.jp_node.specs.declared.visit.Visit as visit
use Rattle.jp_answer.specs.Policy.{passed_in}
use Rattle.jp_answer.specs.Queued.{sent_lines, sent_task}
use Rattle.jp_answer.specs.declared.queue.Queue.{Queue}
use Rattle.jp_answer.specs.declared.queue.Sent.{Sent}
use Rattle.jp_answer.proofs.OnFaults.{passed_joined}
use Rattle.jp_run.specs.Manner.{Manner}
use Rattle.jp_run.specs.Cutting.{documents_in, fed, fed_lines, progress_in}
use Rattle.jp_run.specs.Handed.{Handed}
use Rattle.jp_run.specs.inner.Ended.{Ends, AnswerEnded, StreamEnded}
use Rattle.jp_run.specs.inner.Going.{all_bytes, IsSent, AreSent, Goes, HasWritten}
use Rattle.jp_run.specs.inner.Going.{AsksSo, GoesOn, WentOut, IsGoing, manner_asked}
use Rattle.jp_run.specs.inner.Input.{Input}
use Rattle.jp_run.specs.inner.Reading.{HasRead}
use Rattle.jp_run.specs.inner.Standing.{HasAnswered, Stands}
use Rattle.jp_run.specs.inner.Wrote.{HasBytes}
use Rattle.jp_run.specs.declared.fault.RunFault.{RunFault}
use Rattle.jp_run.specs.declared.fault.RunFault.TheVariants.{Memory}
use Rattle.jp_run.specs.Limits.{max_lines}
use Rattle.jp_run.specs.declared.stream.Answered.{Answered}
use Rattle.jp_run.specs.declared.stream.Stream.{Stream}
use Rattle.jp_run.proofs.Coming.{documents_both, progress_both}
use Rattle.jp_run.proofs.Ending.{stands_front, waiting_ended}
use Rattle.jp_run.proofs.Handing.{handed_both, ended_more}
use Rattle.jp_run.proofs.Pieces.{lines_twice, lines_nothing}
use Rattle.jp_run.proofs.Standing.{few_faulty, few_lines, settled}
use Rattle.jp_answer.specs.Asking.{asked_query}
use Rattle.jp_run.proofs.Wrote.{wrote_more}

bytes_more : (pieces : List (List ℕ)) (piece : List ℕ) → all_bytes (pieces ++ piece ∷ [])
    ≡ all_bytes pieces ++ piece
bytes_more [] piece = append-nil piece
bytes_more (p ∷ pieces) piece = ap (λ l. p ++ l) (bytes_more pieces piece)
    ∙ sym (append_assoc p (all_bytes pieces) piece)

module _ {F : Type 0} {g : form.Ghosts F} {v : visit.Ghosts F} where
  -- the lines of blocks are those that their pieces complete
  sent_waiting : (going : Manner) (q : FilteredQuery) (before : List ℕ) (pieces : List (List ℕ))
      (out : List (Sent F g v)) → AreSent going q before pieces out
      → sent_lines out
      ≡ fed_lines going.numbering.cutting (progress_in going.numbering before) (all_bytes pieces)
  sent_waiting going q before [] [] h = sym (lines_nothing going.numbering before)
  sent_waiting going q before [] (s ∷ out) h = absurd h
  sent_waiting going q before (p ∷ pieces) [] h = absurd h
  sent_waiting going q before (p ∷ pieces) (s ∷ out) h = ap (λ l. l ++ sent_lines out) h.0.lines
      ∙ ap (λ l. fed_lines going.numbering.cutting (progress_in going.numbering before) p ++ l)
      (sent_waiting going q (before ++ p) pieces out h.1
      ∙ ap (λ (k : Progress). fed_lines going.numbering.cutting k (all_bytes pieces))
      (progress_both going.numbering before p))
      ∙ sym (lines_twice going.numbering.cutting (progress_in going.numbering before) p (all_bytes pieces))

  -- one more block
  sent_more : (going : Manner) (q : FilteredQuery) (before : List ℕ) (pieces : List (List ℕ)) (piece : List ℕ)
      (out : List (Sent F g v)) (s : Sent F g v) → AreSent going q before pieces out
      → IsSent going q (before ++ all_bytes pieces) piece s
      → AreSent going q before (pieces ++ piece ∷ []) (out ++ s ∷ [])
  sent_more going q before [] piece [] s h k =
      (subst (λ l. IsSent going q l piece s) (append-nil before) k, tt)
  sent_more going q before [] piece (t ∷ out) s h k = absurd h
  sent_more going q before (p ∷ pieces) piece [] s h k = absurd h
  sent_more going q before (p ∷ pieces) piece (t ∷ out) s h k = (
    h.0,
    sent_more going q (before ++ p) pieces piece out s h.1
        (subst (λ l. IsSent going q l piece s) (sym (append_assoc before p (all_bytes pieces))) k),
  )

  -- the piece of the front block
  record First (going : Manner) (q : FilteredQuery) (before : List ℕ) (pieces : List (List ℕ))
      (s : Sent F g v)
      (out : List (Sent F g v)) : Type 0 where
    piece : List ℕ
    rest : List (List ℕ)
    are : pieces ≡ piece ∷ rest
    is_sent : IsSent going q before piece s
    are_sent : AreSent going q (before ++ piece) rest out

  first_of : (going : Manner) (q : FilteredQuery) (before : List ℕ) (pieces : List (List ℕ))
      (s : Sent F g v) (out : List (Sent F g v)) → AreSent going q before pieces (s ∷ out)
      → First going q before pieces s out
  first_of going q before [] s out h = absurd h
  first_of going q before (p ∷ pieces) s out h = record {
    piece = p;
    rest = pieces;
    are = refl;
    is_sent = h.0;
    are_sent = h.1;
  }

  module _ (going : Manner) (q : FilteredQuery) (a b s u : Option (List ℕ)) where
    -- no block is out
    pub goes_start : (st : Stream) → Stands going q a b s u st → Goes {F = F} {g = g} {v = v} going q a b s
        u st [] 0
    goes_start st h = record {
      front = h.front;
      pieces = [];
      last = h.more;
      consumed = h.consumed;
      cutting = h.cutting;
      progress = h.progress;
      sent = tt;
      waiting = h.waiting ∙ ap (λ l. fed_lines going.numbering.cutting (progress_in going.numbering l) h.more)
          (sym (append-nil h.front));
      bytes_are = refl;
      come = h.come;
      lines = h.lines;
      faulty = h.faulty;
      wrote = h.wrote;
      handed = h.handed;
    }

    module _ (st : Stream) (out : List (Sent F g v)) (n : ℕ) (h : Goes going q a b s u st out n) where
      -- as if the lines of blocks waited in the buffer
      pub goes_stands : Stands going q a b s u (record {
        scratch = st.scratch;
        left = st.left;
        buffer = record {
          cutting = st.buffer.cutting;
          progress = st.buffer.progress;
          lines = sent_lines out ++ st.buffer.lines;
        };
        come = st.come;
        answered = st.answered;
        not_empty = st.not_empty;
      })
      goes_stands = record {
        front = h.front;
        more = all_bytes h.pieces ++ h.last;
        consumed = h.consumed;
        cutting = h.cutting;
        progress = h.progress;
        waiting = ap (λ l. l ++ st.buffer.lines) (sent_waiting going q h.front h.pieces out h.sent)
            ∙ ap (λ l. fed_lines going.numbering.cutting (progress_in going.numbering h.front)
            (all_bytes h.pieces)
            ++ l) (h.waiting
            ∙ ap (λ (k : Progress). fed_lines going.numbering.cutting k h.last)
            (progress_both going.numbering h.front (all_bytes h.pieces)))
            ∙ sym (lines_twice going.numbering.cutting (progress_in going.numbering h.front)
            (all_bytes h.pieces)
            h.last);
        come = h.come;
        lines = h.lines;
        faulty = h.faulty;
        wrote = h.wrote;
        handed = h.handed;
      }

      -- more has come
      pub goes_read : (c : Option (List ℕ)) (next : Stream) → HasRead b c st next
          → Goes going q a c s u next out n
      goes_read c next r =
          let cut : (h.front ++ (all_bytes h.pieces ++ h.last)) ++ r.piece
          ≡ h.front ++ (all_bytes h.pieces ++ (h.last ++ r.piece)) =
          append_assoc h.front (all_bytes h.pieces ++ h.last) r.piece
          ∙ ap (λ l. h.front ++ l) (append_assoc (all_bytes h.pieces) h.last r.piece) in
          let before : List ℕ = h.front ++ all_bytes h.pieces in
          let whole : h.front ++ (all_bytes h.pieces ++ h.last) ≡ before ++ h.last =
          sym (append_assoc h.front (all_bytes h.pieces) h.last) in
          record {
            front = h.front;
            pieces = h.pieces;
            last = h.last ++ r.piece;
            consumed = subst (λ l. Consumes a c l) cut
                (Consumes-trans a b c (h.front ++ (all_bytes h.pieces ++ h.last)) r.piece h.consumed
                r.consumed);
            cutting = r.cutting ∙ h.cutting;
            progress = r.progress ∙ ap (λ c. fed c st.buffer.progress r.piece) h.cutting
                ∙ ap (λ (p : Progress). fed going.numbering.cutting p r.piece) h.progress
                ∙ sym (progress_both going.numbering (h.front
                ++ (all_bytes h.pieces ++ h.last)) r.piece)
                ∙ ap (λ l. progress_in going.numbering l) cut;
            sent = h.sent;
            waiting = r.lines ∙ ap (λ c. st.buffer.lines ++ fed_lines c st.buffer.progress r.piece) h.cutting
                ∙ ap (λ l. l ++ fed_lines going.numbering.cutting st.buffer.progress r.piece) h.waiting
                ∙ ap (λ (p : Progress). fed_lines going.numbering.cutting
                (progress_in going.numbering before) h.last
                ++ fed_lines going.numbering.cutting p r.piece)
                (h.progress ∙ ap (λ l. progress_in going.numbering l) whole
                ∙ progress_both going.numbering before h.last)
                ∙ sym (lines_twice going.numbering.cutting (progress_in going.numbering before) h.last
                r.piece);
            bytes_are = h.bytes_are;
            come = omega (
              arith,
              r.come,
              h.come,
              length-append (all_bytes h.pieces) h.last,
              length-append (all_bytes h.pieces) (h.last ++ r.piece),
              length-append h.last r.piece,
            );
            lines = ap (λ (k : Answered). k.lines) r.answered ∙ h.lines;
            faulty = ap (λ (k : Answered). k.faulty) r.answered ∙ h.faulty;
            wrote = λ t right. ap (λ (k : Answered). k.wrote) r.answered ∙ h.wrote t right;
            handed = h.handed;
          }

    -- the lines that waited are out
    pub goes_sent : (st next : Stream) (o p : Queue F g v) → Goes going q a b s u st o.sent.items o.bytes
        → AsksSo going q o → WentOut st next o p → Goes going q a b s u next p.sent.items p.bytes
    goes_sent st next o p h asks k =
        let more : all_bytes (h.pieces ++ h.last ∷ []) ≡ all_bytes h.pieces ++ h.last =
        bytes_more h.pieces h.last in
        let whole : all_bytes h.pieces ++ h.last ≡ all_bytes (h.pieces ++ h.last ∷ []) ++ [] =
        sym more ∙ sym (append-nil (all_bytes (h.pieces ++ h.last ∷ []))) in
        record {
          front = h.front;
          pieces = h.pieces ++ h.last ∷ [];
          last = [];
          consumed = subst (λ l. Consumes a b (h.front ++ l)) whole h.consumed;
          cutting = k.cutting ∙ h.cutting;
          progress = k.progress ∙ h.progress ∙ ap (λ l. progress_in going.numbering (h.front ++ l)) whole;
          sent = subst (λ (l : List (Sent F g v)). AreSent going q h.front (h.pieces ++ h.last ∷ []) l)
              (sym k.out) (sent_more going q h.front h.pieces h.last o.sent.items k.sent h.sent
              (record {
                lines = k.lines ∙ h.waiting;
                bytes = omega (
                  arith,
                  k.bytes,
                  h.bytes_are,
                  h.come,
                  length-append (all_bytes h.pieces) h.last,
                );
                query = ap asked_query k.asked ∙ asks.0;
                manner_is = ap (manner_asked g going.numbering) k.asked ∙ asks.1;
              }));
          waiting = k.none ∙ sym (lines_nothing going.numbering
              (h.front ++ all_bytes (h.pieces ++ h.last ∷ [])));
          bytes_are = omega (arith, k.all_bytes_out, h.come, ap length more);
          come = omega (arith, k.come, h.come, ap length whole);
          lines = ap (λ (m : Answered). m.lines) k.answered ∙ h.lines;
          faulty = ap (λ (m : Answered). m.faulty) k.answered ∙ h.faulty;
          wrote = λ t right. ap (λ (m : Answered). m.wrote) k.answered ∙ h.wrote t right;
          handed = h.handed;
        }

    -- no block is out, and what waited is answered
    pub goes_answered : (st next : Stream) (n : ℕ) (w : Option (List ℕ))
        → Goes {F = F} {g = g} {v = v} going q a b s u st [] n → HasAnswered going q u w st next
        → Stands going q a b s w next
    goes_answered st next n w h k = settled going q a b s u st (goes_stands st [] n h) b w next refl (inr k)

  -- the answer to the front block is written
  module _ (going : Manner) (q : FilteredQuery) (a b s u : Option (List ℕ)) (st : Stream)
      (f : Sent F g v) (out : List (Sent F g v)) (n : ℕ)
      (h : Goes going q a b s u st (f ∷ out) n) where
    first : First going q h.front h.pieces f out
    first = first_of going q h.front h.pieces f out h.sent

    -- what the block asks is asked in this run
    asked_handed : (w : Option (List ℕ)) → Handed (manner_asked g going.numbering (sent_task f).asked)
        (asked_query (sent_task f).asked) (sent_task f).lines None u w
        → Handed going q (sent_task f).lines None u w
    asked_handed w k = subst (λ (r : FilteredQuery). Handed going r (sent_task f).lines None u w)
        first.is_sent.query (subst (λ (m : Manner). Handed m
        (asked_query (sent_task f).asked) (sent_task f).lines None u w)
        first.is_sent.manner_is k)

    pub asked_ended : (w : Option (List ℕ)) (failed : Bool) (fault : RunFault)
        → AnswerEnded (manner_asked g going.numbering (sent_task f).asked)
        (asked_query (sent_task f).asked) (sent_task f).lines failed u w fault
        → AnswerEnded going q (sent_task f).lines failed u w fault
    asked_ended w failed fault k =
        subst (λ (r : FilteredQuery). AnswerEnded going r (sent_task f).lines failed u w fault)
        first.is_sent.query (subst (λ (m : Manner). AnswerEnded m
        (asked_query (sent_task f).asked) (sent_task f).lines failed u w fault)
        first.is_sent.manner_is k)

    pub goes_written : (next : Stream) (m : ℕ) (w : Option (List ℕ))
        → HasWritten (manner_asked g going.numbering (sent_task f).asked)
        (asked_query (sent_task f).asked)
        f st next → m + f.bytes ≡ n
        → Handed (manner_asked g going.numbering (sent_task f).asked)
        (asked_query (sent_task f).asked)
        (sent_task f).lines None u w → Goes going q a b s w next out m
    goes_written next m w written e handed =
        let k : HasWritten going q f st next =
        subst (λ (r : FilteredQuery). HasWritten going r f st next) first.is_sent.query
        (subst (λ (m : Manner). HasWritten m
        (asked_query (sent_task f).asked) f st next) first.is_sent.manner_is written) in
        let done = asked_handed w handed in
        let p : List ℕ = first.piece in
        let rest : List ℕ = all_bytes first.rest in
        let are : all_bytes h.pieces ≡ p ++ rest = ap all_bytes first.are in
        let cut : h.front ++ (all_bytes h.pieces ++ h.last) ≡ (h.front ++ p) ++ (rest ++ h.last) =
        ap (λ l. h.front ++ (l ++ h.last)) are ∙ ap (λ l. h.front ++ l) (append_assoc p rest h.last)
        ∙ sym (append_assoc h.front p (rest ++ h.last)) in
        let lines_are : documents_in going.numbering (h.front ++ p) ≡ documents_in going.numbering h.front
        ++ (sent_task f).lines =
        documents_both going.numbering h.front p ∙ ap (λ l. documents_in going.numbering h.front
        ++ l) (sym first.is_sent.lines) in
        record {
          front = h.front ++ p;
          pieces = first.rest;
          last = h.last;
          consumed = subst (λ l. Consumes a b l) cut h.consumed;
          cutting = ap (λ (i : Input). i.cutting) k.buffer ∙ h.cutting;
          progress = ap (λ (i : Input). i.progress) k.buffer ∙ h.progress ∙ ap
              (λ l. progress_in going.numbering l) cut;
          sent = first.are_sent;
          waiting = ap (λ (i : Input). i.lines) k.buffer ∙ h.waiting
              ∙ ap (λ l. fed_lines going.numbering.cutting (progress_in going.numbering l) h.last) (ap
              (λ l. h.front ++ l) are
              ∙ sym (append_assoc h.front p rest));
          bytes_are = omega (
            arith,
            e,
            h.bytes_are,
            first.is_sent.bytes,
            ap length are,
            length-append p rest,
          );
          come = omega (
            arith,
            k.come,
            h.come,
            first.is_sent.bytes,
            length-append (all_bytes h.pieces) h.last,
            ap length are,
            length-append p rest,
            length-append rest h.last,
          );
          lines = omega (
            arith,
            k.lines,
            h.lines,
            ap length lines_are,
            length-append (documents_in going.numbering h.front) (sent_task f).lines,
          );
          faulty = omega (
            arith,
            k.faulty,
            h.faulty,
            ap (passed_in going.policy) lines_are,
            passed_joined going.policy (documents_in going.numbering h.front) (sent_task f).lines,
          );
          wrote = subst (λ (l : List Line). HasBytes going q l next.answered.wrote)
              (sym lines_are) (wrote_more going q (documents_in going.numbering h.front) (sent_task f).lines s
              u st.answered.wrote next.answered.wrote h.handed h.wrote k.wrote);
          handed = subst (λ (l : List Line). Handed going q l None s w) (sym lines_are)
              (handed_both going q (documents_in going.numbering h.front) (sent_task f).lines None s u w
              h.handed done);
        }

    -- no more waits than has come
    pub few_bytes : f.bytes ≤ st.come × (f.bytes ≤ n)
    few_bytes = (
      omega (
        arith,
        h.come,
        first.is_sent.bytes,
        length-append (all_bytes h.pieces) h.last,
        ap length (ap all_bytes first.are),
        length-append first.piece (all_bytes first.rest),
      ),
      omega (
        arith,
        h.bytes_are,
        first.is_sent.bytes,
        ap length (ap all_bytes first.are),
        length-append first.piece (all_bytes first.rest),
      ),
    )

  -- the lines of the front block were not answered to their end
  pub goes_ended : (going : Manner) (q : FilteredQuery) (e : Ends) (u : Option (List ℕ)) (st : Stream)
      (f : Sent F g v) (out : List (Sent F g v)) (n : ℕ) (fault : RunFault)
      → Goes going q e.source_old e.source_new e.sink_old u st (f ∷ out) n
      → AnswerEnded going q (sent_task f).lines e.sink_failed u e.sink_new fault
      → StreamEnded going q e fault
  goes_ended going q e u st f out n fault h k = waiting_ended going q e e.source_new u (record {
    scratch = st.scratch;
    left = st.left;
    buffer = record {
      cutting = st.buffer.cutting;
      progress = st.buffer.progress;
      lines = sent_lines (f ∷ out) ++ st.buffer.lines;
    };
    come = st.come;
    answered = st.answered;
    not_empty = st.not_empty;
  }) fault (goes_stands going q e.source_old e.source_new e.sink_old u st (f ∷ out) n h)
      (subst (λ (l : List Line). AnswerEnded going q l e.sink_failed u e.sink_new fault)
      (sym (append_assoc (sent_task f).lines (sent_lines out) st.buffer.lines))
      (ended_more going q (sent_task f).lines (sent_lines out ++ st.buffer.lines) e.sink_failed u e.sink_new
      fault k))

  -- memory was refused
  pub goes_memory : (going : Manner) (q : FilteredQuery) (e : Ends) (st : Stream) (out : List (Sent F g v))
      (n : ℕ)
      → Goes going q e.source_old e.source_new e.sink_old e.sink_new st out n → StreamEnded going q e Memory
  goes_memory going q e st out n h = stands_front going q e.source_old e.source_new e.sink_old e.sink_new
      (record {
        scratch = st.scratch;
        left = st.left;
        buffer = record {
          cutting = st.buffer.cutting;
          progress = st.buffer.progress;
          lines = sent_lines out ++ st.buffer.lines;
        };
        come = st.come;
        answered = st.answered;
        not_empty = st.not_empty;
      }) (goes_stands going q e.source_old e.source_new e.sink_old e.sink_new st out n h)

  module _ (going : Manner) (q : FilteredQuery) (a b s u : Option (List ℕ)) where
    -- no more lines are answered, are out, or wait than have come
    pub few_going : (st : Stream) (out : List (Sent F g v)) (n : ℕ) → Goes going q a b s u st out n
        → st.buffer.progress.count ≤ max_lines
        → st.answered.lines + (length (sent_lines out) + length st.buffer.lines) ≤ max_lines
    few_going st out n h few = omega (
      arith,
      few_lines going q a b s u (record {
        scratch = st.scratch;
        left = st.left;
        buffer = record {
          cutting = st.buffer.cutting;
          progress = st.buffer.progress;
          lines = sent_lines out ++ st.buffer.lines;
        };
        come = st.come;
        answered = st.answered;
        not_empty = st.not_empty;
      }) (goes_stands going q a b s u st out n h) max_lines few,
      length-append (sent_lines out) st.buffer.lines,
    )

    pub goes_same : (st : Stream) (out next : List (Sent F g v)) (n m : ℕ) → next ≡ out → m ≡ n
        → Goes going q a b s u st out n → Goes going q a b s u st next m
    goes_same st out next n m e f h = subst (λ (l : List (Sent F g v)). Goes going q a b s u st l m) (sym e)
        (subst (λ (k : ℕ). Goes going q a b s u st out k) (sym f) h)

    pub few_front : (st : Stream) (f : Sent F g v) (out : List (Sent F g v)) (n : ℕ)
        → Goes going q a b s u st (f ∷ out) n → st.buffer.progress.count ≤ max_lines
        → st.answered.lines + length (sent_task f).lines ≤ max_lines
    few_front st f out n h few = omega (
      arith,
      few_going st (f ∷ out) n h few,
      length-append (sent_task f).lines (sent_lines out),
    )

    pub few_faulty_going : (st : Stream) (out : List (Sent F g v)) (n : ℕ) → Goes going q a b s u st out n
        → st.answered.faulty ≤ st.answered.lines
    few_faulty_going st out n h = few_faulty going q a b s u (record {
      scratch = st.scratch;
      left = st.left;
      buffer = record {
        cutting = st.buffer.cutting;
        progress = st.buffer.progress;
        lines = sent_lines out ++ st.buffer.lines;
      };
      come = st.come;
      answered = st.answered;
      not_empty = st.not_empty;
    }) (goes_stands going q a b s u st out n h)

    -- no block is out
    pub none_out : (st : Stream) (out : List (Sent F g v)) (n : ℕ) → out ≡ []
        → Goes going q a b s u st out n → Stands going q a b s u st
    none_out st out n e h = goes_stands going q a b s u st [] n
        (subst (λ (l : List (Sent F g v)). Goes going q a b s u st l n) e h)

    pub goes_none : (st : Stream) (out : List (Sent F g v)) (n : ℕ) → out ≡ [] → n ≡ 0
        → Stands going q a b s u st → Goes going q a b s u st out n
    goes_none st out n e f h = subst (λ (l : List (Sent F g v)). Goes going q a b s u st l n) (sym e)
        (subst (λ (m : ℕ). Goes {F = F} {g = g} {v = v} going q a b s u st [] m) (sym f)
        (goes_start going q a b s u st h))

  -- a run still stands somewhere
  pub going_on : (going : Manner) (q : FilteredQuery) (u w : Option (List ℕ)) (st next : Stream)
      (o p : Queue F g v)
      → IsGoing going q u st o → GoesOn going q u w st next o p → p.asked ≡ o.asked
      → IsGoing going q w next p
  going_on going q u w st next o p h k e = (
    h.0,
    h.1,
    h.2,
    k h.0 h.1 h.2 h.3,
    (ap asked_query e ∙ h.4.0, ap (manner_asked g going.numbering) e ∙ h.4.1),
  )
