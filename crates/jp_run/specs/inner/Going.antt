-- A working file, which nobody has to believe: where a run stands while blocks are out, for private clauses
-- alone.
use Rattle.std.specs.Prelude.{◌≡◌, ℕ, ◌+◌, ◌++◌, List, [], ◌∷◌, length, Option, None, Bool}
use Rattle.std.specs.List.{flat_map}
use Rattle.std.specs.Io.KnownBytes.{Consumes}
use Rattle.jp_answer.specs.Asking.{asked_query}
use Rattle.jp_answer.specs.FilteredQuery.{FilteredQuery}
use Rattle.jp_output.specs.declared.form.Form as form
use Rattle.jp_answer.below.jp_node.specs.declared.visit.Visit as visit
use Rattle.jp_answer.specs.Policy.{passed_in}
use Rattle.jp_answer.specs.Queued.{sent_task}
use Rattle.jp_answer.specs.declared.asked.Asked.{Asked}
use Rattle.jp_answer.specs.declared.queue.Queue.{Queue}
use Rattle.jp_answer.specs.declared.queue.Sent.{Sent}
use Rattle.jp_run.specs.Cutting.{Numbering, documents_in, fed_lines, progress_in}
use Rattle.jp_run.specs.Handed.{Handed}
use Rattle.jp_run.specs.Manner.{Manner, manner}
use Rattle.jp_run.specs.inner.Ended.{StreamEnded}
use Rattle.jp_run.specs.inner.Wrote.{HasBytes, HasBytesMore}
use Rattle.jp_run.specs.declared.fault.RunFault.{RunFault}
use Rattle.jp_run.specs.declared.stream.Stream.{Stream}

-- pieces, one behind another
abbrev pub all_bytes : List (List ℕ) → List ℕ
all_bytes pieces = flat_map (λ piece. piece) pieces

-- how the lines are to be answered of which this is asked
abbrev pub manner_asked : {F : Type 0} → form.Ghosts F → Numbering → Asked → Manner
manner_asked g numbering a = manner numbering (g.says a.layout.now) a.policy

module _ {F : Type 0} {g : form.Ghosts F} {v : visit.Ghosts F} where
  -- the block has the lines that end in a piece behind these bytes, and asks this query of them
  pub record IsSent (going : Manner) (q : FilteredQuery) (before piece : List ℕ) (s : Sent F g v) : Type 0
    where
      pub lines : (sent_task s).lines
          ≡ fed_lines going.numbering.cutting (progress_in going.numbering before) piece
      pub bytes : s.bytes ≡ length piece
      pub query : asked_query (sent_task s).asked ≡ q
      pub manner_is : manner_asked g going.numbering (sent_task s).asked ≡ going

  -- so do these blocks, of pieces one behind another
  abbrev pub AreSent : Manner → FilteredQuery → List ℕ → List (List ℕ) → List (Sent F g v) → Type 0
  AreSent going q before [] [] = Unit {0}
  AreSent going q before [] (s ∷ rest) = ⊥
  AreSent going q before (piece ∷ pieces) [] = ⊥
  AreSent going q before (piece ∷ pieces) (s ∷ rest) = IsSent going q before piece s
      × AreSent going q (before ++ piece) pieces rest

  -- All lines whose end is in a front of the bytes that have come are answered; those of the pieces behind it
  -- are out, and those that came last wait.
  pub record Goes (going : Manner) (q : FilteredQuery) (old now sink_old sink_now : Option (List ℕ))
      (s : Stream)
      (out : List (Sent F g v)) (bytes : ℕ) : Type 0 where
    pub front : List ℕ
    pub pieces : List (List ℕ)
    pub last : List ℕ
    pub consumed : Consumes old now (front ++ (all_bytes pieces ++ last))
    pub cutting : s.buffer.cutting ≡ going.numbering.cutting
    pub progress : s.buffer.progress
        ≡ progress_in going.numbering (front ++ (all_bytes pieces ++ last))
    pub sent : AreSent going q front pieces out
    pub waiting : s.buffer.lines
        ≡ fed_lines going.numbering.cutting (progress_in going.numbering (front ++ all_bytes pieces)) last
    pub bytes_are : bytes ≡ length (all_bytes pieces)
    pub come : s.come ≡ length (all_bytes pieces ++ last)
    pub lines : s.answered.lines ≡ length (documents_in going.numbering front)
    pub faulty : s.answered.faulty ≡ passed_in going.policy (documents_in going.numbering front)
    pub wrote : HasBytes going q (documents_in going.numbering front) s.answered.wrote
    pub handed : Handed going q (documents_in going.numbering front) None sink_old sink_now

  -- this is what is asked of further blocks
  abbrev pub AsksSo : Manner → FilteredQuery → Queue F g v → Type 0
  AsksSo going q o = (asked_query o.asked ≡ q) × (manner_asked g going.numbering o.asked ≡ going)

  -- a run stands somewhere
  abbrev pub IsGoing : Manner → FilteredQuery → Option (List ℕ) → Stream → Queue F g v → Type 0
  IsGoing going q sink s o = (old : Option (List ℕ)) × (now : Option (List ℕ)) × (sink_old : Option (List ℕ))
      × Goes going q old now sink_old sink s o.sent.items o.bytes × AsksSo going q o

  -- wherever a run stood, it stands so afterwards
  abbrev pub GoesOn : Manner → FilteredQuery → Option (List ℕ) → Option (List ℕ) → Stream → Stream → Queue F g
      v
      → Queue F g v → Type 0
  GoesOn going q sink sink_new s t o p = (old now sink_old : Option (List ℕ))
      → Goes going q old now sink_old sink s o.sent.items o.bytes
      → Goes going q old now sink_old sink_new t p.sent.items p.bytes

  -- wherever a run stood, its end is told truly so
  abbrev pub GoesToEnd : Manner → FilteredQuery → Option (List ℕ) → Option (List ℕ) → Bool → Stream
      → Queue F g v
      → RunFault → Type 0
  GoesToEnd going q sink sink_new failed s o fault = (old now sink_old : Option (List ℕ))
      → (reads_old reads_new : ℕ) → (source_failed : Bool)
      → Goes going q old now sink_old sink s o.sent.items o.bytes
      → StreamEnded going q (record {
        source_old = old;
        source_new = now;
        reads_old = reads_old;
        reads_new = reads_new;
        source_failed = source_failed;
        sink_old = sink_old;
        sink_new = sink_new;
        sink_failed = failed;
      }) fault

  -- the answer to the lines of a block is written, and counted
  pub record HasWritten (going : Manner) (q : FilteredQuery) (s : Sent F g v) (before after : Stream) : Type 0
    where
      pub buffer : after.buffer ≡ before.buffer
      pub come : after.come + s.bytes ≡ before.come
      pub lines : after.answered.lines ≡ before.answered.lines + length (sent_task s).lines
      pub faulty : after.answered.faulty ≡ before.answered.faulty
          + passed_in going.policy (sent_task s).lines
      pub wrote : HasBytesMore going q (sent_task s).lines before.answered.wrote after.answered.wrote

  -- the lines that waited are out in a block
  pub record WentOut (before after : Stream) (o p : Queue F g v) : Type 0 where
    pub sent : Sent F g v
    pub out : p.sent.items ≡ o.sent.items ++ sent ∷ []
    pub same : p.asked ≡ o.asked
    pub lines : (sent_task sent).lines ≡ before.buffer.lines
    pub asked : (sent_task sent).asked ≡ o.asked
    pub bytes : sent.bytes + o.bytes ≡ before.come
    pub all_bytes_out : p.bytes ≡ before.come
    pub none : after.buffer.lines ≡ []
    pub cutting : after.buffer.cutting ≡ before.buffer.cutting
    pub progress : after.buffer.progress ≡ before.buffer.progress
    pub come : after.come ≡ before.come
    pub answered : after.answered ≡ before.answered
