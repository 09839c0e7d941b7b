-- Where a read leads.
use Rattle.std.proofs.Common.{◌++◌, Bool, List, ℕ, Option, ap, ◌∙◌}
use Rattle.std.proofs.KnownBytes.{Consumes-kept}
use Rattle.jp_answer.specs.FilteredQuery.{FilteredQuery}
use Rattle.jp_output.specs.declared.form.Form as form
use Rattle.jp_answer.below.jp_node.specs.declared.visit.Visit as visit
use Rattle.jp_run.specs.Manner.{Manner}
use Rattle.jp_run.specs.inner.Going.{all_bytes, Goes}
use Rattle.jp_run.specs.inner.Input.{Input}
use Rattle.jp_run.specs.inner.Reading.{HasCome}
use Rattle.jp_answer.specs.declared.queue.Sent.{Sent}
use Rattle.jp_run.specs.inner.Standing.{Stands}
use Rattle.jp_run.specs.inner.Turning.{CameSo}
use Rattle.jp_run.specs.declared.gathering.Came.{Came}
use Rattle.jp_run.specs.declared.gathering.Came.TheVariants.{More, End, Failure}
use Rattle.jp_run.specs.declared.stream.Answered.{Answered}
use Rattle.jp_run.specs.declared.stream.Stream.{Stream}
use Rattle.jp_run.proofs.Going.{goes_read}
use Rattle.jp_run.proofs.Standing.{read_more}

pub came_so : (failed : Bool) (old new : Option (List ℕ)) (before after : Stream) (came : Came)
    → HasCome failed old new before after came → CameSo failed new came
came_so failed old new before after More h = h.0
came_so failed old new before after End h = (h.0, h.2)
came_so failed old new before after Failure h = h.0

module _ (going : Manner) (q : FilteredQuery) (a b c s u : Option (List ℕ)) (st next : Stream) (failed : Bool)
  where
    -- where all that has come waits in the buffer
    pub came_stands : (came : Came) → HasCome failed b c st next came → Stands going q a b s u st
        → Stands going q a c s u next
    came_stands More k h = read_more going q a b s u st h c next k.1
    came_stands End k h = read_more going q a b s u st h c next k.1
    came_stands Failure k h = record {
      front = h.front;
      more = h.more;
      consumed = Consumes-kept a b c (h.front ++ h.more) h.consumed k.1;
      cutting = ap (λ (l : Input). l.cutting) k.2 ∙ h.cutting;
      progress = ap (λ (l : Input). l.progress) k.2 ∙ h.progress;
      waiting = ap (λ (l : Input). l.lines) k.2 ∙ h.waiting;
      come = k.4 ∙ h.come;
      lines = ap (λ (n : Answered). n.lines) k.3 ∙ h.lines;
      faulty = ap (λ (n : Answered). n.faulty) k.3 ∙ h.faulty;
      wrote = λ t right. ap (λ (n : Answered). n.wrote) k.3 ∙ h.wrote t right;
      handed = h.handed;
    }

    -- the same while blocks are out
    pub came_goes : {F : Type 0} {g : form.Ghosts F} {v : visit.Ghosts F} (out : List (Sent F g v)) (n : ℕ)
        (came : Came) → HasCome failed b c st next came → Goes going q a b s u st out n
        → Goes going q a c s u next out n
    came_goes out n More k h = goes_read going q a b s u st out n h c next k.1
    came_goes out n End k h = goes_read going q a b s u st out n h c next k.1
    came_goes out n Failure k h = record {
      front = h.front;
      pieces = h.pieces;
      last = h.last;
      consumed = Consumes-kept a b c (h.front ++ (all_bytes h.pieces ++ h.last)) h.consumed k.1;
      cutting = ap (λ (l : Input). l.cutting) k.2 ∙ h.cutting;
      progress = ap (λ (l : Input). l.progress) k.2 ∙ h.progress;
      sent = h.sent;
      waiting = ap (λ (l : Input). l.lines) k.2 ∙ h.waiting;
      bytes_are = h.bytes_are;
      come = k.4 ∙ h.come;
      lines = ap (λ (m : Answered). m.lines) k.3 ∙ h.lines;
      faulty = ap (λ (m : Answered). m.faulty) k.3 ∙ h.faulty;
      wrote = λ t right. ap (λ (m : Answered). m.wrote) k.3 ∙ h.wrote t right;
      handed = h.handed;
    }
