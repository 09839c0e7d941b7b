-- Steps of a run while blocks are out, one behind another.
use Rattle.std.proofs.Common.{◌≡◌, ◌∙◌, ◌≤◌, Result, Ok, Err, IsErrAnd, inl, refl, subst, sym}
use Rattle.jp_doc.specs.Feeding.{Progress}
use Rattle.jp_output.specs.declared.form.Form as form
use Rattle.jp_answer.below.jp_node.specs.declared.visit.Visit as visit
use Rattle.jp_answer.specs.declared.queue.Queue.{Queue}
use Rattle.jp_run.specs.Answered.{manner_in}
use Rattle.jp_run.specs.Limits.{max_lines}
use Rattle.jp_run.specs.declared.ends.Sink as sink
use Rattle.jp_run.specs.declared.fault.RunFault.{RunFault}
use Rattle.jp_run.specs.declared.job.Job.{Job}
use Rattle.jp_run.specs.declared.stream.Stream.{Stream}
use Rattle.jp_run.specs.inner.Going.{GoesToEnd}
use Rattle.jp_run.specs.inner.Serving.{HasServed, MayServe}
use Rattle.jp_run.specs.inner.Jobs.{job_query}
use Rattle.jp_run.proofs.Going.{goes_same, going_on}

-- a step that was taken, and one that ended so
abbrev pub done : Result (Unit {0}) RunFault
done = Ok tt

abbrev pub ended_by : (T : Type 0) → RunFault → Result T RunFault
ended_by T fault = Err fault

module _ {R G K F : Type 0} {k : sink.Ghosts K} {g : form.Ghosts F} {v : visit.Ghosts F} {job : Job R G}
  where
    -- no step was taken: the queue has the same blocks
    pub same_served : {u : K} {s : Stream} {o p : Queue F g v} → p.sent.items ≡ o.sent.items
        → p.bytes ≡ o.bytes → p.asked ≡ o.asked → MayServe k job u s o → HasServed k job u u s s o p done
    same_served {u = u} {s = s} {o = o} {p = p} items bytes asked h = record {
      ready = record {
        working = h.ready.working;
        flushed = h.ready.flushed;
        passed_on = inl h.ready.flushed;
      };
      going = λ old now sink goes. goes_same (manner_in g.says job.settings) (job_query job)
          old now sink (k.contents u) s o.sent.items p.sent.items o.bytes p.bytes items bytes goes;
      progress = refl;
      asked = asked;
      left = refl;
      fault = tt;
    }

    pub none_served : {u : K} {s : Stream} {o : Queue F g v} → MayServe k job u s o
        → HasServed k job u u s s o o done
    none_served h = same_served refl refl refl h

    module _ {u w : K} {s t : Stream} {o p : Queue F g v} where
      -- behind a step another may be taken
      pub served_on : {X : Type 0} {x : X} → MayServe k job u s o → HasServed k job u w s t o p (Ok x)
          → MayServe k job w t p
      served_on h e = record {
        ready = record { working = e.ready.working; flushed = e.ready.flushed };
        going = going_on (manner_in g.says job.settings) (job_query job) (k.contents u)
            (k.contents w) s t o p h.going e.going e.asked;
        few_lines = subst (λ (n : Progress). n.count ≤ max_lines) (sym e.progress) h.few_lines;
      }

      -- two steps are one
      pub both_served : {X Y : Type 0} {x : X} {r : Result Y RunFault} {z : K} {n : Stream} {q : Queue F g v}
          → HasServed k job u w s t o p (Ok x) → HasServed k job w z t n p q r
          → HasServed k job u z s n o q r
      both_served {r = Ok y} h e = record {
        ready = e.ready;
        going = λ old now sink goes. e.going old now sink (h.going old now sink goes);
        progress = e.progress ∙ h.progress;
        asked = e.asked ∙ h.asked;
        left = e.left ∙ h.left;
        fault = tt;
      }
      both_served {r = Err f} h e = record {
        ready = e.ready;
        going = tt;
        progress = tt;
        asked = e.asked ∙ h.asked;
        left = e.left ∙ h.left;
        fault = λ old now sink reads_old reads_new failed goes.
            e.fault old now sink reads_old reads_new failed (h.going old now sink goes);
      }

      -- a fault that is passed on
      pub passed_up : {X Y : Type 0} {f : RunFault} {r : Result Y RunFault} → IsErrAnd r (λ e. e ≡ f)
          → HasServed k job u w s t o p (ended_by X f) → HasServed k job u w s t o p r
      passed_up {r = Ok y} e h = absurd e
      passed_up {r = Err y} e h = record {
        ready = record { working = tt; flushed = tt; passed_on = h.ready.passed_on };
        going = tt;
        progress = tt;
        asked = h.asked;
        left = h.left;
        fault = subst (GoesToEnd (manner_in g.says job.settings) (job_query job)
            (k.contents u) (k.contents w) (k.failed w) s o) (sym e) h.fault;
      }
