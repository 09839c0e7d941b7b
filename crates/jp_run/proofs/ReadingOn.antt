-- A run that reads on while blocks are out.
use Rattle.std.proofs.Common.{◌≡◌, ℕ, ◌+◌, ◌<◌, ◌≤◌, ◌^◌, [], Bool, true, List, Option, Result, Ok, Err, IfOk}
use Rattle.std.proofs.Common.{OnOk}
use Rattle.std.proofs.Common.{IsErrAnd, ◌∙◌, ap, arith, inl, refl, subst, sym}
use Rattle.jp_doc.specs.Feeding.{Progress}
use Rattle.jp_output.specs.declared.form.Form as form
use Rattle.jp_answer.below.jp_node.specs.declared.visit.Visit as visit
use Rattle.jp_answer.specs.declared.queue.Queue.{Queue}
use Rattle.jp_run.specs.Answered.{manner_in, numbering_of}
use Rattle.jp_run.specs.Begun.{OneMore}
use Rattle.jp_run.specs.Counts.{counted}
use Rattle.jp_run.specs.Limits.{max_lines, window as window_bytes}
use Rattle.jp_run.specs.declared.ends.Sink as sink
use Rattle.jp_run.specs.declared.ends.Supply as supply
use Rattle.jp_run.specs.declared.fault.RunFault.{RunFault}
use Rattle.jp_run.specs.declared.gathering.Came.{Came}
use Rattle.jp_run.specs.declared.job.Job.{Job}
use Rattle.jp_run.specs.declared.stream.Stream.{Stream}
use Rattle.jp_run.specs.inner.Ended.{ReadEnded}
use Rattle.jp_run.specs.inner.Going.{AsksSo, Goes, manner_asked}
use Rattle.jp_run.specs.inner.Reading.{HasCome}
use Rattle.jp_run.specs.inner.Ready.{IsReady}
use Rattle.jp_run.specs.inner.Serving.{HasServed, IsUnused, MayServe}
use Rattle.jp_run.specs.inner.Standing.{BeginsNear, BeginsPrompt, Stands}
use Rattle.jp_run.specs.inner.Turned.{HasTurned, MayTurn}
use Rattle.jp_run.specs.inner.Turning.{AllNear, AllPrompt, CameSo}
use Rattle.jp_run.proofs.Ending.{limit_ended}
use Rattle.jp_run.proofs.Going.{goes_none, goes_stands, none_out}
use Rattle.jp_run.proofs.Readings.{no_more, one_more}
use Rattle.jp_run.proofs.Serving.{ended_by, passed_up}
use Rattle.jp_run.proofs.Standing.{begins_near, begins_prompt}
use Rattle.jp_answer.specs.Asking.{asked_query}
use Rattle.jp_run.specs.inner.Jobs.{job_query}
use Rattle.jp_run.proofs.Turning.{came_goes}

-- what the last read came to, where that is what is given
pub came_by : (failed : Bool) (now : Option (List ℕ)) (came : Came) (r : Result Came RunFault)
    → IfOk r (λ x. x ≡ came) → CameSo failed now came → IfOk r (CameSo failed now)
came_by failed now came (Ok x) is so = subst (CameSo failed now) (sym is) so
came_by failed now came (Err f) is so = tt

-- where a run stands since a turn began: it has read so far, and blocks are out
pub record ReadsOn {R G S K F : Type 0} (source : supply.Ghosts S) (k : sink.Ghosts K) {g : form.Ghosts F}
    {v : visit.Ghosts F} (job : Job R G) (a b : S) (u w : K) (s t : Stream) (o : Queue F g v) : Type 0 where
  pub ready : IsReady k w
  pub goes : (old sink_old : Option (List ℕ))
      → Stands (manner_in g.says job.settings) (job_query job) old (source.remaining a)
      sink_old (k.contents u) s
      → Goes (manner_in g.says job.settings) (job_query job) old (source.remaining b)
      sink_old (k.contents w) t o.sent.items o.bytes
  pub asks : AsksSo (manner_in g.says job.settings) (job_query job) o
  pub few_lines : t.buffer.progress.count ≤ max_lines
  pub reads : source.reads b + t.left ≡ source.reads a + s.left
  pub some_left : 0 < t.left
  pub less_left : t.left ≤ s.left
  pub prompt : AllPrompt (manner_in g.says job.settings) (job_query job)
      (source.remaining a) (k.contents u) s (source.begun a) (source.begun b)
  pub window : AllNear (manner_in g.says job.settings) (job_query job) (source.remaining a)
      (k.contents u) s (source.begun a) (source.begun b)

module _ {R G S K F : Type 0} {source : supply.Ghosts S} {k : sink.Ghosts K} {g : form.Ghosts F}
    {v : visit.Ghosts F} {job : Job R G} {a : S} {u : K} {s : Stream} where
  pub reads_start : {o : Queue F g v} → MayTurn g.says source k job a u s → IsUnused job o
      → ReadsOn source k job a a u u s s o
  reads_start {o = o} may unused = record {
    ready = may.ready;
    goes = λ old sink_old st. goes_none (manner_in g.says job.settings) (job_query job) old
        (source.remaining a) sink_old (k.contents u) s o.sent.items o.bytes unused.none unused.bytes st;
    asks = unused.asks;
    few_lines = may.few_lines;
    reads = refl;
    some_left = may.some_left;
    less_left = omega arith;
    prompt = λ old sink_old first st m. m;
    window = λ old sink_old first st m. m;
  }

  module _ {b : S} {w : K} {t : Stream} {o : Queue F g v} (h : ReadsOn source k job a b u w s t o) where
    pub may_serve : MayTurn g.says source k job a u s → MayServe k job w t o
    may_serve may =
        let st = may.standing in
        record {
          ready = h.ready;
          going = (st.0, source.remaining b, st.1, h.goes st.0 st.1 st.2, h.asks);
          few_lines = h.few_lines;
        }

    -- a step was taken
    pub reads_served : {X : Type 0} {x : X} {z : K} {n : Stream} {p : Queue F g v}
        → HasServed k job w z t n o p (Ok x) → ReadsOn source k job a b u z s n p
    reads_served e = record {
      ready = record { working = e.ready.working; flushed = e.ready.flushed };
      goes = λ old sink_old st. e.going old (source.remaining b) sink_old (h.goes old sink_old st);
      asks = (
        ap asked_query e.asked ∙ h.asks.0,
        ap (manner_asked g (numbering_of job.settings)) e.asked ∙ h.asks.1,
      );
      few_lines = subst (λ (m : Progress). m.count ≤ max_lines) (sym e.progress) h.few_lines;
      reads = ap (λ m. source.reads b + m) e.left ∙ h.reads;
      some_left = omega (arith, e.left, h.some_left);
      less_left = omega (arith, e.left, h.less_left);
      prompt = h.prompt;
      window = h.window;
    }

    -- the source was asked whether the next read waits
    pub reads_asked : {c : S} → source.remaining c ≡ source.remaining b → source.reads c ≡ source.reads b
        → source.begun c ≡ source.begun b → ReadsOn source k job a c u w s t o
    reads_asked {c = c} bytes reads begun =
        let going = manner_in g.says job.settings in
        let q = job_query job in
        record {
          ready = h.ready;
          goes = λ old sink_old st. subst (λ (m : Option (List ℕ)). Goes going q old m sink_old (k.contents w)
              t o.sent.items o.bytes) (sym bytes) (h.goes old sink_old st);
          asks = h.asks;
          few_lines = h.few_lines;
          reads = ap (λ m. m + t.left) reads ∙ h.reads;
          some_left = h.some_left;
          less_left = h.less_left;
          prompt = λ old sink_old first st m. no_more (BeginsPrompt going q old sink_old) first
              (source.begun b) (source.begun c) (h.prompt old sink_old first st m) begun;
          window = λ old sink_old first st m. no_more (BeginsNear window_bytes going q old sink_old) first
              (source.begun b) (source.begun c) (h.window old sink_old first st m) begun;
        }

    -- the answers to all blocks are written
    pub turned_by : {z : K} {n : Stream} {p : Queue F g v} {r : Result Came RunFault}
        → HasServed k job w z t n o p r → OnOk r (p.sent.items ≡ [])
        → IfOk r (CameSo (source.failed b) (source.remaining b))
        → HasTurned g.says source k job a b u z s n r
    turned_by {z = z} {n = n} {p = p} {r = Ok x} e none came = record {
      ready = e.ready;
      stands = λ old sink_old st. none_out (manner_in g.says job.settings) (job_query job) old
          (source.remaining b) sink_old (k.contents z) n p.sent.items p.bytes none
          (e.going old (source.remaining b) sink_old (h.goes old sink_old st));
      came = came;
      few_lines = subst (λ (m : Progress). m.count ≤ max_lines) (sym e.progress) h.few_lines;
      reads = ap (λ m. source.reads b + m) e.left ∙ h.reads;
      prompt = h.prompt;
      window = h.window;
      fault = tt;
    }
    turned_by {r = Err f} e none came = record {
      ready = e.ready;
      stands = tt;
      came = tt;
      few_lines = tt;
      reads = ap (λ m. source.reads b + m) e.left ∙ h.reads;
      prompt = h.prompt;
      window = h.window;
      fault = λ old sink_old reads_old reads_new failed st. e.fault old (source.remaining b) sink_old
          reads_old reads_new failed (h.goes old sink_old st);
    }

    -- a step came to a fault
    pub not_served : {X : Type 0} {f : RunFault} {z : K} {n : Stream} {p : Queue F g v}
        {r : Result Came RunFault} → IsErrAnd r (λ e. e ≡ f) → HasServed k job w z t n o p (ended_by X f)
        → HasTurned g.says source k job a b u z s n r
    not_served {r = Ok x} e d = absurd e
    not_served {r = Err y} e d = turned_by (passed_up e d) tt tt

    -- one more read, which does not wait, where little waits
    module _ (c : S) (little : t.come < window_bytes) (ready : source.told_ready b ≡ true)
        (begun : OneMore (source.begun b) (source.begun c) (record {
          ready = source.told_ready b;
          remaining = source.remaining b;
          contents = k.contents w;
          flushed = k.flushed w;
        })) where
      prompt_more : AllPrompt (manner_in g.says job.settings) (job_query job)
          (source.remaining a) (k.contents u) s (source.begun a) (source.begun c)
      prompt_more =
          let going = manner_in g.says job.settings in
          let q = job_query job in
          λ old sink_old first st m. one_more (BeginsPrompt going q old sink_old) first (source.begun b)
          (source.begun b) (source.begun c) _ (h.prompt old sink_old first st m) refl begun
          (begins_prompt going q old (source.remaining b) sink_old (k.contents w) _
          (goes_stands going q old (source.remaining b) sink_old (k.contents w) t o.sent.items o.bytes
          (h.goes old sink_old st)) (source.told_ready b) (k.flushed w) (inl ready) h.ready.flushed)

      near_more : AllNear (manner_in g.says job.settings) (job_query job)
          (source.remaining a) (k.contents u) s (source.begun a) (source.begun c)
      near_more =
          let going = manner_in g.says job.settings in
          let q = job_query job in
          λ old sink_old first st m. one_more (BeginsNear window_bytes going q old sink_old) first
          (source.begun b) (source.begun b) (source.begun c) _ (h.window old sink_old first st m) refl begun
          (begins_near going q old (source.remaining b) sink_old (k.contents w) _
          (goes_stands going q old (source.remaining b) sink_old (k.contents w) t o.sent.items o.bytes
          (h.goes old sink_old st)) window_bytes (source.told_ready b) (k.flushed w) little)

      module _ (n : Stream) (more : source.reads c ≡ counted (source.reads b) 1)
          (one_less : n.left + 1 ≡ t.left) (few : source.reads a + s.left ≤ 2 ^ 63) where
        reads_one : source.reads c + n.left ≡ source.reads a + s.left
        reads_one = omega (arith, more, one_less, few, h.reads)

        pub reads_more : (came : Came) → 1 < t.left → n.buffer.progress.count ≤ max_lines
            → HasCome (source.failed c) (source.remaining b) (source.remaining c) t n came
            → ReadsOn source k job a c u w s n o
        reads_more came left few_lines has_come = record {
          ready = h.ready;
          goes = λ old sink_old st. came_goes (manner_in g.says job.settings) (job_query job)
              old (source.remaining b) (source.remaining c) sink_old (k.contents w) t n (source.failed c)
              o.sent.items o.bytes came has_come (h.goes old sink_old st);
          asks = h.asks;
          few_lines = few_lines;
          reads = reads_one;
          some_left = omega (arith, left, one_less);
          less_left = omega (arith, one_less, h.less_left);
          prompt = prompt_more;
          window = near_more;
        }

        -- the read came to a fault
        pub not_read : (f : RunFault) {r : Result Came RunFault} → IsErrAnd r (λ e. e ≡ f)
            → ReadEnded t.buffer.cutting t.buffer.progress (source.remaining b) (source.remaining c) f
            → HasTurned g.says source k job a c u w s n r
        not_read f {r = Ok x} e ended = absurd e
        not_read f {r = Err y} e ended = record {
          ready = record { working = tt; flushed = tt; passed_on = inl h.ready.flushed };
          stands = tt;
          came = tt;
          few_lines = tt;
          reads = reads_one;
          prompt = prompt_more;
          window = near_more;
          fault = λ old sink_old reads_old reads_new failed st.
              limit_ended (manner_in g.says job.settings) (job_query job) (record {
                source_old = old;
                source_new = source.remaining c;
                reads_old = reads_old;
                reads_new = reads_new;
                source_failed = failed;
                sink_old = sink_old;
                sink_new = k.contents w;
                sink_failed = k.failed w;
              }) (source.remaining b) _ y
              (goes_stands (manner_in g.says job.settings) (job_query job) old
              (source.remaining b) sink_old (k.contents w) t o.sent.items o.bytes (h.goes old sink_old st))
              (subst (ReadEnded t.buffer.cutting t.buffer.progress (source.remaining b) (source.remaining c))
              (sym e) ended);
        }
