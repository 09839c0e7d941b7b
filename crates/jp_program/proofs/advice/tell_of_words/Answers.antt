use Rattle.jp_run.specs.declared.fault.RunFault.TheVariants.{Query, Filter}
use Rattle.jp_program.proofs.Noted.{told_as}
use Rattle.jp_program.proofs.advice.tell_of_words.Goals as goal

pub returns-in-Query-clause-refused : goal.returns-in-Query-clause-refused
returns-in-Query-clause-refused g c = λ w wants v. told_as c.args.fault.now (Query c.in-Query.refusal)
    (g.N.Sink.failed c.tell_refusal.new.notes) (g.N.Sink.contents c.args.notes.now)
    (g.N.Sink.contents c.tell_refusal.new.notes) w c.in-Query.is v (c.tell_refusal.ensures.told w wants)

pub returns-in-Filter-clause-refused : goal.returns-in-Filter-clause-refused
returns-in-Filter-clause-refused g c = λ w wants v. told_as c.args.fault.now (Filter c.in-Filter.refusal)
    (g.N.Sink.failed c.tell_filter_refusal.new.notes) (g.N.Sink.contents c.args.notes.now)
    (g.N.Sink.contents c.tell_filter_refusal.new.notes) w c.in-Filter.is v
    (λ h. c.tell_filter_refusal.ensures.told w wants h.1)
