-- That a ring may be shared among threads: a block that is taken out of a cell goes to another thread, and is
-- shared by several.
use denote.Param.Send.{IsSend, IsSync, sendable}
use denote.RattleType.{RattleType}
use denote.Ref.{NamedLft}
use Rattle.std.proofs.Crossing.{crosses}
use Rattle.boxcar.proofs.Sent.{slot_send, slot_sync, written_send, written_sync}
use Rattle.jp_node.specs.declared.visit.Visit.{Ghosts as Visited}
use Rattle.jp_output.specs.declared.form.Form.{Ghosts}
use Rattle.jp_answer.specs.contracts.asked.Asked as Asked
use Rattle.jp_answer.specs.contracts.block.Block as Block
use Rattle.jp_answer.specs.contracts.block.Labelled as Labelled
use Rattle.jp_answer.specs.contracts.ring.Handed as Handed
use Rattle.jp_answer.specs.contracts.ring.Ring as Ring
use Rattle.jp_answer.specs.contracts.task.Task as Task
use Rattle.jp_eval.proofs.FilterCrosses.{query_sync, filter_send, filter_sync}
use Rattle.jp_answer.proofs.outcome.Outcome.TheSendSync as outcomes
use Rattle.jp_output.proofs.layout.Layout.TheSendSync as layouts

asked_send : (a : NamedLft) → IsSend (Asked.the_field a).row
asked_send a = search (query_sync, filter_send, layouts.the_field_sync, crosses, sendable) depth 60 fits 20000

asked_sync : (a : NamedLft) → IsSync (Asked.the_field a).row
asked_sync a = search (query_sync, filter_sync, layouts.the_field_sync, crosses, sendable) depth 60 fits 20000

task_send : (a : NamedLft) → IsSend (Task.the_field a).row
task_send a = search (asked_send, crosses, sendable) depth 60 fits 20000

task_sync : (a : NamedLft) → IsSync (Task.the_field a).row
task_sync a = search (asked_sync, crosses, sendable) depth 60 fits 20000

labelled_send : (a : NamedLft) → IsSend (Labelled.the_row a)
labelled_send a = search (outcomes.the_field_send, written_send, crosses, sendable) depth 60 fits 20000

labelled_sync : (a : NamedLft) → IsSync (Labelled.the_row a)
labelled_sync a = search (outcomes.the_field_sync, written_sync, crosses, sendable) depth 60 fits 20000

block_send : (a : NamedLft) (F : RattleType) (g : Ghosts F.Denot) (v : Visited F.Denot)
    → IsSend (Block.the_row a F g v)
block_send a F g v = search (task_send, labelled_send, slot_send, crosses, sendable) depth 60 fits 20000

block_sync : (a : NamedLft) (F : RattleType) (g : Ghosts F.Denot) (v : Visited F.Denot)
    → IsSync (Block.the_row a F g v)
block_sync a F g v = search (task_sync, labelled_send, labelled_sync, slot_sync, crosses, sendable) depth 60
    fits 20000

handed_send : (a : NamedLft) (F : RattleType) (g : Ghosts F.Denot) (v : Visited F.Denot)
    → IsSend (Handed.the_row a F g v)
handed_send a F g v = search (block_send, block_sync, crosses, sendable) depth 60 fits 20000

pub ring_sync : (a : NamedLft) (F : RattleType) (g : Ghosts F.Denot) (v : Visited F.Denot)
    → IsSync (Ring.the_row a F g v)
ring_sync a F g v = search (handed_send, crosses, sendable) depth 60 fits 20000
