-- What may be shared among threads: what a walk is given, and an action at some children.
use denote.Param.Send.{IsSend, IsSync, recorded_send, recorded_sync, struct_send, shr_send, shr_sync}
use denote.Param.Send.{shr_slice_sync, sendable}
use denote.RattleType.{RattleType}
use denote.Ref.{NamedLft, ShrRef}
use denote.Slice.{ShrSlice}
use denote.Struct.Declared.{shape}
use denote.Struct.Tuple.{TupleAt, field_at, type_at}
use mathlib.Core.List.{List, [], ◌∷◌}
use mir.Syntax.{Sym}
use Rattle.std.proofs.Crossing.{crosses}
use Rattle.jp_compiled.specs.contracts.query.CompiledSegment as CompiledSegment
use Rattle.jp_compiled.specs.contracts.query.CompiledSelector as CompiledSelector
use Rattle.jp_compiled.specs.contracts.query.CompiledLogical as CompiledLogical
use Rattle.jp_compiled.specs.contracts.query.RootPart as RootPart
use Rattle.jp_compiled.specs.contracts.query.RootQuery as RootQuery
use Rattle.jp_compiled.proofs.query.Want.TheSendSync as wants
use Rattle.jp_automaton.proofs.letters.Letters.TheSendSync as sets
use Rattle.jp_automaton.proofs.dfa.Dfa.TheSendSync as dfas
use Rattle.jp_compiled.proofs.query.Constant.TheSendSync as constants
use Rattle.jp_compiled.proofs.query.Position.TheSendSync as positions
use Rattle.jp_compiled.proofs.query.CompiledSlice.TheSendSync as slices
use Rattle.jp_compiled.proofs.query.ArgumentForm.TheSendSync as forms
use Rattle.jp_compiled.proofs.query.CompiledLogical.TheLaws.TheKnot.{crosses as ready_crosses}
use Rattle.jp_automaton.proofs.expressions.Expression.TheLaws.TheKnot.{crosses as pattern_crosses}
use Rattle.jp_node.proofs.link.Link.TheSendSync as links
use Rattle.jp_node.specs.contracts.link.Link as Link
use Rattle.jp_eval.proofs.fork.Cuts.TheSendSync as cuts
use Rattle.jp_found.proofs.root_answer.Length.TheSendSync as lengths
use Rattle.jp_node.specs.contracts.part.Part as Part
use Rattle.jp_node.specs.contracts.items.Items as Items
use Rattle.jp_node.specs.contracts.members.MemberRange as MemberRange
use Rattle.jp_flat.specs.contracts.value.FlatMembers as FlatMembers
use Rattle.jp_flat.specs.contracts.value.FlatMember as FlatMember
use Rattle.jp_node.specs.contracts.children.Child as Child
use Rattle.jp_node.specs.contracts.child_range.ChildRange as ChildRange
use Rattle.jp_eval.specs.contracts.walk.Action as Action
use Rattle.jp_eval.specs.contracts.context.Context as Context
use Rattle.jp_eval.specs.contracts.split.Splitting as Splitting
use Rattle.jp_eval.specs.contracts.split.HalfGiven as HalfGiven
use Rattle.jp_found.specs.contracts.root_answer.RootAnswer as RootAnswer
use Rattle.jp_found.specs.contracts.different.Different as Different
use Rattle.jp_found.specs.contracts.found.Alone as Alone
use Rattle.jp_found.specs.contracts.aggregates.Aggregate as Aggregate
use Rattle.jp_value.specs.contracts.read_pattern.ReadPattern as ReadPattern
use Rattle.jp_value.specs.contracts.ordered.Ordered as Ordered
use Rattle.jp_value.proofs.ordered.Ordered.TheLaws.TheKnot.{crosses as ordered_crosses}
use Rattle.jp_node.specs.contracts.members.Members as Members
use Rattle.jp_node.specs.contracts.members.MemberList as MemberList
use Rattle.jp_node.specs.contracts.part.Kind as Kind

pub segment_sync : IsSync CompiledSegment.the_row
segment_sync = search (
  dfas.the_field_sync,
  dfas.the_field_send,
  sets.the_field_send,
  sets.the_field_sync,
  constants.the_field_sync,
  positions.the_field_sync,
  slices.the_field_sync,
  forms.the_field_sync,
  crosses,
  pattern_crosses,
  ready_crosses,
  sendable,
) depth 60 fits 20000

pub selector_sync : IsSync CompiledSelector.the_row
selector_sync = search (
  dfas.the_field_sync,
  dfas.the_field_send,
  sets.the_field_send,
  sets.the_field_sync,
  constants.the_field_sync,
  positions.the_field_sync,
  slices.the_field_sync,
  forms.the_field_sync,
  crosses,
  pattern_crosses,
  ready_crosses,
  sendable,
) depth 60 fits 20000

pub logical_sync : IsSync CompiledLogical.the_row
logical_sync = search (
  dfas.the_field_sync,
  dfas.the_field_send,
  sets.the_field_send,
  sets.the_field_sync,
  constants.the_field_sync,
  positions.the_field_sync,
  slices.the_field_sync,
  forms.the_field_sync,
  crosses,
  pattern_crosses,
  ready_crosses,
  sendable,
) depth 60 fits 20000

query_field : IsSync (RootQuery.the_field).row
query_field = search (segment_sync, wants.the_field_sync, crosses, sendable) depth 60 fits 20000

logical_field : IsSync (CompiledLogical.the_field).row
logical_field = search (
  dfas.the_field_sync,
  dfas.the_field_send,
  sets.the_field_send,
  sets.the_field_sync,
  constants.the_field_sync,
  positions.the_field_sync,
  slices.the_field_sync,
  forms.the_field_sync,
  crosses,
  pattern_crosses,
  ready_crosses,
  sendable,
) depth 60 fits 20000

pub root_sync : IsSync RootPart.the_row
root_sync = search (query_field, logical_field, crosses, sendable) depth 60 fits 20000

pub part_sync : (a : NamedLft) → IsSync (Part.the_row a)
part_sync a = search (crosses, sendable) depth 60 fits 20000

part_field : (a : NamedLft) → IsSync (Part.the_field a).row
part_field a = search (crosses, sendable) depth 60 fits 20000

child_sync : (a : NamedLft) → IsSync (Child.the_row a)
child_sync a = search (part_field, links.the_field_sync, crosses, sendable) depth 60 fits 20000

items_field : (a : NamedLft) → IsSync (Items.the_field a).row
items_field a = search (crosses, sendable) depth 60 fits 20000

flat_member : (a : NamedLft) → IsSync (FlatMember.the_row a)
flat_member a = search (crosses, sendable) depth 60 fits 20000

member_range_field : (a b : NamedLft) → IsSync (MemberRange.the_field a b).row
member_range_field a b = search (flat_member, crosses, sendable) depth 60 fits 20000

pub range_sync : (a b : NamedLft) → IsSync (ChildRange.the_row a b)
range_sync a b = search (items_field, member_range_field, child_sync, crosses, sendable) depth 60 fits 20000

pub task_sync : (a : NamedLft) → IsSync (Action.the_row a)
task_sync a = search (segment_sync, selector_sync, logical_sync, crosses, sendable) depth 60 fits 20000

alone_field : (a : NamedLft) → IsSync (Alone.the_field a).row
alone_field a = search (part_field, crosses, sendable) depth 60 fits 20000

different_field : (a : NamedLft) → IsSync (Different.the_field a).row
different_field a = search (alone_field, crosses, sendable) depth 60 fits 20000

answer_sync : (a : NamedLft) → IsSync (Aggregate.the_row a)
answer_sync a = search (part_sync, alone_field, different_field, crosses, sendable) depth 60 fits
    20000

answer_field : (a : NamedLft) → IsSync (Aggregate.the_field a).row
answer_field a = search (part_sync, alone_field, different_field, crosses, sendable) depth 60
    fits 20000

pattern_field : (a : NamedLft) → IsSync (ReadPattern.the_field a).row
pattern_field a = search (dfas.the_field_sync, sets.the_field_sync, crosses, pattern_crosses, sendable)
    depth 60 fits 20000

flat_members : (a : NamedLft) → IsSync (FlatMembers.the_field a).row
flat_members a = search (crosses, sendable) depth 60 fits 20000

members_field : (a : NamedLft) → IsSync (Members.the_field a).row
members_field a = search (flat_members, crosses, sendable) depth 60 fits 20000

list_field : (a : NamedLft) → IsSync (MemberList.the_field a).row
list_field a = search (flat_member, crosses, sendable) depth 60 fits 20000

kind_field : (a : NamedLft) → IsSync (Kind.the_field a).row
kind_field a = search (items_field, members_field, crosses, sendable) depth 60 fits 20000

ordered_field : (a : NamedLft) → IsSync (Ordered.the_field a).row
ordered_field a = search (members_field, list_field, kind_field, crosses, ordered_crosses, sendable) depth 60
    fits 20000

known_sync : (a : NamedLft) → IsSync (RootAnswer.the_row a)
known_sync a = search (
  answer_field,
  lengths.the_field_sync,
  pattern_field,
  ordered_field,
  crosses,
  sendable,
) depth 60 fits 20000

pub ground_sync : (a : NamedLft) → IsSync (Context.the_row a)
ground_sync a = search (part_field, root_sync, known_sync, crosses, sendable) depth 60 fits 20000

pub splitting_sync : (a v : NamedLft) (R F : RattleType) → IsSync R → IsSync F
    → IsSync (Splitting.the_row a v R F)
splitting_sync a v R F r f = search (ground_sync, cuts.the_field_sync, crosses, sendable) depth 60 fits 20000

range_field : (a b : NamedLft) → IsSync (ChildRange.the_field a b).row
range_field a b = search (items_field, member_range_field, child_sync, crosses, sendable) depth 60 fits 20000

task_field : (a : NamedLft) → IsSync (Action.the_field a).row
task_field a = search (segment_sync, selector_sync, logical_sync, crosses, sendable) depth 60 fits 20000

half_field : (s a c l v : NamedLft) (R F : RattleType) → IsSync R → IsSync F
    → IsSync (HalfGiven.the_field s a c l v R F).row
half_field s a c l v R F r f =
    let w : IsSync (ShrRef s.mir s.lft (Splitting.the_row a v R F)) =
    shr_sync s.mir s.lft _ (splitting_sync a v R F r f) in
    let x : IsSync (ShrSlice l.mir l.lft (Link.the_row v)) =
    shr_slice_sync l.mir l.lft _ (links.the_sync v) in
    search (w, x, task_field, range_field, crosses, sendable) depth 60 fits 20000

pub half_sync : (s a c l v : NamedLft) (R F : RattleType) → IsSync R → IsSync F
    → IsSync (HalfGiven.the_row s a c l v R F)
half_sync s a c l v R F r f =
    recorded_sync (HalfGiven.the_field s a c l v R F).row _ _ (HalfGiven.the_type s a c l v R F).to_one
    (half_field s a c l v R F r f)

-- what the walk of a half is given: all that it asks, and a visitor
abbrev pub captured : (R F V : RattleType) (h s a c l v : NamedLft) → List RattleType
captured R F V h s a c l v = ShrRef h.mir h.lft (HalfGiven.the_row s a c l v R F) ∷ V ∷ []

pub captured_send : (name : Sym) (R F V : RattleType) (h s a c l v : NamedLft) → IsSync R → IsSync F
    → IsSend V → IsSend (TupleAt name (captured R F V h s a c l v))
captured_send name R F V h s a c l v rs fs vs =
    let rows = captured R F V h s a c l v in
    recorded_send (field_at name rows).row _ _ (type_at name rows).to_one
    (struct_send (shape (type_at name rows)) (
      shr_send h.mir h.lft _ (half_sync s a c l v R F rs fs),
      (vs, tt),
    ))
