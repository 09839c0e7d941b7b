-- That a compiled query, and a filter of documents, may be shared among threads.
use denote.Param.Send.{IsSend, IsSync, sendable}
use denote.Ref.{NamedLft}
use Rattle.std.proofs.Crossing.{crosses}
use Rattle.jp_compiled.specs.contracts.compiled.CompiledQuery as CompiledQuery
use Rattle.jp_eval.proofs.Crossing.{segment_sync, logical_sync, root_sync}
use Rattle.jp_eval.specs.contracts.document_filter.DocumentFilter as DocumentFilter
use Rattle.jp_found.proofs.asked.RootUse.TheSendSync as found_asked

query_field : IsSync (CompiledQuery.the_field).row
query_field = search (segment_sync, root_sync, crosses, sendable) depth 60 fits 20000

pub query_sync : IsSync CompiledQuery.the_row
query_sync = search (query_field, sendable) depth 60 fits 20000

pub filter_send : (a : NamedLft) → IsSend (DocumentFilter.the_field a).row
filter_send a = search (
  query_sync,
  logical_sync,
  found_asked.the_field_send,
  crosses,
  sendable,
) depth 60 fits 20000

pub filter_sync : (a : NamedLft) → IsSync (DocumentFilter.the_field a).row
filter_sync a = search (
  query_sync,
  logical_sync,
  found_asked.the_field_sync,
  crosses,
  sendable,
) depth 60 fits 20000
