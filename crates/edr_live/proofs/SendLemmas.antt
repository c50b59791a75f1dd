-- A reader may go to another thread: what it has of left_right may, where threads may share the copies.
use denote.Param.Send.{IsSend, IsSync, sendable}
use Rattle.core.proofs.snapshot.Sent.{snapshot_sync}
use Rattle.std.proofs.Crossing as std
use Rattle.left_right.proofs.reader.Reader.TheSendSync as reader
use Rattle.edr_live.proofs.shown.LiveView.TheSendSync as view
use Rattle.edr_live.specs.contracts.entry.ShownEntry as Entry
use Rattle.edr_live.specs.contracts.copy.LiveCopy as Copy
use Rattle.edr_live.specs.contracts.ends.LiveReader as Reader

entry_sync : IsSync Entry.the_field.row
entry_sync = search (sendable, snapshot_sync) depth 20

copy_sync : IsSync Copy.the_field.row
copy_sync = search (sendable, view.the_field_sync, entry_sync, snapshot_sync, std.Vec-sync) depth 20

pub reader_sends : IsSend Reader.the_field.row
reader_sends = search (sendable, copy_sync, reader.the_field_send, std.send, std.sync, std.frees) depth 20
