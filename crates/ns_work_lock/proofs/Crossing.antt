-- What threads share may be looked at by all of them.
use denote.RattleType.{RattleType}
use denote.Param.Send.{IsSend, IsSync, sendable, struct_send}
use denote.Struct.Declared.{shape}
use denote.Struct.Struct.{Struct}
use denote.Enum.Declared as variants_of
use denote.Enum.Enum.{Enum}
use Rattle.std.proofs.Crossing.{crosses}
use Rattle.std.proofs.sync.ledger.Book.TheSendSync as book
use Rattle.std.proofs.sync.ledger.Share.TheSendSync as share
use Rattle.std.specs.declared.sync.ledger.Ledger.{Ghosts}
use Rattle.ns_core.proofs.server.Core.TheSendSync as core
use Rattle.ns_log.proofs.entry.Entry.TheSendSync as entry
use Rattle.ns_work_log.specs.contracts.held.Held as Held
use Rattle.ns_work_lock.specs.contracts.changes.Stage as Stage
use Rattle.ns_work_lock.specs.contracts.ended.Ended as Ended
use Rattle.ns_work_lock.specs.contracts.desk.Desk as Desk
use Rattle.ns_work_lock.specs.contracts.spent.Spent as Spent
use Rattle.ns_work_lock.specs.contracts.shared.Shared as Shared

Held-send : IsSend Held.the_row
Held-send = search (sendable, crosses, core.the_send, entry.the_send) depth 20

Spent-send : IsSend (Struct (shape Spent.the_type))
Spent-send = search (sendable, crosses, entry.the_send) depth 20

module _ (L : RattleType) (g : Ghosts L.Denot) where
  Ended-send : IsSend (Struct (shape (Ended.the_type L g)))
  Ended-send =
      struct_send (shape (Ended.the_type L g)) (Held-send, (search sendable, (book.the_send L g, (share.the_send L g, tt))))

  Desk-send : IsSend (Struct (shape (Desk.the_type L g)))
  Desk-send =
      let plain : IsSend (Enum (variants_of.shape Stage.the_type)) = search sendable depth 20 in
      struct_send (shape (Desk.the_type L g)) (Ended-send, (search sendable, (search sendable, (search sendable, (search sendable, (plain, tt))))))

  pub Shared-sync : IsSync (Shared.the_row L g)
  Shared-sync = search (sendable, crosses, Desk-send, Spent-send) depth 20
