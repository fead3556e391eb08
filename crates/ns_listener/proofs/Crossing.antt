-- What the threads of a server share may be looked at by all of them.
use denote.RattleType.{RattleType}
use denote.Ref.{NamedLft}
use denote.Param.Send.{IsSync, sendable}
use denote.Param.SendFields.{declared_sync}
use Rattle.std.proofs.Crossing.{crosses}
use Rattle.std.specs.declared.sync.ledger.Ledger.{Ghosts}
use Rattle.ns_work_lock.proofs.Crossing.{Shared-sync}
use Rattle.ns_listener.specs.contracts.listener.Listener as Listener
use Rattle.ns_listener.specs.contracts.context.Context as Context

pub Listener-sync : IsSync Listener.the_row
Listener-sync = search (sendable, crosses) depth 20

-- a reference to each of what is shared, and what is their own
pub Context-sync : (a : NamedLft) (L : RattleType) (g : Ghosts L.Denot) → IsSync (Context.the_row a L g)
Context-sync a L g =
    let shared = Shared-sync L g in
    declared_sync (Context.the_type a L g) (
      search (sendable, shared) depth 5,
      (
        search (sendable, Listener-sync) depth 5,
        (
          search (sendable, crosses) depth 20,
          (search (sendable, crosses) depth 20, (search (sendable, crosses) depth 20, (search (sendable, crosses) depth 20, tt))),
        ),
      ),
    )
