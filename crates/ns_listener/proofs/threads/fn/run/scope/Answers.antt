use mir.Syntax as Syntax
use denote.Exit as Exit
use denote.Ref.{NamedLft}
use denote.Struct.Tuple as Tuple
use denote.Param.Send.{arg_send, param_send, sendable, shr_send}
use denote.Param.{param}
use denote.Param.SendFields.{as_row_send, declared_send}
use denote.Struct.Field as Field
use Rattle.std.proofs.Common.{[], ◌∷◌}
use Rattle.std.proofs.Crossing.{send}
use Rattle.std.specs.contracts.alloc.Global as Global
use Rattle.ns_work_lock.specs.contracts.seat.Seat as Seat
use Rattle.ns_work_lock.proofs.seat.Seat.TheSendSync as seat
use Rattle.ns_listener.specs.contracts.duty.Duty as Duty
use Rattle.ns_listener.specs.contracts.context.Context as Context
use Rattle.ns_listener.proofs.duty.Duty.TheSendSync as duty
use Rattle.ns_listener.proofs.Crossing.{Context-sync}
use Rattle.ns_listener.proofs.threads.fn.run.scope.Goals as goal

pub spawn-requires-send-F : goal.spawn-requires-send-F
spawn-requires-send-F g c κs within =
    let five : NamedLft = record { mir = Syntax.named 5; lft = κs.1.1.1.1.1.0 } in
    let six : NamedLft = record { mir = Syntax.named 6; lft = κs.1.1.1.1.1.1.0 } in
    let seven : NamedLft = record { mir = Syntax.named 7; lft = κs.1.1.1.1.1.1.1.0 } in
    let captured = (Field.shr_ref_field five (param 1 g.row.R) tt).row
    ∷ Global.the_row
    ∷ (Field.shr_ref_field six (Context.the_row seven (param 0 g.row.L) g.L.Ledger) tt).row
    ∷ Duty.the_row (param 2 g.row.D)
    ∷ Seat.the_row (param 0 g.row.L) (param 4 g.row.M) g.L.Ledger g.M.Retention
    ∷ [] in
    param_send 1 _ (arg_send _ Exit.no _ (declared_send (Tuple.type_at _ captured) (
      search (sendable, c.requires.0) depth 6,
      (
        search (sendable, send) depth 6,
        (
          as_row_send (Field.row_field (Field.shr_ref_field six (Context.the_row seven (param 0 g.row.L) g.L.Ledger) tt).row)
              (shr_send _ _ _ (Context-sync seven (param 0 g.row.L) g.L.Ledger)),
          (
            as_row_send (Field.row_field (Duty.the_row (param 2 g.row.D))) (search (duty.the_send, c.requires.1) depth 4),
            (
              as_row_send (Field.row_field (Seat.the_row (param 0 g.row.L) (param 4 g.row.M) g.L.Ledger g.M.Retention))
                  (search (seat.the_send, c.requires.2) depth 4),
              tt,
            ),
          ),
        ),
      ),
    )))
