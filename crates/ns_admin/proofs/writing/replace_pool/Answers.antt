use Rattle.std.proofs.Common.{Some, ap, subst, sym, ◌∙◌}
use Rattle.std.specs.FinMap.{insert}
use Rattle.std.specs.Prelude.{IsTrue, T, is_some}
use Rattle.keyed.specs.Table.{has_slot}
use Rattle.keyed.proofs.Tables.{has_slot-row, insert-emptied}
use Rattle.ns_types.proofs.Named.{names, one_name}
use Rattle.ns_change.proofs.Opening.{emptied_keeps}
use Rattle.ns_admin.proofs.World.{pool_over}
use Rattle.ns_admin.proofs.writing.replace_pool.Goals as goal

pub set-requires : goal.set-requires
set-requires c = subst (λ m. IsTrue (has_slot m c.args.name.now)) (sym c.take.ensures.slots)
    (emptied_keeps names one_name c.args.tables.now.pools c.args.name.now c.args.name.now
    (has_slot-row c.args.tables.now.pools c.args.name.now c.in-Some.rows (sym c.take.ensures.row ∙ c.in-Some.is)))

pub returns-in-Some : goal.returns-in-Some
returns-in-Some c =
    let new = Some (record c.in-Some.rows { pool = c.args.pool }) in
    pool_over c.args.tables.now c.args.name.now _ c.args.pool c.in-Some.rows (sym c.take.ensures.row ∙ c.in-Some.is)
    (c.set.ensures ∙ ap (λ m. insert m c.args.name.now new) c.take.ensures.slots
    ∙ insert-emptied names one_name c.args.tables.now.pools c.args.name.now new)

pub returns-in-None : goal.returns-in-None
returns-in-None c = absurd (subst T (sym (subst (λ r. IsTrue (is_some r)) (sym c.take.ensures.row ∙ c.in-None.is) c.requires)) tt)
