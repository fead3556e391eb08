use Rattle.std.proofs.Common.{refl, ap, sym, ◌∙◌, subst}
use Rattle.std.specs.Option.{option_copied}
use Rattle.std.specs.Prelude.{cond, None, IsTrue}
use Rattle.keyed.specs.Table.{has_slot, row_at}
use Rattle.keyed.proofs.Tables.{has_slot-row, has_slot-with_slot_here}
use Rattle.ns_types.proofs.Named.{names, one_name}
use Rattle.ns_change.specs.Changed.{changed_pool, perhaps}
use Rattle.ns_tables.specs.World.{pool_of}
use Rattle.ns_change.proofs.Opening.{emptied_keeps, row_emptied, row_with_slot}
use Rattle.ns_change.proofs.Seen.{no_pool}
use Rattle.ns_change.proofs.Pools.{opened_pool}
use Rattle.ns_change.proofs.Pools.{pool_unchanged}
use Rattle.ns_change.proofs.placing.open_pool.Goals as goal

pub returns-in_default : goal.returns-in_default
returns-in_default c = (no_pool c.args.tables.now c.args.change.now c.args.pool.now (sym c.get.ensures ∙ ap option_copied c.in_default.is), refl)

pub returns-in-Some-take : goal.returns-in-Some-take
returns-in-Some-take c =
    let held = sym c.take.ensures.row ∙ c.in-Some-take.is in
    opened_pool c.args.tables.now c.args.change.now _ c.args.pool.now c.in-Some._stored.now c.in-Some-take.changed
    (sym c.get.ensures ∙ ap option_copied c.in-Some.is)
    (ap (λ r. perhaps changed_pool r (pool_of c.in-Some._stored.now)) held)
    (λ q e. ap (λ m. row_at m q) c.take.ensures.slots ∙ row_emptied names one_name c.args.change.now.pools c.args.pool.now q ∙
    ap (λ b. cond b None (row_at c.args.change.now.pools q)) e)
    refl
    (subst (λ m. IsTrue (has_slot m c.args.pool.now)) (sym c.take.ensures.slots)
    (emptied_keeps names one_name c.args.change.now.pools c.args.pool.now c.args.pool.now (has_slot-row c.args.change.now.pools c.args.pool.now _ held)))

pub returns : goal.returns
returns c =
    let none = sym c.take.ensures.row ∙ c.in_default-take.is in
    let slots = c.in_ok-reserve.ensures.ok in
    opened_pool c.args.tables.now c.args.change.now _ c.args.pool.now c.in-Some._stored.now _ (sym c.get.ensures ∙ ap option_copied c.in-Some.is)
    (ap (λ r. perhaps changed_pool r (pool_of c.in-Some._stored.now)) none ∙
    sym (ap (λ m. changed_pool (pool_of c.in-Some._stored.now) (record { nodes = m })) c.new.ensures ∙ pool_unchanged (pool_of c.in-Some._stored.now)))
    (λ q e. ap (λ m. row_at m q) slots ∙ row_with_slot names one_name c.take.new.self c.args.pool.now q ∙ ap (λ m. row_at m q) c.take.ensures.slots ∙
    row_emptied names one_name c.args.change.now.pools c.args.pool.now q ∙ ap (λ b. cond b None (row_at c.args.change.now.pools q)) e)
    refl
    (subst (λ m. IsTrue (has_slot m c.args.pool.now)) (sym slots) (has_slot-with_slot_here names c.take.new.self c.args.pool.now))
