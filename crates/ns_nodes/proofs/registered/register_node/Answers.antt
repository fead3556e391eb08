use Rattle.std.proofs.Common.{◌≡◌, false, true, ap, sym, ◌∙◌, Err, Option, Some}
use Rattle.std.proofs.lemmas.Result.{err_from_is_err_and}
use Rattle.std.specs.Option.{option_copied}
use Rattle.std.specs.Prelude.{◌&&◌, is_none, nat_le, option_map}
use Rattle.std.specs.FinMap.{get, len}
use Rattle.keyed.proofs.Tables.{get-rows}
use Rattle.keyed.specs.Table.{row_at, rows}
use Rattle.ns_types.proofs.Named.{names}
use Rattle.ns_types.specs.declared.node.Node.{Node}
use Rattle.ns_types.specs.declared.node.Offer.{Offer}
use Rattle.ns_types.specs.declared.refusal.Refusal.TheVariants as Refusal
use Rattle.ns_types.specs.declared.reply.Content.TheVariants as Content
use Rattle.ns_types.specs.declared.step.NodeCommand.TheVariants as NodeCommand
use Rattle.ns_types.specs.Asking.Nodes.{ask_pool, most_nodes, with_offer}
use Rattle.ns_types.specs.Settling.Making.{with_node}
use Rattle.ns_types.specs.Settling.Outcome.{Done, is_done}
use Rattle.ns_types.specs.State.Names.{Name}
use Rattle.ns_types.specs.State.Resources.{is_within}
use Rattle.ns_types.specs.State.Sums.{node_load}
use Rattle.ns_change.proofs.Bounded.{done_still, refused_full, still_refused}
use Rattle.ns_change.proofs.Prepares.{out_of_memory, prepares_as}
use Rattle.ns_change.specs.Changed.{change_pool}
use Rattle.ns_nodes.proofs.Asked.{pool_full, pool_missing, registered, too_small}
use Rattle.ns_nodes.proofs.Within.{registering_past}
use Rattle.ns_nodes.proofs.registered.register_node.Goals as goal
use Rattle.ns_tables.specs.declared.tables.PoolRows.{PoolRows as StoredPool}
use Rattle.ns_tables.specs.declared.tables.Tables.{Tables}
use Rattle.ns_tables.proofs.World.{pool_at}
use Rattle.ns_tables.specs.World.{pool_of, world_of}

-- what it comes to, where neither the load nor the pool's size refuses it
comes : (t : Tables) (pool name : Name) (offer : Offer) (x : StoredPool) → row_at t.pools pool ≡ Some x → (old : Option Node)
    → get (rows x.nodes) name ≡ old → is_within (node_load (world_of t) pool name) offer.capacity ≡ true
    → is_none old && nat_le most_nodes (len (rows x.nodes)) ≡ false
    → ask_pool pool (NodeCommand.PutNode name offer) (world_of t)
    ≡ Done Content.Written (change_pool pool (with_node name (with_offer offer old)) (world_of t))
comes t pool name offer x at old is fits room =
    registered (world_of t) pool name offer (pool_of x) (pool_at t pool ∙ ap (option_map pool_of) at) fits
    (ap (λ o. is_none o && nat_le most_nodes (len (rows x.nodes))) is ∙ room)
    ∙ ap (λ o. Done Content.Written (change_pool pool (with_node name (with_offer offer o)) (world_of t))) is

pub returns-in_default : goal.returns-in_default
returns-in_default c = still_refused (world_of c.args.tables.now) _ Refusal.NotFound
    (pool_missing (world_of c.args.tables.now) c.args.pool.now c.args.name.now c.args.offer.now
    (pool_at c.args.tables.now c.args.pool.now ∙ ap (option_map pool_of) (sym c.get.ensures ∙ ap option_copied c.in_default.is)))

pub returns-then-not-is_within : goal.returns-then-not-is_within
returns-then-not-is_within c = still_refused (world_of c.args.tables.now) _ Refusal.InUse
    (too_small (world_of c.args.tables.now) c.args.pool.now c.args.name.now c.args.offer.now (pool_of c.in-Some.stored.now)
    (pool_at c.args.tables.now c.args.pool.now ∙ ap (option_map pool_of) (sym c.get.ensures ∙ ap option_copied c.in-Some.is))
    (ap (λ l. is_within l c.args.offer.now.capacity) (sym c.requires.load) ∙ sym c.is_within.ensures ∙ c.if-not-is_within.true))

pub returns-then-is_full : goal.returns-then-is_full
returns-then-is_full c =
    let nodes = c.in-Some.stored.now.nodes in
    still_refused (world_of c.args.tables.now) _ Refusal.Full
    (pool_full (world_of c.args.tables.now) c.args.pool.now c.args.name.now c.args.offer.now (pool_of c.in-Some.stored.now)
    (pool_at c.args.tables.now c.args.pool.now ∙ ap (option_map pool_of) (sym c.get.ensures ∙ ap option_copied c.in-Some.is))
    (ap (λ l. is_within l c.args.offer.now.capacity) (sym c.requires.load) ∙ sym c.is_within.ensures ∙ c.if-not-is_within.false)
    (ap (λ o. is_none o && nat_le most_nodes (len (rows nodes))) (get-rows names nodes c.args.name.now ∙ sym c.get-old.ensures) ∙
    sym c.is_full.ensures ∙ c.if-is_full.true))

pub returns-then-registering_passes : goal.returns-then-registering_passes
returns-then-registering_passes c =
    let t = c.args.tables.now in
    let w = world_of t in
    let x = c.in-Some.stored.now in
    let at = sym c.get.ensures ∙ ap option_copied c.in-Some.is in
    let old = get-rows names x.nodes c.args.name.now ∙ sym c.get-old.ensures in
    let new = with_offer c.args.offer.now (option_copied c.get-old.result) in
    refused_full w _ Content.Written (change_pool c.args.pool.now (with_node c.args.name.now new) w)
    (comes t c.args.pool.now c.args.name.now c.args.offer.now x at (option_copied c.get-old.result) old
    (ap (λ l. is_within l c.args.offer.now.capacity) (sym c.requires.load) ∙ sym c.is_within.ensures ∙ c.if-not-is_within.false)
    (sym c.is_full.ensures ∙ c.if-is_full.false))
    (registering_past t c.args.pool.now c.args.name.now c.requires.bounds x at c.args.offer.now
    (option_copied c.get-old.result) old ∙ sym c.registering_passes.ensures ∙ c.if-registering_passes.true)

pub returns-in_err-copied_offer : goal.returns-in_err-copied_offer
returns-in_err-copied_offer c =
    let p = err_from_is_err_and c.from_residual.result c.from_residual.ensures.1 in
    let t = c.args.tables.now in
    let w = world_of t in
    let x = c.in-Some.stored.now in
    let at = sym c.get.ensures ∙ ap option_copied c.in-Some.is in
    let old = get-rows names x.nodes c.args.name.now ∙ sym c.get-old.ensures in
    let new = with_offer c.args.offer.now (option_copied c.get-old.result) in
    out_of_memory _ t c.from_residual.result (p.1 ∙ ap Err p.2)
    (ap is_done (done_still w _ Content.Written (change_pool c.args.pool.now (with_node c.args.name.now new) w)
    (comes t c.args.pool.now c.args.name.now c.args.offer.now x at (option_copied c.get-old.result) old
    (ap (λ l. is_within l c.args.offer.now.capacity) (sym c.requires.load) ∙ sym c.is_within.ensures ∙ c.if-not-is_within.false)
    (sym c.is_full.ensures ∙ c.if-is_full.false))
    (registering_past t c.args.pool.now c.args.name.now c.requires.bounds x at c.args.offer.now
    (option_copied c.get-old.result) old ∙ sym c.registering_passes.ensures ∙ c.if-registering_passes.false)))

pub returns : goal.returns
returns c =
    let t = c.args.tables.now in
    let w = world_of t in
    let x = c.in-Some.stored.now in
    let at = sym c.get.ensures ∙ ap option_copied c.in-Some.is in
    let old = get-rows names x.nodes c.args.name.now ∙ sym c.get-old.ensures in
    let new = with_offer c.args.offer.now (option_copied c.get-old.result) in
    prepares_as _ _ t c.put_alone.result
    (done_still w _ Content.Written (change_pool c.args.pool.now (with_node c.args.name.now new) w)
    (comes t c.args.pool.now c.args.name.now c.args.offer.now x at (option_copied c.get-old.result) old
    (ap (λ l. is_within l c.args.offer.now.capacity) (sym c.requires.load) ∙ sym c.is_within.ensures ∙ c.if-not-is_within.false)
    (sym c.is_full.ensures ∙ c.if-is_full.false))
    (registering_past t c.args.pool.now c.args.name.now c.requires.bounds x at c.args.offer.now
    (option_copied c.get-old.result) old ∙ sym c.registering_passes.ensures ∙ c.if-registering_passes.false)
    ∙ ap (λ (node : Node). Done Content.Written (change_pool c.args.pool.now (with_node c.args.name.now node) w))
    (ap (λ offer. with_offer offer (option_copied c.get-old.result)) (sym c.in_ok-copied_offer.ensures) ∙ sym c.with_offer-row.ensures))
    c.put_alone.ensures
