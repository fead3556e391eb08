use Rattle.std.proofs.Common.{ap, ◌∙◌, ◌≡◌}
use Rattle.ns_types.specs.Settling.Settle.{wake}
use Rattle.ns_types.specs.Steps.{is_past_bound}
use Rattle.ns_change.specs.declared.change.Settled.{Settled}
use Rattle.ns_change.specs.Changed.{view}
use Rattle.ns_release.specs.Released.{woken_keys}
use Rattle.ns_settlement.specs.Settles.{settled_by}
use Rattle.ns_tables.specs.World.{world_of}
use Rattle.ns_settlement.proofs.Finished.{finished, none_last}
use Rattle.ns_settlement.proofs.finishing.settle.Goals as goal

pub settle_tenants-requires : goal.settle_tenants-requires
settle_tenants-requires c =
    let t = c.args.tables.now in
    let w = world_of t in
    let woke : view t c.wake.new.change ≡ wake (woken_keys w c.args.change) (view t c.args.change) = c.in_ok-wake.ensures ∙
    ap (λ keys. wake keys (view t c.args.change)) (c.as_slice.ensures ∙ c.in_ok-keys.ensures) in
    none_last w c.args.change c.wake.new.change woke c.requires.within

pub returns : goal.returns
returns c =
    let t = c.args.tables.now in
    let w = world_of t in
    let woke : view t c.wake.new.change ≡ wake (woken_keys w c.args.change) (view t c.args.change) = c.in_ok-wake.ensures ∙
    ap (λ keys. wake keys (view t c.args.change)) (c.as_slice.ensures ∙ c.in_ok-keys.ensures) in
    let s : Settled = record {
      tenants = c.in_ok-tenants.tenants;
      pools = c.wake.new.change.pools;
      quotas = c.wake.new.change.quotas;
      ready = c.wake.new.change.ready;
      plans = c.wake.new.change.plans;
      blocked = c.wake.new.change.blocked;
      rooms = c.in_ok-rooms.rooms;
      released = c.in_ok-released.released;
    } in
    let same : s ≡ settled_by w c.args.change c.wake.new.change = λ i. record {
      tenants = c.in_ok-tenants.ensures i;
      pools = c.wake.new.change.pools;
      quotas = c.wake.new.change.quotas;
      ready = c.wake.new.change.ready;
      plans = c.wake.new.change.plans;
      blocked = c.wake.new.change.blocked;
      rooms = c.in_ok-rooms.ensures i;
      released = c.in_ok-released.ensures i;
    } in
    let done = finished w c.args.change c.wake.new.change s woke same in
    record { settled = done; fits = ap is_past_bound done ∙ c.requires.within }
