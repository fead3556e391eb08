use Rattle.std.proofs.Common.{ap, subst, ◌∙◌, filter, List}
use Rattle.ns_blocked.specs.declared.entry.BlockedEvaluation.{BlockedEvaluation}
use Rattle.ns_blocked.specs.Waking.{woken_by}
use Rattle.ns_release.specs.Released.{stays, woken_from}
use Rattle.ns_settlement.specs.Reached.{AreOfNames, AreOfRooms}
use Rattle.ns_settlement.proofs.Reaching.{reached}
use Rattle.ns_tables.specs.World.{world_of}
use Rattle.ns_settlement.proofs.reached.woken_through.Goals as goal

pub returns : goal.returns
returns c =
    let w = world_of c.args.tables.now in
    c.still_there.ensures
    ∙ ap (filter (stays c.args.change.now.blocked)) (c.in_ok-keys.ensures
    ∙ ap (λ (es : List BlockedEvaluation). woken_by c.in_ok-releases.releases es) c.requires.entries)
    ∙ reached w c.args.rooms.now c.args.released.now c.in_ok-releases.releases
    (subst (λ rooms. AreOfRooms rooms c.in_ok-releases.releases.pools) c.as_slice.ensures c.in_ok-releases.ensures.rooms)
    (subst (λ names. AreOfNames w names c.in_ok-releases.releases.quotas) c.as_slice-2.ensures c.in_ok-releases.ensures.quotas) c.args.change.now
    ∙ (λ i. woken_from w c.args.change.now (c.requires.rooms i) (c.requires.quotas i))
