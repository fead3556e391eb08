use Rattle.std.proofs.Common.{None, ap, sym, ◌∙◌, fold}
use Rattle.std.specs.Option.{option_copied}
use Rattle.ns_types.specs.Working.Queue.{first_of_greatest, priority_at}
use Rattle.ns_broker.specs.Serving.{preferred_at}
use Rattle.ns_broker.proofs.Preferred.{along_slots, first_is_served}
use Rattle.std.proofs.lemmas.List.{drop_all}
use Rattle.ns_broker.proofs.serving.served.Goals as goal
use Rattle.keyed.specs.Queue.{keys_in}
use Rattle.ns_tables.specs.World.{world_of}

pub returns : goal.returns
returns c = let p = priority_at (world_of c.args.tables.now) in
    sym (ap (fold (preferred_at p) (option_copied c.loop-slot.first))
    (drop_all c.loop-slot.slot-index c.slots-slot-items.result.now c.loop-slot-test.false))
    ∙ c.loop-slot.invariant ∙ along_slots p None c.slots-slot-items.result.now ∙ first_is_served p (keys_in c.slots-slot-items.result.now)
    ∙ ap (first_of_greatest p) c.slots-slot-items.ensures
