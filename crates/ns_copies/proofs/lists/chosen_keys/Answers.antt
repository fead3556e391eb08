use Rattle.std.proofs.Common.{ap, sym, ◌∙◌, ◌++◌, filter}
use Rattle.std.specs.Prelude.{ℕ, List, Option, flat_map}
use Rattle.std.proofs.lemmas.List.{append-nil, drop_all}
use Rattle.keyed.specs.Queue.{passing_at}
use Rattle.keyed.proofs.Passing.{passing_is}
use Rattle.ns_types.specs.State.Names.{Key}
use Rattle.ns_copies.specs.Chosen.{is_chosen}
use Rattle.ns_copies.proofs.lists.chosen_keys.Goals as goal

pub returns : goal.returns
returns c =
    let chosen = λ (key : Key). is_chosen c.args.spaces key.0 in
    sym (ap (λ (l : List (ℕ × Option Key)). c.loop-slot.keys ++ flat_map (passing_at chosen) l)
    (drop_all c.loop-slot.slot-index c.slots-slot-items.result.now c.loop-slot-test.false) ∙
    append-nil c.loop-slot.keys)
    ∙ c.loop-slot.invariant ∙ passing_is chosen c.slots-slot-items.result.now ∙ ap (filter chosen) c.slots-slot-items.ensures
