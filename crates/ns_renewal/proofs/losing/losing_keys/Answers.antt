use Rattle.std.proofs.Common.{◌≡◌, ap, ◌∙◌, subst, map}
use Rattle.std.specs.Prelude.{List, IfOk}
use Rattle.ns_types.specs.State.Names.{Key}
use Rattle.ns_change.specs.Waiting.{lesser}
use Rattle.ns_renewal.specs.Losing.{keys_left, least_of, victims_at}
use Rattle.ns_renewal.specs.Losses.{number_at}
use Rattle.ns_renewal.proofs.Least.{keys_are}
use Rattle.ns_renewal.proofs.losing.losing_keys.Goals as goal
use Rattle.ns_tables.specs.World.{world_of}

pub returns : goal.returns
returns c =
    let victims = victims_at (world_of c.args.tables.now) (map (λ e. e.now) c.args.evictions.now) in
    let numbers : number_at c.lower_each.new.losses ≡ least_of victims = λ i ns job. (c.in_ok-lower_each.ensures ns job
    ∙ ap (λ o. lesser o (least_of victims ns job)) (c.new-losses.ensures ns job)) i in
    let P : List Key → Type 0 = λ expected. IfOk c.take_each.result (λ keys. keys ≡ expected) in
    subst P (ap (λ h. keys_left h victims) numbers ∙ keys_are victims) c.take_each.ensures
