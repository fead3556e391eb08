use Rattle.std.proofs.Common.{ap, sym, subst, ◌∙◌, fold, map, List}
use Rattle.ns_types.specs.declared.evaluation.Trigger.TheVariants as Trigger
use Rattle.ns_types.specs.State.Names.{Key}
use Rattle.ns_change.proofs.Prepares.{done_as}
use Rattle.ns_change.specs.Changed.{view}
use Rattle.ns_renewal.specs.Losing.{victims_at}
use Rattle.ns_renewal.specs.Renewing.{HasNumbers, renewed}
use Rattle.ns_renewal.proofs.MadeUp.{has_numbers, made_up, victims_there}
use Rattle.ns_renewal.proofs.making.make_up.Goals as goal
use Rattle.ns_tables.specs.World.{world_of}

pub renew_each-requires : goal.renew_each-requires
renew_each-requires c =
    let x = view c.args.tables.now c.args.change.now in
    let victims = victims_at (world_of c.args.tables.now) (map (λ e. e.now) c.args.evictions.now) in
    let P : List Key → Type 0 = λ keys. HasNumbers x keys in
    subst P (sym (c.as_slice.ensures ∙ c.in_ok-keys.ensures)) (has_numbers victims x c.requires.numbers)

pub returns : goal.returns
returns c =
    let w = world_of c.args.tables.now in
    let x = view c.args.tables.now c.args.change.now in
    let evictions = map (λ e. e.now) c.args.evictions.now in
    done_as c.renew_each.result c.args.tables.now c.renew_each.new.change _ _
    (ap (fold (renewed Trigger.Preemption w) x) (c.as_slice.ensures ∙ c.in_ok-keys.ensures)
    ∙ sym (made_up w (victims_at w evictions) (victims_there w evictions) x c.requires.jobs)) c.renew_each.ensures
