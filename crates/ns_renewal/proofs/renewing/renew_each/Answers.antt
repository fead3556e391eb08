use Rattle.std.proofs.Common.{◌≡◌, ◌+◌, ap, sym, ◌∙◌, subst, drop, fold, List, ◌∷◌}
use Rattle.keyed.proofs.Queues.{from_here}
use Rattle.ns_change.specs.Changed.{view}
use Rattle.ns_types.specs.State.Names.{Key}
use Rattle.ns_types.specs.State.Rows.{World}
use Rattle.ns_renewal.specs.Renewing.{HasNumbers, renewed}
use Rattle.ns_renewal.proofs.Made.{first_left, others_left}
use Rattle.ns_tables.specs.World.{world_of}
use Rattle.ns_renewal.proofs.renewing.renew_each.Goals as goal

pub renew-requires : goal.renew-requires
renew-requires c =
    let key = c.key-item.result in
    let x = view c.args.tables.now c.loop-key.change in
    let later = drop (c.loop-key.key-index + 1) c.args.keys.now in
    let here : drop c.loop-key.key-index c.args.keys.now ≡ key ∷ later
    = from_here c.args.keys.now c.loop-key.key-index key c.loop-key-test.true c.key-item.is in
    first_left x key later (let P : List Key → Type 0 = λ keys. HasNumbers x keys in subst P here c.loop-key.invariant.1)

pub loop-key-preserved : goal.loop-key-preserved
loop-key-preserved c =
    let key = c.key-item.result in
    let x = view c.args.tables.now c.loop-key.change in
    let w = world_of c.args.tables.now in
    let later = drop (c.loop-key.key-index + 1) c.args.keys.now in
    let here : drop c.loop-key.key-index c.args.keys.now ≡ key ∷ later
    = from_here c.args.keys.now c.loop-key.key-index key c.loop-key-test.true c.key-item.is in
    let made : view c.args.tables.now c.renew.new.change ≡ renewed c.args.trigger w x key = c.in_ok-renew.ensures in (
      ap (λ y. fold (renewed c.args.trigger w) y later) made ∙ ap (fold (renewed c.args.trigger w) x) (sym here) ∙ c.loop-key.invariant.0,
      let P : World → Type 0 = λ y. HasNumbers y later in
          let Q : List Key → Type 0 = λ keys. HasNumbers x keys in
          subst P (sym made) (others_left c.args.trigger w x key later (subst Q here c.loop-key.invariant.1)),
    )
