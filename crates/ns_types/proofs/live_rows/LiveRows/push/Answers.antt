use Rattle.std.proofs.Common.{SomeIff, subst, sym}
use Rattle.ns_types.specs.declared.resources.Resources.{Resources}
use Rattle.ns_types.specs.State.Resources.{IsCounted, total}
use Rattle.ns_types.proofs.Owners.{least_more, one_more_owned, still_owned, total_more}
use Rattle.ns_types.proofs.live_rows.LiveRows.push.Goals as goal

pub invariant_of-self : goal.invariant_of-self
invariant_of-self c = (still_owned _ _ c.owner_of.ensures.kept _ _ c.self.invariant.0, c.self.invariant.1, c.self.invariant.2)

pub invariant_of-self-then-is_err : goal.invariant_of-self-then-is_err
invariant_of-self-then-is_err c = rw c.reserve.ensures.items
    (still_owned _ _ c.owner_of.ensures.kept _ _ c.self.invariant.0, c.self.invariant.1, c.self.invariant.2)

pub invariant_of-self-in_err-push : goal.invariant_of-self-in_err-push
invariant_of-self-in_err-push c = rw (c.reserve.ensures.items, c.in_err-push.ensures.items)
    (still_owned _ _ c.owner_of.ensures.kept _ _ c.self.invariant.0, c.self.invariant.1, c.self.invariant.2)

pub invariant_of-self-2 : goal.invariant_of-self-2
invariant_of-self-2 c =
    let rows = c.self.inside.rows.items in
    let sums = subst (λ (sum : Resources). SomeIff c.with_size-self-inside.result (IsCounted sum) sum) (sym (total_more rows c.args.row))
    (c.with_size-self-inside.ensures (total (λ a. a.size) rows) c.self.invariant.1) in
    rw (c.push_reserved.ensures.items, c.in_ok-push.ensures.items, c.reserve.ensures.items) (
      one_more_owned _ _ _ _ _ c.in-Ok.ensures.ok (still_owned _ _ c.owner_of.ensures.kept _ _ c.self.invariant.0),
      sums,
      least_more rows c.args.row c.self.inside.least c.min-self-inside.result c.min-self-inside.ensures c.self.invariant.2,
    )
