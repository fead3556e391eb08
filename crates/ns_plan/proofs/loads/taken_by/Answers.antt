use Rattle.std.proofs.Common.{◌≡◌, None, subst, true}
use Rattle.ns_plan.specs.Loads.{IsPlaceOf, is_named}
use Rattle.ns_plan.proofs.Lowering.{from_none, from_one}
use Rattle.ns_plan.proofs.loads.taken_by.Goals as goal

pub returns-in-Some : goal.returns-in-Some
returns-in-Some c = from_one c.args.snapshot.now c.args.row.now c.requires.apart c.requires.lives c.in-Some.node
    (subst (λ l. is_named l c.args.row.now.node c.in-Some.node ≡ true) c.as_slice.ensures c.in-Some.ensures)

pub returns-in-None : goal.returns-in-None
returns-in-None c = from_none c.args.snapshot.now c.args.row.now
    (subst (λ l. IsPlaceOf l c.args.row.now.node None) c.as_slice.ensures c.in-None.ensures)
