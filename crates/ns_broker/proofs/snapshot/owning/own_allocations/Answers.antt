use Rattle.std.specs.Option.{option_copied}
use Rattle.std.specs.Prelude.{flat_map}
use Rattle.std.proofs.Common.{ap, subst, sym, ◌∙◌}
use Rattle.ns_broker.specs.Seen.{own_at}
use Rattle.ns_broker.proofs.Seen.{ok_as, own_is, own_none}
use Rattle.ns_broker.proofs.snapshot.owning.own_allocations.Goals as goal
use Rattle.ns_tables.specs.Filing.{AreNumbersUnder, allocation_job, slots_at}

pub returns-in-Some : goal.returns-in-Some
returns-in-Some c =
    let x = c.args.tenant.now in
    ok_as c.own_at_numbers.result _ _
    ((λ i. flat_map (own_at c.args.id.now (option_copied c.args.job)) (slots_at (c.rows-allocations.ensures i) (c.as_slice.ensures i)))
    ∙ own_is x c.args.id.now (option_copied c.args.job) c.in-Some.numbers.now
    (subst (AreNumbersUnder allocation_job c.args.id.now x.allocations.slots) (ap option_copied c.in-Some.is) c.numbers_of.ensures)) c.own_at_numbers.ensures

pub returns-in-None : goal.returns-in-None
returns-in-None c =
    let x = c.args.tenant.now in
    c.new.ensures ∙ sym (own_none x c.args.id.now (option_copied c.args.job)
    (subst (AreNumbersUnder allocation_job c.args.id.now x.allocations.slots) (ap option_copied c.in-None.is) c.numbers_of.ensures))
