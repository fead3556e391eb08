use Rattle.std.specs.Prelude.{◌&&◌, false}
use Rattle.std.specs.List.{list_any}
use Rattle.std.specs.Option.{option_copied, option_map_or}
use Rattle.std.proofs.Common.{ap, subst, sym, ◌∙◌}
use Rattle.keyed.specs.Table.{row_at}
use Rattle.ns_types.proofs.Named.{first_of_both}
use Rattle.ns_types.specs.State.Names.{same_name}
use Rattle.ns_types.specs.State.Rows.{is_live}
use Rattle.ns_tables.proofs.Under.{any_at, none_at}
use Rattle.ns_tables.specs.Filing.{AreNumbersUnder, allocation_job}
use Rattle.ns_jobs.proofs.jobs.any_live_of.Goals as goal

pub returns-in-Some : goal.returns-in-Some
returns-in-Some c =
    let id = c.args.id.now in
    let slots = c.args.tenant.now.allocations.slots in
    c.any_live_at.ensures
    ∙ (λ i. list_any (λ slot. option_map_or (λ a. same_name id a.job && is_live a) (row_at (c.rows.ensures i) slot.0) false) (c.as_slice.ensures i))
    ∙ sym (any_at allocation_job id slots (λ _ a. same_name id a.job && is_live a) (λ n a. first_of_both _ _) c.in-Some.numbers.now
    (subst (AreNumbersUnder allocation_job id slots) (ap option_copied c.in-Some.is) c.numbers_of.ensures))

pub returns-in-None : goal.returns-in-None
returns-in-None c =
    let id = c.args.id.now in
    let slots = c.args.tenant.now.allocations.slots in
    sym (none_at allocation_job id slots (λ _ a. same_name id a.job && is_live a) (λ n a. first_of_both _ _)
    (subst (AreNumbersUnder allocation_job id slots) (ap option_copied c.in-None.is) c.numbers_of.ensures))
