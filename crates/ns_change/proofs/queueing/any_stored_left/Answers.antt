use Rattle.std.proofs.Common.{ap, sym, subst, ◌∙◌, IsTrue, false}
use Rattle.std.specs.FinMap.{get-entries}
use Rattle.std.specs.FinMap.Entries.{find}
use Rattle.std.specs.Option.{option_copied, option_map_or}
use Rattle.std.specs.Ordering.{nat_cmp}
use Rattle.std.specs.Prelude.{is_some}
use Rattle.keyed.specs.Levels.{holds_number}
use Rattle.ns_types.proofs.Named.{first_of_both, same_name_refl}
use Rattle.ns_types.specs.State.Names.{has_key, same_name}
use Rattle.ns_tables.specs.Filing.{evaluation_job, stands_under}
use Rattle.ns_change.proofs.Candidates.{in_slots, number_left, out_slots}
use Rattle.ns_change.proofs.Waiting.{has_slot_of}
use Rattle.ns_change.specs.Queued.{is_left_in}
use Rattle.ns_change.proofs.queueing.any_stored_left.Goals as goal

pub returns-in_default-clause-complete : goal.returns-in_default-clause-complete
returns-in_default-clause-complete c n e row of left =
    let own = ap (stands_under evaluation_job c.args.job.now) row ∙ ap (same_name c.args.job.now) of ∙ same_name_refl c.args.job.now in
    subst (λ r. IsTrue (option_map_or (λ m. holds_number m n) r false)) (ap option_copied c.in_default.is) (c.numbers_of.ensures n ∙ own)

pub returns-then-listed-slots-clause-sound : goal.returns-then-listed-slots-clause-sound
returns-then-listed-slots-clause-sound c is =
    let here = is_left_in c.args.tables.now c.args.change.now c.args.base.now.items c.args.taken.now c.args.namespace.now c.args.job.now in
    out_slots here c.numbers_of-listed.result.now (sym c.is_among_left.ensures ∙ is)
    (number_left c.args.tables.now c.args.change.now c.args.namespace.now c.args.job.now c.args.base.now.items c.args.taken.now)

-- who stays is listed
pub returns-then-listed-slots-clause-complete : goal.returns-then-listed-slots-clause-complete
returns-then-listed-slots-clause-complete c n e row of left =
    let here = is_left_in c.args.tables.now c.args.change.now c.args.base.now.items c.args.taken.now c.args.namespace.now c.args.job.now in
    c.is_among_left.ensures ∙ in_slots here c.numbers_of-listed.result.now n
    (c.numbers_of-listed.ensures n (first_of_both (has_key c.args.base.now.items (c.args.namespace.now, n)) _ left)) left

pub returns-else-listed-slots-clause-sound : goal.returns-else-listed-slots-clause-sound
returns-else-listed-slots-clause-sound c is =
    let here = is_left_in c.args.tables.now c.args.change.now c.args.base.now.items c.args.taken.now c.args.namespace.now c.args.job.now in
    out_slots here c.as_slice-slots.result.now (sym c.is_among_left-else-listed-slots.ensures ∙ is)
    (number_left c.args.tables.now c.args.change.now c.args.namespace.now c.args.job.now c.args.base.now.items c.args.taken.now)

pub returns-else-listed-slots-clause-complete : goal.returns-else-listed-slots-clause-complete
returns-else-listed-slots-clause-complete c n e row of left =
    let here = is_left_in c.args.tables.now c.args.change.now c.args.base.now.items c.args.taken.now c.args.namespace.now c.args.job.now in
    let own = ap (stands_under evaluation_job c.args.job.now) row ∙ ap (same_name c.args.job.now) of ∙ same_name_refl c.args.job.now in
    c.is_among_left-else-listed-slots.ensures ∙ in_slots here c.as_slice-slots.result.now n
    (ap (λ es. is_some (find nat_cmp n es)) c.as_slice-slots.ensures ∙ ap is_some (sym (get-entries c.in-Some.numbers.now n))
    ∙ has_slot_of c.in-Some.numbers.now n
    (subst (λ r. IsTrue (option_map_or (λ m. holds_number m n) r false)) (ap option_copied c.in-Some.is) (c.numbers_of.ensures n ∙ own))) left
