use Rattle.std.proofs.Common.{◌≡◌, ap, sym, ◌∙◌, not, Some}
use Rattle.std.specs.Option.{option_copied, option_map, option_map_or}
use Rattle.std.specs.Prelude.{false}
use Rattle.ns_types.specs.Working.Commit.{Victim, victim_at}
use Rattle.ns_renewal.specs.Losing.{is_last_of_job, victims_at}
use Rattle.ns_renewal.proofs.Counting.{last_here}
use Rattle.ns_renewal.proofs.numbers.is_last_of_job.Goals as goal
use Rattle.ns_tables.specs.World.{world_of}

pub returns-in-Some : goal.returns-in-Some
returns-in-Some g c =
    let w = world_of c.args.tables.now in
    let e = c.args.eviction.now in
    let later = victims_at w (g.E.Evictions.list c.args.later) in
    let v : Victim = (e.namespace, (e.number, c.in-Some.row.now)) in
    let is : victim_at w e ≡ Some v = sym c.allocation.ensures ∙ ap (λ o. option_map (λ a. (e.namespace, (e.number, a))) (option_copied o)) c.in-Some.is in
    ap not c.any_is_of_job.ensures ∙ last_here c.args.namespace.now later v (sym c.same_text.ensures ∙ c.if-not-same_text.false)
    ∙ sym (ap (λ o. option_map_or (is_last_of_job c.args.namespace.now later) o false) is)
