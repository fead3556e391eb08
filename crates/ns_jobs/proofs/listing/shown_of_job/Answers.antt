use Rattle.std.specs.Option.{option_copied}
use Rattle.std.specs.Prelude.{◌≡◌, IfOk}
use Rattle.std.proofs.Common.{ap, subst, sym, ◌∙◌}
use Rattle.ns_jobs.proofs.Listed.{listed_at, listed_none}
use Rattle.ns_jobs.specs.Read.{rows_shown}
use Rattle.ns_jobs.proofs.listing.shown_of_job.Goals as goal
use Rattle.ns_tables.specs.Filing.{AreNumbersUnder, slots_at}

pub returns-in-Some : goal.returns-in-Some
returns-in-Some g c =
    let row = g.V.Listed in
    let ns = c.args.namespace.now in
    let command = c.args.command.now in
    let slots = row.slots_of c.args.tenant.now in
    subst (λ z. IfOk c.shown_at_numbers.result (λ shown. shown ≡ z))
    ((λ i. rows_shown row.as_shown row.is_listed ns command (slots_at (c.rows.ensures i) (c.as_slice-slots.ensures i)))
    ∙ listed_at row.as_shown row.is_listed ns command row.job_of c.args.job.now slots c.requires c.in-Some.numbers.now
    (subst (AreNumbersUnder row.job_of c.args.job.now slots) (ap option_copied c.in-Some.is) c.numbers_of.ensures)) c.shown_at_numbers.ensures

pub returns-in-None : goal.returns-in-None
returns-in-None g c =
    let row = g.V.Listed in
    let slots = row.slots_of c.args.tenant.now in
    c.new.ensures ∙ sym (listed_none row.as_shown row.is_listed c.args.namespace.now c.args.command.now row.job_of c.args.job.now slots c.requires
    (subst (AreNumbersUnder row.job_of c.args.job.now slots) (ap option_copied c.in-None.is) c.numbers_of.ensures))
