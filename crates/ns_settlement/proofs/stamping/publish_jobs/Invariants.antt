use Rattle.std.proofs.Common.{◌≡◌, ◌++◌, drop}
use Rattle.ns_release.specs.Shown.{changes_job_slot}
use Rattle.ns_settlement.specs.Stamped.{job_topic, events_for}
use Rattle.ns_tables.specs.World.{tenant_of}
use Rattle.ns_settlement.proofs.stamping.publish_jobs.Given as goal

abbrev pub invariant-loop-slot : goal.invariant-loop-slot
invariant-loop-slot l = l.events ++ events_for l.index job_topic (changes_job_slot (tenant_of l.tenant)) (drop l.slot-index l.slots)
    ≡ l.initial.events ++ events_for l.index job_topic (changes_job_slot (tenant_of l.tenant)) l.slots
