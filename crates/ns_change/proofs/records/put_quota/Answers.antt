use Rattle.std.proofs.Common.{ap, sym, ◌∙◌, subst}
use Rattle.std.specs.Prelude.{Some, IsTrue}
use Rattle.std.specs.FinMap.{insert}
use Rattle.keyed.specs.Table.{has_slot}
use Rattle.keyed.proofs.Tables.{has_slot-with_slot_here}
use Rattle.ns_types.proofs.Named.{names}
use Rattle.ns_change.specs.Changed.{view}
use Rattle.ns_change.proofs.Recorded.{record_put}
use Rattle.ns_change.proofs.records.put_quota.Goals as goal

pub set-requires : goal.set-requires
set-requires c = subst (λ m. IsTrue (has_slot m c.args.name.now)) (sym c.in_ok-reserve.ensures.ok)
    (has_slot-with_slot_here names c.args.change.now.quotas c.args.name.now)

pub returns : goal.returns
returns c t = ap (λ m. view t (record c.args.change.now { quotas = m }))
    (c.set.ensures ∙ (λ i. insert (c.in_ok-reserve.ensures.ok i) c.args.name.now (Some (c.in_ok-row.ensures.cases i))))
    ∙ record_put t c.args.change.now c.args.name.now c.args.quota.now
