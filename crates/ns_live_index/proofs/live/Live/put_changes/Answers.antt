use Rattle.std.proofs.Common.{ap, refl, subst, sym, ◌∙◌}
use Rattle.std.specs.Option.{option_copied}
use Rattle.keyed.specs.Table.{row_at}
use Rattle.ns_types.specs.State.Resources.{IsTotal}
use Rattle.ns_live_index.specs.Index.{with_changes}
use Rattle.ns_live_index.specs.Naming.{AreKept, with_use}
use Rattle.ns_live_index.proofs.Kept.{index_kept, pools_kept}
use Rattle.ns_live_index.proofs.Totals.{free_moved}
use Rattle.ns_live_index.proofs.live.Live.put_changes.Goals as goal

pub returns-in-Some-clause-index : goal.returns-in-Some-clause-index
returns-in-Some-clause-index c row_of right is = index_kept (with_changes c.args.namespace.now c.args.changes.now row_of)
    c.put_all.new.self _ (pools_kept c.put_all.new.self _ refl)
    (c.put_all.ensures.index row_of right (λ n. is n ∙ ap (λ m. row_at m n) (sym c.rows.ensures)))

pub returns-in-Some-clause-shown : goal.returns-in-Some-clause-shown
returns-in-Some-clause-shown c row_of is =
    let unmoved = c.put_all.ensures.shown row_of (λ n. is n ∙ ap (λ m. row_at m n) (sym c.rows.ensures)) in
    record { nodes = unmoved.nodes; bases = unmoved.bases }

pub returns-in-Some-clause-quotas : goal.returns-in-Some-clause-quotas
returns-in-Some-clause-quotas c quota_of use_of kept named used = c.put_use.ensures quota_of use_of
    (subst (AreKept quota_of use_of) (sym c.put_all.ensures.names) kept) c.args.namespace.now (named ∙ ap option_copied c.in-Some.is)
    (subst (IsTotal c.live_total-before.result) (sym used) c.live_total-before.ensures) _ c.total_with-after.ensures

pub returns-in_default-clause-index : goal.returns-in_default-clause-index
returns-in_default-clause-index c row_of right is = c.put_all.ensures.index row_of right (λ n. is n ∙ ap (λ m. row_at m n) (sym c.rows.ensures))

pub returns-in_default-clause-shown : goal.returns-in_default-clause-shown
returns-in_default-clause-shown c row_of is = c.put_all.ensures.shown row_of (λ n. is n ∙ ap (λ m. row_at m n) (sym c.rows.ensures))

pub returns-in_default-clause-quotas : goal.returns-in_default-clause-quotas
returns-in_default-clause-quotas c quota_of use_of kept named used = subst (AreKept quota_of (with_use c.args.namespace.now _ use_of))
    (sym c.put_all.ensures.names) (free_moved c.args.self.now.quotas quota_of use_of kept c.args.namespace.now
    (named ∙ ap option_copied c.in_default.is) _)
