use Rattle.std.proofs.Common.{ap, sym, ◌∙◌}
use Rattle.std.specs.Option.{option_copied}
use Rattle.keyed.proofs.Levels.{begun, none_there, only_slot, row_written}
use Rattle.keyed.proofs.Tables.{slot_made}
use Rattle.ns_types.proofs.Named.{names}
use Rattle.ns_live_index.specs.declared.naming.QuotaNames.{QuotaNames}
use Rattle.ns_live_index.specs.Naming.{has_name_room, holds_name}
use Rattle.ns_live_index.proofs.QuotaLevels.{no_name}
use Rattle.ns_live_index.proofs.Totals.{only_room, totals_begun}
use Rattle.ns_live_index.proofs.naming.QuotaNames.open.Goals as goal

pub set-requires : goal.set-requires
set-requires c = slot_made names _ _ _ c.in_ok-reserve.ensures.ok

pub returns-then-is_none-clause-same : goal.returns-then-is_none-clause-same
returns-then-is_none-clause-same c = begun (λ (s : QuotaNames). s.quotas) holds_name has_name_room c.args.self.now (record { quotas = c.reserve.new.self }) _
    c.args.quota.now _ c.in_ok-reserve.ensures.ok
    (sym c.get.ensures ∙ ap option_copied (none_there c.get.result c.if-is_none.ensures))
    (no_name (record { names = c.new.result; total = c.none.result }) c.new.ensures) c.set.ensures

pub returns-then-is_none-clause-ok : goal.returns-then-is_none-clause-ok
returns-then-is_none-clause-ok c = row_written names _ _ _ _ c.set.ensures

pub returns-else-is_none-clause-same : goal.returns-else-is_none-clause-same
returns-else-is_none-clause-same c = only_slot (λ (s : QuotaNames). s.quotas) holds_name has_name_room c.args.self.now _ c.args.quota.now
    c.in_ok-reserve.ensures.ok

pub returns-then-is_none-clause-totals : goal.returns-then-is_none-clause-totals
returns-then-is_none-clause-totals c = totals_begun c.args.self.now (record { quotas = c.reserve.new.self }) _ c.args.quota.now
    (record { names = c.new.result; total = c.none.result }) c.in_ok-reserve.ensures.ok
    (sym c.get.ensures ∙ ap option_copied (none_there c.get.result c.if-is_none.ensures)) c.none.ensures c.set.ensures

pub returns-else-is_none-clause-totals : goal.returns-else-is_none-clause-totals
returns-else-is_none-clause-totals c = only_room c.args.self.now _ c.args.quota.now c.in_ok-reserve.ensures.ok
