use Rattle.std.proofs.Common.{ap, refl, subst, sym, ◌∙◌}
use Rattle.std.specs.Option.{option_copied_mut}
use Rattle.std.specs.Prelude.{Some}
use Rattle.std.specs.FinMap.{insert}
use Rattle.keyed.proofs.Levels.{drops_all, drops_at, drops_none, no_slots, row_here}
use Rattle.ns_types.specs.State.Names.{same_name}
use Rattle.ns_types.proofs.Named.{names}
use Rattle.ns_types.specs.State.Resources.{Moves}
use Rattle.ns_live_index.specs.declared.naming.QuotaNames.{QuotaNames}
use Rattle.ns_live_index.specs.declared.naming.QuotaUse.{QuotaUse}
use Rattle.ns_live_index.specs.Naming.{has_name_room, holds_name}
use Rattle.ns_live_index.proofs.QuotaLevels.{name_dropped, no_name, no_name_room}
use Rattle.ns_live_index.proofs.Totals.{all_gone, all_lost, others_there}
use Rattle.ns_live_index.proofs.naming.QuotaNames.remove.Goals as goal

pub returns-in_default-clause-held : goal.returns-in_default-clause-held
returns-in_default-clause-held c = drops_none (λ (s : QuotaNames). s.quotas) holds_name has_name_room c.args.self.now c.args.quota.now
    c.args.namespace.now same_name (sym c.get_mut.ensures.value ∙ ap option_copied_mut c.in_default.is)

pub returns-in_default-clause-totals : goal.returns-in_default-clause-totals
returns-in_default-clause-totals c use_of right there part = right

pub returns-then-is_empty-clause-held : goal.returns-then-is_empty-clause-held
returns-then-is_empty-clause-held c =
    let after : QuotaUse = record { names = c.remove.new.self; total = c.moved-held.result } in
    let left = drops_at (λ (s : QuotaNames). s.quotas) holds_name has_name_room c.args.self.now _ c.args.quota.now c.in-Some.held.now after
    (sym c.get_mut.ensures.value ∙ ap option_copied_mut c.in-Some.is) refl same_name c.args.namespace.now
    (name_dropped c.in-Some.held.now after c.args.namespace.now c.remove.ensures) in
    let none = no_slots c.remove.new.self c.as_slice.result.now c.as_slice.ensures (sym c.is_empty.ensures ∙ c.if-is_empty.true) in
    drops_all (λ (s : QuotaNames). s.quotas) holds_name has_name_room c.args.self.now _ _ c.args.quota.now c.args.namespace.now same_name left
    after (row_here names _ _ _ _ refl) (no_name after none) (no_name_room after none) c.remove-then-is_empty.ensures

pub returns-then-is_empty-clause-totals : goal.returns-then-is_empty-clause-totals
returns-then-is_empty-clause-totals c use_of right there part =
    let after : QuotaUse = record { names = c.remove.new.self; total = c.moved-held.result } in
    let left : QuotaNames = record { quotas = insert c.args.self.now.quotas c.args.quota.now (Some after) } in
    all_gone c.args.self.now left _ c.args.quota.now c.args.namespace.now use_of right (returns-then-is_empty-clause-held c)
    (others_there c.args.self.now left c.args.quota.now c.in-Some.held.now after
    (sym c.get_mut.ensures.value ∙ ap option_copied_mut c.in-Some.is) refl) c.remove-then-is_empty.ensures

pub returns-else-is_empty-clause-held : goal.returns-else-is_empty-clause-held
returns-else-is_empty-clause-held c = drops_at (λ (s : QuotaNames). s.quotas) holds_name has_name_room c.args.self.now _ c.args.quota.now
    c.in-Some.held.now (record { names = c.remove.new.self; total = c.moved-held.result })
    (sym c.get_mut.ensures.value ∙ ap option_copied_mut c.in-Some.is) refl same_name c.args.namespace.now
    (name_dropped c.in-Some.held.now (record { names = c.remove.new.self; total = c.moved-held.result }) c.args.namespace.now c.remove.ensures)

pub returns-else-is_empty-clause-totals : goal.returns-else-is_empty-clause-totals
returns-else-is_empty-clause-totals c use_of right there part = all_lost c.args.self.now _ c.args.quota.now c.in-Some.held.now
    (record { names = c.remove.new.self; total = c.moved-held.result }) (sym c.get_mut.ensures.value ∙ ap option_copied_mut c.in-Some.is) refl
    c.moved-held.ensures.counted c.args.namespace.now c.args.used use_of right part (returns-else-is_empty-clause-held c)
    (subst (λ r. Moves c.args.used r c.in-Some.held.now.total c.moved-held.result) c.none.ensures c.moved-held.ensures.moved) there
