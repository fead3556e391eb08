use Rattle.std.proofs.Common.{ap, refl, subst, sym, ◌∙◌}
use Rattle.std.specs.Option.{option_copied_mut}
use Rattle.keyed.proofs.Levels.{adds_at}
use Rattle.ns_types.specs.State.Names.{same_name}
use Rattle.ns_types.specs.State.Resources.{Moves}
use Rattle.ns_live_index.specs.declared.naming.QuotaNames.{QuotaNames}
use Rattle.ns_live_index.specs.Naming.{has_name_room, holds_name}
use Rattle.ns_live_index.proofs.QuotaLevels.{name_added}
use Rattle.ns_live_index.proofs.Totals.{all_gained}
use Rattle.ns_live_index.proofs.naming.QuotaNames.insert.Goals as goal

pub returns-in-Some-clause-held : goal.returns-in-Some-clause-held
returns-in-Some-clause-held c = adds_at (λ (s : QuotaNames). s.quotas) holds_name has_name_room c.args.self.now _ c.args.quota.now c.in-Some.held.now
    (record { names = c.set.new.self; total = c.moved-held.result })
    (sym c.get_mut.ensures.value ∙ ap option_copied_mut c.in-Some.is) refl same_name c.args.namespace.now
    (name_added c.in-Some.held.now (record { names = c.set.new.self; total = c.moved-held.result }) c.args.namespace.now c.set.ensures)

pub returns-in-Some-clause-totals : goal.returns-in-Some-clause-totals
returns-in-Some-clause-totals c use_of right free part = all_gained c.args.self.now _ c.args.quota.now c.in-Some.held.now
    (record { names = c.set.new.self; total = c.moved-held.result }) (sym c.get_mut.ensures.value ∙ ap option_copied_mut c.in-Some.is) refl
    c.moved-held.ensures.counted c.args.namespace.now c.args.used use_of right part (returns-in-Some-clause-held c)
    (subst (λ r. Moves r c.args.used c.in-Some.held.now.total c.moved-held.result) c.none.ensures c.moved-held.ensures.moved) free
