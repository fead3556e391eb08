use Rattle.std.specs.Prelude.{false}
use Rattle.std.proofs.Common.{ap, refl, sym, ◌∙◌}
use Rattle.std.specs.Option.{option_copied_mut, option_map_or}
use Rattle.keyed.proofs.Levels.{not_true}
use Rattle.ns_types.proofs.Named.{same_name_refl}
use Rattle.ns_live_index.specs.declared.naming.QuotaUse.{QuotaUse}
use Rattle.ns_live_index.specs.Naming.{holds_name, is_quota}
use Rattle.ns_live_index.proofs.Totals.{all_moved}
use Rattle.ns_live_index.proofs.naming.QuotaNames.put_use.Goals as goal

pub returns-in-Some : goal.returns-in-Some
returns-in-Some c quota_of use_of kept ns named was used now = all_moved c.args.self.now _ c.args.quota.now c.in-Some.held.now
    (record c.in-Some.held.now { total = c.moved-held.result }) (sym c.get_mut.ensures.value ∙ ap option_copied_mut c.in-Some.is) refl
    c.moved-held.ensures.counted refl c.args.before c.args.after c.moved-held.ensures.moved quota_of use_of kept ns named was used now

pub returns-in_default : goal.returns-in_default
returns-in_default c quota_of use_of kept ns named was used now =
    let quota = c.args.quota.now in
    let nothing = sym c.get_mut.ensures.value ∙ ap option_copied_mut c.in_default.is in
    not_true (sym (ap (λ r. option_map_or (λ (u : QuotaUse). holds_name u ns) r false) nothing) ∙ kept.names quota ns
    ∙ ap (λ r. is_quota r quota) named ∙ same_name_refl quota)
