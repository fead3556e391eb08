use Rattle.std.specs.Prelude.{None}
use Rattle.std.proofs.Common.{ap, subst, sym, ◌∙◌}
use Rattle.std.specs.Option.{option_copied}
use Rattle.ns_types.proofs.Named.{same_name_refl}
use Rattle.ns_live_index.specs.Naming.{AreKept, is_quota}
use Rattle.ns_live_index.proofs.QuotaLevels.{named_no_more, quota_is, room_left, with_here, with_same, with_twice}
use Rattle.ns_live_index.proofs.naming.QuotaNames.put.Goals as goal

pub returns-in_default : goal.returns-in_default
returns-in_default c quota_of use_of kept was part = c.add.ensures quota_of use_of kept (was ∙ ap option_copied c.in_default.is) part

pub add-requires-then-not-is_quota : goal.add-requires-then-not-is_quota
add-requires-then-not-is_quota c = room_left c.args.namespace.now c.in-Some.quota.now c.args.self.now c.remove.new.self (option_copied c.args.after)
    c.remove.ensures.held (sym c.is_quota.ensures ∙ c.if-not-is_quota.true) c.requires

pub returns-then-not-is_quota : goal.returns-then-not-is_quota
returns-then-not-is_quota c quota_of use_of kept was part =
    let named = was ∙ ap option_copied c.in-Some.is in
    let quota = c.in-Some.quota.now in
    let ns = c.args.namespace.now in
    let held = kept.names quota ns ∙ ap (λ r. is_quota r quota) named ∙ same_name_refl quota in
    subst (λ f. AreKept f use_of c.add-then-not-is_quota.new.self) (with_twice ns quota_of (option_copied c.args.after) None)
    (c.add-then-not-is_quota.ensures _ use_of (record {
      names = named_no_more ns quota c.args.self.now c.remove.new.self quota_of kept.names c.remove.ensures.held named;
      totals = c.remove.ensures.totals use_of kept.totals held part;
    }) (with_here ns quota_of None) part)

pub returns-else-not-is_quota : goal.returns-else-not-is_quota
returns-else-not-is_quota c quota_of use_of kept was part =
    let stays = quota_is (option_copied c.args.after) c.in-Some.quota.now (sym c.is_quota.ensures ∙ c.if-not-is_quota.false) in
    subst (λ f. AreKept f use_of c.args.self.now)
    (sym (with_same c.args.namespace.now quota_of (option_copied c.args.after) (was ∙ ap option_copied c.in-Some.is ∙ sym stays))) kept
