use Rattle.std.proofs.Common.{ap, subst, sym, ◌∙◌}
use Rattle.std.specs.Option.{option_copied}
use Rattle.ns_live_index.specs.Naming.{AreKept, is_quota, with_quota}
use Rattle.ns_live_index.proofs.QuotaLevels.{named_now, with_same}
use Rattle.ns_live_index.proofs.naming.QuotaNames.add.Goals as goal

pub returns-in-Some : goal.returns-in-Some
returns-in-Some c quota_of use_of kept free part =
    let quota = c.in-Some.quota.now in
    let ns = c.args.namespace.now in
    subst (λ r. AreKept (with_quota ns r quota_of) use_of c.insert.new.self) (sym (ap option_copied c.in-Some.is)) (record {
      names = named_now ns quota c.args.self.now c.insert.new.self quota_of kept.names c.insert.ensures.held free;
      totals = c.insert.ensures.totals use_of kept.totals (kept.names quota ns ∙ ap (λ r. is_quota r quota) free) part;
    })

pub returns-in_default : goal.returns-in_default
returns-in_default c quota_of use_of kept free part = subst (λ f. AreKept f use_of c.args.self.now)
    (sym (with_same c.args.namespace.now quota_of _ (free ∙ sym (ap option_copied c.in_default.is)))) kept
