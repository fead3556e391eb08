use Rattle.std.specs.Prelude.{Some, None, option_map}
use Rattle.std.proofs.Common.{ap, sym, ◌∙◌}
use Rattle.std.specs.Option.{option_copied}
use Rattle.ns_admin.proofs.World.{quota_is}
use Rattle.ns_types.specs.declared.snapshot.QuotaSeen.{QuotaSeen}
use Rattle.ns_types.specs.State.Resources.{limits_in}
use Rattle.ns_types.specs.State.Rows.{QuotaRows}
use Rattle.ns_types.specs.State.Sums.{quota_use}
use Rattle.ns_types.specs.Working.Snapshot.{namespaces_naming}
use Rattle.ns_broker.proofs.snapshot.quota.quota_seen.Goals as goal
use Rattle.ns_tables.specs.declared.tables.Tables.{Tables}
use Rattle.ns_tables.specs.World.{world_of}
use Rattle.ns_types.specs.State.Names.{Name}

abbrev shown : Tables → Name → QuotaRows → QuotaSeen
shown t name q = record {
  name = name;
  limits = limits_in q.quota.limits;
  used = quota_use (world_of t) name;
  release = q.release;
  namespaces = namespaces_naming (world_of t) name;
}

pub returns-in_ok-seen-in-Some : goal.returns-in_ok-seen-in-Some
returns-in_ok-seen-in-Some c = ap Some c.in_ok-seen-in-Some.ensures
    ∙ sym (ap (option_map (shown c.args.tables.now c.args.name.now))
    (quota_is c.args.tables.now c.args.name.now (Some c.in-Some.row.now) (sym c.get.ensures ∙ ap option_copied c.in-Some.is)))

pub returns-in-None : goal.returns-in-None
returns-in-None c = sym (ap (option_map (shown c.args.tables.now c.args.name.now))
    (quota_is c.args.tables.now c.args.name.now None (sym c.get.ensures ∙ ap option_copied c.in-None.is)))
