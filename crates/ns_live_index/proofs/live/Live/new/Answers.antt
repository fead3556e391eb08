use Rattle.std.proofs.Common.{ap, ◌∙◌}
use Rattle.std.specs.FinMap.{get-empty}
use Rattle.std.specs.Option.{option_map_or}
use Rattle.keyed.specs.Table.{flat, row_at}
use Rattle.ns_types.specs.State.Names.{name_cmp}
use Rattle.ns_types.specs.State.Resources.{none}
use Rattle.ns_live_index.specs.declared.live.Live.{Live}
use Rattle.ns_live_index.specs.declared.naming.QuotaNames.{QuotaNames}
use Rattle.ns_live_index.specs.declared.pool_keys.PoolKeys.{PoolKeys}
use Rattle.ns_live_index.specs.Levels.{holds_on_node, load_on}
use Rattle.ns_live_index.specs.Naming.{holds_name}
use Rattle.ns_live_index.specs.Shown.{if_seen}
use Rattle.keyed.proofs.Levels.{says_nothing}
use Rattle.ns_live_index.proofs.Showing.{shows_none}
use Rattle.ns_live_index.proofs.Totals.{total_first}
use Rattle.ns_live_index.proofs.live.Live.new.Goals as goal

pub returns : goal.returns
returns c = record {
  keys = λ pool node key. says_nothing (λ (s : Live). s.pools) holds_on_node
      (record { alloc = c.args.alloc; pools = c.new.result; shown = c.new-2.result; quotas = c.new-3.result })
      c.new.ensures (pool, (node, key));
  loads = λ pool node. ap (λ r. option_map_or (λ (its : PoolKeys). load_on its node) r none)
      (ap (λ m. row_at m pool) c.new.ensures ∙ ap flat (get-empty name_cmp pool));
  shown = λ pool name. ap if_seen (shows_none c.new-2.result c.new-2.ensures pool name);
  names = λ quota ns. says_nothing (λ (s : QuotaNames). s.quotas) holds_name c.new-3.result c.new-3.ensures (quota, ns);
  totals = λ quota. total_first c.new-3.result c.new-3.ensures quota;
}
