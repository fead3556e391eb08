use Rattle.std.proofs.Common.{ap, sym, ◌∙◌}
use Rattle.std.specs.Option.{option_copied, option_map_or}
use Rattle.ns_types.specs.State.Resources.{none}
use Rattle.ns_live_index.specs.Levels.{load_on}
use Rattle.ns_live_index.specs.declared.pool_keys.PoolKeys.{PoolKeys}
use Rattle.ns_live_index.proofs.Loaded.{kept_load}
use Rattle.ns_live_index.proofs.live.Live.load.Goals as goal

pub returns-in-Some : goal.returns-in-Some
returns-in-Some c w right fits = c.load_on.ensures ∙ ap (λ r. option_map_or (λ (its : PoolKeys). load_on its c.args.node.now) r none)
    (sym (ap option_copied c.in-Some.is) ∙ c.get.ensures) ∙ kept_load w c.args.pool.now c.args.node.now c.args.self.now right fits

pub returns-in-None : goal.returns-in-None
returns-in-None c w right fits = c.none.ensures ∙ ap (λ r. option_map_or (λ (its : PoolKeys). load_on its c.args.node.now) r none)
    (sym (ap option_copied c.in-None.is) ∙ c.get.ensures) ∙ kept_load w c.args.pool.now c.args.node.now c.args.self.now right fits
