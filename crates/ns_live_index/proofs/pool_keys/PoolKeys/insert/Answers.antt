use Rattle.std.proofs.Common.{ap, refl, sym, ◌∙◌}
use Rattle.std.specs.Option.{option_copied_mut}
use Rattle.ns_types.specs.State.Names.{same_key}
use Rattle.ns_types.specs.State.Resources.{none}
use Rattle.ns_types.proofs.Named.{names, one_name}
use Rattle.keyed.proofs.Levels.{adds_at}
use Rattle.keyed.proofs.Values.{moved_value}
use Rattle.ns_live_index.specs.Levels.{has_room_here, holds_here}
use Rattle.ns_live_index.specs.declared.pool_keys.PoolKeys.{PoolKeys}
use Rattle.ns_live_index.specs.Moving.{MovesLoad}
use Rattle.ns_live_index.proofs.LoadLevels.{adds_here, load_here, moves_none}
use Rattle.ns_live_index.proofs.pool_keys.PoolKeys.insert.Goals as goal

pub returns-in-Some-clause-keys : goal.returns-in-Some-clause-keys
returns-in-Some-clause-keys c = adds_at (λ (s : PoolKeys). s.nodes) holds_here has_room_here c.args.self.now _ c.args.node.now c.in-Some.on.now
    c.insert.new.self (sym c.get_mut.ensures.value ∙ ap option_copied_mut c.in-Some.is) refl same_key (c.args.namespace.now, c.args.number)
    (adds_here (c.args.namespace.now, c.args.number) c.in-Some.on.now c.insert.new.self c.insert.ensures.keys)

pub returns-in-Some-clause-loads : goal.returns-in-Some-clause-loads
returns-in-Some-clause-loads c name = moved_value names one_name none load_here MovesLoad moves_none c.args.self.now.nodes _ c.args.node.now c.in-Some.on.now
    c.insert.new.self (sym c.get_mut.ensures.value ∙ ap option_copied_mut c.in-Some.is) refl (λ _. c.args.before) (λ _. c.args.after) name tt
    c.insert.ensures.load
