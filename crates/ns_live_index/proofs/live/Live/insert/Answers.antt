use Rattle.std.proofs.Common.{ap, refl, sym, ◌∙◌}
use Rattle.std.specs.Option.{option_copied_mut}
use Rattle.ns_types.specs.State.Names.{same_key}
use Rattle.ns_types.specs.State.Resources.{none}
use Rattle.ns_types.proofs.Named.{names, one_name}
use Rattle.keyed.specs.Levels.{same_at}
use Rattle.ns_live_index.specs.Levels.{holds_on_node, has_node_room, load_on}
use Rattle.ns_live_index.specs.Moving.{MovesLoad, part_on}
use Rattle.ns_live_index.specs.declared.live.Live.{Live}
use Rattle.keyed.proofs.Levels.{adds_at}
use Rattle.keyed.proofs.Values.{moved_value}
use Rattle.ns_live_index.proofs.LoadLevels.{moves_none}
use Rattle.ns_live_index.proofs.live.Live.insert.Goals as goal

pub returns-in-Some-clause-added : goal.returns-in-Some-clause-added
returns-in-Some-clause-added c = adds_at (λ (s : Live). s.pools) holds_on_node has_node_room c.args.self.now _ c.args.pool.now
    c.in-Some.nodes.now c.insert.new.self
    (sym c.get_mut.ensures.value ∙ ap option_copied_mut c.in-Some.is) refl (same_at same_key) (c.args.node.now, (c.args.namespace.now, c.args.number))
    c.insert.ensures.keys

pub returns-in-Some-clause-loads : goal.returns-in-Some-clause-loads
returns-in-Some-clause-loads c p n = moved_value names one_name none load_on MovesLoad moves_none c.args.self.now.pools _
    c.args.pool.now c.in-Some.nodes.now c.insert.new.self (sym c.get_mut.ensures.value ∙ ap option_copied_mut c.in-Some.is) refl
    (λ n. part_on c.args.node.now n c.args.before)
    (λ n. part_on c.args.node.now n c.args.after) p n (c.insert.ensures.loads n)
