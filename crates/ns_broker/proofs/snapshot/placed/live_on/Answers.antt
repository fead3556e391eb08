use Rattle.std.specs.Prelude.{false}
use Rattle.std.proofs.Common.{ap, sym, ◌∙◌}
use Rattle.std.specs.Option.{option_copied, option_map_or}
use Rattle.keyed.specs.Levels.{holds_key}
use Rattle.ns_broker.proofs.Seen.{fits, none_seen, seen_on}
use Rattle.ns_broker.proofs.snapshot.placed.live_on.Goals as goal

pub returns-in_default : goal.returns-in_default
returns-in_default c = none_seen c.args.tables.now c.args.pool.now c.args.node.now (λ key.
    sym (c.requires.index.keys c.args.pool.now c.args.node.now key) ∙ sym (c.keys_on.ensures key)
    ∙ ap (λ o. option_map_or (λ keys. holds_key keys key) (option_copied o) false) c.in_default.is) _ c.new.ensures

pub after_base-requires : goal.after_base-requires
after_base-requires c = fits c.args.tables.now c.args.pool.now c.args.node.now c.in-Some.keys.now (λ key.
    sym (ap (λ o. option_map_or (λ keys. holds_key keys key) (option_copied o) false) c.in-Some.is)
    ∙ c.keys_on.ensures key ∙ c.requires.index.keys c.args.pool.now c.args.node.now key)
    (option_copied c.base_of.result) (λ seen is. c.requires.shown.bases c.args.pool.now c.args.node.now seen (sym c.base_of.ensures ∙ is))

pub returns : goal.returns
returns c = seen_on c.args.tables.now c.args.pool.now c.args.node.now c.in-Some.keys.now (λ key.
    sym (ap (λ o. option_map_or (λ keys. holds_key keys key) (option_copied o) false) c.in-Some.is)
    ∙ c.keys_on.ensures key ∙ c.requires.index.keys c.args.pool.now c.args.node.now key)
    (option_copied c.base_of.result) (λ seen is. c.requires.shown.bases c.args.pool.now c.args.node.now seen (sym c.base_of.ensures ∙ is))
    c.after_base.result c.after_base.ensures
