use Rattle.std.proofs.Common.{ap, rules, ◌∙◌, filter}
use Rattle.std.proofs.lemmas.Fn.{filter_same}
use Rattle.ns_release.specs.Released.{stays}
use Rattle.ns_settlement.proofs.reached.still_there.Goals as goal

pub returns : goal.returns
returns c = c.from_vec.ensures ∙ filter_same _ (stays c.args.list.now) _ (λ x b f h. search rules) _ _ c.retain.ensures.filtered
    ∙ ap (filter (stays c.args.list.now)) c.into_vec-keys.ensures
