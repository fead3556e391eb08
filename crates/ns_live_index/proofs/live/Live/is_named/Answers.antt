use Rattle.std.proofs.Common.{[], ap, sym, ◌∙◌}
use Rattle.std.specs.Option.{option_copied}
use Rattle.ns_live_index.proofs.NamedQuotas.{named_if_any, no_slots_are, slots_are}
use Rattle.ns_live_index.proofs.live.Live.is_named.Goals as goal

pub returns-in-Some : goal.returns-in-Some
returns-in-Some c w named = c.has_name.ensures ∙ named_if_any w c.args.quota.now c.in-Some.names.now (slots_are w c.args.self.now named c.args.quota.now
    c.in-Some.names.now (sym (ap option_copied c.in-Some.is) ∙ c.names_of.ensures))

pub returns-in-None : goal.returns-in-None
returns-in-None c w named = named_if_any w c.args.quota.now [] (no_slots_are w c.args.self.now named c.args.quota.now
    (sym (ap option_copied c.in-None.is) ∙ c.names_of.ensures))
