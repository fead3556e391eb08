use Rattle.std.proofs.Common.{ap, sym, ◌∙◌}
use Rattle.std.specs.Option.{option_copied}
use Rattle.ns_types.proofs.Results.{if_ok}
use Rattle.ns_live_index.proofs.NamedQuotas.{no_slots_are, slots_are}
use Rattle.ns_live_index.proofs.live.Live.namespaces_naming.Goals as goal

pub returns-in-Some : goal.returns-in-Some
returns-in-Some c w named = if_ok c.copied_names.result _ _ (λ copied is. is ∙ slots_are w c.args.self.now named c.args.quota.now c.in-Some.names.now
    (sym (ap option_copied c.in-Some.is) ∙ c.names_of.ensures)) c.copied_names.ensures

pub returns-in-None : goal.returns-in-None
returns-in-None c w named = c.new.ensures ∙ no_slots_are w c.args.self.now named c.args.quota.now
    (sym (ap option_copied c.in-None.is) ∙ c.names_of.ensures)
