use Rattle.std.specs.Prelude.{nat_le}
use Rattle.std.proofs.Common.{sym, ap, ◌∙◌}
use Rattle.std.specs.Option.{option_copied}
use Rattle.ns_admin.proofs.Written.{full_by}
use Rattle.ns_admin.proofs.looking.is_full.Goals as goal

pub returns-in-Some : goal.returns-in-Some
returns-in-Some g c = sym (full_by _ _ _ (sym c.get.ensures ∙ ap option_copied c.in-Some.is))

pub returns-in-None : goal.returns-in-None
returns-in-None g c = ap (nat_le 10000) c.len.ensures ∙ sym (full_by _ _ _ (sym c.get.ensures ∙ ap option_copied c.in-None.is))
