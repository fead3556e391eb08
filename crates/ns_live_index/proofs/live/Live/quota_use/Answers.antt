use Rattle.std.proofs.Common.{◌∙◌}
use Rattle.ns_live_index.proofs.NamedQuotas.{use_kept}
use Rattle.ns_live_index.proofs.live.Live.quota_use.Goals as goal

pub returns : goal.returns
returns c w named fits = c.total_of.ensures ∙ use_kept w c.args.self.now named c.args.quota.now fits
