use Rattle.std.proofs.Common.{◌∙◌, ap, sym}
use Rattle.std.specs.Prelude.{option_map}
use Rattle.std.specs.Option.{option_copied, option_map_or}
use Rattle.ns_release.proofs.Released.{quota_at}
use Rattle.ns_tables.specs.World.{quota_of}
use Rattle.ns_followers.proofs.missing.release_of.Goals as goal

pub returns-in-Some : goal.returns-in-Some
returns-in-Some c = sym (ap (λ o. option_map_or (λ q. q.release) o 0)
    (quota_at c.args.tables.now c.args.quota.now ∙ ap (option_map quota_of) (sym c.get.ensures ∙ ap option_copied c.in-Some.is)))

pub returns-in-None : goal.returns-in-None
returns-in-None c = sym (ap (λ o. option_map_or (λ q. q.release) o 0)
    (quota_at c.args.tables.now c.args.quota.now ∙ ap (option_map quota_of) (sym c.get.ensures ∙ ap option_copied c.in-None.is)))
