use Rattle.std.proofs.Common.{◌∙◌, sym}
use Rattle.indexmap.proofs.CallerLemmas.{insert_entry-new}
use Rattle.keyed.proofs.index.add_key.Goals as goal

pub returns : goal.returns
returns g c =
    let absent = sym c.in-Ok-None.ensures.old ∙ c.in-Ok-None.field-0-is in
    c.in-Ok-None.ensures.entries ∙ insert_entry-new g.K.PartialEq.eq c.args.keys.now c.args.key tt absent
