use Rattle.ns_copies.proofs.copying.alone.Goals as goal

pub returns : goal.returns
returns c = c.copied.ensures
