use Rattle.ns_laws.proofs.Service.Laws.{numbers_are_given_once}
use Rattle.ns_laws.proofs.serving.numbers_are_given_once.Goals as goal

pub returns : goal.returns
returns c = numbers_are_given_once
