-- Which values of `Connection` list `close`.
use Rattle.std.proofs.Common.{refl}
use Rattle.httparse.specs.Grammar.{trim_ows}
use Rattle.ns_types.specs.Wire.Http.{eq_ignore_case, lists_close}
use Rattle.ns_laws.specs.Wire as law

pub close_is_listed : law.CloseIsListed
unfolding lists_close eq_ignore_case trim_ows
close_is_listed = record {
  alone = refl;
  upper = refl;
  later = refl;
  between = refl;
  other = refl;
  longer = refl;
  within = refl;
  none = refl;
}
