-- Neither the headline nor the wire rests on this: it is the premise under which states stay valid.
-- Steps whose commands are within the limits.
use Rattle.std.specs.Prelude.{IsTrue}
use Rattle.ns_types.specs.declared.step.Step.{Step}
use Rattle.ns_types.specs.Asking.Good.{IsGoodNodeCommand, is_good_admin, is_good_ask}

abbrev pub IsGoodStep : Step → Type 0
IsGoodStep (Step.Ask ns secret command) = IsTrue (is_good_ask command)
IsGoodStep (Step.Admin secret command) = IsTrue (is_good_admin command)
IsGoodStep (Step.Node pool secret command) = IsGoodNodeCommand command
IsGoodStep _ = Unit {0}
