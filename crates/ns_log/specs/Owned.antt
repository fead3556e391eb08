-- Values that are owned alone, or together with others.
use Rattle.ns_log.specs.declared.owned.Owner.{Owner}

abbrev pub value_of : {T : Type 0} → Owner T → T
value_of (Owner.Alone value) = value.value
value_of (Owner.Together value) = value
