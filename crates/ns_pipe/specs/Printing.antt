-- How a connection ended, by what is printed.
use Rattle.std.specs.Prelude.{ℕ, List, Option, None}
use Rattle.ns_types.specs.State.Names.{Name}
use Rattle.ns_http.specs.declared.counting.Counted.{Counted}
use Rattle.ns_api.specs.declared.following.Driven.{Driven}
use Rattle.ns_pipe.specs.Ending.{Ends, opened, uncounted}
use Rattle.ns_pipe.specs.Logging.{EndsLogged, opened_log}
use Rattle.ns_pipe.specs.declared.nowhere.Nowhere.{Nowhere}
use Rattle.ns_pipe.specs.declared.printed.Printed.{Printed}

-- the writer of replies that are not printed; nothing is known of its bytes
abbrev pub nowhere : Nowhere
nowhere = record {}

abbrev pub kept_nowhere : Nowhere → Option (List ℕ)
kept_nowhere _ = None

-- A connection with a new server that drives the worker that `driven` names ended with this status. Its replies were written,
-- or its log in their place.
abbrev pub EndsPrinted : {D R W : Type 0} → (D → List ℕ → D → Type 0) → (R → Option (List ℕ)) → (W → Option (List ℕ)) →
    Printed → Name → D → Driven → ℕ → Counted R → Counted R → Counted Nowhere → Counted W → Counted W → Type 0
EndsPrinted draws remaining contents Printed.Replies secret drawer driven status reader reader' other writer writer' =
    Ends draws remaining contents (opened secret drawer driven) status reader reader' writer writer'
EndsPrinted draws remaining contents Printed.Log secret drawer driven status reader reader' other writer writer' =
    EndsLogged draws remaining contents kept_nowhere (opened_log secret drawer driven) reader reader'
    (uncounted nowhere) other secret status writer writer'
