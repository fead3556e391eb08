-- The text of a replay, and its exit status.
use Rattle.std.specs.Prelude.{ℕ, List, ◌++◌, codes, decimal, filter}
use Rattle.std.specs.List.{enumerate_from, flat_map}
use Rattle.ns_types.specs.declared.reply.Rendered.{Rendered}
use Rattle.ns_types.specs.Isolation.{Part, is_own}
use Rattle.ns_types.specs.State.Names.{Name}
use Rattle.ns_json.specs.Replies.{Entry}
use Rattle.ns_pipe.specs.declared.replay.ending.ReplayEnd.{ReplayEnd}
use Rattle.ns_pipe.specs.declared.replay.ending.ReplayEnd.TheVariants.{Same, BadLine, NotARun, PremiseFails, Differs}

-- the place of an entry, the status and the body of its answer, with a space between each two
abbrev pub answer_line : ℕ → Rendered → Name
answer_line place r = decimal place ++ codes " " ++ decimal r.status ++ codes " " ++ r.body ++ codes "\n"

-- the lines of those entries whose steps are the namespace's own; the first stands at this place
abbrev pub own_lines : Part → ℕ → List Entry → Name
own_lines part first entries =
    flat_map (λ e. answer_line e.0 e.1.1) (filter (λ e. is_own part e.1.0) (enumerate_from first entries))

-- the line of an ending
abbrev pub last_line : ReplayEnd → Name
last_line Same = codes "same\n"
last_line (BadLine line) = codes "bad log line " ++ decimal line ++ codes "\n"
last_line (NotARun place) = codes "not a run at " ++ decimal place ++ codes "\n"
last_line (PremiseFails place) = codes "premise fails at " ++ decimal place ++ codes "\n"
last_line (Differs place) = codes "differs at " ++ decimal place ++ codes "\n"

abbrev pub status_of : ReplayEnd → ℕ
status_of Same = 0
status_of (NotARun place) = 1
status_of (PremiseFails place) = 1
status_of (Differs place) = 1
status_of (BadLine line) = 2
