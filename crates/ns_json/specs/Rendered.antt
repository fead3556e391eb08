-- The replies that are rendered here.
use Rattle.std.specs.Prelude.{ℕ}
use Rattle.ns_types.specs.declared.reply.Content.{Content}

abbrev pub IsRegistered : Content → Type 0
IsRegistered (Content.Registered evaluation index job_index) = Unit {0}
IsRegistered _ = ⊥

abbrev pub IsRendered : Content → Type 0
IsRendered (Content.Registered evaluation index job_index) = Unit {0}
IsRendered (Content.Job job) = Unit {0}
IsRendered _ = ⊥

-- the bytes of the longest body that answers a registration
abbrev pub longest_registered : ℕ
longest_registered = 126
