-- The words ask for one thing at most.
use Rattle.std.proofs.Common.{◌≡◌, ◌∙◌, ap, sym, refl, subst, List, Option, Some, None}
use Rattle.std.proofs.Common.{Bool, true, false, true≢false, if◌then◌else◌, codes}
use Rattle.std.proofs.NetLemmas.Theorems.{IsSocketText_unique}
use Rattle.std.proofs.lemmas.Slice.Eq.{bytes_eq-Decides}
use Rattle.std.specs.Net.Grammar.{IsSocketText}
use Rattle.std.specs.Str.{bytes_eq}
use Rattle.clap.specs.Words.{Text, first_of, subcommand_of}
use Rattle.ns_api.specs.declared.following.Driven.{Driven}
use Rattle.ns_pipe.specs.declared.asked.WordsRead.{WordsRead}
use Rattle.ns_pipe.specs.declared.printed.Printed.{Printed}
use Rattle.ns_pipe.specs.declared.replay.replay.Replay.{Replay}
use Rattle.ns_listener.specs.declared.service.Service.{Service}
use Rattle.ns_command_line.specs.declared.wanted.Invocation.{Invocation}
use Rattle.ns_command_line.specs.Given.{Named, given_for}
use Rattle.ns_arguments.specs.Values.{rotate_by, rotate_bytes_by}
use Rattle.ns_command_line.specs.Serve.{IsServe, of_serve}
use Rattle.ns_command_line.specs.Words.{IsAlone, IsMisgiven, IsPipe, IsWanted, program_words}

some_unique : {A : Type 0} (o : Option A) (x y : A) → o ≡ Some x → o ≡ Some y → x ≡ y
some_unique (Some z) x y e f = cc
some_unique None x y e f = cc

serve_unique : (named : Named) (s t : Service) → IsServe named s → IsServe named t → s ≡ t
serve_unique named s t x y =
    let same_text = some_unique _ _ _ x.given y.given in
    let address = IsSocketText_unique _ _ _ (subst (λ text. IsSocketText text s.address) same_text x.listens) y.listens in
    let bootstrap = some_unique _ _ _ x.starts y.starts in
    let workers = some_unique _ _ _ x.works y.works in
    let connections = some_unique _ _ _ x.connects y.connects in
    let accept = some_unique _ _ _ x.ends y.ends in
    let idle = some_unique _ _ _ x.waits y.waits in
    let log_limit = some_unique _ _ _ x.keeps y.keeps in
    let rotate = some_unique _ _ _ (subst (λ n. rotate_by n (of_serve (codes "rotate") named) ≡ Some s.rotate) log_limit x.rotates) y.rotates in
    let rotate_bytes = some_unique _ _ _
    (subst (λ r. rotate_bytes_by r (of_serve (codes "rotate-bytes") named) ≡ Some s.rotate_bytes) rotate x.weighs) y.weighs in
    λ i. record {
      address = address i;
      bootstrap = bootstrap i;
      workers = workers i;
      connections = connections i;
      accept = accept i;
      idle = idle i;
      log_limit = log_limit i;
      rotate = rotate i;
      rotate_bytes = rotate_bytes i;
    }

pipe_unique : (named : Named) (secret secret' : Text) (driven driven' : Driven) (printed printed' : Printed) →
    IsPipe named secret driven printed → IsPipe named secret' driven' printed' → WordsRead.Pipe secret driven printed ≡ WordsRead.Pipe secret' driven' printed'
pipe_unique named secret secret' driven driven' printed printed' x y =
    let same = some_unique _ _ _ x.given y.given in
    let drives = sym x.drives ∙ y.drives in
    let prints = some_unique _ _ _ x.prints y.prints in
    λ i. WordsRead.Pipe (same i) (drives i) (prints i)

alone_unique : (named : Named) (r s : Replay) → IsAlone named r → IsAlone named s → r ≡ s
alone_unique named r s x y =
    let namespace = some_unique _ _ _ x.given y.given in
    let from = some_unique _ _ _ x.begins y.begins in
    let pools = some_unique _ _ _ x.its_pools y.its_pools in
    let quotas = some_unique _ _ _ x.its_quotas y.its_quotas in
    λ i. record { namespace = namespace i; from = from i; pools = pools i; quotas = quotas i }

is_chosen : {A : Type 0} (b : Bool) (o : Option A) (x : A) → (if b then o else None) ≡ Some x → b ≡ true
is_chosen true o x e = refl
is_chosen false o x e = cc

-- where something is given to one subcommand, nothing is given to another
other_command : (named : Named) (one other id id' x y : Text) → bytes_eq one other ≡ false →
    given_for one id named ≡ Some x → given_for other id' named ≡ Some y → ⊥
other_command None one other id id' x y differ e f = cc
other_command (Some p) one other id id' x y differ e f =
    let is_one = (bytes_eq-Decides p.0 one).0 (is_chosen (bytes_eq p.0 one) (first_of id p.1) x e) in
    let is_other = (bytes_eq-Decides p.0 other).0 (is_chosen (bytes_eq p.0 other) (first_of id' p.1) y f) in
    true≢false (sym ((bytes_eq-Decides one other).1 (sym is_one ∙ is_other)) ∙ differ)

-- ---- what is asked for, by what is given

only_alone : (named : Named) (wanted : Invocation) (given : Text) → given_for (codes "alone") (codes "namespace") named ≡ Some given →
    IsWanted named wanted → (replay : Replay) × (wanted ≡ Invocation.Run (WordsRead.Alone replay)) × IsAlone named replay
only_alone named (Invocation.Serve service) given e is =
    absurd (other_command named (codes "alone") (codes "serve") _ _ given is.address refl e is.given)
only_alone named (Invocation.Run (WordsRead.Pipe secret driven printed)) given e is =
    absurd (other_command named (codes "alone") (codes "pipe") _ _ given secret refl e is.given)
only_alone named (Invocation.Run (WordsRead.Alone replay)) given e is = (replay, refl, is)
only_alone named (Invocation.Run (WordsRead.Help help)) given e is = absurd is
only_alone named (Invocation.Run (WordsRead.Mistake reason)) given e is = absurd is
only_alone named (Invocation.Run WordsRead.NoMemory) given e is = absurd is

only_serve : (named : Named) (wanted : Invocation) (given : Text) → given_for (codes "serve") (codes "listen") named ≡ Some given →
    IsWanted named wanted → (service : Service) × (wanted ≡ Invocation.Serve service) × IsServe named service
only_serve named (Invocation.Serve service) given e is = (service, refl, is)
only_serve named (Invocation.Run (WordsRead.Pipe secret driven printed)) given e is =
    absurd (other_command named (codes "serve") (codes "pipe") _ _ given secret refl e is.given)
only_serve named (Invocation.Run (WordsRead.Alone replay)) given e is =
    absurd (other_command named (codes "serve") (codes "alone") _ _ given replay.namespace refl e is.given)
only_serve named (Invocation.Run (WordsRead.Help help)) given e is = absurd is
only_serve named (Invocation.Run (WordsRead.Mistake reason)) given e is = absurd is
only_serve named (Invocation.Run WordsRead.NoMemory) given e is = absurd is

pipe_or_other : (named : Named) (secret : Text) (driven : Driven) (printed : Printed) (wanted : Invocation) →
    IsPipe named secret driven printed → IsWanted named wanted → Invocation.Run (WordsRead.Pipe secret driven printed) ≡ wanted
pipe_or_other named secret driven printed (Invocation.Serve service) x is =
    absurd (other_command named (codes "pipe") (codes "serve") _ _ secret is.address refl x.given is.given)
pipe_or_other named secret driven printed (Invocation.Run (WordsRead.Pipe secret' driven' printed')) x is =
    ap Invocation.Run (pipe_unique named _ _ _ _ _ _ x is)
pipe_or_other named secret driven printed (Invocation.Run (WordsRead.Alone replay)) x is =
    absurd (other_command named (codes "pipe") (codes "alone") _ _ secret replay.namespace refl x.given is.given)
pipe_or_other named secret driven printed (Invocation.Run (WordsRead.Help help)) x is = absurd is
pipe_or_other named secret driven printed (Invocation.Run (WordsRead.Mistake reason)) x is = absurd is
pipe_or_other named secret driven printed (Invocation.Run WordsRead.NoMemory) x is = absurd is

pub wanted_unique : (named : Named) (v w : Invocation) → IsWanted named v → IsWanted named w → v ≡ w
wanted_unique named (Invocation.Serve service) w x y =
    let other = only_serve named w x.address x.given y in
    ap Invocation.Serve (serve_unique named service other.0 x other.2) ∙ sym other.1
wanted_unique named (Invocation.Run (WordsRead.Pipe secret driven printed)) w x y = pipe_or_other named secret driven printed w x y
wanted_unique named (Invocation.Run (WordsRead.Alone replay)) w x y =
    let other = only_alone named w replay.namespace x.given y in
    ap (λ r. Invocation.Run (WordsRead.Alone r)) (alone_unique named replay other.0 x other.2) ∙ sym other.1
wanted_unique named (Invocation.Run (WordsRead.Help help)) w x y = absurd x
wanted_unique named (Invocation.Run (WordsRead.Mistake reason)) w x y = absurd x
wanted_unique named (Invocation.Run WordsRead.NoMemory) w x y = absurd x

-- words with a bad value ask for nothing
pub nothing_wanted : (words : List Text) (wanted : Invocation) → IsMisgiven words → IsWanted (subcommand_of program_words words) wanted → ⊥
nothing_wanted words (Invocation.Serve service) bad is = bad.no_serve service is
nothing_wanted words (Invocation.Run (WordsRead.Pipe secret driven printed)) bad is = bad.no_pipe secret driven printed is
nothing_wanted words (Invocation.Run (WordsRead.Alone replay)) bad is = bad.no_alone replay is
nothing_wanted words (Invocation.Run (WordsRead.Help help)) bad is = is
nothing_wanted words (Invocation.Run (WordsRead.Mistake reason)) bad is = is
nothing_wanted words (Invocation.Run WordsRead.NoMemory) bad is = is
