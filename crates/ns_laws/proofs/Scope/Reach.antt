-- When a namespace has its pools and its quotas to itself, which steps are its own, and when it is crowded out.
use Rattle.std.specs.Prelude.{◌≡◌, ◌≢◌, ℕ, suc, Bool, true, false, not, ◌&&◌, ◌||◌, List, [], ◌∷◌, Option, Some, None, Ok, Err, ◌↔◌}
use Rattle.std.specs.Prelude.{is_some}
use Rattle.std.proofs.Common.{refl, sym, ap, subst, ◌∙◌, arith}
use Rattle.std.proofs.lemmas.Bool.{leb-true, le-leb}
use Rattle.std.specs.FinMap.{get, len, contains_key}
use Rattle.std.specs.List.{Contains, list_any, list_all}
use Rattle.std.specs.Option.{option_map_or}
use Rattle.ns_types.specs.declared.records.Namespace.{Namespace}
use Rattle.ns_types.specs.declared.snapshot.Snapshot.{Snapshot}
use Rattle.ns_types.specs.Access.Sharing.{permits, intrudes, names_within, strays_from, stays_within, is_apart}
use Rattle.ns_types.specs.declared.refusal.Refusal.{Refusal}
use Rattle.ns_types.specs.declared.step.AdminCommand.{AdminCommand}
use Rattle.ns_types.specs.declared.step.NodeCommand.{NodeCommand}
use Rattle.ns_types.specs.declared.step.Step.{Step}
use Rattle.ns_types.proofs.Tests.{not_Some, same_Some}
use Rattle.ns_types.specs.Isolation.{concerns}
use Rattle.ns_laws.specs.Kinds.{ReportsIts}
use Rattle.ns_types.specs.Asking.Admins.{is_full, most_rows}
use Rattle.ns_types.specs.Isolation.{part_of, is_own, is_own_admin, lacks_room, is_full_answer, is_crowded_out}
use Rattle.ns_types.specs.Steps.{Answer}
use Rattle.ns_types.specs.State.Names.{Name, ByName, same_name, has_name}
use Rattle.ns_types.specs.State.Rows.{World, Tenant, is_open, is_held}
use Rattle.ns_types.specs.State.Tables.{any_row}
use Rattle.ns_types.specs.Working.Worker.{Worker}
use Rattle.ns_types.proofs.Lists.{not_both, left_none, right_none}
use Rattle.ns_types.proofs.Named.{names, one_name, numbers, one_number, same_name_is, same_name_refl, first_of_both, second_of_both}
use Rattle.ns_types.proofs.Tables.{any_row-none}
use Rattle.ns_types.proofs.Tests.{is_no}
use Rattle.ns_audit.proofs.Alone.Bordering.{among, foreign, one_of_all, within}
use Rattle.ns_audit.proofs.Apartness.{inside}
use Rattle.ns_laws.proofs.Scope.Sharing.{apart_is_confined, apart_keeps_to_its_pools, found_in, has_contained, other_name}
use Rattle.ns_laws.specs.Sharing.{KeepsToPools}
use Rattle.ns_laws.specs.Reach as law

-- ---- names in lists

lacks : (xs : List Name) (name : Name) → (Contains xs name → ⊥) → has_name xs name ≡ false
lacks xs name none = by (has_name xs name) refl
  where
    by : (b : Bool) → has_name xs name ≡ b → has_name xs name ≡ false
    by true e = absurd (none (found_in xs name e))
    by false e = e

none_passes : (f : Name → Bool) (xs : List Name) → ((name : Name) → Contains xs name → f name ≡ false) → list_any f xs ≡ false
none_passes f [] h = refl
none_passes f (x ∷ xs) h = λ i. h x (0, omega arith, refl) i || none_passes f xs (λ name c. h name (suc c.0, omega (arith, c.1), c.2)) i

all_pass : (f : Name → Bool) (xs : List Name) → ((name : Name) → Contains xs name → f name ≡ true) → list_all f xs ≡ true
all_pass f [] h = refl
all_pass f (x ∷ xs) h = λ i. h x (0, omega arith, refl) i && all_pass f xs (λ name c. h name (suc c.0, omega (arith, c.1), c.2)) i

-- ---- what a record names

module _ (pools quotas : List Name) (namespace : Namespace) where
  abbrev is_within : Bool
  is_within = names_within (has_name pools) (has_name quotas) namespace

  names_only : is_within ≡ true → law.NamesOnly pools quotas namespace
  names_only within = record {
    default_pool = found_in pools namespace.default_pool (first_of_both _ _ pools_within);
    allowed = λ allowed pool is has. found_in pools pool (one_of_all (has_name pools) pool allowed
        (ap (λ (o : Option (List Name)). option_map_or (list_all (has_name pools)) o true) (sym is) ∙
        second_of_both (has_name pools namespace.default_pool) _ pools_within)
        (has_contained allowed pool has));
    quota = λ quota is. found_in quotas quota (ap (λ (o : Option Name). option_map_or (has_name quotas) o true) (sym is) ∙
        second_of_both (has_name pools namespace.default_pool && option_map_or (list_all (has_name pools)) namespace.allowed true) _ within);
  }
    where
      pools_within : (has_name pools namespace.default_pool && option_map_or (list_all (has_name pools)) namespace.allowed true) ≡ true
      pools_within = first_of_both _ _ within

  names_are : law.NamesOnly pools quotas namespace → is_within ≡ true
  names_are h = λ i. has_contained pools namespace.default_pool h.default_pool i && allowed namespace.allowed refl i && quota namespace.quota refl i
    where
      allowed : (o : Option (List Name)) → namespace.allowed ≡ o → option_map_or (list_all (has_name pools)) o true ≡ true
      allowed None is = refl
      allowed (Some xs) is = all_pass (has_name pools) xs (λ pool has. has_contained pools pool (h.allowed xs pool is has))

      quota : (o : Option Name) → namespace.quota ≡ o → option_map_or (has_name quotas) o true ≡ true
      quota None is = refl
      quota (Some q) is = has_contained quotas q (h.quota q is)

  keeps_out : intrudes pools quotas namespace ≡ false → law.KeepsOut pools quotas namespace
  keeps_out none = record {
    permits_none = λ pool has. among (permits namespace) pool pools (has_contained pools pool has) (left_none (list_any (permits namespace) pools) _ first_two);
    default_pool = λ has. not_both (has_contained pools namespace.default_pool has) (right_none (list_any (permits namespace) pools) _ first_two);
    quota = λ quota is has. not_both (has_contained quotas quota has)
        (ap (λ (o : Option Name). option_map_or (has_name quotas) o false) (sym is) ∙
        right_none (list_any (permits namespace) pools || has_name pools namespace.default_pool) _ none);
  }
    where
      first_two : (list_any (permits namespace) pools || has_name pools namespace.default_pool) ≡ false
      first_two = left_none (list_any (permits namespace) pools || has_name pools namespace.default_pool) _ none

  intrudes_not : law.KeepsOut pools quotas namespace → intrudes pools quotas namespace ≡ false
  intrudes_not h = λ i. none_passes (permits namespace) pools h.permits_none i ||
      lacks pools namespace.default_pool h.default_pool i || quota namespace.quota refl i
    where
      quota : (o : Option Name) → namespace.quota ≡ o → option_map_or (has_name quotas) o false ≡ false
      quota None is = refl
      quota (Some q) is = lacks quotas q (h.quota q is)

-- ---- what it keeps

strays_not : (pools : List Name) (t : Tenant) → KeepsToPools pools t → strays_from pools t ≡ false
strays_not pools t keeps = λ i.
    any_row-none numbers one_number (λ _ e. is_open e.status && not (has_name pools e.pool)) t.evaluations
    (λ n e is. inside (is_open e.status) _ (λ is_one. has_contained pools e.pool (keeps.evaluation n e is is_one))) i
    || any_row-none numbers one_number (λ _ worker. option_map_or (λ (kept : Snapshot). not (has_name pools kept.pool)) worker.kept false) t.workers
    (λ n worker is. kept n worker is worker.kept refl) i
    || any_row-none numbers one_number (λ _ a. is_held a.client && not (has_name pools a.pool)) t.allocations
    (λ n a is. inside (is_held a.client) _ (λ held. has_contained pools a.pool (keeps.allocation n a is held))) i
  where
    kept : (n : ℕ) (worker : Worker) → get t.workers n ≡ Some worker → (o : Option Snapshot) → worker.kept ≡ o →
        option_map_or (λ (kept : Snapshot). not (has_name pools kept.pool)) o false ≡ false
    kept n worker is None holds = refl
    kept n worker is (Some k) holds = ap not (has_contained pools k.pool (keeps.snapshot n worker k is holds))

stays : (pools quotas : List Name) (t : Tenant) → law.KeepsIn pools quotas t → stays_within pools quotas t ≡ true
stays pools quotas t h = λ i. ap is_some h.confined.1 i && names_are pools quotas t.namespace h.names i && not (strays_not pools t h.keeps i)

-- ---- when it has them to itself

abbrev IsSo : World → Name → List Name → List Name → Type 0
IsSo w ns pools quotas = ((t : Tenant) → get w.tenants ns ≡ Some t → law.KeepsIn pools quotas t)
    × ((other : Name) (o : Tenant) → get w.tenants other ≡ Some o → other ≢ ns → law.KeepsOut pools quotas o.namespace)

pub apart_so : law.ApartSo
unfolding is_apart
apart_so w ns pools quotas = (to, from)
  where
    to : is_apart w ns pools quotas ≡ true → IsSo w ns pools quotas
    to apart = (
      λ t is. record {
        confined = apart_is_confined w ns pools quotas t apart is;
        names = names_only pools quotas t.namespace (within w ns pools quotas apart ns t is (same_name_refl ns));
        keeps = apart_keeps_to_its_pools w ns pools quotas t apart is;
      },
      λ other o is another. keeps_out pools quotas o.namespace (foreign w ns pools quotas apart other o is (other_name ns other another)),
    )

    from : IsSo w ns pools quotas → is_apart w ns pools quotas ≡ true
    from h = λ i. not (no_other i) && home (get w.tenants ns) refl i
      where
        no_other : any_row (λ name other. not (same_name name ns) && intrudes pools quotas other.namespace) w.tenants ≡ false
        no_other = any_row-none names one_name _ w.tenants (λ k x at. by k x at (same_name k ns) refl)
          where
            by : (k : Name) (x : Tenant) → get w.tenants k ≡ Some x → (b : Bool) → same_name k ns ≡ b →
                (not b && intrudes pools quotas x.namespace) ≡ false
            by k x at true same = refl
            by k x at false differs = intrudes_not pools quotas x.namespace
                (h.1 k x at (λ e. not_both (ap (λ q. same_name q ns) e ∙ same_name_refl ns) differs))

        home : (o : Option Tenant) → get w.tenants ns ≡ o → option_map_or (stays_within pools quotas) o true ≡ true
        home None is = refl
        home (Some t) is = stays pools quotas t (h.0 t is)

-- ---- which steps are its own

module _ (ns other : Name) (pools quotas : List Name) where
  made_by : (name : Name) → Some name ≡ Some other → (same_name ns name ≡ true) ↔ (other ≡ ns)
  made_by name is = (
    λ same. sym (same_name_is ns name same ∙ same_Some name other is),
    λ same. ap (same_name ns) (same_Some name other is ∙ same) ∙ same_name_refl ns,
  )

  abbrev IsOwnBy : Step → Type 0
  IsOwnBy step = law.made_for step ≡ Some other → (is_own (part_of ns pools quotas) step ≡ true) ↔ (other ≡ ns)

  own_by : (step : Step) → IsOwnBy step
  unfolding is_own
  own_by (Step.Ask name secret command) is = made_by name is
  own_by (Step.Admin secret command) is = absurd (not_Some _ is)
  own_by (Step.Node pool secret command) is = absurd (not_Some _ is)
  own_by (Step.Dequeue worker name n) is = made_by name is
  own_by (Step.Snap worker name) is = made_by name is
  own_by (Step.Submit worker name) is = made_by name is
  own_by (Step.Apply worker name) is = made_by name is
  own_by (Step.Finish worker name) is = made_by name is
  own_by (Step.Nack worker name) is = made_by name is

pub own_by_namespace : law.OwnByNamespace
own_by_namespace ns other pools quotas step is = own_by ns other pools quotas step is

module _ (ns : Name) (pools quotas : List Name) where
  pub concerns_its : (command : NodeCommand) → ReportsIts ns command → concerns (part_of ns pools quotas) command ≡ true
  concerns_its NodeCommand.ReadPool its = refl
  concerns_its NodeCommand.ListNodes its = refl
  concerns_its (NodeCommand.PutNode node offer) its = refl
  concerns_its (NodeCommand.DeleteNode node) its = refl
  concerns_its (NodeCommand.SetStatus node status) its = refl
  concerns_its (NodeCommand.SetEligible node eligible) its = refl
  concerns_its (NodeCommand.Report node report) its = ap (same_name ns) (its node report refl) ∙ same_name_refl ns

  reports_its : (command : NodeCommand) → concerns (part_of ns pools quotas) command ≡ true → ReportsIts ns command
  reports_its command so node report is = sym (same_name_is ns report.namespace (ap (concerns (part_of ns pools quotas)) (sym is) ∙ so))

pub own_by_pool : law.OwnByPool
unfolding is_own
own_by_pool ns pool pools quotas secret command = (
  λ own. (
    found_in pools pool (first_of_both (has_name pools pool) _ own),
    reports_its ns pools quotas command (second_of_both (has_name pools pool) _ own),
  ),
  λ h i. has_contained pools pool h.0 i && concerns_its ns pools quotas command h.1 i,
)

module _ (ns : Name) (pools quotas : List Name) where
  is_about : (command : AdminCommand) → is_own_admin (part_of ns pools quotas) command ≡ true → law.IsAbout ns pools quotas command
  unfolding is_own_admin
  is_about AdminCommand.ListNamespaces own = not_both own refl
  is_about (AdminCommand.PutNamespace name namespace) own =
      subst (λ q. law.IsAbout ns pools quotas (AdminCommand.PutNamespace q namespace))
      (same_name_is ns name (first_of_both (same_name ns name) _ own))
      (law.put_record namespace (names_only pools quotas namespace (second_of_both (same_name ns name) _ own)))
  is_about (AdminCommand.DeleteNamespace name) own =
      subst (λ q. law.IsAbout ns pools quotas (AdminCommand.DeleteNamespace q)) (same_name_is ns name own) law.delete_record
  is_about AdminCommand.ListQuotas own = not_both own refl
  is_about (AdminCommand.ReadQuota name) own = law.read_quota name (found_in quotas name own)
  is_about (AdminCommand.PutQuota name quota) own = law.put_quota name quota (found_in quotas name own)
  is_about (AdminCommand.DeleteQuota name) own = law.delete_quota name (found_in quotas name own)
  is_about AdminCommand.ListPools own = not_both own refl
  is_about (AdminCommand.PutPool name pool) own = law.put_pool name pool (found_in pools name own)
  is_about (AdminCommand.DeletePool name) own = law.delete_pool name (found_in pools name own)
  is_about (AdminCommand.ReadPolicy name) own = law.read_policy name
  is_about (AdminCommand.PutPolicy name policy) own = law.put_policy name policy
  is_about (AdminCommand.DeletePolicy name) own = law.delete_policy name
  is_about (AdminCommand.CreateToken new) own = law.create_token new
  is_about (AdminCommand.DeleteToken accessor) own = law.delete_token accessor

  own_of : (command : AdminCommand) → law.IsAbout ns pools quotas command → is_own_admin (part_of ns pools quotas) command ≡ true
  unfolding is_own_admin
  own_of command (law.put_record namespace only) = λ i. same_name_refl ns i && names_are pools quotas namespace only i
  own_of command law.delete_record = same_name_refl ns
  own_of command (law.read_quota name has) = has_contained quotas name has
  own_of command (law.put_quota name quota has) = has_contained quotas name has
  own_of command (law.delete_quota name has) = has_contained quotas name has
  own_of command (law.put_pool name pool has) = has_contained pools name has
  own_of command (law.delete_pool name has) = has_contained pools name has
  own_of command (law.read_policy name) = refl
  own_of command (law.put_policy name policy) = refl
  own_of command (law.delete_policy name) = refl
  own_of command (law.create_token token) = refl
  own_of command (law.delete_token accessor) = refl

pub own_by_owner : law.OwnByOwner
unfolding is_own
own_by_owner ns pools quotas secret command = (is_about ns pools quotas command, own_of ns pools quotas command)

-- ---- when the server has no room

module _ {X : Type 0} (table : ByName X) (name : Name) where
  room_not : is_full table name ≡ true → law.HasNoRoom table name
  room_not full = record {
    new = is_no (contains_key table name) (first_of_both (not (contains_key table name)) _ full);
    others = leb-true most_rows (len table) (second_of_both (not (contains_key table name)) _ full);
  }

  full_of : law.HasNoRoom table name → is_full table name ≡ true
  full_of h = λ i. not (h.new i) && le-leb most_rows (len table) h.others i

refused_full : (answer : Answer) → is_full_answer answer ≡ true → answer ≡ Err Refusal.Full
refused_full (Ok reply) e = not_both e refl
refused_full (Err Refusal.Full) e = refl
refused_full (Err Refusal.BadHead) e = not_both e refl
refused_full (Err Refusal.BadJson) e = not_both e refl
refused_full (Err Refusal.Denied) e = not_both e refl
refused_full (Err Refusal.NotFound) e = not_both e refl
refused_full (Err Refusal.BadMethod) e = not_both e refl
refused_full (Err Refusal.Conflict) e = not_both e refl
refused_full (Err (Refusal.BadField member)) e = not_both e refl
refused_full (Err Refusal.PoolNotPermitted) e = not_both e refl
refused_full (Err Refusal.InUse) e = not_both e refl
refused_full (Err Refusal.NeedLength) e = not_both e refl
refused_full (Err Refusal.TooLarge) e = not_both e refl
refused_full (Err Refusal.NotServed) e = not_both e refl
refused_full (Err Refusal.Memory) e = not_both e refl
refused_full (Err Refusal.LogFull) e = not_both e refl
refused_full (Err Refusal.NotEnabled) e = not_both e refl
refused_full (Err Refusal.Foreign) e = not_both e refl

module _ (ns : Name) (pools quotas : List Name) (w : World) where
  puts : (step : Step) → is_own (part_of ns pools quotas) step ≡ true → lacks_room step w ≡ true → law.PutsOneTooMany ns pools quotas w step
  unfolding is_own is_own_admin
  puts (Step.Admin secret (AdminCommand.PutNamespace name namespace)) own full =
      let same = same_name_is ns name (first_of_both (same_name ns name) _ own) in
      subst (λ q. law.PutsOneTooMany ns pools quotas w (Step.Admin secret (AdminCommand.PutNamespace q namespace))) same
      (law.of_namespace secret namespace (names_only pools quotas namespace (second_of_both (same_name ns name) _ own))
      (room_not w.tenants ns (ap (is_full w.tenants) same ∙ full)))
  puts (Step.Admin secret (AdminCommand.PutQuota name quota)) own full =
      law.of_quota secret name quota (found_in quotas name own) (room_not w.quotas name full)
  puts (Step.Admin secret (AdminCommand.PutPool name pool)) own full =
      law.of_pool secret name pool (found_in pools name own) (room_not w.pools name full)
  puts (Step.Ask asked secret command) own full = not_both full refl
  puts (Step.Admin secret AdminCommand.ListNamespaces) own full = not_both full refl
  puts (Step.Admin secret (AdminCommand.DeleteNamespace name)) own full = not_both full refl
  puts (Step.Admin secret AdminCommand.ListQuotas) own full = not_both full refl
  puts (Step.Admin secret (AdminCommand.ReadQuota name)) own full = not_both full refl
  puts (Step.Admin secret (AdminCommand.DeleteQuota name)) own full = not_both full refl
  puts (Step.Admin secret AdminCommand.ListPools) own full = not_both full refl
  puts (Step.Admin secret (AdminCommand.DeletePool name)) own full = not_both full refl
  puts (Step.Admin secret (AdminCommand.ReadPolicy name)) own full = not_both full refl
  puts (Step.Admin secret (AdminCommand.PutPolicy name policy)) own full = not_both full refl
  puts (Step.Admin secret (AdminCommand.DeletePolicy name)) own full = not_both full refl
  puts (Step.Admin secret (AdminCommand.CreateToken new)) own full = not_both full refl
  puts (Step.Admin secret (AdminCommand.DeleteToken accessor)) own full = not_both full refl
  puts (Step.Node pool secret command) own full = not_both full refl
  puts (Step.Dequeue worker asked n) own full = not_both full refl
  puts (Step.Snap worker asked) own full = not_both full refl
  puts (Step.Submit worker asked) own full = not_both full refl
  puts (Step.Apply worker asked) own full = not_both full refl
  puts (Step.Finish worker asked) own full = not_both full refl
  puts (Step.Nack worker asked) own full = not_both full refl

  put_by : (step : Step) → law.PutsOneTooMany ns pools quotas w step → (is_own (part_of ns pools quotas) step && lacks_room step w) ≡ true
  unfolding is_own is_own_admin
  put_by step (law.of_namespace secret namespace only full) = λ i.
      (same_name_refl ns i && names_are pools quotas namespace only i) && full_of w.tenants ns full i
  put_by step (law.of_quota secret name quota has full) = λ i. has_contained quotas name has i && full_of w.quotas name full i
  put_by step (law.of_pool secret name pool has full) = λ i. has_contained pools name has i && full_of w.pools name full i

pub crowded_is_full : law.CrowdedIsFull
crowded_is_full ns pools quotas step s answer = (
  λ e. (
    puts ns pools quotas s.world step (first_of_both own _ (own_full e)) (second_of_both own _ (own_full e)),
    refused_full answer (second_of_both (own && lacks_room step s.world) _ e),
  ),
  λ h i. put_by ns pools quotas s.world step h.0 i && is_full_answer (h.1 i),
)
  where
    own : Bool
    own = is_own (part_of ns pools quotas) step

    own_full : is_crowded_out (part_of ns pools quotas) step s answer ≡ true → (own && lacks_room step s.world) ≡ true
    own_full e = first_of_both (own && lacks_room step s.world) (is_full_answer answer) e
