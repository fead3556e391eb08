-- What a reply shows: one row, or those rows of a table that pass.
use Rattle.std.specs.Prelude.{◌≡◌, Bool, true, false, cond, T, List, [], ◌∷◌, Option, Some, Ok, filter, map, option_map}
use Rattle.std.proofs.Common.{refl, sym, ap, subst, ◌∙◌}
use Rattle.std.specs.FinMap.{FinMap, IsAntisymmetric, get, entries, entries_sorted}
use Rattle.std.specs.FinMap.Entries.{below_all, is_sorted}
use Rattle.std.specs.Cmp.{IsTotalOrder}
use Rattle.std.specs.declared.cmp.Ordering.{Ordering}
use Rattle.std.specs.declared.cmp.Ordering.TheVariants.{Less}
use Rattle.ns_types.specs.declared.reply.Content.{Content}
use Rattle.ns_types.specs.declared.reply.Reply.{Reply}
use Rattle.ns_types.specs.declared.step.AskCommand.{AskCommand}
use Rattle.ns_types.specs.declared.step.Step.{Step}
use Rattle.ns_types.specs.Asking.Asks.{ask, asked_in}
use Rattle.ns_types.specs.Asking.Policies.{with_world}
use Rattle.ns_types.specs.Settling.Settle.{settle}
use Rattle.ns_types.specs.State.Lists.{Each}
use Rattle.ns_types.specs.State.Names.{Name}
use Rattle.ns_types.specs.State.Rows.{State, World, Tenant}
use Rattle.ns_types.specs.Steps.{after, act, said, reply_of}
use Rattle.ns_types.proofs.Elements.{each_kept, each_mapped, each_still, filter_map}
use Rattle.ns_types.proofs.Lists.{each, each_map, filter_all}
use Rattle.ns_types.proofs.Settling.{settle_same}
use Rattle.ns_types.proofs.Tables.{each_row, less_by}
use Rattle.ns_types.proofs.Tests.{first, second}
use Rattle.ns_laws.specs.Reads as law
use Rattle.ns_laws.specs.Reads.{ShowsOf, ShowsOne, ShowsRow, ShowsRows, Rises}
use Rattle.ns_laws.proofs.Effect.Rows.{Does, does_found, does_of, does_lift, after_does}
use Rattle.ns_laws.proofs.Elements.{contains_from, filter_has, map_has, has_row}

-- ---- what a reply shows

module _ (step : Step) (s s' : State) (reply : Reply) (P : Reply → Type 0) where
  abbrev Showing : Content → State → Type 0
  Showing content x = (x ≡ s) × P (reply_of step content s.world)

  pub made_shows : Does Showing (act step s) → after step s ≡ said (Ok reply) s' → P reply
  made_shows h e = after_does step s s' reply (λ r _. P r) e (does_of Showing _
      (λ content x shown. subst (λ w. P (reply_of step content w)) (sym (ap (λ (y : State). settle s.world y.world) shown.0 ∙ settle_same s.world)) shown.1)
      (act step s) h)

module _ (ns : Name) (secret : Option Name) (command : AskCommand) (s s' : State) (reply : Reply) (Shows : Tenant → Content → Type 0) where
  abbrev ShowsIn : Tenant → Content → World → Type 0
  ShowsIn t content x = (x ≡ s.world) × Shows t content

  pub asked_shows : ((t : Tenant) → Does (ShowsIn t) (asked_in ns command s.world t)) → after (Step.Ask ns secret command) s ≡ said (Ok reply) s' →
      ShowsOf ns s reply Shows
  unfolding act ask
  asked_shows h e = made_shows (Step.Ask ns secret command) s s' reply (λ r. ShowsOf ns s r Shows)
      (does_lift _ (with_world s.acl) (ask ns command s.world) (does_found _ (get s.world.tenants ns) (asked_in ns command s.world)
      (λ t is. does_of (ShowsIn t) _ (λ content x shown. (
        ap (with_world s.acl) shown.0,
        record { rows = t; is_there = is; index = ap (option_map (λ t. t.index)) is; shows = shown.1 },
      )) (asked_in ns command s.world t) (h t)))) e

-- ---- one row

module _ {K X Y : Type 0} {R : K → K → Ordering} {m : FinMap R X} {k : K} {key_of : Y → K} {Shows : X → Y → Type 0} {content_of : Y → Content} where
  -- what is shown of the row that the table has at the key is shown with that key
  pub shows_one : (x : X) (y : Y) → get m k ≡ Some x → key_of y ≡ k → Shows x y → ShowsOne m k key_of Shows content_of (content_of y)
  shows_one x y at key shows = record { shown = y; answered = refl; row = x; is_row = at; at_key = key; shows = shows }

-- ---- lists of rows

module _ {K X : Type 0} (R : K → K → Ordering) where
  each_above : (k : K) (es : List (K × X)) → T (below_all R k es) → Each (λ e. R k e.0 ≡ Less) es
  each_above k [] h = tt
  each_above k (e ∷ es) h = (less_by _ (first _ _ h), each_above k es (second _ _ h))

  entries_rise : (es : List (K × X)) → T (is_sorted R es) → Rises R (λ (e : K × X). e.0) es
  entries_rise [] h = tt
  entries_rise (e ∷ es) h = (each_above e.0 es (first _ _ h), entries_rise es (second _ _ h))

module _ {K Y : Type 0} (R : K → K → Ordering) (key_of : Y → K) where
  kept_rise : (p : Y → Bool) (ys : List Y) → Rises R key_of ys → Rises R key_of (filter p ys)
  kept_rise p [] h = tt
  kept_rise p (y ∷ ys) h = by (p y) (kept_rise p ys h.1)
    where
      by : (b : Bool) → Rises R key_of (filter p ys) → Rises R key_of (cond b (y ∷ filter p ys) (filter p ys))
      by true rest = (each_still _ p ys h.0, rest)
      by false rest = rest

  mapped_rise : {X : Type 0} (f : X → Y) (xs : List X) → Rises R (λ x. key_of (f x)) xs → Rises R key_of (map f xs)
  mapped_rise f [] h = tt
  mapped_rise f (x ∷ xs) h = (each_mapped (λ z. R (key_of (f x)) (key_of z) ≡ Less) f xs h.0, mapped_rise f xs h.1)

module _ {K X Y : Type 0} {R : K → K → Ordering} (o : IsTotalOrder R) (same : IsAntisymmetric R) (m : FinMap R X) (p : K × X → Bool) (f : K × X → Y)
    (Passes : K → X → Type 0) (key_of : Y → K) (Shows : X → Y → Type 0) where
  abbrev listed : List Y
  listed = map f (filter p (entries m))

  pub shows_rows : (content_of : List Y → Content) → ((k : K) (x : X) → key_of (f (k, x)) ≡ k) → ((k : K) (x : X) → p (k, x) ≡ true → Passes k x) →
      ((k : K) (x : X) → Passes k x → p (k, x) ≡ true) → ((k : K) (x : X) → Shows x (f (k, x))) →
      ShowsRows m Passes key_of Shows content_of (content_of listed)
  shows_rows content_of key to from shows = record {
    shown = listed;
    answered = refl;
    no_other = each_mapped (ShowsRow m Passes key_of Shows) f (filter p (entries m))
        (each_map (λ e h. record {
          row = e.1;
          is_row = ap (get m) (key e.0 e.1) ∙ h.0;
          passes = subst (λ k. Passes k e.1) (sym (key e.0 e.1)) (to e.0 e.1 h.1);
          shows = shows e.0 e.1;
        }) (filter p (entries m)) (each_kept (λ e. get m e.0 ≡ Some e.1) p (entries m) (each_row o same (λ k x. get m k ≡ Some x) m (λ k x at. at))));
    all = λ k x at passes. (
      f (k, x),
      contains_from listed (f (k, x)) (map_has f (filter p (entries m)) (k, x) (filter_has p (entries m) (k, x) (has_row same m k x at) (from k x passes))),
      key k x,
    );
    in_order = mapped_rise R key_of f (filter p (entries m)) (kept_rise R (λ e. key_of (f e)) p (entries m)
        (subst (λ g. Rises R g (entries m)) (λ i e. sym (key e.0 e.1) i) (entries_rise R (entries m) (entries_sorted m))));
  }

module _ {K X Y : Type 0} {R : K → K → Ordering} (o : IsTotalOrder R) (same : IsAntisymmetric R) (m : FinMap R X) (f : K × X → Y)
    (key_of : Y → K) (Shows : X → Y → Type 0) where
  -- all rows are listed
  pub shows_all : (content_of : List Y → Content) → ((k : K) (x : X) → key_of (f (k, x)) ≡ k) → ((k : K) (x : X) → Shows x (f (k, x))) →
      ShowsRows m law.All key_of Shows content_of (content_of (map f (entries m)))
  shows_all content_of key shows = subst (λ es. ShowsRows m law.All key_of Shows content_of (content_of (map f es)))
      (filter_all (λ _. true) (entries m) (each (λ _. true ≡ true) (λ _. refl) (entries m)))
      (shows_rows o same m (λ _. true) f law.All key_of Shows content_of key (λ k x _. tt) (λ k x _. refl) shows)

  -- those rows are listed that pass as they are shown
  pub shows_passing : (passes : Y → Bool) (Passes : K → X → Type 0) (content_of : List Y → Content) → ((k : K) (x : X) → key_of (f (k, x)) ≡ k) →
      ((k : K) (x : X) → passes (f (k, x)) ≡ true → Passes k x) → ((k : K) (x : X) → Passes k x → passes (f (k, x)) ≡ true) →
      ((k : K) (x : X) → Shows x (f (k, x))) → ShowsRows m Passes key_of Shows content_of (content_of (filter passes (map f (entries m))))
  shows_passing passes Passes content_of key to from shows = subst (λ ys. ShowsRows m Passes key_of Shows content_of (content_of ys))
      (sym (filter_map passes f (entries m))) (shows_rows o same m (λ e. passes (f e)) f Passes key_of Shows content_of key to from shows)
