-- What is kept stays so.
use Rattle.std.proofs.Common.{◌≡◌, ℕ, List, Bool, true, false, cond, not, Option, Some, None, refl, sym, ap, subst, ◌∙◌}
use Rattle.std.specs.Prelude.{◌||◌, ◌&&◌, is_some, option_map, Result, Ok, Err, OnOk, OnErr}
use Rattle.std.specs.Option.{option_flatten}
use Rattle.std.specs.Map.{lookup}
use Rattle.std.specs.Ordering.{is_eq}
use Rattle.std.specs.BTreeMap.{is_at}
use Rattle.std.proofs.lemmas.Bool.{or_left, or_right}
use Rattle.std.proofs.lemmas.Cmp.{tied_itself}
use Rattle.fib_addr.specs.declared.addr.Addr.{Addr}
use Rattle.fib_addr.specs.declared.prefix.Prefix as code
use Rattle.fib_prefix.specs.declared.event.Via.{Via}
use Rattle.fib_prefix.specs.Views.{elem_as}
use Rattle.fib_prefix.specs.declared.event.Elem.{Elem}
use Rattle.fib_prefix.specs.declared.event.Elem.TheVariants as elem
use Rattle.route_model.specs.Events as model
use Rattle.adj_rib_in.specs.declared.keys.PathKey.{PathKey}
use Rattle.adj_rib_in.specs.declared.keys.Rank.{Rank}
use Rattle.adj_rib_in.specs.declared.keys.PathAttrs.{PathAttrs}
use Rattle.adj_rib_in.specs.Orders.{key_cmp, rank_cmp}
use Rattle.adj_rib_in.specs.Paths.{Paths, flat, attrs_at, rank_at, key_of}
use Rattle.route_choice.specs.Paths.{has_rank, has_key, IsIndexed, OfferHasRoom, key_in, attrs_in}
use Rattle.route_choice.specs.Walks.{attrs_with_path, attrs_ranked}
use Rattle.route_choice.specs.Kept.{PathsAreKept, EachKeyServes, EachRankServes, holds_key, holds_rank}
use Rattle.adj_rib_in.proofs.Orders.{key_total, rank_total, key_tied}
use Rattle.adj_rib_in.proofs.Views.{flips, lookup_by_test}
use Rattle.route_choice.proofs.Best.{same_attrs, same_rank, with_path_parts}
use Rattle.adj_rib_in.proofs.Orders.{is_equal}
use Rattle.route_choice.proofs.Rooms.{any_by_test, own_rank, same_offers, same_put, same_ranks, more_ranks, indexed_put, indexed_cut, indexed_after}

weaker : (a b c : Bool) → (b ≡ true → c ≡ true) → (a || b) ≡ true → (a || c) ≡ true
weaker true b c f h = refl
weaker false b c f h = f h

-- ---- what orders don't tell apart is alike

alike_ranks : (ranks : List Rank) (q r : Rank) → is_eq (rank_cmp q r) ≡ true → has_rank ranks q ≡ has_rank ranks r
alike_ranks ranks q r e = any_by_test (is_at (rank_cmp q)) (is_at (rank_cmp r)) ranks (λ u. ap is_eq (rank_total.congr q r u (is_equal (rank_cmp q r) e)))

alike_paths : (paths : Paths) (s t : PathKey) → is_eq (key_cmp s t) ≡ true → has_key paths s ≡ has_key paths t
alike_paths paths s t e = ap is_some (lookup_by_test (is_at (key_cmp s)) (is_at (key_cmp t)) paths (λ u. ap is_eq (key_total.congr s t u (is_equal (key_cmp s t) e))))

alike_offers : (paths : Paths) (s t : PathKey) → is_eq (key_cmp s t) ≡ true → attrs_at paths s ≡ attrs_at paths t
alike_offers paths s t e = sym (same_attrs paths s t (is_equal (key_cmp s t) e))

key_of_rank : (q r : Rank) → is_eq (rank_cmp q r) ≡ true → is_eq (key_cmp (key_of q) (key_of r)) ≡ true
key_of_rank q r e =
    let f = same_rank q r e in
    ap is_eq (key_tied (key_of q) (key_of r) f.prefix f.via)

alike_ranked : (paths : Paths) (q r : Rank) → is_eq (rank_cmp q r) ≡ true → attrs_ranked paths q ≡ attrs_ranked paths r
alike_ranked paths q r e =
    ap (attrs_with_path q.path) (alike_offers paths (key_of q) (key_of r) (key_of_rank q r e)) ∙ ap (λ n. attrs_with_path n (attrs_at paths (key_of r))) (same_rank q r e).path

held_alike_rank : (plan : Option Elem) (q r : Rank) → is_eq (rank_cmp q r) ≡ true → holds_rank plan q ≡ true → holds_rank plan r ≡ true
held_alike_rank None q r e h = h
held_alike_rank (Some (elem.Cut p x)) q r e h = h
held_alike_rank (Some (elem.Put p x path hop)) q r e h = ap is_eq (rank_total.congr (record { prefix = x; path = path; via = p }) q r (is_equal _ h)) ∙ e

held_alike_key : (plan : Option Elem) (s t : PathKey) → is_eq (key_cmp s t) ≡ true → holds_key plan s ≡ true → holds_key plan t ≡ true
held_alike_key None s t e h = h
held_alike_key (Some (elem.Cut p x)) s t e h = h
held_alike_key (Some (elem.Put p x path hop)) s t e h = ap is_eq (key_total.congr (record { via = p; prefix = x }) s t (is_equal _ h)) ∙ e

-- ---- a plan as clauses see it

kept_put : (paths : Paths) (ranks : List Rank) (e f : Elem) → elem_as e ≡ elem_as f → PathsAreKept paths ranks None (Some e) → PathsAreKept paths ranks None (Some f)
kept_put paths ranks (elem.Cut q p) (elem.Cut r o) e k = record { indexed = k.indexed; room = tt; paths_serve = k.paths_serve; ranks_serve = k.ranks_serve }
kept_put paths ranks (elem.Cut q p) (elem.Put r o way next) e k = absurd cc
kept_put paths ranks (elem.Put q p path hop) (elem.Cut r o) e k = absurd cc
kept_put paths ranks (elem.Put q p path hop) (elem.Put r o way next) e k =
    let same = same_put q r p o path way hop next e in
    let s : PathKey = record { via = q; prefix = p } in
    let t : PathKey = record { via = r; prefix = o } in
    let a : Rank = record { prefix = p; path = path; via = q } in
    let b : Rank = record { prefix = o; path = way; via = r } in
    record {
      indexed = k.indexed;
      room = (sym (alike_paths paths s t (ap is_eq same.0)) ∙ k.room.0, sym (alike_ranks ranks a b (ap is_eq same.1)) ∙ k.room.1);
      paths_serve = λ u h. ap (λ c. is_some (attrs_at paths u) || is_eq c) (sym (key_total.congr s t u same.0)) ∙ k.paths_serve u h;
      ranks_serve = λ u h. ap (λ c. is_some (attrs_ranked paths u) || is_eq c) (sym (rank_total.congr a b u same.1)) ∙ k.ranks_serve u h;
    }

pub kept_as : (paths : Paths) (ranks : List Rank) (plan : Option Elem) (e : Elem) → PathsAreKept paths ranks None plan → option_map elem_as plan ≡ Some (elem_as e) → PathsAreKept paths ranks None (Some e)
kept_as paths ranks None e k i = absurd cc
kept_as paths ranks (Some f) e k i = kept_put paths ranks f e (same_elem (elem_as f) (elem_as e) i) k
  where
    same_elem : (v w : model.Elem) → Some v ≡ Some w → v ≡ w
    same_elem v w j = cc

-- ---- what is removed

pub pruned_serve : (paths : Paths) (old new : List Rank) (r : Rank) → ((q : Rank) → has_rank new q ≡ cond (is_eq (rank_cmp r q)) false (has_rank old q)) → (held : Rank → Bool) → EachRankServes paths old (λ q. is_eq (rank_cmp r q) || held q) → EachRankServes paths new held
pruned_serve paths old new r h held k = λ q t. by_test q (is_eq (rank_cmp r q)) refl (sym (h q) ∙ t)
  where
    by_test : (q : Rank) (b : Bool) → is_eq (rank_cmp r q) ≡ b → cond b false (has_rank old q) ≡ true → (is_some (attrs_ranked paths q) || held q) ≡ true
    by_test q true e t = absurd cc
    by_test q false e t = weaker (is_some (attrs_ranked paths q)) (is_eq (rank_cmp r q) || held q) (held q) (λ i. ap (λ b. b || held q) (sym e) ∙ i) (k q t)

pub offered_serve : (paths : Paths) (ranks : List Rank) (r : Rank) (o : Option PathAttrs) (b : Bool) → o ≡ attrs_ranked paths r → is_some o ≡ not b → b ≡ false → (held : Rank → Bool) → EachRankServes paths ranks (λ q. is_eq (rank_cmp r q) || held q) → EachRankServes paths ranks held
offered_serve paths ranks r o b e n u held k = λ q t. by_test q (is_eq (rank_cmp r q)) refl (k q t)
  where
    by_test : (q : Rank) (d : Bool) → is_eq (rank_cmp r q) ≡ d → (is_some (attrs_ranked paths q) || (d || held q)) ≡ true → (is_some (attrs_ranked paths q) || held q) ≡ true
    by_test q true f t = or_left (is_some (attrs_ranked paths q)) (held q) (ap is_some (sym (alike_ranked paths r q f) ∙ sym e) ∙ (n ∙ ap not u))
    by_test q false f t = t

pub pruned_paths : (old new : Paths) (s : PathKey) → ((q : PathKey) → lookup (is_at (key_cmp q)) new ≡ cond (is_eq (key_cmp s q)) None (lookup (is_at (key_cmp q)) old)) → ((q : PathKey) → attrs_at new q ≡ attrs_at old q) → (held : PathKey → Bool) → EachKeyServes old (λ q. is_eq (key_cmp s q) || held q) → EachKeyServes new held
pruned_paths old new s h same held k = λ q t. ap (λ o. is_some o || held q) (same q) ∙ by_test q (is_eq (key_cmp s q)) refl (ap is_some (sym (h q)) ∙ t)
  where
    by_test : (q : PathKey) (b : Bool) → is_eq (key_cmp s q) ≡ b → is_some (cond b None (lookup (is_at (key_cmp q)) old)) ≡ true → (is_some (attrs_at old q) || held q) ≡ true
    by_test q true e t = absurd cc
    by_test q false e t = weaker (is_some (attrs_at old q)) (is_eq (key_cmp s q) || held q) (held q) (λ i. ap (λ b. b || held q) (sym e) ∙ i) (k q t)

pub offered_paths : (paths : Paths) (s : PathKey) (o : Option PathAttrs) (b : Bool) → o ≡ attrs_at paths s → is_some o ≡ not b → b ≡ false → (held : PathKey → Bool) → EachKeyServes paths (λ q. is_eq (key_cmp s q) || held q) → EachKeyServes paths held
offered_paths paths s o b e n u held k = λ q t. by_test q (is_eq (key_cmp s q)) refl (k q t)
  where
    by_test : (q : PathKey) (d : Bool) → is_eq (key_cmp s q) ≡ d → (is_some (attrs_at paths q) || (d || held q)) ≡ true → (is_some (attrs_at paths q) || held q) ≡ true
    by_test q true f t = or_left (is_some (attrs_at paths q)) (held q) (ap is_some (sym (alike_offers paths s q f) ∙ sym e) ∙ (n ∙ ap not u))
    by_test q false f t = t

pub other_ranks : (old new : List Rank) (r : Rank) → ((q : Rank) → has_rank new q ≡ cond (is_eq (rank_cmp r q)) false (has_rank old q)) → (q : Rank) → is_eq (rank_cmp r q) ≡ false → has_rank new q ≡ has_rank old q
other_ranks old new r h q e = h q ∙ ap (λ b. cond b false (has_rank old q)) e

pub other_paths : (old new : Paths) (s : PathKey) → ((q : PathKey) → lookup (is_at (key_cmp q)) new ≡ cond (is_eq (key_cmp s q)) None (lookup (is_at (key_cmp q)) old)) → (q : PathKey) → is_eq (key_cmp s q) ≡ false → has_key new q ≡ has_key old q
other_paths old new s h q e = ap is_some (h q) ∙ ap (λ b. is_some (cond b None (lookup (is_at (key_cmp q)) old))) e

-- ---- the room of a plan

pub rank_room : (paths : Paths) (old new : List Rank) (r : Rank) (plan : Option Elem) → holds_rank plan r ≡ false → ((q : Rank) → is_eq (rank_cmp r q) ≡ false → has_rank new q ≡ has_rank old q) → OfferHasRoom paths old plan → OfferHasRoom paths new plan
rank_room paths old new r None n h k = tt
rank_room paths old new r (Some (elem.Cut q p)) n h k = tt
rank_room paths old new r (Some (elem.Put q p path hop)) n h k = (k.0, h own (flips rank_total r own ∙ n) ∙ k.1)
  where
    own : Rank
    own = record { prefix = p; path = path; via = q }

pub key_room : (old new : Paths) (s : PathKey) (plan : Option Elem) → holds_key plan s ≡ false → ((q : PathKey) → is_eq (key_cmp s q) ≡ false → has_key new q ≡ has_key old q) → (ranks : List Rank) → OfferHasRoom old ranks plan → OfferHasRoom new ranks plan
key_room old new s None n h ranks k = tt
key_room old new s (Some (elem.Cut q p)) n h ranks k = tt
key_room old new s (Some (elem.Put q p path hop)) n h ranks k = (h own (flips key_total s own ∙ n) ∙ k.0, k.1)
  where
    own : PathKey
    own = record { via = q; prefix = p }

-- what is held for the plan needn't be held for an earlier one
pub held_rank : (paths : Paths) (ranks : List Rank) (r : Rank) (plan : Option Elem) → holds_rank plan r ≡ true → EachRankServes paths ranks (λ q. is_eq (rank_cmp r q) || holds_rank plan q) → EachRankServes paths ranks (holds_rank plan)
held_rank paths ranks r plan h k = λ q t. weaker (is_some (attrs_ranked paths q)) (is_eq (rank_cmp r q) || holds_rank plan q) (holds_rank plan q) (by_test q (is_eq (rank_cmp r q)) refl) (k q t)
  where
    by_test : (q : Rank) (b : Bool) → is_eq (rank_cmp r q) ≡ b → (is_eq (rank_cmp r q) || holds_rank plan q) ≡ true → holds_rank plan q ≡ true
    by_test q true e t = held_alike_rank plan r q e h
    by_test q false e t = ap (λ b. b || holds_rank plan q) (sym e) ∙ t

pub held_key : (paths : Paths) (s : PathKey) (plan : Option Elem) → holds_key plan s ≡ true → EachKeyServes paths (λ q. is_eq (key_cmp s q) || holds_key plan q) → EachKeyServes paths (holds_key plan)
held_key paths s plan h k = λ q t. weaker (is_some (attrs_at paths q)) (is_eq (key_cmp s q) || holds_key plan q) (holds_key plan q) (by_test q (is_eq (key_cmp s q)) refl) (k q t)
  where
    by_test : (q : PathKey) (b : Bool) → is_eq (key_cmp s q) ≡ b → (is_eq (key_cmp s q) || holds_key plan q) ≡ true → holds_key plan q ≡ true
    by_test q true e t = held_alike_key plan s q e h
    by_test q false e t = ap (λ b. b || holds_key plan q) (sym e) ∙ t

-- ranks that serve do so where the offers are the same
same_serve : (old new : Paths) (ranks : List Rank) (held : Rank → Bool) → ((s : PathKey) → attrs_at new s ≡ attrs_at old s) → EachRankServes old ranks held → EachRankServes new ranks held
same_serve old new ranks held h k = λ r t. ap (λ o. is_some (attrs_with_path r.path o) || held r) (h (key_of r)) ∙ k r t

-- the room of an earlier plan is given back
pub gave_back : (old new : Paths) (before after : List Rank) (here : PathKey) (r : Rank) (q : Via) (p : code.Prefix) (path : ℕ) (hop : Addr) (earlier plan : Option Elem) → earlier ≡ Some (elem.Put q p path hop) → here ≡ record { via = q; prefix = p } → r ≡ rank_at here path
    → (IsIndexed old before → IsIndexed old after) → (EachRankServes old before (λ t. is_eq (rank_cmp r t) || holds_rank plan t) → EachRankServes old after (holds_rank plan)) → (OfferHasRoom old before plan → OfferHasRoom old after plan)
    → ((s : PathKey) → attrs_at new s ≡ attrs_at old s) → (EachKeyServes old (λ s. is_eq (key_cmp here s) || holds_key plan s) → EachKeyServes new (holds_key plan)) → ((ranks : List Rank) → OfferHasRoom old ranks plan → OfferHasRoom new ranks plan)
    → PathsAreKept old before earlier plan → PathsAreKept new after None plan
gave_back old new before after here r q p path hop earlier plan is e f i rs rr o ss sr k = record {
  indexed = same_offers old new after o (i k.indexed);
  room = sr after (rr k.room);
  paths_serve = ss (λ s t. ap (λ x. is_some (attrs_at old s) || (is_eq (key_cmp x s) || holds_key plan s)) e ∙ (ap (λ x. is_some (attrs_at old s) || (holds_key x s || holds_key plan s)) (sym is) ∙ k.paths_serve s t));
  ranks_serve = same_serve old new after (holds_rank plan) o (rs (λ t u. ap (λ x. is_some (attrs_ranked old t) || (is_eq (rank_cmp x t) || holds_rank plan t)) (f ∙ ap (λ x. rank_at x path) e) ∙ (ap (λ x. is_some (attrs_ranked old t) || (holds_rank x t || holds_rank plan t)) (sym is) ∙ k.ranks_serve t u)));
}

-- ---- room that is made

pub taken_back : (old more new : List Rank) (r : Rank) (is_new : Bool) → is_new ≡ not (has_rank old r) → ((q : Rank) → has_rank more q ≡ cond (is_eq (rank_cmp r q)) true (has_rank old q)) → ((q : Rank) → has_rank new q ≡ cond (is_new && is_eq (rank_cmp r q)) false (has_rank more q)) → (q : Rank) → has_rank new q ≡ has_rank old q
taken_back old more new r is_new n h g q = g q ∙ (ap (cond (is_new && is_eq (rank_cmp r q)) false) (h q) ∙ by_test is_new (has_rank old r) n refl (is_eq (rank_cmp r q)) refl)
  where
    by_test : (a b : Bool) → a ≡ not b → has_rank old r ≡ b → (d : Bool) → is_eq (rank_cmp r q) ≡ d → cond (a && d) false (cond d true (has_rank old q)) ≡ has_rank old q
    by_test true true m e d f = absurd cc
    by_test true false m e true f = sym e ∙ alike_ranks old r q f
    by_test true false m e false f = refl
    by_test false true m e true f = sym e ∙ alike_ranks old r q f
    by_test false true m e false f = refl
    by_test false false m e d f = absurd cc

pub key_added : (old new : Paths) (s : PathKey) (o : Option PathAttrs) → ((q : PathKey) → lookup (is_at (key_cmp q)) new ≡ cond (is_eq (key_cmp s q)) (Some o) (lookup (is_at (key_cmp q)) old)) → (q : PathKey) → has_key new q ≡ cond (is_eq (key_cmp s q)) true (has_key old q)
key_added old new s o h q = ap is_some (h q) ∙ by_test (is_eq (key_cmp s q))
  where
    by_test : (b : Bool) → is_some (cond b (Some o) (lookup (is_at (key_cmp q)) old)) ≡ cond b true (has_key old q)
    by_test true = refl
    by_test false = refl

pub key_removed : (old new : Paths) (s : PathKey) → ((q : PathKey) → lookup (is_at (key_cmp q)) new ≡ cond (is_eq (key_cmp s q)) None (lookup (is_at (key_cmp q)) old)) → (q : PathKey) → has_key new q ≡ cond (is_eq (key_cmp s q)) false (has_key old q)
key_removed old new s h q = ap is_some (h q) ∙ by_test (is_eq (key_cmp s q))
  where
    by_test : (b : Bool) → is_some (cond b None (lookup (is_at (key_cmp q)) old)) ≡ cond b false (has_key old q)
    by_test true = refl
    by_test false = refl

pub key_there : (paths : Paths) (s : PathKey) → has_key paths s ≡ true → (q : PathKey) → has_key paths q ≡ cond (is_eq (key_cmp s q)) true (has_key paths q)
key_there paths s e q = by_test (is_eq (key_cmp s q)) refl
  where
    by_test : (b : Bool) → is_eq (key_cmp s q) ≡ b → has_key paths q ≡ cond b true (has_key paths q)
    by_test true f = sym (alike_paths paths s q f) ∙ e
    by_test false f = refl

pub kept_ranks : (paths after : Paths) (old new : List Rank) (earlier plan : Option Elem) → after ≡ paths → ((r : Rank) → has_rank new r ≡ has_rank old r) → PathsAreKept paths old earlier plan → PathsAreKept after new earlier plan
kept_ranks paths after old new earlier plan same h k = record {
  indexed = λ s attrs f. h (rank_at s attrs.path) ∙ k.indexed s attrs (ap (λ x. attrs_at x s) (sym same) ∙ f);
  room = by_plan plan k.room;
  paths_serve = λ s t. ap (λ x. is_some (attrs_at x s) || (holds_key earlier s || holds_key plan s)) same ∙ k.paths_serve s (ap (λ x. has_key x s) (sym same) ∙ t);
  ranks_serve = λ r t. ap (λ x. is_some (attrs_ranked x r) || (holds_rank earlier r || holds_rank plan r)) same ∙ k.ranks_serve r (sym (h r) ∙ t);
}
  where
    by_plan : (plan : Option Elem) → OfferHasRoom paths old plan → OfferHasRoom after new plan
    by_plan None k = tt
    by_plan (Some (elem.Cut q p)) k = tt
    by_plan (Some (elem.Put q p path hop)) k = (ap (λ x. has_key x (record { via = q; prefix = p })) same ∙ k.0, h (record { prefix = p; path = path; via = q }) ∙ k.1)

pub made_room : (old new : Paths) (before after : List Rank) (here : PathKey) (r : Rank) (q : Via) (p : code.Prefix) (path : ℕ) (hop : Addr) → here ≡ record { via = q; prefix = p } → r ≡ rank_at here path → ((s : PathKey) → attrs_at new s ≡ attrs_at old s) → ((s : PathKey) → has_key new s ≡ cond (is_eq (key_cmp here s)) true (has_key old s))
    → ((t : Rank) → has_rank after t ≡ cond (is_eq (rank_cmp r t)) true (has_rank before t)) → (e : Elem) → e ≡ elem.Put q p path hop → (plan : Option Elem) → PathsAreKept old before None plan → PathsAreKept new after plan (Some e)
made_room old new before after here r q p path hop e f o hs hr x is plan k = subst (λ (y : Elem). PathsAreKept new after plan (Some y)) (sym is) (record {
  indexed = same_offers old new after o (more_ranks old before after r hr k.indexed);
  room = (
    hs own ∙ ap (λ b. cond b true (has_key old own)) (ap (λ x. is_eq (key_cmp x own)) e ∙ ap is_eq (tied_itself key_total own)),
    hr top ∙ ap (λ b. cond b true (has_rank before top)) (ap (λ x. is_eq (rank_cmp x top)) is_top ∙ ap is_eq (tied_itself rank_total top)),
  );
  paths_serve = λ s t. by_key s (is_eq (key_cmp here s)) refl (sym (hs s) ∙ t);
  ranks_serve = λ t u. by_rank t (is_eq (rank_cmp r t)) refl (sym (hr t) ∙ u);
})
  where
    own : PathKey
    own = record { via = q; prefix = p }

    top : Rank
    top = record { prefix = p; path = path; via = q }

    is_top : r ≡ top
    is_top = f ∙ ap (λ x. rank_at x path) e

    by_key : (s : PathKey) (b : Bool) → is_eq (key_cmp here s) ≡ b → cond b true (has_key old s) ≡ true → (is_some (attrs_at new s) || (holds_key plan s || is_eq (key_cmp own s))) ≡ true
    by_key s true g t = or_right (is_some (attrs_at new s)) _ (or_right (holds_key plan s) _ (ap (λ x. is_eq (key_cmp x s)) (sym e) ∙ g))
    by_key s false g t = weaker (is_some (attrs_at new s)) (holds_key plan s) _ (λ i. or_left (holds_key plan s) _ i) (ap (λ x. is_some x || holds_key plan s) (o s) ∙ k.paths_serve s t)

    by_rank : (t : Rank) (b : Bool) → is_eq (rank_cmp r t) ≡ b → cond b true (has_rank before t) ≡ true → (is_some (attrs_ranked new t) || (holds_rank plan t || is_eq (rank_cmp top t))) ≡ true
    by_rank t true g u = or_right (is_some (attrs_ranked new t)) _ (or_right (holds_rank plan t) _ (ap (λ x. is_eq (rank_cmp x t)) (sym is_top) ∙ g))
    by_rank t false g u = weaker (is_some (attrs_ranked new t)) (holds_rank plan t) _ (λ i. or_left (holds_rank plan t) _ i) (ap (λ x. is_some (attrs_with_path t.path x) || holds_rank plan t) (o (key_of t)) ∙ k.ranks_serve t u)

-- ---- offers that come and go

-- the rank of an offer that was there
abbrev pub is_its : PathKey → Option PathAttrs → Rank → Bool
is_its here None r = false
is_its here (Some attrs) r = is_eq (rank_cmp (rank_at here attrs.path) r)

-- after an offer is set, the rank of what was offered before needn't serve
set_serve : (old new : Paths) (ranks : List Rank) (here : PathKey) (was now : Option PathAttrs) (held : Rank → Bool) → was ≡ attrs_at old here → ((s : PathKey) → attrs_at new s ≡ cond (is_eq (key_cmp here s)) now (attrs_at old s)) → EachRankServes old ranks held → EachRankServes new ranks (λ r. is_its here was r || held r)
set_serve old new ranks here was now held e h k = λ r t. by_test r (is_eq (key_cmp here (key_of r))) refl (attrs_ranked old r) refl (k r t)
  where
    its : (r : Rank) (o : Option PathAttrs) (attrs : PathAttrs) → o ≡ was → is_eq (key_cmp here (key_of r)) ≡ true → attrs_with_path r.path o ≡ Some attrs → is_its here was r ≡ true
    its r None attrs f g w = absurd cc
    its r (Some x) attrs f g w =
        let path : x.path ≡ r.path = path_of x w in
        ap (λ y. is_its here y r) (sym f) ∙ own x path
      where
        path_of : (x : PathAttrs) → attrs_with_path r.path (Some x) ≡ Some attrs → x.path ≡ r.path
        path_of x w = let y = with_path_parts r.path (Some x) attrs w in ap (λ (z : PathAttrs). z.path) (same_value x attrs y.0) ∙ y.1
          where
            same_value : (v u : PathAttrs) → Some v ≡ Some u → v ≡ u
            same_value v u i = cc

        own : (x : PathAttrs) → x.path ≡ r.path → is_eq (rank_cmp (rank_at here x.path) r) ≡ true
        own x p = ap (λ n. is_eq (rank_cmp (rank_at here n) r)) p ∙ ap is_eq (same_ranks here (key_of r) r.path (is_equal _ g))

    by_test : (r : Rank) (b : Bool) → is_eq (key_cmp here (key_of r)) ≡ b → (o : Option PathAttrs) → attrs_ranked old r ≡ o → (is_some o || held r) ≡ true → (is_some (attrs_ranked new r) || (is_its here was r || held r)) ≡ true
    by_test r true g (Some attrs) f t = or_right (is_some (attrs_ranked new r)) _ (or_left (is_its here was r) (held r) (its r (attrs_at old (key_of r)) attrs (sym (alike_offers old here (key_of r) g) ∙ sym e) g f))
    by_test r false g (Some attrs) f t = or_left (is_some (attrs_ranked new r)) _ (ap (λ o. is_some (attrs_with_path r.path o)) (h (key_of r) ∙ ap (λ b. cond b now (attrs_at old (key_of r))) g) ∙ ap is_some f)
    by_test r b g None f t = or_right (is_some (attrs_ranked new r)) _ (or_right (is_its here was r) (held r) t)

-- the rank of what was offered before is pruned
pub its_pruned : (paths : Paths) (more after : List Rank) (here : PathKey) (was : Option PathAttrs) (attrs : PathAttrs) (path : ℕ) (r : Rank) → was ≡ Some attrs → path ≡ attrs.path → r ≡ rank_at here path → ((held : Rank → Bool) → EachRankServes paths more (λ q. is_eq (rank_cmp r q) || held q) → EachRankServes paths after held)
    → (held : Rank → Bool) → EachRankServes paths more (λ q. is_its here was q || held q) → EachRankServes paths after held
its_pruned paths more after here was attrs path r w p e f held k =
    f held (λ q t. ap (λ x. is_some (attrs_ranked paths q) || (is_eq (rank_cmp x q) || held q)) (e ∙ ap (rank_at here) p) ∙ (ap (λ x. is_some (attrs_ranked paths q) || (is_its here x q || held q)) (sym w) ∙ k q t))

-- or there was none
pub none_pruned : (paths : Paths) (ranks : List Rank) (here : PathKey) (was : Option PathAttrs) → was ≡ None → (held : Rank → Bool) → EachRankServes paths ranks (λ q. is_its here was q || held q) → EachRankServes paths ranks held
none_pruned paths ranks here was w held k = λ q t. ap (λ x. is_some (attrs_ranked paths q) || (is_its here x q || held q)) (sym w) ∙ k q t

-- an offer is put
pub put_kept : (old new : Paths) (before more after : List Rank) (here : PathKey) (attrs : PathAttrs) (path : ℕ) (r : Rank) (was : Option PathAttrs) → was ≡ attrs_at old here → path ≡ attrs.path → r ≡ rank_at here path → ((q : Rank) → has_rank more q ≡ cond (is_eq (rank_cmp r q)) true (has_rank before q))
    → ((s : PathKey) → attrs_at new s ≡ cond (is_eq (key_cmp here s)) (Some attrs) (attrs_at old s)) → ((s : PathKey) → has_key new s ≡ cond (is_eq (key_cmp here s)) true (has_key old s))
    → (IsIndexed new more → IsIndexed new after) → ((held : Rank → Bool) → EachRankServes new more (λ q. is_its here was q || held q) → EachRankServes new after held) → (plan : Option Elem) → PathsAreKept old before None plan → PathsAreKept new after plan None
put_kept old new before more after here attrs path r was e p f hr o hs i rs plan k = record {
  indexed = i (indexed_put old new before more here attrs path r p f hr o k.indexed);
  room = tt;
  paths_serve = λ s t. by_key s (is_eq (key_cmp here s)) refl (sym (hs s) ∙ t);
  ranks_serve = rs (λ q. holds_rank plan q || false) (λ q t. by_rank q (is_eq (rank_cmp r q)) refl (sym (hr q) ∙ t));
}
  where
    by_key : (s : PathKey) (b : Bool) → is_eq (key_cmp here s) ≡ b → cond b true (has_key old s) ≡ true → (is_some (attrs_at new s) || (holds_key plan s || false)) ≡ true
    by_key s true g t = or_left (is_some (attrs_at new s)) _ (ap is_some (o s ∙ ap (λ b. cond b (Some attrs) (attrs_at old s)) g))
    by_key s false g t = ap (λ x. is_some x || (holds_key plan s || false)) (o s ∙ ap (λ b. cond b (Some attrs) (attrs_at old s)) g) ∙ weaker (is_some (attrs_at old s)) (holds_key plan s) _ (λ j. or_left (holds_key plan s) _ j) (k.paths_serve s t)

    is_own : r ≡ rank_at here attrs.path
    is_own = f ∙ ap (rank_at here) p

    by_rank : (q : Rank) (b : Bool) → is_eq (rank_cmp r q) ≡ b → cond b true (has_rank before q) ≡ true → (is_some (attrs_ranked new q) || (is_its here was q || (holds_rank plan q || false))) ≡ true
    by_rank q true g t =
        or_left (is_some (attrs_ranked new q)) _
        (ap is_some (own_rank new q here attrs (flips rank_total q (rank_at here attrs.path) ∙ (ap (λ x. is_eq (rank_cmp x q)) (sym is_own) ∙ g)) (o here ∙ ap (λ b. cond b (Some attrs) (attrs_at old here)) (ap is_eq (tied_itself key_total here)))))
    by_rank q false g t =
        weaker (is_some (attrs_ranked new q)) (is_its here was q || holds_rank plan q) _ (weaker (is_its here was q) (holds_rank plan q) _ (λ j. or_left (holds_rank plan q) _ j)) (set_serve old new before here was (Some attrs) (holds_rank plan) e o k.ranks_serve q t)

-- an offer is cut
pub cut_kept : (old new : Paths) (before after : List Rank) (here : PathKey) (was : Option PathAttrs) → was ≡ attrs_at old here → ((s : PathKey) → attrs_at new s ≡ cond (is_eq (key_cmp here s)) None (attrs_at old s)) → ((s : PathKey) → has_key new s ≡ cond (is_eq (key_cmp here s)) false (has_key old s))
    → (IsIndexed new before → IsIndexed new after) → ((held : Rank → Bool) → EachRankServes new before (λ q. is_its here was q || held q) → EachRankServes new after held) → (plan : Option Elem) → PathsAreKept old before None plan → PathsAreKept new after plan None
cut_kept old new before after here was e o hs i rs plan k = record {
  indexed = i (indexed_cut old new before here o k.indexed);
  room = tt;
  paths_serve = λ s t. by_key s (is_eq (key_cmp here s)) refl (sym (hs s) ∙ t);
  ranks_serve =
      rs (λ q. holds_rank plan q || false) (λ q t.
      weaker (is_some (attrs_ranked new q)) (is_its here was q || holds_rank plan q) _ (weaker (is_its here was q) (holds_rank plan q) _ (λ j. or_left (holds_rank plan q) _ j)) (set_serve old new before here was None (holds_rank plan) e o k.ranks_serve q t));
}
  where
    by_key : (s : PathKey) (b : Bool) → is_eq (key_cmp here s) ≡ b → cond b false (has_key old s) ≡ true → (is_some (attrs_at new s) || (holds_key plan s || false)) ≡ true
    by_key s true g t = absurd cc
    by_key s false g t = ap (λ x. is_some x || (holds_key plan s || false)) (o s ∙ ap (λ b. cond b None (attrs_at old s)) g) ∙ weaker (is_some (attrs_at old s)) (holds_key plan s) _ (λ j. or_left (holds_key plan s) _ j) (k.paths_serve s t)

-- what was planned is carried out
pub carried_kept : (old new : Paths) (before after : List Rank) (e : Elem) (was : Option PathAttrs) → was ≡ attrs_at old (key_in e) → ((s : PathKey) → attrs_at new s ≡ cond (is_eq (key_cmp (key_in e) s)) (attrs_in e) (attrs_at old s)) → ((s : PathKey) → has_key new s ≡ cond (is_eq (key_cmp (key_in e) s)) (is_some (attrs_in e)) (has_key old s))
    → (IsIndexed new before → IsIndexed new after) → ((held : Rank → Bool) → EachRankServes new before (λ q. is_its (key_in e) was q || held q) → EachRankServes new after held) → PathsAreKept old before None (Some e) → PathsAreKept new after None None
carried_kept old new before after e was w o hs i rs k = record {
  indexed = i (indexed_after old new before e k.room o k.indexed);
  room = tt;
  paths_serve = λ s t. by_key s (is_eq (key_cmp (key_in e) s)) refl (sym (hs s) ∙ t);
  ranks_serve =
      rs (λ q. false) (λ q t. by_rank q (is_its (key_in e) was q) (holds_rank (Some e) q) refl (set_serve old new before (key_in e) was (attrs_in e) (holds_rank (Some e)) w o k.ranks_serve q t));
}
  where
    not_held : (e : Elem) (s : PathKey) → is_eq (key_cmp (key_in e) s) ≡ false → holds_key (Some e) s ≡ true → ⊥
    not_held (elem.Put q p path hop) s g h = absurd cc
    not_held (elem.Cut q p) s g h = absurd cc

    by_key : (s : PathKey) (b : Bool) → is_eq (key_cmp (key_in e) s) ≡ b → cond b (is_some (attrs_in e)) (has_key old s) ≡ true → (is_some (attrs_at new s) || false) ≡ true
    by_key s true g t = or_left (is_some (attrs_at new s)) false (ap is_some (o s ∙ ap (λ b. cond b (attrs_in e) (attrs_at old s)) g) ∙ t)
    by_key s false g t =
        ap (λ x. is_some x || false) (o s ∙ ap (λ b. cond b (attrs_in e) (attrs_at old s)) g) ∙ weaker (is_some (attrs_at old s)) (holds_key (Some e) s) false (λ h. absurd (not_held e s g h)) (k.paths_serve s t)

    planned : (e : Elem) (q : Rank) → ((s : PathKey) → attrs_at new s ≡ cond (is_eq (key_cmp (key_in e) s)) (attrs_in e) (attrs_at old s)) → holds_rank (Some e) q ≡ true → is_some (attrs_ranked new q) ≡ true
    planned (elem.Cut p x) q o h = absurd cc
    planned (elem.Put p x path hop) q o h =
        let here : PathKey = record { via = p; prefix = x } in
        let attrs : PathAttrs = record { path = path; hop = hop } in
        ap is_some (own_rank new q here attrs (flips rank_total q (rank_at here path) ∙ h) (o here ∙ ap (λ b. cond b (Some attrs) (attrs_at old here)) (ap is_eq (tied_itself key_total here))))

    by_rank : (q : Rank) (a b : Bool) → holds_rank (Some e) q ≡ b → (is_some (attrs_ranked new q) || (a || b)) ≡ true → (is_some (attrs_ranked new q) || (a || false)) ≡ true
    by_rank q a true h t = or_left (is_some (attrs_ranked new q)) _ (planned e q o h)
    by_rank q a false h t = t

-- ---- the path key of an offer that is set

pub attrs_there : (old new : Paths) (s : PathKey) (o : Option PathAttrs) (b : Bool) → is_some o ≡ not b → b ≡ false → ((q : PathKey) → lookup (is_at (key_cmp q)) new ≡ cond (is_eq (key_cmp s q)) (Some o) (lookup (is_at (key_cmp q)) old)) → (q : PathKey) → has_key new q ≡ cond (is_eq (key_cmp s q)) (is_some o) (has_key old q)
attrs_there old new s o b n u h q = key_added old new s o h q ∙ ap (λ x. cond (is_eq (key_cmp s q)) x (has_key old q)) (sym (n ∙ ap not u))

pub no_attrs_there : (old new : Paths) (s : PathKey) (o : Option PathAttrs) (b : Bool) → is_some o ≡ not b → b ≡ true → ((q : PathKey) → lookup (is_at (key_cmp q)) new ≡ cond (is_eq (key_cmp s q)) None (lookup (is_at (key_cmp q)) old)) → (q : PathKey) → has_key new q ≡ cond (is_eq (key_cmp s q)) (is_some o) (has_key old q)
no_attrs_there old new s o b n u h q = key_removed old new s h q ∙ ap (λ x. cond (is_eq (key_cmp s q)) x (has_key old q)) (sym (n ∙ ap not u))

pub both_ok : {T E : Type 0} {P Q R : Type 0} (r : Result T E) → OnOk r P → OnOk r Q → (P → Q → R) → OnOk r R
both_ok (Ok x) p q f = f p q
both_ok (Err e) p q f = tt

pub both_err : {T E : Type 0} {P Q R : Type 0} (r : Result T E) → OnErr r P → OnErr r Q → (P → Q → R) → OnErr r R
both_err (Ok x) p q f = tt
both_err (Err e) p q f = f p q

-- what was offered at a path key
pub flat_is : (paths : Paths) (s : PathKey) (o : Option (Option PathAttrs)) (was : Option PathAttrs) → o ≡ lookup (is_at (key_cmp s)) paths → was ≡ option_flatten o → was ≡ attrs_at paths s
flat_is paths s o was e f = f ∙ (by_case o ∙ ap flat e)
  where
    by_case : (o : Option (Option PathAttrs)) → option_flatten o ≡ flat o
    by_case None = refl
    by_case (Some None) = refl
    by_case (Some (Some x)) = refl

pub paths_in : (old new : Paths) (e : Elem) (s : PathKey) (o : Option PathAttrs) → s ≡ key_in e → o ≡ attrs_in e → ((q : PathKey) → has_key new q ≡ cond (is_eq (key_cmp s q)) (is_some o) (has_key old q)) → (q : PathKey) → has_key new q ≡ cond (is_eq (key_cmp (key_in e) q)) (is_some (attrs_in e)) (has_key old q)
paths_in old new e s o a b h q = h q ∙ (ap (λ x. cond (is_eq (key_cmp x q)) (is_some o) (has_key old q)) a ∙ ap (λ x. cond (is_eq (key_cmp (key_in e) q)) (is_some x) (has_key old q)) b)
