-- The pass of a repair.
use Rattle.std.proofs.Common.{◌≡◌, ◌+◌, ◌-◌, ◌≤◌, ℕ, zero, suc, List, [], ◌∷◌, ◌++◌, Bool, true, false, cond, Option, Some, None, length, map, refl, sym, ap, subst, ◌∙◌, arith, inl, inr, length-append}
use Rattle.std.specs.Prelude.{◌&&◌, is_none}
use Rattle.std.specs.List.{AllByRecursion}
use Rattle.table_model.specs.Address.{Prefix, IsPrefix, same_family}
use Rattle.table_model.specs.Bits.{begins}
use Rattle.table_model.specs.Width.{width}
use Rattle.table_model.specs.Halves.{is_within}
use Rattle.table_model.specs.declared.family.Family.{Family}
use Rattle.table_model.proofs.SamePrefix.{same_family_is, same_family_itself}
use Rattle.table_model.specs.Table.{Entry, Table, IsTable, root, half, inherit, lpm, cut}
use Rattle.table_model.specs.Entries.{Entries, of_family, of_table}
use Rattle.table_model.proofs.Cut.{lpm_cut}
use Rattle.table_model.specs.Regions.{above, entry_at, lift}
use Rattle.table_model.specs.Sets.{agg, answers}
use Rattle.table_model.proofs.Join.{distinct_lift, short_lift, half_same, half_other}
use Rattle.table_model.proofs.Patch.{begins_rest, cut_cut, table_half}
use Rattle.table_model.proofs.Region.{cut_lift, lpm_region}
use Rattle.table_model.proofs.Same.{cut_nil, same_answers}
use Rattle.kept_model.specs.Between.{AreEntries, entry_hop_at, between}
use Rattle.kept_model.proofs.Alike.{alike_changes, placed_are}
use Rattle.kept_model.specs.Patched.{region_aggregate, patch_of}
use Rattle.kept_model.proofs.Families.{hop_none, table_of}
use Rattle.kept_model.proofs.Repairs.{table_entries}
use Rattle.kept_model.proofs.Patches.{table_hop, family_hop, family_table, hop_patched, placed_patched}
use Rattle.kept_model.specs.Stays.{Settled, NoneAround}
use Rattle.kept_model.specs.Parts.{BothOrNeither}
use Rattle.kept_model.proofs.Again.{agg_same}
use Rattle.kept_model.proofs.Settling.{settled_cut}
use Rattle.fib_addr.specs.Views.{prefix_as, entry_as}
use Rattle.fib_addr.proofs.Parts.{length_prefix}
use Rattle.fib_delta.proofs.Held.{is_prefix}
use Rattle.fib_addr.specs.declared.prefix.Prefix as code
use Rattle.orig_tree.specs.Views.{Labels, InPlace}
use Rattle.orig_tree.specs.Spots.{Spot, spot_answers}
use Rattle.orig_tree.specs.Walk.{Walks, behind}
use Rattle.orig_tree.proofs.Telling.{lift_lift}
use Rattle.smalta_keep.specs.declared.place.Place.{Place}
use Rattle.smalta_keep.specs.declared.place.Rerouted.{Rerouted}
use Rattle.smalta_keep.specs.declared.place.Rerouted.TheVariants.{Here}
use Rattle.smalta_keep.specs.declared.pass.Differing.{Differing}
use Rattle.smalta_keep.specs.KnownBelow.{IsKnownBefore}
use Rattle.smalta_keep.specs.Places.{IsBefore, IsSettledPlace, IsPassPlace}
use Rattle.smalta_keep.specs.Passes.{IsPass, IsRootOf, IsRepair}
use Rattle.smalta_keep.proofs.Apart.{both_change}

-- ---- tables within a prefix

table_cut : (p : List Bool) (w : ℕ) (L : Table) → length p ≤ w → IsTable w L → IsTable (w - length p) (cut p L)
table_cut [] w L n t = subst (λ (d : ℕ). IsTable d L) (nothing_less w) t
  where
    nothing_less : (w : ℕ) → w ≡ w - length {A = Bool} []
    nothing_less w = omega arith
table_cut (b ∷ p) zero L n t = absurd (omega (arith, n))
table_cut (b ∷ p) (suc w) L n t = subst (λ (d : ℕ). IsTable d (cut p (half b L))) (one_less w p b) (table_cut p w (half b L) (omega (arith, n)) (table_half b w L t))
  where
    one_less : (w : ℕ) (p : List Bool) (b : Bool) → w - length p ≡ suc w - length (b ∷ p)
    one_less w p b = omega arith

table_lift : (p : List Bool) (d w : ℕ) (L : Table) → d + length p ≡ w → IsTable d L → IsTable w (lift p L)
table_lift p d w L e t = (distinct_lift p L t.0, subst (λ (n : ℕ). AllByRecursion (λ (x : Entry). length x.prefix ≤ n) (lift p L)) (omega (arith, e)) (short_lift p d L t.1))

pub entry_lift : (p q : List Bool) (L : Table) → entry_at (p ++ q) (lift p L) ≡ entry_at q L
entry_lift p q L = ap root (cut_cut p q (lift p L)) ∙ ap (λ T. root (cut q T)) (cut_lift p L)

rootless : (b : Bool) (p : List Bool) (L : Table) → root (lift (b ∷ p) L) ≡ None
rootless b p [] = refl
rootless b p (e ∷ L) = rootless b p L

no_entry : (p q : List Bool) (L : Table) → begins p q ≡ false → entry_at q (lift p L) ≡ None
no_entry [] q L n = let z : true ≡ false = n in absurd cc
no_entry (b ∷ p) [] L n = rootless b p L
no_entry (true ∷ p) (true ∷ q) L n = ap (λ x. root (cut q x)) (ap (half true) (sym (lift_lift (true ∷ []) p L)) ∙ half_same true (lift p L)) ∙ no_entry p q L n
no_entry (false ∷ p) (false ∷ q) L n = ap (λ x. root (cut q x)) (ap (half false) (sym (lift_lift (false ∷ []) p L)) ∙ half_same false (lift p L)) ∙ no_entry p q L n
no_entry (true ∷ p) (false ∷ q) L n = ap (λ x. root (cut q x)) (ap (half false) (sym (lift_lift (true ∷ []) p L)) ∙ half_other false (lift p L)) ∙ ap root (cut_nil q)
no_entry (false ∷ p) (true ∷ q) L n = ap (λ x. root (cut q x)) (ap (half true) (sym (lift_lift (false ∷ []) p L)) ∙ half_other true (lift p L)) ∙ ap root (cut_nil q)

and_true : (a b : Bool) → (a && b) ≡ true → (a ≡ true) × (b ≡ true)
and_true true true e = (refl, refl)
and_true true false e = let z : false ≡ true = e in absurd cc
and_true false b e = let z : false ≡ true = e in absurd cc

-- ---- the place of the prefix

-- a region of a prefix within the event's has the entries that it had
half_else : (P : List Bool) (R S : Table) (b : Bool) → ((q : List Bool) → (q ≡ P → ⊥) → entry_at q R ≡ entry_at q S) → (q : List Bool) → entry_at q (half b (cut P R)) ≡ entry_at q (half b (cut P S))
half_else P R S b e q = ap root (sym (cut_cut P (b ∷ q) R)) ∙ (e (P ++ (b ∷ q)) (λ i. omega (arith, ap (λ z. length z) i, length-append P (b ∷ q))) ∙ ap root (cut_cut P (b ∷ q) S))

-- below it the answers before are those of the routes there under one hop
answers_else : (P : List Bool) (R S : Table) → ((q : List Bool) → (q ≡ P → ⊥) → entry_at q R ≡ entry_at q S) → (b : Bool) (a : List Bool) → lpm R (P ++ (b ∷ a)) 0 ≡ lpm (half b (cut P S)) a (inherit (root (cut P R)) (above P R 0))
answers_else P R S e b a =
    lpm_region P R (b ∷ a) 0 ∙ (lpm_cut (cut P R) b a (above P R 0) ∙ same_answers a (half b (cut P R)) (half b (cut P S)) (inherit (root (cut P R)) (above P R 0)) (half_else P R S b e))

module _ (k : Labels) (p : code.Prefix) (s : Spot) (e : p.family ≡ k.family) (n : s.bits + p.len ≡ width k.family) (a : (a : List Bool) → spot_answers s a ≡ answers (of_family k.family k.routes) (prefix_as p).bits a) (l : s.entries ≡ cut (prefix_as p).bits (of_family k.family k.entries)) where
  abbrev pub P : List Bool
  P = (prefix_as p).bits

  abbrev pub f : Family
  f = k.family

  pub bits_left : width f - length P ≡ s.bits
  bits_left = omega (arith, n, ap width e, length_prefix (width p.family) p.len p.bits p.fits)

  pub not_long : length P ≤ width f
  not_long = omega (arith, n, ap width e, length_prefix (width p.family) p.len p.bits p.fits)

  module _ (t : InPlace k.entries) (B : List Bool) (y : B ≡ P) (u : Option Labels) (x : IsKnownBefore (prefix_as p) k u) (r : Option Walks) (ru : IsRootOf u r) where
    module _ (o : Place) (h : ℕ) (z : o.region ≡ s) (or : (behind o.node).routes ≡ cut P (of_family f k.routes)) (oe : (behind o.node).entries ≡ cut P (of_family f k.entries)) (om : (behind o.dirty).entries ≡ cut B (behind r).entries)
        (marked : o.marked ≡ false → (is_none u ≡ false) × NoneAround B (behind r).entries) (here : o.rerouted ≡ Here) (v : h ≡ above P (of_family f k.entries) 0) where
      abbrev pub L : Table
      L = (behind o.node).routes

      now_answers : (c : List Bool) → spot_answers s c ≡ lpm L c (above P (of_family f k.routes) 0)
      now_answers c = a c ∙ (lpm_region P (of_family f k.routes) c 0 ∙ ap (λ T. lpm T c (above P (of_family f k.routes) 0)) (sym or))

      held_by : (u : Option Labels) → IsKnownBefore (prefix_as p) k u → IsRootOf u r → is_none u ≡ false → NoneAround P (behind r).entries → IsSettledPlace o h
      held_by None x ru i j = cc
      held_by (Some m) x ru i j =
          let M = of_family f m.entries in
          let is : M ≡ (behind r).entries = ap (λ g. of_family g m.entries) (sym x.0) ∙ ru in
          let R = of_family f x.1 in
          let c : Settled (width f - length P) (λ b. lpm R (P ++ b) 0) (cut P (of_family f k.entries)) (above P (of_family f k.entries) 0) (cut P M) =
          settled_cut P (width f) (answers R []) (of_family f k.entries) 0 M not_long (subst (λ (T : Table). NoneAround P T) (sym is) j) x.3
          in
          let dirty : cut P M ≡ (behind o.dirty).entries = ap (cut P) is ∙ (ap (λ q. cut q (behind r).entries) (sym y) ∙ sym om) in
          let d : Settled s.bits (λ b. lpm R (P ++ b) 0) s.entries h (behind o.dirty).entries =
          subst (λ (N : Table). Settled s.bits (λ b. lpm R (P ++ b) 0) s.entries h N) dirty
          (subst (λ (g : ℕ). Settled s.bits (λ b. lpm R (P ++ b) 0) s.entries g (cut P M)) (sym v)
          (subst (λ (T : Table). Settled s.bits (λ b. lpm R (P ++ b) 0) T (above P (of_family f k.entries) 0) (cut P M)) (sym l)
          (subst (λ (g : ℕ). Settled g (λ b. lpm R (P ++ b) 0) (cut P (of_family f k.entries)) (above P (of_family f k.entries) 0) (cut P M)) bits_left c)))
          in
          let was : IsBefore Here (λ b. lpm R (P ++ b) 0) s L =
          (inherit (root (cut P R)) (above P R 0), λ b c. answers_else P R (of_family f k.routes) x.2 b c ∙ ap (λ T. lpm (half b T) c (inherit (root (cut P R)) (above P R 0))) (sym or), above P (of_family f k.routes) 0, now_answers)
          in
          record {
            before = λ b. lpm R (P ++ b) 0;
            settled = subst (λ (g : Spot). Settled g.bits (λ b. lpm R (P ++ b) 0) g.entries h (behind o.dirty).entries) (sym z) d;
            was = subst (λ (q : Rerouted). IsBefore q (λ b. lpm R (P ++ b) 0) o.region L) (sym here) (subst (λ (g : Spot). IsBefore Here (λ b. lpm R (P ++ b) 0) g L) (sym z) was);
          }

      pub repair_place : IsPassPlace o h
      repair_place = record {
        node = oe ∙ (sym l ∙ ap (λ (g : Spot). g.entries) (sym z));
        table = subst (λ (g : Spot). IsTable g.bits g.entries) (sym z) (subst (λ (T : Table). IsTable s.bits T) (sym l) (subst (λ (d : ℕ). IsTable d (cut P (of_family f k.entries))) bits_left (table_cut P (width f) (of_family f k.entries) not_long (family_table f k.entries (placed_are k.entries t)))));
        known = λ i. held_by u x ru (marked i).0 (subst (λ (q : List Bool). NoneAround q (behind r).entries) y (marked i).1);
      }

  -- ---- what is told of it

  module _ (t : InPlace k.entries) (h : ℕ) (v : h ≡ above P (of_family f k.entries) 0) (b c : Differing) (bh : map entry_as b.had.items ≡ []) (bg : map entry_as b.gets.items ≡ []) (x : IsPass (prefix_as p) s h b c) where
    lies : of_table p.family (lift P x.had) ≡ map entry_as c.had.items
    lies = sym (x.old ∙ ap (λ E. E ++ of_table p.family (lift P x.had)) bh)

    comes : of_table p.family (lift P x.gets) ≡ map entry_as c.gets.items
    comes = sym (x.new ∙ ap (λ E. E ++ of_table p.family (lift P x.gets)) bg)

    long : s.bits + length P ≡ width p.family
    long = omega (arith, n, ap width e, length_prefix (width p.family) p.len p.bits p.fits)

    is : IsPrefix (prefix_as p)
    is = is_prefix p

    abbrev pub A : Entries
    A = of_table p.family (lift P x.had)

    abbrev pub C : Entries
    C = of_table p.family (lift P x.gets)

    abbrev pub N : Entries
    N = patch_of k.routes (prefix_as p) k.entries

    are_had : AreEntries A
    are_had = table_entries p.family (lift P x.had) (table_lift P s.bits (width p.family) x.had long x.had_table)

    are_gets : AreEntries C
    are_gets = table_entries p.family (lift P x.gets) (table_lift P s.bits (width p.family) x.gets long x.gets_table)

    are_new : AreEntries N
    are_new = placed_are N (placed_patched k.routes k.entries (prefix_as p) is t)

    -- the pass is the patch's
    passed : agg (width p.family - length P) (answers (of_family p.family k.routes) P) (cut P (of_family p.family k.entries)) (above P (of_family p.family k.entries) 0) ≡ agg s.bits (spot_answers s) s.entries h
    passed =
        ap (λ g. agg (width g - length P) (answers (of_family g k.routes) P) (cut P (of_family g k.entries)) (above P (of_family g k.entries) 0)) e
        ∙ (ap (λ d. agg d (answers (of_family f k.routes) P) (cut P (of_family f k.entries)) (above P (of_family f k.entries) 0)) bits_left
        ∙ (ap (agg s.bits (answers (of_family f k.routes) P) (cut P (of_family f k.entries))) (sym v)
        ∙ agg_same s.bits (answers (of_family f k.routes) P) (spot_answers s) (cut P (of_family f k.entries)) s.entries h (λ y i. sym (a y)) (λ q. ap (entry_at q) (sym l))))

    abbrev pub at : List Bool → Prefix
    at q = record { family = p.family; bits = q }

    old_in : (q : List Bool) → entry_hop_at (at (P ++ q)) k.entries ≡ entry_at q s.entries
    old_in q = sym (family_hop p.family (P ++ q) k.entries) ∙ (ap (λ g. entry_at (P ++ q) (of_family g k.entries)) e ∙ (ap root (cut_cut P q (of_family f k.entries)) ∙ ap (entry_at q) (sym l)))

    new_in : (q : List Bool) → entry_hop_at (at (P ++ q)) (region_aggregate k.routes (prefix_as p) k.entries) ≡ entry_at q (agg s.bits (spot_answers s) s.entries h)
    new_in q =
        table_hop p.family (P ++ q) (lift P (agg (width p.family - length P) (answers (of_family p.family k.routes) P) (cut P (of_family p.family k.entries)) (above P (of_family p.family k.entries) 0)))
        ∙ (entry_lift P q (agg (width p.family - length P) (answers (of_family p.family k.routes) P) (cut P (of_family p.family k.entries)) (above P (of_family p.family k.entries) 0)) ∙ ap (entry_at q) passed)

    told_in : (q : List Bool) (T : Table) → entry_hop_at (at (P ++ q)) (of_table p.family (lift P T)) ≡ entry_at q T
    told_in q T = table_hop p.family (P ++ q) (lift P T) ∙ entry_lift P q T

    -- both lists and both tables have the same changes at each prefix
    abbrev pub Same : Prefix → Type 0
    Same q = BothOrNeither (entry_hop_at q k.entries) (entry_hop_at q N) (entry_hop_at q A) (entry_hop_at q C)

    -- nothing is told elsewhere
    none_out : (q : Prefix) (T : Table) → is_within q (prefix_as p) ≡ false → entry_hop_at q (of_table p.family (lift P T)) ≡ None
    none_out q T w = by_family (same_family q.family p.family) refl
      where
        by_family : (i : Bool) → same_family q.family p.family ≡ i → entry_hop_at q (of_table p.family (lift P T)) ≡ None
        by_family false i = hop_none p.family q (of_table p.family (lift P T)) (table_of p.family (lift P T)) i
        by_family true i =
            let g = same_family_is q.family p.family i in
            let is : at q.bits ≡ q = ap (λ z. let y : Prefix = record { family = z; bits = q.bits } in y) (sym g) in
            let off : begins P q.bits ≡ false = and_false (begins P q.bits) (ap (λ z. same_family p.family z && begins P q.bits) (sym g) ∙ w) in
            subst (λ (y : Prefix). entry_hop_at y (of_table p.family (lift P T)) ≡ None) is (table_hop p.family q.bits (lift P T) ∙ no_entry P q.bits T off)
          where
            and_false : (y : Bool) → (same_family p.family p.family && y) ≡ false → y ≡ false
            and_false y z = ap (λ i. i && y) (sym (same_family_itself p.family)) ∙ z

    same_in : (q : List Bool) → is_within (at (P ++ q)) (prefix_as p) ≡ true → Same (at (P ++ q))
    same_in q w =
        let new : entry_hop_at (at (P ++ q)) N ≡ entry_at q (agg s.bits (spot_answers s) s.entries h) =
        hop_patched k.routes k.entries (prefix_as p) (at (P ++ q)) is t ∙ (ap (λ i. cond i (entry_hop_at (at (P ++ q)) (region_aggregate k.routes (prefix_as p) k.entries)) (entry_hop_at (at (P ++ q)) k.entries)) w ∙ new_in q)
        in
        subst (λ (o : Option ℕ). BothOrNeither o (entry_hop_at (at (P ++ q)) N) (entry_hop_at (at (P ++ q)) A) (entry_hop_at (at (P ++ q)) C)) (sym (old_in q))
        (subst (λ (o : Option ℕ). BothOrNeither (entry_at q s.entries) o (entry_hop_at (at (P ++ q)) A) (entry_hop_at (at (P ++ q)) C)) (sym new)
        (subst (λ (o : Option ℕ). BothOrNeither (entry_at q s.entries) (entry_at q (agg s.bits (spot_answers s) s.entries h)) o (entry_hop_at (at (P ++ q)) C)) (sym (told_in q x.had))
        (subst (λ (o : Option ℕ). BothOrNeither (entry_at q s.entries) (entry_at q (agg s.bits (spot_answers s) s.entries h)) (entry_at q x.had) o) (sym (told_in q x.gets)) (x.part q))))

    same_out : (q : Prefix) → is_within q (prefix_as p) ≡ false → Same q
    same_out q w =
        let still : entry_hop_at q N ≡ entry_hop_at q k.entries = hop_patched k.routes k.entries (prefix_as p) q is t ∙ ap (λ i. cond i (entry_hop_at q (region_aggregate k.routes (prefix_as p) k.entries)) (entry_hop_at q k.entries)) w in
        inr (none_out q x.had w, none_out q x.gets w, sym still)

    same : (q : Prefix) → Same q
    same q = by_test (is_within q (prefix_as p)) refl
      where
        by_test : (i : Bool) → is_within q (prefix_as p) ≡ i → Same q
        by_test false w = same_out q w
        by_test true w =
            let both = and_true (same_family p.family q.family) (begins P q.bits) w in
            let rest = begins_rest P q.bits both.1 in
            let is : at (P ++ rest.0) ≡ q = ap (λ r. at r) (sym rest.1) ∙ ap (λ g. let y : Prefix = record { family = g; bits = q.bits } in y) (same_family_is p.family q.family both.0) in
            subst (λ (y : Prefix). Same y) is (same_in rest.0 (ap (λ y. is_within y (prefix_as p)) is ∙ w))

    turned : (o m r u : Option ℕ) → BothOrNeither o m r u → BothOrNeither m o u r
    turned o m r u (inl y) = inl (y.1, y.0)
    turned o m r u (inr y) = inr (y.1, y.0, sym y.2)

    pub repaired : IsRepair k (prefix_as p) c
    repaired = record {
      had = subst (λ (E : Entries). AreEntries E) lies are_had;
      gets = subst (λ (E : Entries). AreEntries E) comes are_gets;
      there =
          ap (λ E. between E (map entry_as c.gets.items)) (sym lies) ∙ (ap (between A) (sym comes)
          ∙ sym (alike_changes A C k.entries N are_had are_gets (placed_are k.entries t) are_new (λ q. both_change q (entry_hop_at q k.entries) (entry_hop_at q N) (entry_hop_at q A) (entry_hop_at q C) (same q))));
      back =
          ap (λ E. between E (map entry_as c.had.items)) (sym comes) ∙ (ap (between C) (sym lies)
          ∙ sym (alike_changes C A N k.entries are_gets are_had are_new (placed_are k.entries t) (λ q. both_change q (entry_hop_at q N) (entry_hop_at q k.entries) (entry_hop_at q C) (entry_hop_at q A) (turned (entry_hop_at q k.entries) (entry_hop_at q N) (entry_hop_at q A) (entry_hop_at q C) (same q)))));
    }
