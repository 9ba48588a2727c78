-- The array as one tree from its root on.
use Rattle.std.proofs.Common.{◌≡◌, ℕ, zero, suc, ◌+◌, ◌-◌, ◌<◌, ◌≤◌, List, [], ◌∷◌, Bool, true, refl, sym, ap, ◌∙◌, subst, arith, Option, None}
use Rattle.table_model.specs.Bits.{bits_of}
use Rattle.table_model.specs.Width.{width}
use Rattle.table_model.specs.declared.family.Family.{Family}
use Rattle.table_model.specs.declared.family.Family.TheVariants.{V4, V6}
use Rattle.orig_tree.specs.Walk.{Walks, no_walks, walks_of, rows_of, edited, CanEdit, has_node}
use Rattle.orig_tree.specs.Arena.{Owner, At, Nowhere, blank_cell, walks_at, IsTree, is_below, SpareFrom, HasSpares, IsSet, MakesRoom, IsRoomier, whole, IsArena}
use Rattle.orig_tree.specs.declared.node.Node.{Node}
use Rattle.orig_tree.specs.declared.node.Label.{Label}
use Rattle.table_model.specs.Address.{Prefix}
use Rattle.fib_addr.specs.Views.{prefix_as}
use Rattle.fib_addr.specs.declared.prefix.Prefix as code
use Rattle.table_model.specs.Table.{lpm}
use Rattle.table_model.specs.Entries.{Entries, of_table, of_family, match_in}
use Rattle.table_model.specs.Regions.{lift, above}
use Rattle.orig_tree.specs.Views.{Labels, FitsWidth}
use Rattle.orig_tree.specs.Uniform.{IsUniform}
use Rattle.orig_tree.proofs.Places.{match_is}
use Rattle.orig_tree.proofs.Above.{above_is}
use Rattle.orig_tree.proofs.Telling.{told_whole, whole_fits}
use Rattle.orig_tree.specs.Bests.{KeepsBest}
use Rattle.orig_tree.specs.Drops.{NodeTrimmed}
use Rattle.orig_tree.specs.declared.best.Best.{Best}
use Rattle.orig_tree.specs.Trims.{IsTrimmed}
use Rattle.orig_tree.proofs.Rooms.{leaf_tree, spare_kept, roomier_same}
use Rattle.orig_tree.proofs.Standing.{best_alike}

pub width_most : (f : Family) → width f ≤ 128
width_most V4 = omega arith
width_most V6 = omega arith

-- the root alone is named
abbrev root_name : ℕ → Owner
root_name zero = At []
root_name (suc n) = Nowhere

root_name_past : (j : ℕ) → 1 ≤ j → root_name j ≡ Nowhere
root_name_past zero l = absurd (omega arith)
root_name_past (suc j) l = refl

pub one_node : (f : Family) (cells : List Node) → cells ≡ blank_cell ∷ [] → (whole f cells ≡ walks_of None None no_walks no_walks) × IsArena f cells 0
unfolding SpareFrom
one_node f cells e =
    let t = leaf_tree (width f) (blank_cell ∷ []) root_name 0 [] refl (omega arith) refl in
    let a : IsArena f (blank_cell ∷ []) 0 = record { name = root_name; spares = 0; tree = t.1; held = record { past = λ j l. root_name_past j l; spare = refl } } in
    (ap (whole f) e ∙ t.0, subst (λ (x : List Node). IsArena f x 0) (sym e) a)

pub set_at : (f : Family) (label : Label) (p : List Bool) (free free' : ℕ) (hop : Option ℕ) (old new : List Node) → free' ≡ free → (a : IsArena f old free) → IsSet (suc (width f)) label p hop old new a.name 0 [] →
    (whole f new ≡ edited label p hop (whole f old)) × IsArena f new free'
set_at f label p free free' hop old new g a x = (
  x.walks,
  subst (λ (y : ℕ). IsArena f new y) (sym g) (record {
    name = a.name;
    spares = a.spares;
    tree = x.tree;
    held = record {
      past = λ j h. a.held.past j (omega (arith, x.keeps.long));
      spare = spare_kept a.spares old new a.name a.name free (omega (arith, x.keeps.long)) (λ j m k e. (x.keeps.same j (ap (is_below []) e), e)) a.held.spare;
    };
  }),
)

pub set_whole : (f : Family) (label : Label) (q len free free' : ℕ) (hop : Option ℕ) (old new : List Node) → len ≤ width f → free' ≡ free → IsArena f old free → CanEdit (bits_of len q) hop (whole f old).nodes →
    ((d : ℕ) (name : ℕ → Owner) (p : List Bool) → len < d → IsTree d old name 0 p → CanEdit (bits_of len q) hop (walks_at d old 0).nodes → IsSet d label (bits_of len q) hop old new name 0 p) →
    (whole f new ≡ edited label (bits_of len q) hop (whole f old)) × IsArena f new free'
set_whole f label q len free free' hop old new l g a w s = set_at f label (bits_of len q) free free' hop old new g a (s (suc (width f)) a.name [] (omega arith) a.tree w)

pub room_whole : (f : Family) (q len free free' : ℕ) (old new : List Node) → len ≤ width f → IsArena f old free →
    ((d : ℕ) (name : ℕ → Owner) (n : ℕ) (p : List Bool) → len < d → IsTree d old name 0 p → HasSpares old free name n → MakesRoom d (bits_of len q) old new free' name 0 p) →
    IsRoomier (bits_of len q) (whole f old) (whole f new) × (has_node (bits_of len q) (whole f new).nodes ≡ true) × IsArena f new free'
room_whole f q len free free' old new l a s =
    let x = s (suc (width f)) a.name a.spares [] (omega arith) a.tree a.held in
    (x.walks, x.there, record { name = x.name'; spares = x.spares; tree = x.tree; held = x.held })

pub same_whole : (f : Family) (q len free free' : ℕ) (old new : List Node) → IsArena f old free → new ≡ old → free' ≡ free → IsRoomier (bits_of len q) (whole f old) (whole f new) × (whole f new ≡ whole f old) × IsArena f new free'
same_whole f q len free free' old new a e g = (roomier_same _ _ _ (ap (whole f) e), ap (whole f) e, subst (λ (x : List Node). IsArena f x free') (sym e) (subst (λ (x : ℕ). IsArena f old x) (sym g) a))

pub bare_labels : (f : Family) (w : Walks) → w ≡ walks_of None None no_walks no_walks →
    (let a : Labels = record { family = f; routes = of_table f w.routes; entries = of_table f w.entries; nodes = w.nodes; before = of_table f w.routes } in a) ≡ record { family = f; routes = []; entries = []; nodes = [] ∷ []; before = [] }
bare_labels f w e = ap (λ (x : Walks). let a : Labels = record { family = f; routes = of_table f x.routes; entries = of_table f x.entries; nodes = x.nodes; before = of_table f x.routes } in a) e

pub told_root : {S : Type 0} (Takes : S → Entries → S → Type 0) (f : Family) (p : code.Prefix) (cells : List Node) (label : Label) (X Y : S) → prefix_as p ≡ record { family = f; bits = [] } → FitsWidth (width f) (rows_of label (whole f cells)) →
    ((d : ℕ) → width p.family - p.len < d → FitsWidth (width p.family - p.len) (rows_of label (walks_at d cells 0)) → Takes X (of_table p.family (lift (prefix_as p).bits (rows_of label (walks_at d cells 0)))) Y) →
    Takes X (of_table f (rows_of label (whole f cells))) Y
told_root Takes f p cells label X Y e fits t =
    subst (λ E. Takes X E Y) (told_whole f p (rows_of label (whole f cells)) e) (t (suc (width f)) (omega (arith, ap (λ (x : Prefix). width x.family) e)) (whole_fits f p (rows_of label (whole f cells)) e fits))

pub answer_whole : (f g : Family) (label : Label) (w q n : ℕ) (cells : List Node) (E : Entries) → g ≡ f → w ≡ width f → of_table f (rows_of label (whole f cells)) ≡ E →
    ((d : ℕ) → w < d → n ≡ lpm (rows_of label (walks_at d cells 0)) (bits_of w q) 0) → n ≡ match_in E (record { family = g; bits = bits_of (width g) q })
answer_whole f g label w q n cells E s e v a =
    match_is f g w q n (rows_of label (whole f cells)) E s e v (a (suc (width f)) (omega arith))

pub inherited_whole : (f : Family) (p s : List Bool) (cells : List Node) (E : Entries) (n : ℕ) (len : ℕ) → len ≤ width f → of_table f (whole f cells).entries ≡ E → p ≡ s →
    ((d : ℕ) → len < d → n ≡ above p (walks_at d cells 0).entries 0) → n ≡ above s (of_family f E) 0
inherited_whole f p s cells E n len l v e a = above_is f p s (whole f cells).entries E n v e (a (suc (width f)) (omega arith))

pub uniform_whole : (f : Family) (label : Label) (p : List Bool) (cells : List Node) (free len : ℕ) (result : Option ℕ) → len ≤ width f → IsArena f cells free → FitsWidth (width f) (rows_of label (whole f cells)) →
    ((d : ℕ) (name : ℕ → Owner) (r : List Bool) (n : ℕ) → len < d → IsTree d cells name 0 r → len ≤ n → FitsWidth n (rows_of label (walks_at d cells 0)) → IsUniform n (rows_of label (walks_at d cells 0)) 0 p result) →
    IsUniform (width f) (rows_of label (whole f cells)) 0 p result
uniform_whole f label p cells free len result l a fits u = u (suc (width f)) a.name [] (width f) (omega arith) a.tree l fits

pub trim_whole : (f : Family) (p : List Bool) (depth free free' : ℕ) (old new : List Node) (stays : Bool) → depth ≡ width f → IsArena f old free →
    ((d : ℕ) (name : ℕ → Owner) (spares : ℕ) (r : List Bool) → d ≤ depth + 1 → IsTree d old name 0 r → HasSpares old free name spares → NodeTrimmed d p old new free' name 0 r stays) →
    ((whole f new).routes ≡ (whole f old).routes) × ((whole f new).entries ≡ (whole f old).entries) × IsTrimmed p (whole f old) (whole f new) × IsArena f new free' × ((S : ℕ → Best) → KeepsBest f old S → KeepsBest f new S)
trim_whole f p depth free free' old new stays e a t =
    let x = t (suc (width f)) a.name a.spares [] (omega arith) a.tree a.held in (
      x.routes,
      x.entries,
      x.trimmed,
      record { name = x.name'; spares = x.spares; tree = x.tree; held = x.held },
      λ S k. best_alike (suc (width f)) new S (λ a. lpm (whole f old).routes a 0) (λ a. lpm (whole f new).routes a 0) 0 (λ a l. ap (λ R. lpm R a 0) (sym x.routes)) (x.best S (λ a. lpm (whole f old).routes a 0) k),
    )
