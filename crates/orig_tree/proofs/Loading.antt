-- What nodes keep, told from the least regions on.
use Rattle.std.proofs.Common.{◌≡◌, ℕ, suc, List, [], Bool, Option, Some, None, refl, sym, ap, ◌∙◌, subst}
use Rattle.table_model.specs.Table.{Table, lpm}
use Rattle.orig_tree.specs.Arena.{Owner, IfHalf, IsTree, walks_at, from_half}
use Rattle.orig_tree.specs.Bests.{best_one, best_behind, IsMended, HalfMended}
use Rattle.orig_tree.specs.declared.node.Node.{Node}
use Rattle.orig_tree.specs.declared.best.Best.{Best}
use Rattle.orig_tree.proofs.Standing.{stands_one}
use Rattle.std.specs.Prelude.{◌≤◌, ◌-◌, ◌++◌, ◌∷◌, true, false, cond, fold, map, length}
use Rattle.std.specs.List.{AllByRecursion}
use Rattle.std.specs.Map.{keys_of}
use Rattle.std.proofs.Common.{arith}
use Rattle.std.proofs.lemmas.List.Sums.{fold-append}
use Rattle.std.proofs.lemmas.List.Elements.{filter-append}
use Rattle.table_model.specs.Bits.{bits_of}
use Rattle.table_model.specs.Width.{width}
use Rattle.table_model.specs.Address.{Prefix, IsPrefix, same_family}
use Rattle.table_model.specs.declared.family.Family.{Family}
use Rattle.table_model.proofs.BitLaws.{length-bits_of}
use Rattle.table_model.proofs.SamePrefix.{same_family_is, same_family_itself}
use Rattle.table_model.specs.Entries.{Entries, of_table, with_entry}
use Rattle.table_model.specs.Regions.{lift}
use Rattle.fib_addr.specs.Views.{prefix_as, entry_as}
use Rattle.fib_addr.specs.declared.entry.Entry as code_entry
use Rattle.fib_addr.specs.declared.prefix.Prefix as code
use Rattle.fib_addr.proofs.Parts.{length_prefix}
use Rattle.orig_tree.specs.Views.{InPlace, FitsWidth}
use Rattle.orig_tree.specs.Edits.{put}
use Rattle.orig_tree.specs.Walk.{rows_of}
use Rattle.orig_tree.specs.Arena.{IsArena, whole}
use Rattle.orig_tree.specs.Bests.{KeepsBest}
use Rattle.orig_tree.specs.Merged.{beside, own_of, with_rows, Merges, Lays}
use Rattle.orig_tree.proofs.Places.{in_place_put, same_rows, entries_put}
use Rattle.orig_tree.specs.declared.node.Label.{Label}
use Rattle.orig_tree.specs.declared.node.Label.TheVariants.{Entry}
use Rattle.orig_tree.proofs.Telling.{fits_in_place, told_whole}
use Rattle.orig_tree.proofs.Standing.{best_alike}
use Rattle.orig_tree.proofs.Placing.{Places, placed_whole, is_entered}
use Rattle.orig_tree.proofs.Weaving.{rows_alike, rows_edited, beside_edited, routes_by}

pub settled_none : (cells : List Node) (depth hop : ℕ) (o : Option ℕ) (S : ℕ → Best) → o ≡ None → (name : ℕ → Owner) (p : List Bool) →
    HalfMended depth cells name o p (λ a. lpm (from_half (walks_at (suc depth) cells) o).routes a hop) S S (best_behind S o (best_one hop))
settled_none cells depth hop o S e name p =
    subst (λ (o : Option ℕ). HalfMended depth cells name o p (λ a. lpm (from_half (walks_at (suc depth) cells) o).routes a hop) S S (best_behind S o (best_one hop))) (sym e)
    (record { stands = stands_one depth hop (λ a. hop) (λ a l. refl); best = tt; keeps = λ j r f b. refl })

pub settled_some : (cells : List Node) (depth hop j : ℕ) (o : Option ℕ) (S S' : ℕ → Best) → o ≡ Some j →
    ((name : ℕ → Owner) (p : List Bool) → IsTree (suc depth) cells name j p → IsMended depth cells name j p (λ a. lpm (walks_at (suc depth) cells j).routes a hop) S S' (S' j)) →
    (name : ℕ → Owner) (p : List Bool) → IfHalf (λ j. IsTree (suc depth) cells name j p) o → HalfMended depth cells name o p (λ a. lpm (from_half (walks_at (suc depth) cells) o).routes a hop) S S' (best_behind S' o (best_one hop))
settled_some cells depth hop j o S S' e f name p =
    subst (λ (o : Option ℕ). IfHalf (λ j. IsTree (suc depth) cells name j p) o → HalfMended depth cells name o p (λ a. lpm (from_half (walks_at (suc depth) cells) o).routes a hop) S S' (best_behind S' o (best_one hop))) (sym e)
    (λ t. let m = f name p t in record { stands = m.stands; best = m.best; keeps = m.keeps })

-- ---- entries are laid

-- the first entry is of the family, or not
own_first : (f : Family) (e : Prefix × ℕ) (E : Entries) (b : Bool) → same_family f e.0.family ≡ b → own_of f (e ∷ E) ≡ cond b (e ∷ own_of f E) (own_of f E)
own_first f e E b h = ap (λ (t : Bool). cond t (e ∷ own_of f E) (own_of f E)) h

-- a first entry of another family is passed
pub passed_other : (f : Family) (e : Prefix × ℕ) (L E : Entries) → L ≡ e ∷ E → same_family f e.0.family ≡ false → own_of f E ≡ own_of f L
passed_other f e L E is other = sym (ap (own_of f) is ∙ own_first f e E false other)

pub passed_prefixes : (e : Prefix × ℕ) (L E : Entries) → L ≡ e ∷ E → AllByRecursion IsPrefix (keys_of L) → AllByRecursion IsPrefix (keys_of E)
passed_prefixes e L E is a = (subst (λ (F : Entries). AllByRecursion IsPrefix (keys_of F)) is a).1

own_all : (f : Family) (T : Table) → own_of f (of_table f T) ≡ of_table f T
own_all f [] = refl
own_all f (e ∷ T) = own_first f ((let x : Prefix = record { family = f; bits = e.prefix } in x), e.hop) (of_table f T) true (same_family_itself f) ∙ ap (λ E. ((let x : Prefix = record { family = f; bits = e.prefix } in x), e.hop) ∷ E) (own_all f T)

-- nothing is laid
pub lays_none : (f : Family) (label : Label) (cells : List Node) (free : ℕ) (S : ℕ → Best) (E : Entries) → IsArena f cells free → InPlace (of_table f (rows_of label (whole f cells))) → Lays f label cells cells free S S E E
lays_none f label cells free S E a i = record { arena = a; order = i; other = refl; best = λ e k. k; rows = refl }

pub lays_after : (f : Family) (label : Label) (old mid new : List Node) (free free' : ℕ) (S S1 S' : ℕ → Best) (E D F : Entries) → Lays f label old mid free S S1 E D → Lays f label mid new free' S1 S' D F → Lays f label old new free' S S' E F
lays_after f label old mid new free free' S S1 S' E D F x y = record {
  arena = y.arena;
  order = y.order;
  other = y.other ∙ x.other;
  best = λ e k. y.best e (x.best e k);
  rows = y.rows ∙ x.rows;
}

-- an entry of another family is none of ours
pub lays_other : (f : Family) (label : Label) (cells : List Node) (free : ℕ) (S : ℕ → Best) (e : Prefix × ℕ) (E : Entries) → same_family f e.0.family ≡ false → IsArena f cells free → InPlace (of_table f (rows_of label (whole f cells))) → Lays f label cells cells free S S (e ∷ E) E
lays_other f label cells free S e E h a i = record {
  arena = a;
  order = i;
  other = refl;
  best = λ u k. k;
  rows = ap (fold with_entry (of_table f (rows_of label (whole f cells)))) (sym (own_first f e E false h));
}

-- one entry of the family is set
pub lays_one : (f : Family) (label : Label) (q : ℕ) (r : code_entry.Entry) (old new : List Node) (free free' : ℕ) (S S' : ℕ → Best) (more : Bool) (E : Entries) → same_family f (entry_as r).0.family ≡ true → bits_of r.prefix.len q ≡ (prefix_as r.prefix).bits →
    IsArena f old free → InPlace (of_table f (rows_of label (whole f old))) → Places label r.hop.0 q r.prefix.len old free new free' S S' more → Lays f label old new free' S S' (entry_as r ∷ E) E
lays_one f label q r old new free free' S S' more E h path a i made =
    let p = r.prefix in
    let fam : p.family ≡ f = sym (same_family_is f p.family h) in
    let short : p.len ≤ width f = omega (arith, p.fits, ap width fam) in
    let few : length (bits_of p.len q) ≤ width f = omega (arith, length-bits_of p.len q, short) in
    let y = placed_whole f label q p.len r.hop.0 free free' old new S S' more short a made in
    let Old = whole f old in
    let Mid = y.1.middle in
    let New = whole f new in
    let mid : rows_of label Mid ≡ rows_of label Old = rows_alike label Mid Old y.1.room.routes y.1.room.entries in
    let set : rows_of label New ≡ put (bits_of p.len q) r.hop.0 (rows_of label Mid) = ap (rows_of label) y.1.set ∙ rows_edited label (bits_of p.len q) r.hop.0 Mid in
    record {
      arena = y.0;
      order = in_place_put f (bits_of p.len q) r.hop.0 (rows_of label Mid) (rows_of label New) few set (same_rows f (rows_of label Old) (rows_of label Mid) mid i);
      other = ap (rows_of (beside label)) y.1.set ∙ (beside_edited label (bits_of p.len q) (Some r.hop.0) Mid ∙ rows_alike (beside label) Mid Old y.1.room.routes y.1.room.entries);
      best = λ e k. kept_by e k made;
      rows = ap (λ R. fold with_entry R (own_of f E)) (entries_put f p.family (bits_of p.len q) r.hop.0 (rows_of label Old) (rows_of label New) (rows_of label Mid) (of_table f (rows_of label Old)) few fam mid set refl i
          ∙ ap (λ b. with_entry (of_table f (rows_of label Old)) ((let x : Prefix = record { family = p.family; bits = b } in x), r.hop.0)) path)
          ∙ ap (fold with_entry (of_table f (rows_of label Old))) (sym (own_first f (entry_as r) E true h));
    }
  where
    kept_by : label ≡ Entry → KeepsBest f old S → Places label r.hop.0 q r.prefix.len old free new free' S S' more → KeepsBest f new S'
    kept_by e k made = (is_entered f q r.prefix.len r.hop.0 free free' old new S S' more (omega (arith, r.prefix.fits, ap width (sym (same_family_is f r.prefix.family h)))) a k (subst (λ (l : Label). Places l r.hop.0 q r.prefix.len old free new free' S S' more) e made)).1

-- prefixes of the code are prefixes
pub all_prefixes : (es : List code_entry.Entry) → AllByRecursion IsPrefix (keys_of (map entry_as es))
all_prefixes [] = tt
all_prefixes (e ∷ es) = (omega (arith, length_prefix (width e.prefix.family) e.prefix.len e.prefix.bits e.prefix.fits, e.prefix.fits), all_prefixes es)

front_prefixes : (E D : Entries) → AllByRecursion IsPrefix (keys_of (E ++ D)) → AllByRecursion IsPrefix (keys_of E)
front_prefixes [] D a = tt
front_prefixes (e ∷ E) D a = (a.0, front_prefixes E D a.1)

after_prefixes : (E D : Entries) → AllByRecursion IsPrefix (keys_of (E ++ D)) → AllByRecursion IsPrefix (keys_of D)
after_prefixes [] D a = a
after_prefixes (e ∷ E) D a = after_prefixes E D a.1

-- what is left of prefixes after a walk are prefixes
pub left_prefixes : (label : Label) (h levels : ℕ) (p : Prefix) (old new : List Node) (free free' : ℕ) (S S' : ℕ → Best) (i : ℕ) (E R : Entries) → Merges label h levels p old new free free' S S' i E R → AllByRecursion IsPrefix (keys_of E) → AllByRecursion IsPrefix (keys_of R)
left_prefixes label h levels p old new free free' S S' i E R w a = after_prefixes (of_table p.family (lift p.bits w.taken)) R (subst (λ (F : Entries). AllByRecursion IsPrefix (keys_of F)) w.front a)

-- entries of a family's table that are set in it, each in its turn
rows_set : (f : Family) (T R : Table) → FitsWidth (width f) T → InPlace (of_table f R) → InPlace (of_table f (with_rows T R)) × (of_table f (with_rows T R) ≡ fold with_entry (of_table f R) (of_table f T))
rows_set f [] R l i = (i, refl)
rows_set f (e ∷ T) R l i =
    let x = rows_set f T (put e.prefix e.hop R) l.1 (in_place_put f e.prefix e.hop R (put e.prefix e.hop R) l.0 refl i) in
    (x.0, x.1 ∙ ap (λ E. fold with_entry E (of_table f T)) (entries_put f f e.prefix e.hop R (put e.prefix e.hop R) R (of_table f R) l.0 refl refl refl refl i))

-- what one walk from the root sets
pub lays_front : (f : Family) (p : code.Prefix) (label : Label) (old new : List Node) (free free' : ℕ) (S S' : ℕ → Best) (E R : Entries) → AllByRecursion IsPrefix (keys_of E) → prefix_as p ≡ record { family = f; bits = [] } → IsArena f old free → InPlace (of_table f (rows_of label (whole f old))) →
    Merges label 0 (width p.family - p.len) (prefix_as p) old new free free' S S' 0 E R → Lays f label old new free' S S' E R
lays_front f p label old new free free' S S' E R prefixes is a i w =
    let y = w.merged (suc (width f)) a.name a.spares [] (omega (arith, ap (λ (x : Prefix). width x.family) is)) a.tree a.held in
    let T = w.taken in
    let Old = rows_of label (whole f old) in
    let front : E ≡ of_table f T ++ R = w.front ∙ ap (λ z. z ++ R) (told_whole f p T is) in
    let fits = fits_in_place f T (front_prefixes (of_table f T) R (subst (λ (F : Entries). AllByRecursion IsPrefix (keys_of F)) front prefixes)) in
    let s = rows_set f T Old fits i in
    record {
      arena = record { name = y.name'; spares = y.spares; tree = y.tree; held = y.held };
      order = subst (λ (x : Table). InPlace (of_table f x)) (sym y.rows) s.0;
      other = y.other;
      best = λ e k. best_alike (suc (width f)) new S' (λ a. lpm (whole f old).routes a 0) (λ a. lpm (whole f new).routes a 0) 0 (λ a l. ap (λ x. lpm x a 0) (sym (routes_by label e (whole f new) (whole f old) y.other))) (y.grown e k).best;
      rows = ap (λ x. fold with_entry (of_table f x) (own_of f R)) y.rows
          ∙ (ap (λ x. fold with_entry x (own_of f R)) s.1
          ∙ (sym (fold-append with_entry (of_table f Old) (of_table f T) (own_of f R))
          ∙ ap (fold with_entry (of_table f Old)) (ap (λ x. x ++ own_of f R) (sym (own_all f T)) ∙ (sym (filter-append (λ e. same_family f e.0.family) (of_table f T) R) ∙ ap (own_of f) (sym front)))));
    }

pub settled_whole : (f : Family) (depth free : ℕ) (cells : List Node) (S S' : ℕ → Best) → depth ≡ width f → IsArena f cells free →
    ((name : ℕ → Owner) (p : List Bool) → IsTree (suc depth) cells name 0 p → IsMended depth cells name 0 p (λ a. lpm (walks_at (suc depth) cells 0).routes a 0) S S' (S' 0)) → KeepsBest f cells S'
settled_whole f depth free cells S S' e a m =
    (subst (λ (D : ℕ). (name : ℕ → Owner) (p : List Bool) → IsTree (suc D) cells name 0 p → IsMended D cells name 0 p (λ a. lpm (walks_at (suc D) cells 0).routes a 0) S S' (S' 0)) e m a.name [] a.tree).best
