-- What is taken of a node of the array.
use Rattle.std.proofs.Common.{◌≡◌, ℕ, zero, suc, ◌-◌, ◌<◌, ◌≤◌, List, [], ◌++◌, true, false, sym, ap, subst, arith, Bool, Option, Some, None, map}
use Rattle.table_model.specs.Width.{width}
use Rattle.table_model.specs.Address.{Prefix}
use Rattle.fib_addr.specs.Views.{prefix_as}
use Rattle.std.specs.Option.{option_to_list}
use Rattle.table_model.specs.Table.{Table}
use Rattle.table_model.specs.Entries.{Entries, of_table}
use Rattle.table_model.specs.Regions.{lift}
use Rattle.orig_tree.specs.Views.{FitsWidth}
use Rattle.orig_tree.specs.Walk.{rows_of, labelled}
use Rattle.orig_tree.specs.Arena.{cell_at, half_place, from_half, walks_by, walks_at}
use Rattle.orig_tree.specs.declared.node.Node.{Node}
use Rattle.orig_tree.specs.declared.node.Label.{Label}
use Rattle.orig_tree.proofs.Telling.{told_end, told_nothing, told_level, fits_low, fits_high, half_longer}
use Rattle.fib_addr.specs.declared.prefix.Prefix as code
use Rattle.table_model.specs.Halves.{half_at}

module _ {S : Type 0} (Takes : S → Entries → S → Type 0) where
  pub end_told : (p : code.Prefix) (label : Label) (cells : List Node) (n : Node) (i : ℕ) (o : Option ℕ) (X Y : S) (d : ℕ) → n ≡ cell_at cells i → p.len ≡ width p.family → o ≡ labelled label n.route.hop n.entry.hop
      → Takes X (map (λ h. (prefix_as p, h)) (option_to_list o)) Y
      → width p.family - p.len < d → FitsWidth (width p.family - p.len) (rows_of label (walks_at d cells i))
      → Takes X (of_table p.family (lift (prefix_as p).bits (rows_of label (walks_at d cells i)))) Y
  unfolding walks_at
  end_told p label cells n i o X Y zero at e k s l f = absurd (omega arith)
  end_told p label cells n i o X Y (suc d) at e k s l f =
      let g = walks_at d cells in
      subst (λ E. Takes X E Y) (told_end p label n.route.hop n.entry.hop o (from_half g (half_place n false)) (from_half g (half_place n true)) (walks_by g (cell_at cells i)) (ap (walks_by g) at) e f k) s

  pub none_told : (p : Prefix) (label : Label) (cells : List Node) (half : Option ℕ) (X : S) (d : ℕ) → half ≡ None → Takes X [] X → Takes X (of_table p.family (lift p.bits (rows_of label (from_half (walks_at d cells) half)))) X
  none_told p label cells half X d e s = subst (λ E. Takes X E X) (told_nothing label p (from_half (walks_at d cells) half) (ap (from_half (walks_at d cells)) e)) s

  -- a half that is a node, whose prefix is q
  pub half_told : (p q : code.Prefix) (b : Bool) (label : Label) (cells : List Node) (j : ℕ) (half : Option ℕ) (X Y : S) (d : ℕ) → prefix_as q ≡ half_at b (prefix_as p) → half ≡ Some j
      → ((e : ℕ) → width q.family - q.len < e → FitsWidth (width q.family - q.len) (rows_of label (walks_at e cells j)) → Takes X (of_table q.family (lift (prefix_as q).bits (rows_of label (walks_at e cells j)))) Y)
      → p.len < width p.family → width p.family - p.len ≤ d → FitsWidth (width p.family - p.len - 1) (rows_of label (from_half (walks_at d cells) half))
      → Takes X (of_table p.family (lift (half_at b (prefix_as p)).bits (rows_of label (from_half (walks_at d cells) half)))) Y
  half_told p q b label cells j half X Y d e is t longer l f =
      let R = rows_of label (from_half (walks_at d cells) half) in
      let at : R ≡ rows_of label (walks_at d cells j) = ap (λ o. rows_of label (from_half (walks_at d cells) o)) is in
      let n : width p.family - p.len - 1 ≡ width q.family - q.len = omega (arith, half_longer p q b e, ap (λ (k : Prefix). width k.family) e) in
      subst (λ (T : Table). Takes X (of_table p.family (lift (half_at b (prefix_as p)).bits T)) Y) (sym at)
      (subst (λ (k : Prefix). Takes X (of_table k.family (lift k.bits (rows_of label (walks_at d cells j)))) Y) e
      (t d (omega (arith, l, n, longer)) (subst (λ (T : Table). FitsWidth (width q.family - q.len) T) at (subst (λ (m : ℕ). FitsWidth m R) n f))))

  pub level_told : (more : (a b c : S) (E D : Entries) → Takes a E b → Takes b D c → Takes a (E ++ D) c) (p : code.Prefix) (label : Label) (cells : List Node) (n : Node) (i : ℕ) (o : Option ℕ) (a b : Option ℕ) (X Y Z W : S) (d : ℕ) → n ≡ cell_at cells i
      → o ≡ labelled label n.route.hop n.entry.hop → a ≡ half_place n false → b ≡ half_place n true → Takes X (map (λ h. (prefix_as p, h)) (option_to_list o)) Y
      → ((e : ℕ) → width p.family - p.len ≤ e → FitsWidth (width p.family - p.len - 1) (rows_of label (from_half (walks_at e cells) a)) → Takes Y (of_table p.family (lift (half_at false (prefix_as p)).bits (rows_of label (from_half (walks_at e cells) a)))) Z)
      → ((e : ℕ) → width p.family - p.len ≤ e → FitsWidth (width p.family - p.len - 1) (rows_of label (from_half (walks_at e cells) b)) → Takes Z (of_table p.family (lift (half_at true (prefix_as p)).bits (rows_of label (from_half (walks_at e cells) b)))) W)
      → width p.family - p.len < d → FitsWidth (width p.family - p.len) (rows_of label (walks_at d cells i))
      → Takes X (of_table p.family (lift (prefix_as p).bits (rows_of label (walks_at d cells i)))) W
  unfolding walks_at
  level_told more p label cells n i o a b X Y Z W zero at s x y t u v l f = absurd (omega arith)
  level_told more p label cells n i o a b X Y Z W (suc d) at s x y t u v l f =
      let m = width p.family - p.len in
      let P = prefix_as p in
      let w = walks_at d cells in
      let low = from_half w (half_place n false) in
      let high = from_half w (half_place n true) in
      let node = walks_by w (cell_at cells i) in
      let is : walks_by w n ≡ node = ap (walks_by w) at in
      let A : Entries = of_table p.family (lift (half_at false P).bits (rows_of label low)) in
      let B : Entries = of_table p.family (lift (half_at true P).bits (rows_of label high)) in
      let la : FitsWidth (m - 1) (rows_of label (from_half w a)) = subst (λ (k : Option ℕ). FitsWidth (m - 1) (rows_of label (from_half w k))) (sym x) (fits_low m label n.route.hop n.entry.hop low high node is f) in
      let lb : FitsWidth (m - 1) (rows_of label (from_half w b)) = subst (λ (k : Option ℕ). FitsWidth (m - 1) (rows_of label (from_half w k))) (sym y) (fits_high m label n.route.hop n.entry.hop low high node is f) in
      let ta : Takes Y A Z = subst (λ (k : Option ℕ). Takes Y (of_table p.family (lift (half_at false P).bits (rows_of label (from_half w k)))) Z) x (u d (omega (arith, l)) la) in
      let tb : Takes Z B W = subst (λ (k : Option ℕ). Takes Z (of_table p.family (lift (half_at true P).bits (rows_of label (from_half w k)))) W) y (v d (omega (arith, l)) lb) in
      subst (λ E. Takes X E W) (told_level P label n.route.hop n.entry.hop o low high node is s) (more X Y W (map (λ h. (P, h)) (option_to_list o)) (A ++ B) t (more Y Z W A B ta tb))
