-- The blocks that are out where nothing is retired.
use Rattle.std.proofs.Common.{◌≡◌, ℕ, List, [], true, false, cond, Result, Ok, Err, refl, ap, arith}
use Rattle.std.specs.Prelude.{IfOk, OnErr}
use Rattle.table_model.specs.Entries.{Entries}
use Rattle.buddy_arena.specs.Arrays.{places_of}
use Rattle.buddy_arena.specs.Blocks.{Retired, blocks_of}
use Rattle.buddy_arena.proofs.Sets.{places_append}
use Rattle.poptrie_set.specs.Lives.{Seen, ShowsIn}
use Rattle.poptrie_update.specs.Lives.{Living, Holds, HasNoneRetired, ShowsBy, Shows, is_pending, is_selecting, made_of, stores_made}
use Rattle.poptrie_update.specs.Outs.{HasOutJust, OutJustBy, OutJust}
use Rattle.poptrie_update.specs.Prepares.{NoneRetired}
use Rattle.poptrie_update.specs.Pendings.{IsTokenOf}
use Rattle.poptrie_update.specs.declared.live.Other.{Other}
use Rattle.poptrie_update.specs.declared.live.Other.TheVariants as other
use Rattle.poptrie_update.specs.declared.pending.Pending.{Pending}
use Rattle.poptrie_update.specs.declared.pending.NotReady.{NotReady}

-- in one set
has_out_just : (s : Seen) (L M : Entries) → ShowsIn s L M → HasNoneRetired s → HasOutJust s L
has_out_just s L M sh none =
    let nodes : places_of (blocks_of s.nodes.retired) ≡ 0 = ap (λ (r : List Retired). places_of (blocks_of r)) none.0 in
    let leaves : places_of (blocks_of s.leaves.retired) ≡ 0 = ap (λ (r : List Retired). places_of (blocks_of r)) none.1 in
    record {
      nodes = omega (arith, sh.2.before.nodes_fill, places_append s.nodes.taken (blocks_of s.nodes.retired), nodes);
      leaves = omega (arith, sh.2.before.leaves_fill, places_append s.leaves.taken (blocks_of s.leaves.retired), leaves);
    }

-- in both
out_by : (state : Other) (s o : Seen) (L M : Entries) → Holds state s o → HasNoneRetired s → ((end : ℕ) → state ≡ other.Retired end → ⊥) → (state ≡ other.Replaced → ⊥) → ShowsBy state s o L M → OutJustBy state s o L M
out_by other.Free s o L M h none r n sh = (has_out_just s L M sh none, has_out_just o [] [] h.0 h.1)
out_by (other.Retired end) s o L M h none r n sh = r end refl
out_by other.Built s o L M h none r n sh = (has_out_just s L L sh.0 none, has_out_just o M M sh.1 h.1)
out_by other.Replaced s o L M h none r n sh = n refl

-- just made ready, or refused: the selector isn't stored
not_replaced : (r : Result Pending NotReady) (l : Living) → IfOk r (λ p. IsTokenOf p l × (made_of l ≡ 0)) → OnErr r (is_pending l ≡ false) → l.state ≡ other.Replaced → ⊥
not_replaced (Ok p) l token quiet e = by l.state token.1 e
  where
    by : (x : Other) → stores_made x l.selected.made ≡ 0 → x ≡ other.Replaced → ⊥
    by other.Free z q = cc
    by (other.Retired end) z q = cc
    by other.Built z q = cc
    by other.Replaced z q = absurd (omega (arith, z))
not_replaced (Err w) l token quiet e = by l.state quiet e
  where
    by : (x : Other) → cond (is_selecting x) true l.selected.pending ≡ false → x ≡ other.Replaced → ⊥
    by other.Free z q = cc
    by (other.Retired end) z q = cc
    by other.Built z q = cc
    by other.Replaced z q = cc

pub out_just : (r : Result Pending NotReady) (l : Living) (L M : Entries) → Holds l.state l.selected l.other → NoneRetired l → IfOk r (λ p. IsTokenOf p l × (made_of l ≡ 0)) → OnErr r (is_pending l ≡ false) → Shows l L M → OutJust l L M
out_just r l L M h none token quiet sh = out_by l.state l.selected l.other L M h none.0 none.1 (not_replaced r l token quiet) sh
