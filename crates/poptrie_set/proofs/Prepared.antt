-- A prepared update: the version that stands, with the blocks that were taken, and the new one beside it.
use Rattle.std.proofs.Common.{◌≤◌, ◌≡◌, ℕ, zero, suc, ◌^◌, ◌<◌, List, [], ◌++◌, true, false, take, get_or, refl, sym, ap, ◌∙◌, arith, subst}
use Rattle.std.specs.List.{AllByRecursion}
use Rattle.std.proofs.lemmas.Grind.{same_number_lists}
use Rattle.table_model.specs.Entries.{Entries}
use Rattle.buddy_arena.specs.Space.{Space}
use Rattle.poptrie_build.specs.Stands.{blank}
use Rattle.buddy_arena.specs.Arrays.{Array, places_of}
use Rattle.poptrie_build.specs.declared.node.Node.{Node}
use Rattle.buddy_arena.specs.Blocks.{blocks_of}
use Rattle.poptrie_build.specs.Tries.{node_need, leaf_need}
use Rattle.poptrie_set.specs.Version.{IsVersion}
use Rattle.poptrie_set.specs.Lives.{Seen, Store, Beside, ShowsIn, stores_cover}
use Rattle.poptrie_set.proofs.Kept.{Grows, version_grown}

-- nothing is pending
module _ (l : Seen) (L M : Entries) (old new : List ℕ) (b : Beside l L M old new) (stores : l.stores ≡ []) (nodes : l.nodes.taken ≡ []) (leaves : l.leaves.taken ≡ []) where
  words_old : l.words ≡ old
  words_old = same_number_lists l.words old (b.words ∙ sym b.before.words.words) (λ v h. b.unstored v (omega (arith, h, b.words)) (ap (λ (s : List Store). stores_cover (take l.made s) v) stores ∙ none l.made v))
    where
      none : (n v : ℕ) → stores_cover (take n []) v ≡ false
      none zero v = refl
      none (suc n) v = refl

  pub quiet_version : IsVersion l.family l.direct_bits l.nodes.space l.leaves.space l.words L (blocks_of l.nodes.retired) (blocks_of l.leaves.retired)
  quiet_version =
      subst (λ (w : List ℕ). IsVersion l.family l.direct_bits l.nodes.space l.leaves.space w L (blocks_of l.nodes.retired) (blocks_of l.leaves.retired)) (sym words_old)
      (subst (λ (x : List Array). IsVersion l.family l.direct_bits l.nodes.space l.leaves.space old L (x ++ blocks_of l.nodes.retired) (blocks_of l.leaves.retired)) nodes
      (subst (λ (x : List Array). IsVersion l.family l.direct_bits l.nodes.space l.leaves.space old L (l.nodes.taken ++ blocks_of l.nodes.retired) (x ++ blocks_of l.leaves.retired)) leaves b.before))

-- it shows the first alone
pub quiet_shows : (l : Seen) (L M : Entries) → ShowsIn l L M → l.stores ≡ [] → l.nodes.taken ≡ [] → l.nodes.replaced ≡ [] → l.leaves.taken ≡ [] → l.leaves.replaced ≡ [] → ShowsIn l L L
quiet_shows l L M sh stores nt nr lt lr =
    let v = quiet_version l L M sh.0 sh.1 sh.2 stores nt lt in (
      l.words,
      l.words,
      record {
        before =
            subst (λ (x : List Array). IsVersion l.family l.direct_bits l.nodes.space l.leaves.space l.words L (x ++ blocks_of l.nodes.retired) (l.leaves.taken ++ blocks_of l.leaves.retired)) (sym nt)
            (subst (λ (x : List Array). IsVersion l.family l.direct_bits l.nodes.space l.leaves.space l.words L (blocks_of l.nodes.retired) (x ++ blocks_of l.leaves.retired)) (sym lt) v);
        after =
            subst (λ (x : List Array). IsVersion l.family l.direct_bits l.nodes.space l.leaves.space l.words L (x ++ blocks_of l.nodes.retired) (l.leaves.replaced ++ blocks_of l.leaves.retired)) (sym nr)
            (subst (λ (x : List Array). IsVersion l.family l.direct_bits l.nodes.space l.leaves.space l.words L (blocks_of l.nodes.retired) (x ++ blocks_of l.leaves.retired)) (sym lr) v);
        nodes_few = subst (λ (x : List Array). places_of x ≤ node_need l.family l.direct_bits L) (sym nr) (omega arith);
        leaves_few = subst (λ (x : List Array). places_of x ≤ leaf_need l.family l.direct_bits L) (sym lr) (omega arith);
        made = sh.2.made;
        words = sh.2.words;
        stored = λ v h e. refl;
        unstored = λ v h e. refl;
        shared = λ v h e. refl;
        due = subst (λ (x : List Store). AllByRecursion (λ (s : Store). (s.0 < 2 ^ l.direct_bits) × (get_or l.words s.0 0 ≡ s.1)) x) (sym stores) tt;
      },
    )

module _ (l : Seen) (nodes : Space Node) (leaves : Space ℕ) (taken replaced taken2 replaced2 : List Array) (stores : List Store) (new : List ℕ) (L M : Entries) where
  abbrev pub prepared : Seen
  prepared = record l { nodes = record { space = nodes; taken = taken; replaced = replaced; retired = l.nodes.retired }; leaves = record { space = leaves; taken = taken2; replaced = replaced2; retired = l.leaves.retired }; pending = true; stores = stores; made = 0 }

  pub prepare_shows : IsVersion l.family l.direct_bits l.nodes.space l.leaves.space l.words L (blocks_of l.nodes.retired) (blocks_of l.leaves.retired) → Grows blank l.nodes.space nodes taken → Grows 0 l.leaves.space leaves taken2 →
      IsVersion l.family l.direct_bits nodes leaves new M (replaced ++ blocks_of l.nodes.retired) (replaced2 ++ blocks_of l.leaves.retired) →
      places_of replaced ≤ node_need l.family l.direct_bits L → places_of replaced2 ≤ leaf_need l.family l.direct_bits L → ((v : ℕ) → v < 2 ^ l.direct_bits → stores_cover stores v ≡ false → get_or l.words v 0 ≡ get_or new v 0) → AllByRecursion (λ (s : Store). (s.0 < 2 ^ l.direct_bits) × (get_or new s.0 0 ≡ s.1)) stores → Beside prepared L M l.words new
  prepare_shows v a b w few few2 same due = record {
    before = version_grown l.family l.direct_bits l.nodes.space nodes l.leaves.space leaves l.words L (blocks_of l.nodes.retired) (blocks_of l.leaves.retired) taken taken2 v a b;
    after = w;
    nodes_few = few;
    leaves_few = few2;
    made = omega arith;
    words = v.words.words;
    stored = λ i h e. cc;
    unstored = λ i h e. refl;
    shared = same;
    due = due;
  }
