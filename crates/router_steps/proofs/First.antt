-- Before the first step.
use Rattle.std.proofs.Common.{◌≡◌, ℕ, zero, suc, ◌≤◌, List, [], false, Option, None, get_or, length, replicate, refl, sym, ap, ◌∙◌, subst}
use Rattle.table_model.specs.declared.family.Family.{Family}
use Rattle.table_model.specs.Entries.{Entries}
use Rattle.poptrie_build.specs.Tries.{node_need, leaf_need}
use Rattle.poptrie_update.specs.Lives.{Living, Shows, Past, is_pending}
use Rattle.poptrie_update.specs.Cursors.{OpenLookups, Dues, lookup_of, FitsAll}
use Rattle.poptrie_update.specs.declared.cursors.Lookup as code_lookup
use Rattle.step_script.specs.Machine.{World, changes_before, at_first}
use Rattle.router_steps.specs.Paused.{IsWorld, needs_before, AreSame, IsTrieAt, IsAt}

module _ (w : World) (f : Family) where
  no_change : changes_before w f 0 ≡ 0
  unfolding changes_before
  no_change = refl

  no_need : (need : Entries → ℕ) → needs_before w f need 0 ≡ []
  unfolding needs_before
  no_need need = refl

  -- a trie that shows the routes of the world's start
  pub trie_first : (l : Living) → w.direct ≤ 18 → l.selected.family ≡ f → l.selected.direct_bits ≡ w.direct → l.selected.nodes.space.order ≡ w.nodes → l.selected.leaves.space.order ≡ w.leaves → l.selected.time ≡ 0 → is_pending l ≡ false → Shows l (w.routes 0) (w.routes 0) → Past l [] [] → IsTrieAt w f 0 None l
  trie_first l few fam direct nodes leaves time quiet shows past = record {
    family = fam;
    direct = direct;
    few = few;
    node_order = nodes;
    leaf_order = leaves;
    time = time ∙ sym no_change;
    shows = shows;
    past = subst (λ (ns : List ℕ). Past l ns (needs_before w f (leaf_need f w.direct) 0)) (sym (no_need (node_need f w.direct))) (subst (λ (ls : List ℕ). Past l [] ls) (sym (no_need (leaf_need f w.direct))) past);
    begun = quiet;
  }

none_at : (many n : ℕ) (x : Option code_lookup.Lookup) → x ≡ None → get_or (replicate many x) n x ≡ None
none_at zero n x e = e
none_at (suc many) zero x e = e
none_at (suc many) (suc n) x e = none_at many n x e

many_of : (many : ℕ) (x : Option code_lookup.Lookup) → length (replicate many x) ≡ many
many_of zero x = refl
many_of (suc many) x = ap suc (many_of many x)

pub first_at : (w : World) (f : Family) (l : Living) (cs : OpenLookups) → IsWorld w f → IsTrieAt w f 0 None l → cs ≡ replicate 64 None → ((l : Living) (due : Dues) → FitsAll l cs due) → IsAt w f at_first (record { live = l; cursors = cs })
first_at w f l cs world trie none fits = (
  due,
  record {
    world = world;
    trie = trie;
    fits = fits l due;
    same = λ n. subst (λ (x : Option code_lookup.Lookup). AreSame w f None x (due n)) (sym (ap (λ (xs : OpenLookups). lookup_of xs n) none ∙ none_at 64 n None refl)) tt;
    started = λ n k e. absurd (cc);
    many = ap (λ (xs : OpenLookups). length xs) none ∙ many_of 64 None;
  },
)
  where
    due : Dues
    due n = record { answer = 0; left = 0 }
