-- What a family's live trie keeps through all the stores of an event and its end.
use Rattle.std.proofs.Common.{◌≡◌, ℕ, suc, List, [], ◌∷◌, ◌++◌, Bool, true, false, refl, sym, ap, ◌∙◌, subst}
use Rattle.table_model.specs.declared.family.Family.{Family}
use Rattle.table_model.specs.Entries.{Entries}
use Rattle.poptrie_build.specs.Tries.{node_need, leaf_need}
use Rattle.poptrie_set.specs.declared.trie_set.Oldest.{Oldest}
use Rattle.poptrie_update.specs.Cells.{KeepsAllReached}
use Rattle.poptrie_update.specs.Lives.{HasShapeOf, Living, Past, Shows, is_pending}
use Rattle.poptrie_update.proofs.Unreached.{reached_both}
use Rattle.fib_router.specs.Lives.{CarriesOn, Finishes, GoesBy, IsAppliedTo, Readies, StoresNext, StoresOn, live_of}
use Rattle.fib_router.specs.declared.lives.Lives as code_lives
use Rattle.fib_router.proofs.Stepping.{reached_self}

shape_both : (l m r : Living) → HasShapeOf l m → HasShapeOf m r → HasShapeOf l r
shape_both l m r a b = (b.0 ∙ a.0, b.1 ∙ a.1, b.2 ∙ a.2, b.3 ∙ a.3)

carries_both : (l m r : Living) → CarriesOn l m → CarriesOn m r → CarriesOn l r
carries_both l m r a b = record { shape = shape_both l m r a.shape b.shape; time = b.time ∙ a.time; fits = λ os h. b.fits os (a.fits os h); past = λ ns ls h. b.past ns ls (a.past ns ls h) }

-- ---- its stores
pub stores_none : (l : Living) → StoresOn l l
stores_none l = record { carries = record { shape = (refl, refl, refl, refl); time = refl; fits = λ os h. h; past = λ ns ls h. h }; pending = refl; idle = λ e. refl; shows = λ L M h. h; cells = reached_self 0 l }

one_more : (done : Bool) (l m r : Living) → StoresOn l m → is_pending m ≡ true → StoresNext done m r → KeepsAllReached 0 m r → StoresOn l r
one_more done l m r a waits n cells = record {
  carries = carries_both l m r a.carries n.carries;
  pending = n.pending ∙ (sym waits ∙ a.pending);
  idle = λ e. let f : true ≡ false = sym waits ∙ (a.pending ∙ e) in cc;
  shows = λ L M h. n.shows L M (a.shows L M h);
  cells = reached_both 0 l m r a.carries.time a.cells cells;
}

module _ (old mid new : code_lives.Lives) (done : Bool) (so_far : (f : Family) → StoresOn (live_of f old) (live_of f mid)) where
  pub stores_more : ((f : Family) → is_pending (live_of f mid) ≡ true → StoresNext done (live_of f mid) (live_of f new)) → ((f : Family) → is_pending (live_of f mid) ≡ false → live_of f new ≡ live_of f mid) → ((f : Family) → KeepsAllReached 0 (live_of f mid) (live_of f new)) → (f : Family) → StoresOn (live_of f old) (live_of f new)
  stores_more own other cells f = by (is_pending (live_of f mid)) refl
    where
      by : (b : Bool) → is_pending (live_of f mid) ≡ b → StoresOn (live_of f old) (live_of f new)
      by true e = one_more done (live_of f old) (live_of f mid) (live_of f new) (so_far f) e (own f e) (cells f)
      by false e = subst (StoresOn (live_of f old)) (sym (other f e)) (so_far f)

-- ---- its end
finished : (l m r : Living) → StoresOn l m → GoesBy m r → KeepsAllReached 0 m r → Finishes l r
finished l m r a g cells = record {
  shape = shape_both l m r a.carries.shape g.shape;
  time = g.time ∙ ap suc a.carries.time;
  quiet = g.quiet;
  fits = λ os h. g.fits os (a.carries.fits os h);
  shows = λ L M h. g.shows L M (a.shows L M h);
  past = λ L M ns ls h p. by L ns ls (g.past L M ns ls (a.shows L M h) (a.carries.past ns ls p));
  cells = reached_both 0 l m r a.carries.time a.cells cells;
}
  where
    by : (L : Entries) (ns ls : List ℕ) → Past r (ns ++ node_need m.selected.family m.selected.direct_bits L ∷ []) (ls ++ leaf_need m.selected.family m.selected.direct_bits L ∷ []) → Past r (ns ++ node_need l.selected.family l.selected.direct_bits L ∷ []) (ls ++ leaf_need l.selected.family l.selected.direct_bits L ∷ [])
    by L ns ls p =
        subst (λ (f : Family). Past r (ns ++ node_need f l.selected.direct_bits L ∷ []) (ls ++ leaf_need f l.selected.direct_bits L ∷ [])) a.carries.shape.0
        (subst (λ (s : ℕ). Past r (ns ++ node_need m.selected.family s L ∷ []) (ls ++ leaf_need m.selected.family s L ∷ [])) a.carries.shape.1 p)

module _ (old mid new : code_lives.Lives) (so_far : (f : Family) → StoresOn (live_of f old) (live_of f mid)) where
  pub finishes_own : ((f : Family) → is_pending (live_of f mid) ≡ true → GoesBy (live_of f mid) (live_of f new)) → ((f : Family) → KeepsAllReached 0 (live_of f mid) (live_of f new)) → (f : Family) → is_pending (live_of f old) ≡ true → Finishes (live_of f old) (live_of f new)
  finishes_own own cells f e = finished (live_of f old) (live_of f mid) (live_of f new) (so_far f) (own f ((so_far f).pending ∙ e)) (cells f)

  pub finishes_other : ((f : Family) → is_pending (live_of f mid) ≡ false → live_of f new ≡ live_of f mid) → (f : Family) → is_pending (live_of f old) ≡ false → live_of f new ≡ live_of f old
  finishes_other other f e = other f ((so_far f).pending ∙ e) ∙ (so_far f).idle e

-- ---- where an event is applied
pub applied : (who : Oldest) (L M : Entries) (l m r : Living) → Readies who l m → Shows m L M → Finishes m r → IsAppliedTo L l r
applied who L M l m r a sh f = record {
  shape = shape_both l m r a.shape f.shape;
  time = f.time ∙ ap suc a.time;
  quiet = f.quiet;
  past = λ ns ls p.
      let q = f.past L M ns ls sh (a.past ns ls p) in
      subst (λ (g : Family). Past r (ns ++ node_need g l.selected.direct_bits L ∷ []) (ls ++ leaf_need g l.selected.direct_bits L ∷ [])) a.shape.0
      (subst (λ (s : ℕ). Past r (ns ++ node_need m.selected.family s L ∷ []) (ls ++ leaf_need m.selected.family s L ∷ [])) a.shape.1 q);
}
