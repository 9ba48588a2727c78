-- Lists of the same blocks in another order, and the blocks of a node whose slots are replaced one after another.
use Rattle.std.proofs.Common.{◌≡◌, ℕ, zero, suc, ◌+◌, List, [], ◌∷◌, ◌++◌, Bool, refl, sym, ap, ◌∙◌, arith, subst}
use Rattle.std.specs.List.{AllByRecursion}
use Rattle.std.proofs.lemmas.List.{append-nil, append_assoc}
use Rattle.buddy_arena.specs.Arrays.{Array, Share, AreApart}
use Rattle.poptrie_build.specs.Arrays.{gather}
use Rattle.buddy_arena.proofs.Parting.{all_append}
use Rattle.buddy_arena.proofs.Sets.{swap, all_left, all_right}

pub record Like (xs ys : List Array) : Type 0 where
  pub all : (a : Array) → AllByRecursion (Share a) xs → AllByRecursion (Share a) ys
  pub apart : (N : ℕ → Bool) → AreApart N xs → AreApart N ys

pub like_is : (xs ys : List Array) → xs ≡ ys → Like xs ys
like_is xs ys e = record { all = λ a h. subst (λ (zs : List Array). AllByRecursion (Share a) zs) e h; apart = λ N h. subst (λ (zs : List Array). AreApart N zs) e h }

pub like_then : (xs ys zs : List Array) → Like xs ys → Like ys zs → Like xs zs
like_then xs ys zs p q = record { all = λ a h. q.all a (p.all a h); apart = λ N h. q.apart N (p.apart N h) }

pub like_under : (zs xs ys : List Array) → Like xs ys → Like (zs ++ xs) (zs ++ ys)
unfolding AreApart
like_under zs xs ys p = record { all = λ a h. all_append (Share a) zs ys (all_left (Share a) zs xs h) (p.all a (all_right (Share a) zs xs h)); apart = λ N h. under zs N h }
  where
    under : (us : List Array) (N : ℕ → Bool) → AreApart N (us ++ xs) → AreApart N (us ++ ys)
    under [] N h = p.apart N h
    under (u ∷ us) N h = (h.0, all_append (Share u) us ys (all_left (Share u) us xs h.1) (p.all u (all_right (Share u) us xs h.1)), under us N h.2)

pub like_swap : (xs ys : List Array) → Like (xs ++ ys) (ys ++ xs)
like_swap xs ys = record { all = λ a h. all_append (Share a) ys xs (all_right (Share a) xs ys h) (all_left (Share a) xs ys h); apart = λ N h. swap N xs ys h }

pub like_behind : (zs xs ys : List Array) → Like xs ys → Like (xs ++ zs) (ys ++ zs)
like_behind zs xs ys p = like_then _ _ _ (like_swap xs zs) (like_then _ _ _ (like_under zs xs ys p) (like_swap zs ys))

-- the first of three goes behind the second
pub like_move : (xs ys zs : List Array) → Like (xs ++ (ys ++ zs)) (ys ++ (xs ++ zs))
like_move xs ys zs = like_then _ _ _ (like_is _ _ (sym (append_assoc xs ys zs))) (like_then _ _ _ (like_behind zs (xs ++ ys) (ys ++ xs) (like_swap xs ys)) (like_is _ _ (append_assoc ys xs zs)))

-- ---- a node's blocks slot by slot, from slot v on
pub onward : (ℕ → List Array) → ℕ → ℕ → List Array
onward g v zero = []
onward g v (suc n) = g v ++ onward g (suc v) n

onward_more : (g : ℕ → List Array) (v n : ℕ) → onward g v n ++ g (v + n) ≡ onward g v (suc n)
unfolding onward
onward_more g v zero = (let e : v + zero ≡ v = omega arith in ap g e) ∙ sym (append-nil (g v))
onward_more g v (suc n) =
    let e : v + suc n ≡ suc v + n = omega arith in
    append_assoc (g v) (onward g (suc v) n) (g (v + suc n)) ∙ (ap (λ j. g v ++ (onward g (suc v) n ++ g j)) e ∙ ap (λ (r : List Array). g v ++ r) (onward_more g (suc v) n))

pub onward_all : (g : ℕ → List Array) (n : ℕ) → gather g n ≡ onward g 0 n
unfolding onward gather
onward_all g zero = refl
onward_all g (suc n) = ap (λ (r : List Array). r ++ g n) (onward_all g n) ∙ ((let e : n ≡ 0 + n = omega arith in ap (λ j. onward g 0 n ++ g j) e) ∙ onward_more g 0 n)

-- blocks `old` are replaced by `new`, and those put aside are `more` in place of `gone`: whatever else is out stays apart
abbrev pub Replaces : (ℕ → Bool) → List Array → List Array → (ℕ → Bool) → List Array → List Array → Type 0
Replaces N old gone M new more = (others : List Array) → AreApart N (old ++ (gone ++ others)) → AreApart M (new ++ (more ++ others))

-- what is unchanged is shared
pub replaces_none : (N M : ℕ → Bool) (xs gone : List Array) → ((ys : List Array) → AreApart N ys → AreApart M ys) → Replaces N xs gone M xs gone
replaces_none N M xs gone h = λ others a. h (xs ++ (gone ++ others)) a

-- all below a region that becomes uniform is put aside
pub replaces_all : (N M : ℕ → Bool) (xs gone : List Array) → ((ys : List Array) → AreApart N ys → AreApart M ys) → Replaces N xs gone M [] (gone ++ xs)
replaces_all N M xs gone h = λ others a.
    h ((gone ++ xs) ++ others) ((like_then _ _ _ (like_move xs gone others) (like_is _ _ (sym (append_assoc gone xs others)))).apart N a)

-- a block comes out that was free
pub replaces_new : (N M : ℕ → Bool) (x : Array) (old gone new more : List Array) → ((ys : List Array) → AreApart N ys → AreApart M (x ∷ ys)) → Replaces N old gone N new more → Replaces N old gone M (x ∷ new) more
replaces_new N M x old gone new more h r = λ others a. h (new ++ (more ++ others)) (r others a)

-- one after another
pub replaces_both : (N M R : ℕ → Bool) (xs gone ys more zs rest : List Array) → Replaces N xs gone M ys more → Replaces M ys more R zs rest → Replaces N xs gone R zs rest
replaces_both N M R xs gone ys more zs rest a b = λ others h. b others (a others h)

-- the slots before v are done: their new blocks, the old ones from v on, and what was put aside
abbrev pub Midway : (ℕ → Bool) → (ℕ → List Array) → List Array → (ℕ → Bool) → (ℕ → List Array) → List Array → ℕ → ℕ → Type 0
Midway N old gone M new more v n = Replaces N (onward old 0 (v + n)) gone M (gather new v ++ onward old v n) more

pub midway_start : (N : ℕ → Bool) (old new : ℕ → List Array) (gone : List Array) (n : ℕ) → Midway N old gone N new gone 0 n
unfolding gather
midway_start N old new gone n = λ others a. let e : 0 + n ≡ n = omega arith in subst (λ (m : ℕ). AreApart N (onward old 0 m ++ (gone ++ others))) e a

module _ (N M R : ℕ → Bool) (old new : ℕ → List Array) (gone more last : List Array) (v n : ℕ) where
  pub midway_next : Midway N old gone M new more v (suc n) → Replaces M (old v) more R (new v) last → Midway N old gone R new last (suc v) n
  unfolding onward gather
  midway_next m r others a =
      let e : suc v + n ≡ v + suc n = omega arith in
      let b = m others (subst (λ (j : ℕ). AreApart N (onward old 0 j ++ (gone ++ others))) e a) in
      let rest = onward old (suc v) n in
      let done = gather new v in
      -- the slot's old blocks and those put aside come to the front
      let c = (like_behind (more ++ others) (done ++ (old v ++ rest)) (old v ++ (done ++ rest)) (like_move done (old v) rest)).apart M b in
      let d = (like_then _ _ _ (like_is _ _ (append_assoc (old v) (done ++ rest) (more ++ others))) (like_under (old v) ((done ++ rest) ++ (more ++ others)) (more ++ ((done ++ rest) ++ others)) (like_move (done ++ rest) more others))).apart M c in
      -- and back behind the slots that are done
      let f = r ((done ++ rest) ++ others) d in
      let g = (like_then _ _ _ (like_under (new v) (last ++ ((done ++ rest) ++ others)) ((done ++ rest) ++ (last ++ others)) (like_move last (done ++ rest) others)) (like_is _ _ (sym (append_assoc (new v) (done ++ rest) (last ++ others))))).apart R f in
      (like_behind (last ++ others) (new v ++ (done ++ rest)) ((done ++ new v) ++ rest) (like_then _ _ _ (like_move (new v) done rest) (like_is _ _ (sym (append_assoc done (new v) rest))))).apart R g

pub midway_end : (N M : ℕ → Bool) (old new : ℕ → List Array) (gone more : List Array) (v : ℕ) → Midway N old gone M new more v 0 → Replaces N (gather old v) gone M (gather new v) more
unfolding onward
midway_end N M old new gone more v m others a =
    let e : v + 0 ≡ v = omega arith in
    subst (λ (x : List Array). AreApart M (x ++ (more ++ others))) (append-nil (gather new v)) (m others (subst (λ (x : List Array). AreApart N (x ++ (gone ++ others))) (onward_all old v ∙ ap (onward old 0) (sym e)) a))
