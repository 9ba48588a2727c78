-- What is told of tables, when one more is compared, and what it says of every two.
use Rattle.std.proofs.Common.{◌≡◌, List, [], ◌∷◌, ◌++◌, length, Option, Some, None, refl, sym, ap, ◌∙◌, append_assoc}
use Rattle.std.specs.List.{AllByRecursion}
use Rattle.std.specs.Cmp.{IsTotalOrder}
use Rattle.std.specs.Ordering.{ordering_reverse, match_ordering}
use Rattle.std.specs.declared.cmp.Ordering.{Ordering}
use Rattle.std.specs.declared.cmp.Ordering.TheVariants.{Less, Equal, Greater}
use Rattle.std.proofs.lemmas.Cmp.{nat_cmp_total, on_total, then_total}
use Rattle.table_model.specs.Bits.{value_of}
use Rattle.table_model.specs.Width.{width}
use Rattle.table_model.specs.Address.{Address}
use Rattle.table_model.specs.Entries.{Entries, match_in, AlikeInBoth}
use Rattle.cert_model.specs.Verdict.{address_cmp, IsLeastDiffering}
use Rattle.fib_same.specs.Texts.{Difference, IsLeastDifference, IsDifferenceOf, ComparesTo, EveryTwo, SameBefore, lesser}

-- ---- the order of addresses

address_total : IsTotalOrder address_cmp
address_total = then_total (on_total (λ (a : Address). width a.family) nat_cmp_total) (on_total (λ (a : Address). value_of a.bits) nat_cmp_total)

-- before an address, and so before one that isn't less
before_equal : (b x y : Address) → address_cmp b x ≡ Less → address_cmp y x ≡ Equal → address_cmp b y ≡ Less
before_equal b x y l e =
    address_total.antisymm b y ∙ (ap ordering_reverse (address_total.congr y x b e) ∙ (sym (address_total.antisymm b x) ∙ l))

before_greater : (b x y : Address) → address_cmp b x ≡ Less → address_cmp y x ≡ Greater → address_cmp b y ≡ Less
before_greater b x y l g = address_total.trans b x y l (address_total.antisymm x y ∙ ap ordering_reverse g)

-- ---- lists

all_push : {X : Type 0} (P : X → Type 0) (xs : List X) (x : X) → AllByRecursion P xs → P x → AllByRecursion P (xs ++ x ∷ [])
all_push P [] x a h = (h, tt)
all_push P (y ∷ xs) x a h = (a.0, all_push P xs x a.1 h)

all_so : {X : Type 0} (P Q : X → Type 0) (xs : List X) → ((x : X) → P x → Q x) → AllByRecursion P xs → AllByRecursion Q xs
all_so P Q [] f a = tt
all_so P Q (x ∷ xs) f a = (f x a.0, all_so P Q xs f a.1)

-- ---- one table more

kept : (first : Entries) (others : List Entries) (t : Entries) (x : Difference) → IsLeastDifference first others x → SameBefore first x.addr t → IsLeastDifference first (others ++ t ∷ []) x
kept first others t x d s = record {
  before = d.before;
  other = d.other;
  after = d.after ++ t ∷ [];
  split = ap (λ (l : List Entries). l ++ t ∷ []) d.split ∙ append_assoc d.before (d.other ∷ d.after) (t ∷ []);
  number = d.number;
  address = d.address;
  differ = d.differ;
  earlier = d.earlier;
  least = all_push (SameBefore first x.addr) others t d.least s;
}

replaced : (first : Entries) (others : List Entries) (t : Entries) (y : Difference) → y.text ≡ length others → IsLeastDiffering first t y.addr
    → AllByRecursion (SameBefore first y.addr) others → AllByRecursion (λ u. match_in first y.addr ≡ match_in u y.addr) others
    → IsLeastDifference first (others ++ t ∷ []) y
replaced first others t y n d s e = record {
  before = others;
  other = t;
  after = [];
  split = refl;
  number = n;
  address = d.address;
  differ = d.differ;
  earlier = e;
  least = all_push (SameBefore first y.addr) others t s d.least;
}

pub next_told : (first : Entries) (others : List Entries) (t : Entries) (best next : Option Difference)
    → ComparesTo first others best → IsDifferenceOf first (length others) t next → ComparesTo first (others ++ t ∷ []) (lesser best next)
next_told first others t None None told one = all_push (AlikeInBoth first) others t told one
next_told first others t None (Some y) told one =
    replaced first others t y one.0 one.1
    (all_so (AlikeInBoth first) (SameBefore first y.addr) others (λ u alike b h l. alike b h) told)
    (all_so (AlikeInBoth first) (λ u. match_in first y.addr ≡ match_in u y.addr) others (λ u alike. alike y.addr (one.1).address) told)
next_told first others t (Some x) None told one = kept first others t x told (λ b h l. one b h)
next_told first others t (Some x) (Some y) told one = by_order (address_cmp y.addr x.addr) refl
  where
    by_order : (o : Ordering) → address_cmp y.addr x.addr ≡ o → ComparesTo first (others ++ t ∷ []) (match_ordering o (Some y) (Some x) (Some x))
    by_order Less e =
        replaced first others t y one.0 one.1
        (all_so (SameBefore first x.addr) (SameBefore first y.addr) others (λ u same b h l. same b h (address_total.trans b y.addr x.addr l e)) told.least)
        (all_so (SameBefore first x.addr) (λ u. match_in first y.addr ≡ match_in u y.addr) others (λ u same. same y.addr (one.1).address e) told.least)
    by_order Equal e = kept first others t x told (λ b h l. (one.1).least b h (before_equal b x.addr y.addr l e))
    by_order Greater e = kept first others t x told (λ b h l. (one.1).least b h (before_greater b x.addr y.addr l e))

-- ---- every two

-- what holds of the first and each table, and so of every two
each_two : (P : Entries → Entries → Type 0) (first : Entries) (others : List Entries)
    → P first first → ((t : Entries) → P first t → P t first) → ((t u : Entries) → P first t → P first u → P t u)
    → AllByRecursion (P first) others → EveryTwo P (first ∷ others)
each_two P first others itself back through all =
    ((itself, all), all_so (P first) (λ t. AllByRecursion (P t) (first ∷ others)) others (λ t h. (back t h, all_so (P first) (P t) others (λ u g. through t u h g) all)) all)

pub all_alike : (first : Entries) (others : List Entries) → AllByRecursion (AlikeInBoth first) others → EveryTwo AlikeInBoth (first ∷ others)
all_alike first others all =
    each_two AlikeInBoth first others (λ a h. refl) (λ t f a h. sym (f a h)) (λ t u f g a h. sym (f a h) ∙ g a h) all

pub all_before : (first : Entries) (others : List Entries) (x : Difference) → IsLeastDifference first others x → EveryTwo (λ t. SameBefore t x.addr) (first ∷ others)
all_before first others x d =
    each_two (λ t. SameBefore t x.addr) first others (λ b h l. refl) (λ t f b h l. sym (f b h l)) (λ t u f g b h l. sym (f b h l) ∙ g b h l) d.least
