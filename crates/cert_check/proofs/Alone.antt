-- The runs of a region with one entry.
use Rattle.std.proofs.Common.{◌≡◌, ◌≢◌, ℕ, ◌+◌, ◌-◌, ◌^◌, List, [], ◌∷◌, true, false, None, length, take, get_or, nat_eq, refl, sym, ap, arith, subst}
use Rattle.std.specs.Int.{bit_at}
use Rattle.table_model.specs.Bits.{bits_of}
use Rattle.table_model.specs.Table.{Entry as ModelEntry}
use Rattle.cert_check.specs.declared.runs.Run.{Run}
use Rattle.cert_check.specs.declared.runs.Part.{Part}
use Rattle.cert_check.specs.Runs.{part_as, parts_table, Noted, Swept}
use Rattle.cert_check.proofs.Deals.{taken, own_stays, half_stays_low, half_stays_high, half_grows_low, half_grows_high}
use Rattle.cert_check.proofs.Sweeps.{swept_one, swept_none, swept_address, swept_region, first_hop}

-- it is at the region's prefix
pub alone_here : (d h start : ℕ) (part : Part) (old new : List Run) → part.len ≡ 0 → Noted start part.hop old new → Swept d (part_as d part ∷ []) h start old new
alone_here d h start part old new e noted =
    let whole : ModelEntry = record { prefix = []; hop = part.hop } in
    let same : part_as d part ≡ whole = ap (λ (n : ℕ). let entry : ModelEntry = record { prefix = take n (bits_of d part.bits); hop = part.hop } in entry) e in
    subst (λ x. Swept d (x ∷ []) h start old new) (sym same) (swept_one d (whole ∷ []) h start part.hop old new (λ x. refl) noted)

-- the region is one address
pub alone_address : (d h start : ℕ) (part : Part) (old new : List Run) → d ≡ 0 → Noted start part.hop old new → Swept d (part_as d part ∷ []) h start old new
alone_address d h start part old new e noted = swept_address d h start part.hop (part ∷ []) old new e (first_hop (part ∷ []) part part (omega arith) refl) noted

-- it is within the higher half
pub alone_high : (d at start next h : ℕ) (part rest : Part) (old mid new : List Run) → d ≢ 0 → at ≡ d - 1 → next ≡ start + 2 ^ at → part.len ≢ 0 → rest ≡ record { bits = part.bits; len = part.len - 1; hop = part.hop }
    → true ≡ nat_eq (bit_at part.bits at) 1 → Noted start h old mid → Swept at (part_as at rest ∷ []) h next mid new → Swept d (part_as d part ∷ []) h start old new
alone_high d at start next h part rest old mid new some is step filled r bit noted swept =
    let p = taken at part.len part.bits true filled bit in
    swept_region d at start next h h (part ∷ []) [] (rest ∷ []) None old mid new some is step (own_stays None true _ _ part.hop p) (half_stays_low at [] _ _ part.hop p)
    (half_grows_high at [] (rest ∷ []) _ part.bits (part.len - 1) part.hop (ap (λ (x : Part). x ∷ []) r) p) refl (swept_none at h start old mid noted) swept

-- it is within the lower half
pub alone_low : (d at start next h : ℕ) (part rest : Part) (old mid new : List Run) → d ≢ 0 → at ≡ d - 1 → next ≡ start + 2 ^ at → part.len ≢ 0 → rest ≡ record { bits = part.bits; len = part.len - 1; hop = part.hop }
    → false ≡ nat_eq (bit_at part.bits at) 1 → Swept at (part_as at rest ∷ []) h start old mid → Noted next h mid new → Swept d (part_as d part ∷ []) h start old new
alone_low d at start next h part rest old mid new some is step filled r bit swept noted =
    let p = taken at part.len part.bits false filled bit in
    swept_region d at start next h h (part ∷ []) (rest ∷ []) [] None old mid new some is step (own_stays None false _ _ part.hop p)
    (half_grows_low at [] (rest ∷ []) _ part.bits (part.len - 1) part.hop (ap (λ (x : Part). x ∷ []) r) p) (half_stays_high at [] _ _ part.hop p) refl swept (swept_none at h next mid new noted)

-- the list has this part alone
pub one_part : (d : ℕ) (parts : List Part) (part z : Part) → length parts ≡ 1 → part ≡ get_or parts 0 z → part_as d part ∷ [] ≡ parts_table d parts
one_part d [] part z e is = absurd (omega arith)
one_part d (p ∷ []) part z e is = ap (λ (x : Part). part_as d x ∷ []) is
one_part d (p ∷ q ∷ parts) part z e is = absurd (omega arith)
