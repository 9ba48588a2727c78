-- What is drawn is within its bounds.
use Rattle.std.proofs.Common.{◌≡◌, ℕ, ◌+◌, ◌*◌, ◌%◌, ◌^◌, ◌<◌, ◌≤◌, length, refl, arith}
use Rattle.std.proofs.lemmas.List.{length-take-le}
use Rattle.std.proofs.lemmas.Nat.{mod_below}
use Rattle.table_model.specs.declared.family.Family.TheVariants.{V4}
use Rattle.table_model.specs.Bits.{bits_of}
use Rattle.table_model.proofs.BitLaws.{length-bits_of}
use Rattle.made_input.specs.Draws.{draw}
use Rattle.made_input.specs.Drawn.{DrawnRoute, DrawnOffer, route, attrs}

-- a route of IPv4 and one of the eight peers
pub record IsRoute (r : DrawnRoute) : Type 0 where
  pub family : r.prefix.family ≡ V4
  pub few : length r.prefix.bits ≤ 24
  pub peer : r.peer < 8

-- a path of one to four AS numbers, one of sixteen next hops
pub record IsOffer (o : DrawnOffer) : Type 0 where
  pub path : o.path ≤ 4
  pub some : 0 < o.path
  pub hop : o.hop < 16

pub length-route : (x : ℕ) → length (route x).prefix.bits ≡ 8 + draw x 0 % 17
unfolding route
length-route x =
    let below : draw x 0 % 17 < 17 = mod_below (draw x 0) 17 (omega arith) in
    length-take-le (8 + draw x 0 % 17) (bits_of 32 (draw x 1 % 2 ^ 24 * 256)) (omega (arith, length-bits_of 32 (draw x 1 % 2 ^ 24 * 256)))

pub route_is : (x : ℕ) → IsRoute (route x)
unfolding route
route_is x = record {
  family = refl;
  few = let below : draw x 0 % 17 < 17 = mod_below (draw x 0) 17 (omega arith) in omega (arith, length-route x);
  peer = mod_below (draw x 2) 8 (omega arith);
}

pub attrs_is : (x : ℕ) → IsOffer (attrs x)
unfolding attrs
attrs_is x = record {
  path = let below : draw x 0 % 4 < 4 = mod_below (draw x 0) 4 (omega arith) in omega arith;
  some = omega arith;
  hop = mod_below (draw x 1) 16 (omega arith);
}
