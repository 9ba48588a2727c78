use Rattle.std.proofs.Common.{sym, ◌∙◌, inl, refl}
use Rattle.std.specs.declared.cmp.Ordering.TheVariants.{Less}
use Rattle.fib_same.proofs.Nearer.{first_is, lesser_is}
use Rattle.fib_same.proofs.compare.lesser.Goals as goal

pub returns-in-Less-clause-least : goal.returns-in-Less-clause-least
returns-in-Less-clause-least c = rw (c.in-Some-Some.is-0, c.in-Some-Some.is-1) (sym (lesser_is c.in-Some-Some.x c.in-Some-Some.y Less (sym c.cmp.ensures ∙ c.in-Less.is)))

pub returns-in-Equal : goal.returns-in-Equal
returns-in-Equal c = record {
  least = rw (c.in-Some-Some.is-0, c.in-Some-Some.is-1) (sym (first_is c.in-Some-Some.x c.in-Some-Some.y c.cmp.result (sym c.cmp.ensures) c.in-Equal.is));
  one = inl refl;
}
