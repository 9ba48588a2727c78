-- What checking printed changes of a router comes to, by what the inputs hold.
use Rattle.std.specs.Prelude.{ℕ, List, [], ◌∷◌, Option, Result, Ok, Err}
use Rattle.octet_fields.specs.Field.{◌>>=◌}
use Rattle.table_model.specs.Address.{Address}
use Rattle.moves_model.specs.Claims.{Claim, WrongMoves, claim_verdict}
use Rattle.printed_text.specs.declared.kind.Kind.TheVariants.{Least, Route}
use Rattle.printed_text.specs.Texts.{BadLine as BadRow}
use Rattle.router_moves.specs.Said.{SaidMoves, said_in}
use Rattle.fib_same.specs.Due.{TextStop, Refused, BadLine, text_octets, text_at}
use Rattle.fib_same.specs.Gives.{names_after}
use Rattle.router_moves.specs.Due.{router_at}

-- ---- the text of the changes

-- what was read of the text of this number, or its first bad line
abbrev pub lined_moves : ℕ → Result SaidMoves BadRow → Result SaidMoves TextStop
lined_moves n (Ok said) = Ok said
lined_moves n (Err bad) = Err (Refused (BadLine n bad.line bad.why))

-- the changes and rows that the text of a number and name says, which must be in the grammar; these hops have numbers before
unfoldable pub said_moves_at : (List ℕ → Option (List ℕ)) → List Address → ℕ → List ℕ → Result SaidMoves TextStop
said_moves_at content hops n name = text_octets content n name >>= λ octets. lined_moves n (said_in hops octets)

-- ---- all three texts

-- What is claimed, and the hops that the numbers in it stand for.
pub record Claimed : Type 0 where
  pub claim : Claim
  pub hops : List Address

-- What three texts claim: of the least rows of the router's text, which is text 1, and the route rows of the printed text, which is
-- text 2, the change and cert rows of the last text, which is text 3. Each is judged before the next is read, and its hops have their
-- numbers first.
unfoldable pub claimed_at : (List ℕ → Option (List ℕ)) → List ℕ → List ℕ → List ℕ → Result Claimed TextStop
claimed_at content router printed moves = do
  asked ← router_at content router printed
  said ← said_moves_at content asked.hops 3 moves
  Ok (record { claim = record { table = asked.table; routes = asked.routes; changes = said.changes; rows = said.rows }; hops = said.hops })

-- the names of the texts that are due to be read: those up to the first that is refused
abbrev pub names_claimed : (List ℕ → Option (List ℕ)) → List ℕ → List ℕ → List ℕ → List (List ℕ)
names_claimed content router printed moves =
    router
    ∷ names_after (text_at content Least [] 1 router) (printed ∷ moves ∷ []) (λ table. printed ∷ names_after (text_at content Route table.hops 2 printed) (moves ∷ []) (λ routes. moves ∷ []))

-- ---- the verdict

-- The first thing that is wrong, if anything is, and the hops that the numbers in it stand for.
pub record Verdict : Type 0 where
  pub wrong : Option WrongMoves
  pub hops : List Address

abbrev pub verdict_for : Claimed → Verdict
verdict_for t = record { wrong = claim_verdict t.claim; hops = t.hops }

-- the verdict that is due
abbrev pub verdict_at : (List ℕ → Option (List ℕ)) → List ℕ → List ℕ → List ℕ → Result Verdict TextStop
verdict_at content router printed moves = claimed_at content router printed moves >>= λ t. Ok (verdict_for t)
