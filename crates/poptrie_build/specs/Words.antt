-- What direct words say.
use Rattle.std.specs.Prelude.{◌≡◌, ℕ, ◌+◌, ◌^◌, ◌<◌, ◌≤◌}
use Rattle.poptrie_build.specs.declared.direct_word.DirectWord.{DirectWord}
use Rattle.poptrie_build.specs.declared.direct_word.DirectWord.TheVariants as word

-- a word below the top bit is the place of a node, any other a hop: the one beside the top bit, where it is no more than a hop's number
abbrev pub Says : ℕ → DirectWord → Type 0
Says w (word.Node place) = (w < 2 ^ 31) × (place ≡ w)
Says w (word.Hop hop) = (2 ^ 31 ≤ w) × (w < 2 ^ 31 + 2 ^ 16 → w ≡ 2 ^ 31 + hop.0)
