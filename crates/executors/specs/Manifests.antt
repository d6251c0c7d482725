-- A source of manifests by its meaning: the answers ahead, each a manifest or a cause.
use Rattle.std.specs.Prelude.{ℕ, List, [], ◌∷◌, Ok, Err, Result}
use Rattle.compactions.specs.Trees.{Manifest}
use Rattle.compactions.specs.Meanings.{manifest_of}
use Rattle.compactions.specs.declared.manifest.Manifest as manifests

-- an answer by its meaning
abbrev pub answer_of : Result manifests.Manifest ℕ → Result Manifest ℕ
answer_of (Ok m) = Ok (manifest_of m)
answer_of (Err c) = Err c

-- the first of the answers ahead; after the end cause 0
abbrev pub given : List (Result Manifest ℕ) → Result Manifest ℕ
given [] = Err 0
given (a ∷ rest) = a

-- those behind it
abbrev pub behind : List (Result Manifest ℕ) → List (Result Manifest ℕ)
behind [] = []
behind (a ∷ rest) = rest
