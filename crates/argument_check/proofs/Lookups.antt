-- Rows that are looked up: those found before the others, and the last one with a key.
use Rattle.std.proofs.Common.{◌≡◌, ℕ, Bool, true, false, sym, cond, eqb, List, [], ◌∷◌, ◌++◌, Some, None, Option, refl, ap, ◌∙◌}
use Rattle.std.specs.List.{find}
use Rattle.std.specs.Option.{option_or}
use mathlib.Core.List.{reverse}
use Rattle.std.proofs.lemmas.Grind.{reverse_onto}
use Rattle.std.proofs.lemmas.List.Folds.{find-append}
use Rattle.argument_check.specs.Check.{last_under}

-- rows before those still to be found
abbrev pub ahead : {A : Type 0} → List A → Option (List A) → Option (List A)
ahead xs None = None
ahead xs (Some ys) = Some (xs ++ ys)

or_or : {A : Type 0} (o seen : Option A) (b : Bool) (x : A) → option_or (option_or o (cond b (Some x) None)) seen ≡ option_or o (cond b (Some x) seen)
or_or None seen true x = refl
or_or None seen false x = refl
or_or (Some y) seen b x = refl

or_none : {A : Type 0} (o : Option A) → option_or o None ≡ o
or_none None = refl
or_none (Some x) = refl

-- the last row with a key is the first one from behind
module _ {A : Type 0} (key : A → ℕ) (k : ℕ) where
  abbrev test : A → Bool
  test x = eqb k (key x)

  last_from_find : (rows : List A) (seen : Option A) → last_under key k rows seen ≡ option_or (find test (reverse rows)) seen
  last_from_find [] seen = refl
  last_from_find (x ∷ rows) seen =
      last_from_find rows (cond (test x) (Some x) seen)
      ∙ sym (ap (λ o. option_or o seen) (ap (find test) (reverse_onto rows x []) ∙ find-append test (reverse rows) (x ∷ [])) ∙ or_or (find test (reverse rows)) seen (test x) x)

  pub last_found : (rows : List A) → find test (reverse rows) ≡ last_under key k rows None
  last_found rows = sym (last_from_find rows None ∙ or_none (find test (reverse rows)))
