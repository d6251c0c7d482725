-- What follows a beginning.
use Rattle.std.proofs.Common.{◌≡◌, ℕ, Bool, true, false, cond, eqb, List, [], ◌∷◌, ◌++◌, Some, None, Option, sym, refl, Bor, MatchOption}
use Rattle.std.specs.Option.{option_map}
use Rattle.std.proofs.lemmas.Bool.{eq-eqb, eqb-true}
use Rattle.paper_text.specs.Numbers.{behind}

-- it is there
behind_at : (p rest : List ℕ) → behind p (p ++ rest) ≡ Some rest
behind_at [] rest = refl
behind_at (b ∷ bs) rest = rw (eq-eqb b b refl) (behind_at bs rest)

-- what follows, with the beginning, is the whole
behind_whole : (p w rest : List ℕ) → behind p w ≡ Some rest → w ≡ p ++ rest
behind_whole [] w rest e = cc
behind_whole (b ∷ bs) [] rest e = cc
behind_whole (b ∷ bs) (c ∷ cs) rest e = by (eqb b c) refl e (behind_whole bs cs rest)
  where
    by : (t : Bool) → eqb b c ≡ t → cond t (behind bs cs) None ≡ Some rest → (behind bs cs ≡ Some rest → cs ≡ bs ++ rest) → c ∷ cs ≡ b ∷ (bs ++ rest)
    by true q r ih = let i = ih r in let s = eqb-true b c q in cc
    by false q r ih = cc

-- the answer of a search for it
pub behind_found : (p w : List ℕ) (r : Option (Bor (List ℕ))) → MatchOption r ((rest : List ℕ) → w ≡ p ++ rest → ⊥) (λ x. w ≡ p ++ x.now) → option_map (λ x. x.now) r ≡ behind p w
behind_found p w (Some x) h = rw h (sym (behind_at p x.now))
behind_found p w None h = by (behind p w) refl
  where
    by : (o : Option (List ℕ)) → behind p w ≡ o → None ≡ o
    by None e = refl
    by (Some rest) e = absurd (h rest (behind_whole p w rest e))
