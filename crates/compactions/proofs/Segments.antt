-- Segments in the order of their prefixes: the last one, one more, and the one with a prefix.
use Rattle.std.proofs.Common.{◌≡◌, ℕ, ◌-◌, Bool, true, false, cond, eqb, List, [], ◌∷◌, ◌++◌, map, length, Some, None, Option, Bor, refl, sym, ap, ◌∙◌, arith}
use Rattle.std.proofs.lemmas.List.{map_push}
use Rattle.std.proofs.lemmas.Bool.{cases_Bool, true≢false}
use Rattle.std.specs.List.{slice_get, find}
use Rattle.std.specs.Option.{option_copied, option_map, MatchOption, IsSomeAnd}
use Rattle.std.specs.Str.{bytes_eq}
use Rattle.table.proofs.Last.{from_last}
use Rattle.compactions.specs.Trees.{Segment, Manifest}
use Rattle.compactions.specs.Prefixes.{before, rises, latest}
use Rattle.compactions.specs.Trees.{named, tree_for}

-- the last prefix, read off the last segment; q is what `map_or` made of that, from the empty d
pub latest_from_last : {S : Type 0} (prefix : S → List ℕ) (xs : List S) (o : Option (Bor S)) (q d : Bor (List ℕ)) (P : Bor S → Type 0) → option_copied o ≡ slice_get xs (length xs - 1) → MatchOption o (q ≡ d) P → d.now ≡ [] → ((x : Bor S) → P x → q.now ≡ prefix x.now) → q.now ≡ latest [] (map prefix xs)
latest_from_last prefix xs o q d P e m b k = go o (from_last (λ ys. latest [] (map prefix ys)) prefix (λ x. refl) (λ x y ys. refl) xs o e) m
  where
    go : (o : Option (Bor _)) → MatchOption o (xs ≡ []) (λ x. latest [] (map prefix xs) ≡ prefix x.now) → MatchOption o (q ≡ d) P → q.now ≡ latest [] (map prefix xs)
    go None n h = ap (λ r. r.now) h ∙ b ∙ sym (ap (λ ys. latest [] (map prefix ys)) n)
    go (Some x) n h = k x h ∙ sym n

-- a prefix above the last one can follow
pub rises_push : (first : List ℕ) (ps : List (List ℕ)) (q : List ℕ) → rises first ps ≡ true → before (latest first ps) q ≡ true → rises first (ps ++ (q ∷ [])) ≡ true
rises_push first [] q r b = rw b
rises_push first (p ∷ ps) q r b =
    let t = cases_Bool (before first p) in
    let u = rises_push p ps q in
    grind arith

-- so one segment more keeps the order
pub rises_more : {S : Type 0} (prefix : S → List ℕ) (xs xs' : List S) (x : S) (q : List ℕ) → rises [] (map prefix xs) ≡ true → xs' ≡ xs ++ (x ∷ []) → prefix x ≡ q → before (latest [] (map prefix xs)) q ≡ true → rises [] (map prefix xs') ≡ true
rises_more prefix xs xs' x q r e p b = rw (e, map_push prefix xs x, p) (rises_push [] (map prefix xs) q r b)

-- a prefix that is not empty is looked up among the segments
pub tree_for_named : (p : List ℕ) (m : Manifest) → eqb (length p) 0 ≡ false → named p m.segments ≡ tree_for p m
tree_for_named [] m e = absurd (true≢false e)
tree_for_named (b ∷ bs) m e = refl

-- the first segment with a prefix, as `find` gives it
pub named_from_find : {S : Type 0} (meaning : S → Segment) (p : List ℕ) (xs : List S) → option_map (λ s. (meaning s).tree) (find (λ s. bytes_eq p (meaning s).prefix) xs) ≡ named p (map meaning xs)
named_from_find meaning p [] = refl
named_from_find meaning p (x ∷ xs) = here (bytes_eq p (meaning x).prefix) (named_from_find meaning p xs)
  where
    here : (b : Bool) → option_map (λ s. (meaning s).tree) (find (λ s. bytes_eq p (meaning s).prefix) xs) ≡ named p (map meaning xs) → option_map (λ s. (meaning s).tree) (cond b (Some x) (find (λ s. bytes_eq p (meaning s).prefix) xs)) ≡ cond b (Some (meaning x).tree) (named p (map meaning xs))
    here true e = refl
    here false e = e

-- what `map` makes of what was found, seen through meanings
pub seen_through : {A B C : Type 0} (f : A → C) (g : B → C) (P : Bor A → B → Type 0) (o : Option (Bor A)) (r : Option B) → MatchOption o (r ≡ None) (λ x. IsSomeAnd r (P x)) → ((x : Bor A) (y : B) → P x y → g y ≡ f x.now) → option_map g r ≡ option_map f (option_map (λ x. x.now) o)
seen_through f g P None r h k = ap (option_map g) h
seen_through f g P (Some x) None h k = absurd h
seen_through f g P (Some x) (Some y) h k = ap Some (k x y h)
