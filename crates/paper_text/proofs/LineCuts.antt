-- The first line of a text, and a line up to its comment, are where the code cuts them.
use Rattle.std.proofs.Common.{◌≡◌, ℕ, zero, suc, ◌-◌, ◌<◌, ◌≤◌, Bool, true, false, cond, ◌&&◌, eqb, List, [], ◌∷◌, length, get_or, take, Some, None, Option, sym, refl, ap, arith}
use Rattle.std.proofs.lemmas.Bool.{cases_Bool, eq-eqb, ne_eqb}
use Rattle.paper_text.specs.Lines.{parts, with_first, begins, onto, lines, without_return, before_comment}

-- the two parts of what was found
abbrev first_of : Option (List ℕ × List ℕ) → List ℕ
first_of None = []
first_of (Some p) = p.0

abbrev second_of : Option (List ℕ × List ℕ) → List ℕ
second_of None = []
second_of (Some p) = p.1

-- no mark at the front, where a byte stands before it
begins_not : (mark : ℕ) (bs : List ℕ) (b : ℕ) (x y : List ℕ) → parts mark bs ≡ Some (b ∷ x, y) → begins mark bs ≡ false
begins_not mark [] b x y e = refl
begins_not mark (c ∷ bs) b x y e = let t = cases_Bool (eqb c mark) in grind arith

begins_so : (mark : ℕ) (bs y : List ℕ) → parts mark bs ≡ Some ([], y) → begins mark bs ≡ true
begins_so mark [] y e = let z : ◌≡◌ {A = ℕ} 0 1 = cc in absurd (omega arith)
begins_so mark (c ∷ bs) y e = by (parts mark bs) (eqb c mark) refl e
  where
    by : (o : Option (List ℕ × List ℕ)) (t : Bool) → eqb c mark ≡ t → cond t (Some ([], bs)) (with_first c o) ≡ Some ([], y) → eqb c mark ≡ true
    by o true p q = p
    by None false p q = let z : ◌≡◌ {A = ℕ} 0 1 = cc in absurd (omega arith)
    by (Some w) false p q = let f = ap first_of q in let z : ◌≡◌ {A = ℕ} 0 1 = cc in absurd (omega arith)

begins_none : (mark : ℕ) (bs : List ℕ) → parts mark bs ≡ None → begins mark bs ≡ false
begins_none mark [] e = refl
begins_none mark (c ∷ bs) e = let t = cases_Bool (eqb c mark) in grind arith

-- one line, where there is no LF
pub lines_one : (bs : List ℕ) → None ≡ parts 10 bs → lines bs ≡ bs ∷ []
lines_one [] e = refl
lines_one (b ∷ bs) e = by (parts 10 bs) refl (eqb b 10) refl e (lines_one bs)
  where
    by : (o : Option (List ℕ × List ℕ)) → parts 10 bs ≡ o → (t : Bool) → eqb b 10 ≡ t → None ≡ cond t (Some ([], bs)) (with_first b o) → (None ≡ parts 10 bs → lines bs ≡ bs ∷ []) → cond t ([] ∷ lines bs) (cond (eqb b 13 && begins 10 bs) (lines bs) (onto b (lines bs))) ≡ (b ∷ bs) ∷ []
    by o p true q r ih = let z : ◌≡◌ {A = ℕ} 0 1 = cc in absurd (omega arith)
    by (Some w) p false q r ih = let z : ◌≡◌ {A = ℕ} 0 1 = cc in absurd (omega arith)
    by None p false q r ih = let i = ih (sym p) in let n = begins_none 10 bs p in let t = cases_Bool (eqb b 13) in grind arith

-- a line and those below it
pub lines_more : (bs x y : List ℕ) → Some (x, y) ≡ parts 10 bs → lines bs ≡ without_return x ∷ lines y
lines_more [] x y e = let z : ◌≡◌ {A = ℕ} 0 1 = cc in absurd (omega arith)
lines_more (b ∷ bs) x y e = by (parts 10 bs) refl (eqb b 10) refl e (lines_more bs)
  where
    by : (o : Option (List ℕ × List ℕ)) → parts 10 bs ≡ o → (t : Bool) → eqb b 10 ≡ t → Some (x, y) ≡ cond t (Some ([], bs)) (with_first b o) → ((u v : List ℕ) → Some (u, v) ≡ parts 10 bs → lines bs ≡ without_return u ∷ lines v) → cond t ([] ∷ lines bs) (cond (eqb b 13 && begins 10 bs) (lines bs) (onto b (lines bs))) ≡ without_return x ∷ lines y
    by o p true q r ih = let f : x ≡ [] = ap first_of r in let g : y ≡ bs = ap second_of r in rw (f, g)
    by None p false q r ih = let z : ◌≡◌ {A = ℕ} 0 1 = cc in absurd (omega arith)
    by (Some ([], v)) p false q r ih =
        let f : x ≡ b ∷ [] = ap first_of r in let g : y ≡ v = ap second_of r in
        let i = ih [] v (sym p) in let n = begins_so 10 bs v p in let t = cases_Bool (eqb b 13) in
        rw (f, g, n, i) (grind arith)
    by (Some (c ∷ u, v)) p false q r ih =
        let f : x ≡ b ∷ (c ∷ u) = ap first_of r in let g : y ≡ v = ap second_of r in
        let i = ih (c ∷ u) v (sym p) in let n = begins_not 10 bs c u v p in let t = cases_Bool (eqb b 13) in
        rw (f, g, n, i) (grind arith)

-- what is behind a mark is shorter
pub parts_shorter : (mark : ℕ) (bs x y : List ℕ) → Some (x, y) ≡ parts mark bs → length y < length bs
parts_shorter mark [] x y e = let z : ◌≡◌ {A = ℕ} 0 1 = cc in absurd (omega arith)
parts_shorter mark (b ∷ bs) x y e = by (parts mark bs) refl (eqb b mark) e (parts_shorter mark bs)
  where
    by : (o : Option (List ℕ × List ℕ)) → parts mark bs ≡ o → (t : Bool) → Some (x, y) ≡ cond t (Some ([], bs)) (with_first b o) → ((u v : List ℕ) → Some (u, v) ≡ parts mark bs → length v < length bs) → length y < suc (length bs)
    by o p true r ih = let g : y ≡ bs = ap second_of r in rw g (omega arith)
    by None p false r ih = let z : ◌≡◌ {A = ℕ} 0 1 = cc in absurd (omega arith)
    by (Some w) p false r ih = let g : y ≡ w.1 = ap second_of r in let i = ih w.0 w.1 (sym p) in rw g (omega arith)

-- a line up to its comment
pub comment_cut : (bs x y : List ℕ) → Some (x, y) ≡ parts 35 bs → x ≡ before_comment bs
comment_cut [] x y e = let z : ◌≡◌ {A = ℕ} 0 1 = cc in absurd (omega arith)
comment_cut (b ∷ bs) x y e = by (parts 35 bs) refl (eqb b 35) e (comment_cut bs)
  where
    by : (o : Option (List ℕ × List ℕ)) → parts 35 bs ≡ o → (t : Bool) → Some (x, y) ≡ cond t (Some ([], bs)) (with_first b o) → ((u v : List ℕ) → Some (u, v) ≡ parts 35 bs → u ≡ before_comment bs) → x ≡ cond t [] (b ∷ before_comment bs)
    by o p true r ih = ap first_of r
    by None p false r ih = let z : ◌≡◌ {A = ℕ} 0 1 = cc in absurd (omega arith)
    by (Some w) p false r ih = let i = ih w.0 w.1 (sym p) in let f : x ≡ b ∷ w.0 = ap first_of r in rw (f, i)

-- no comment
pub comment_none : (bs : List ℕ) → None ≡ parts 35 bs → bs ≡ before_comment bs
comment_none [] e = refl
comment_none (b ∷ bs) e = by (parts 35 bs) refl (eqb b 35) e (comment_none bs)
  where
    by : (o : Option (List ℕ × List ℕ)) → parts 35 bs ≡ o → (t : Bool) → None ≡ cond t (Some ([], bs)) (with_first b o) → (None ≡ parts 35 bs → bs ≡ before_comment bs) → b ∷ bs ≡ cond t [] (b ∷ before_comment bs)
    by o p true r ih = let z : ◌≡◌ {A = ℕ} 0 1 = cc in absurd (omega arith)
    by (Some w) p false r ih = let z : ◌≡◌ {A = ℕ} 0 1 = cc in absurd (omega arith)
    by None p false r ih = ap (λ xs. b ∷ xs) (ih (sym p))

-- a CR at the end
return_cut : (bs : List ℕ) (n : ℕ) → length bs ≡ suc n → get_or bs n 0 ≡ 13 → take n bs ≡ without_return bs
return_cut [] n l e = absurd (omega arith)
return_cut (b ∷ []) zero l e = rw (eq-eqb b 13 e) refl
return_cut (b ∷ []) (suc n) l e = absurd (omega arith)
return_cut (b ∷ (c ∷ cs)) zero l e = absurd (omega arith)
return_cut (b ∷ (c ∷ cs)) (suc n) l e = ap (λ xs. b ∷ xs) (return_cut (c ∷ cs) n (omega arith) e)

-- another byte
return_none : (bs : List ℕ) (n : ℕ) → length bs ≡ suc n → (get_or bs n 0 ≡ 13 → ⊥) → bs ≡ without_return bs
return_none [] n l e = refl
return_none (b ∷ []) zero l e = rw (ne_eqb b 13 e) refl
return_none (b ∷ []) (suc n) l e = absurd (omega arith)
return_none (b ∷ (c ∷ cs)) zero l e = absurd (omega arith)
return_none (b ∷ (c ∷ cs)) (suc n) l e = ap (λ xs. b ∷ xs) (return_none (c ∷ cs) n (omega arith) e)

-- the same, by the length
pub return_cut_at : (bs : List ℕ) → 1 ≤ length bs → get_or bs (length bs - 1) 0 ≡ 13 → take (length bs - 1) bs ≡ without_return bs
return_cut_at bs l e = return_cut bs (length bs - 1) (omega arith) e

pub return_none_at : (bs : List ℕ) → 1 ≤ length bs → (get_or bs (length bs - 1) 0 ≡ 13 → ⊥) → bs ≡ without_return bs
return_none_at bs l e = return_none bs (length bs - 1) (omega arith) e
