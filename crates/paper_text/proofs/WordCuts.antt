-- The first word of a line is where the code cuts it.
use Rattle.std.proofs.Common.{◌≡◌, ℕ, ◌<◌, true, false, eqb, List, [], ◌∷◌, length, take, drop, sym, refl, ap, ◌∙◌, arith}
use Rattle.std.proofs.lemmas.List.{length-drop, nil_from_length}
use Rattle.std.proofs.lemmas.Bool.{cases_Bool, false≢true, eqb-true, eqb-false}
use Rattle.paper_text.specs.Words.{is_blank, at_blank, words, leading}

-- blanks at the front hide no word
pub words_past_blanks : (bs : List ℕ) → words bs ≡ words (drop (leading true bs) bs)
words_past_blanks [] = refl
words_past_blanks (b ∷ bs) = let ih = words_past_blanks bs in let t = cases_Bool (is_blank b) in grind arith

-- behind them stands a word, or nothing
pub dark_front : (bs : List ℕ) → false ≡ eqb (length (drop (leading true bs) bs)) 0 → at_blank (drop (leading true bs) bs) ≡ false
dark_front [] h = absurd (false≢true h)
dark_front (b ∷ bs) h = let ih = dark_front bs in let t = cases_Bool (is_blank b) in grind arith

-- a word at the front
pub words_front : (bs : List ℕ) → at_blank bs ≡ false → words bs ≡ take (leading false bs) bs ∷ words (drop (leading false bs) bs)
words_front [] d = absurd (false≢true (sym d))
words_front (b ∷ []) d = rw d refl
words_front (b ∷ (c ∷ cs)) d =
    let ih = words_front (c ∷ cs) in let t = cases_Bool (is_blank c) in grind arith

-- a word has a byte
pub dark_some : (bs : List ℕ) → at_blank bs ≡ false → 0 < leading false bs
dark_some [] d = absurd (false≢true (sym d))
dark_some (b ∷ bs) d = rw d (omega arith)

-- no word, where only blanks stand
pub words_none : (bs ds : List ℕ) (n : ℕ) → n ≡ leading true bs → ds ≡ drop n bs → true ≡ eqb (length ds) 0 → words bs ≡ []
words_none bs ds n l e t =
    words_past_blanks bs ∙ ap (λ k. words (drop k bs)) (sym l) ∙ ap words (sym e ∙ nil_from_length ds (eqb-true _ _ (sym t)))

module _ (bs ds : List ℕ) (n m : ℕ) (l : n ≡ leading true bs) (e : ds ≡ drop n bs) (t : false ≡ eqb (length ds) 0) (k : m ≡ leading false ds) where
  same : ds ≡ drop (leading true bs) bs
  same = e ∙ ap (λ i. drop i bs) l

  dark : at_blank ds ≡ false
  dark = ap at_blank same ∙ dark_front bs (t ∙ ap (λ xs. eqb (length xs) 0) same)

  -- the word that the code cuts, and what is left
  pub words_cut : (w r : List ℕ) → w ≡ take m ds → r ≡ drop m ds → words bs ≡ w ∷ words r
  words_cut w r p q =
      words_past_blanks bs ∙ ap words (sym same) ∙ words_front ds dark
      ∙ ap (λ i. take i ds ∷ words (drop i ds)) (sym k) ∙ ap (λ x. x ∷ words (drop m ds)) (sym p) ∙ ap (λ x. w ∷ words x) (sym q)

  pub words_shorter : (r : List ℕ) → r ≡ drop m ds → length r < length bs
  words_shorter r q =
      let some = dark_some ds dark in
      let a = ap length q ∙ length-drop m ds in
      let b = ap length e ∙ length-drop n bs in
      let z = eqb-false _ _ (sym t) in
      omega arith
