-- The argument check passes exactly the startable entries.
use Rattle.std.proofs.Common.{◌≡◌, ℕ, true, eqb, ◌⊎◌, List, [], ◌∷◌, ◌++◌, map, Some, None, Decides, Option, sym, refl, ap, ◌∙◌, subst, inl, inr, ⊎_elim, arith}
use Rattle.std.specs.List.{AllByRecursion}
use Rattle.std.specs.Str.{bytes_eq}
use Rattle.std.proofs.lemmas.Slice.Eq.{bytes_eq-Decides}
use Rattle.std.proofs.lemmas.Bool.{cases_Bool, cases_order, and_parts, eqb-true, eqb-false, eq-eqb, le-ltb, false≢true}
use Rattle.std.proofs.lemmas.Bool.Decides.{nat_tests}
use Rattle.table.proofs.Absurd.{none≢some}
use Rattle.compactions.specs.Entries.{Entry, Source, run, view, Spec, tiered, drain}
use Rattle.compactions.specs.Trees.{View, Run, Tree, Segment, Manifest, views_of, runs_of}
use Rattle.compactions.specs.Prefixes.{before, rises}
use Rattle.compactions.specs.Trees.{named, tree_for}
use Rattle.argument_check.specs.Check.{last_under, both, adding, found, asked_view, asked_run, last_is, into_last, args_with, args_by, job_args}
use Rattle.argument_check.specs.Answers.{Answer, checked}
use Rattle.argument_check.specs.Passing.{Member, TreeOf, Present, asked_views, asked_runs, LastWith, LastEach, IntoLast, Startable, Passing}

-- the order of prefixes

before_irreflexive : (p : List ℕ) → before p p ≡ true → ⊥
before_irreflexive [] e = false≢true e
before_irreflexive (x ∷ p) e = before_irreflexive p (let i = le-ltb x x (omega arith) in let j = eq-eqb x x refl in rw (i, j) at e)

before_trans : (p q r : List ℕ) → before p q ≡ true → before q r ≡ true → before p r ≡ true
before_trans [] [] r e f = absurd (false≢true e)
before_trans [] (y ∷ q) [] e f = absurd (false≢true f)
before_trans [] (y ∷ q) (z ∷ r) e f = refl
before_trans (x ∷ p) [] r e f = absurd (false≢true e)
before_trans (x ∷ p) (y ∷ q) [] e f = absurd (false≢true f)
before_trans (x ∷ p) (y ∷ q) (z ∷ r) e f =
    let i = before_trans p q r in
    let o = cases_order x y in
    let u = cases_order y z in
    grind (arith, nat_tests)

-- each prefix of a rising list stands above the first
rises_above : (p : List ℕ) (ss : List Segment) (s : Segment) → rises p (map (λ x. x.prefix) ss) ≡ true → Member s ss → before p s.prefix ≡ true
rises_above p [] s r n = absurd n
rises_above p (x ∷ ss) s r n =
    let b = and_parts _ _ r in
    ⊎_elim (λ e. rw e b.0) (λ k. before_trans p x.prefix s.prefix b.0 (rises_above x.prefix ss s b.1 k)) n

-- looking a prefix up among rising segments

same_is : (p q : List ℕ) → bytes_eq p q ≡ true → p ≡ q
same_is p q e = (bytes_eq-Decides p q).0 e

named_none : (p : List ℕ) (ss : List Segment) → named p ss ≡ None → (s : Segment) → Member s ss → s.prefix ≡ p → ⊥
named_none p [] e s n q = n
named_none p (x ∷ ss) e s n q =
    ⊎_elim
    (λ t. none≢some (sym (rw t at e)))
    (λ t. ⊎_elim
    (λ k. false≢true (sym t ∙ (bytes_eq-Decides p x.prefix).1 (sym q ∙ ap (λ (y : Segment). y.prefix) k)))
    (λ k. named_none p ss (rw t at e) s k q) n)
    (cases_Bool (bytes_eq p x.prefix))

named_some : (p : List ℕ) (ss : List Segment) (t : Tree) → named p ss ≡ Some t → (s : Segment) × Member s ss × (s.prefix ≡ p) × (s.tree ≡ t)
named_some p [] t e = absurd (none≢some e)
named_some p (x ∷ ss) t e =
    ⊎_elim
    (λ b. (x, inl refl, sym (same_is _ _ b), (let h = rw b at e in cc)))
    (λ b. let i = named_some p ss t (rw b at e) in (i.0, inr i.1, i.2, i.3))
    (cases_Bool (bytes_eq p x.prefix))

-- of rising segments only one has a prefix
named_one : (first p : List ℕ) (ss : List Segment) (s : Segment) → rises first (map (λ x. x.prefix) ss) ≡ true → Member s ss → s.prefix ≡ p → named p ss ≡ Some s.tree
named_one first p [] s r n q = absurd n
named_one first p (x ∷ ss) s r n q =
    ⊎_elim
    (λ k.
    let same : bytes_eq p x.prefix ≡ true = (bytes_eq-Decides p x.prefix).1 (sym q ∙ ap (λ (y : Segment). y.prefix) k) in
    rw same (ap (λ (y : Segment). Some y.tree) (sym k)))
    (λ k. ⊎_elim
    (λ t.
    let above = rises_above x.prefix ss s (and_parts _ _ r).1 k in
    let twice : x.prefix ≡ s.prefix = sym (same_is p x.prefix t) ∙ sym q in
    absurd (before_irreflexive s.prefix (rw twice at above)))
    (λ t. rw t (named_one x.prefix p ss s (and_parts _ _ r).1 k q))
    (cases_Bool (bytes_eq p x.prefix)))
    n

-- the tree of a segment is the one that is looked up, and no other
module _ (m : Manifest) (rise : rises [] (map (λ x. x.prefix) m.segments) ≡ true) where
  cons≢nil : {b : ℕ} {bs : List ℕ} → b ∷ bs ≡ [] → ⊥
  cons≢nil e = let z : ◌≡◌ {A = ℕ} 0 1 = cc in omega arith

  tree_there : (p : List ℕ) (o : Option Tree) → tree_for p m ≡ o → TreeOf m p o
  tree_there [] None e = absurd (none≢some (sym e))
  tree_there [] (Some t) e = inl (refl, (cc))
  tree_there (b ∷ bs) None e = (cons≢nil, named_none _ _ e)
  tree_there (b ∷ bs) (Some t) e = inr (cons≢nil, named_some _ _ _ e)

  tree_only : (p : List ℕ) (o : Option Tree) → TreeOf m p o → tree_for p m ≡ o
  tree_only [] None h = absurd (h.0 refl)
  tree_only [] (Some t) h = ⊎_elim (λ k. ap Some (sym k.1)) (λ k. absurd (k.0 refl)) h
  tree_only (b ∷ bs) None h = go (named (b ∷ bs) m.segments) refl
    where
      go : (o : Option Tree) → named (b ∷ bs) m.segments ≡ o → named (b ∷ bs) m.segments ≡ None
      go None e = e
      go (Some t) e = let s = named_some _ _ _ e in absurd (h.1 s.0 s.1 s.2)
  tree_only (b ∷ bs) (Some t) h =
      ⊎_elim (λ k. absurd (cons≢nil k.0)) (λ k. let s = k.1 in named_one [] _ _ s.0 rise s.1 s.2 ∙ ap Some s.3) h

-- the last row under an id

module _ {A : Type 0} (key : A → ℕ) where
  last_none : (i : ℕ) (rows : List A) (seen : Option A) → last_under key i rows seen ≡ None → (seen ≡ None) × AllByRecursion (λ y. key y ≡ i → ⊥) rows
  last_none i [] seen e = (e, tt)
  last_none i (x ∷ rows) seen e =
      ⊎_elim
      (λ b. absurd (none≢some (sym (last_none i rows (Some x) (rw b at e)).0)))
      (λ b. let n = last_none i rows seen (rw b at e) in (n.0, ((λ k. eqb-false i (key x) b (sym k)), n.1)))
      (cases_Bool (eqb i (key x)))

  last_some : (i : ℕ) (rows : List A) (seen : Option A) (x : A) → last_under key i rows seen ≡ Some x → LastWith key i rows x ⊎ ((seen ≡ Some x) × AllByRecursion (λ y. key y ≡ i → ⊥) rows)
  last_some i [] seen x e = inr (e, tt)
  last_some i (y ∷ rows) seen x e =
      ⊎_elim
      (λ b. inl (⊎_elim
      (λ l. (y ∷ l.0, l.1, ap (λ ys. y ∷ ys) l.2, l.3, l.4))
      (λ l. let z : y ≡ x = cc l.0 in ([], rows, ap (λ w. w ∷ rows) z, ap key (sym z) ∙ sym (eqb-true i (key y) b), l.1))
      (last_some i rows (Some y) x (rw b at e))))
      (λ b. ⊎_elim
      (λ l. inl (y ∷ l.0, l.1, ap (λ ys. y ∷ ys) l.2, l.3, l.4))
      (λ l. inr (l.0, ((λ k. eqb-false i (key y) b (sym k)), l.1)))
      (last_some i rows seen x (rw b at e)))
      (cases_Bool (eqb i (key y)))

  last_with : (i : ℕ) (rows : List A) (x : A) → last_under key i rows None ≡ Some x → LastWith key i rows x
  last_with i rows x e = ⊎_elim (λ l. l) (λ l. absurd (none≢some l.0)) (last_some i rows None x e)

-- rows found for sources

module _ {A : Type 0} (key : A → ℕ) (asked : Source → Option ℕ) (rows : List A) where
  -- what a source asks for among these rows is there
  abbrev Here : Source → Type 0
  Here s = (i : ℕ) → asked s ≡ Some i → (x : A) × Member x rows × (key x ≡ i)

  -- the ids asked for
  abbrev ids : List Source → List ℕ
  ids [] = []
  ids (s ∷ ss) = elim (asked s) [ None ↦ ids ss | Some i ↦ i ∷ ids ss ]

  absent : (i : ℕ) (xs : List A) (x : A) → AllByRecursion (λ y. key y ≡ i → ⊥) xs → Member x xs → key x ≡ i → ⊥
  absent i [] x a n k = n
  absent i (y ∷ xs) x a n k = ⊎_elim (λ e. a.0 (ap key (sym e) ∙ k)) (λ n'. absent i xs x a.1 n' k) n

  in_middle : (front back : List A) (x : A) → Member x (front ++ (x ∷ back))
  in_middle [] back x = inl refl
  in_middle (y ∷ front) back x = inr (in_middle front back x)

  found_at : (i : ℕ) (s : Source) (ss : List Source) (l : Option A) (r : Option (List A)) (xs : List A) → asked s ≡ Some i → last_under key i rows None ≡ l → both l r ≡ Some xs → ((ys : List A) → r ≡ Some ys → AllByRecursion Here ss × LastEach key rows (ids ss) ys) → AllByRecursion Here (s ∷ ss) × LastEach key rows (i ∷ ids ss) xs
  found_at i s ss None r xs a u e ih = absurd (none≢some e)
  found_at i s ss (Some x) None xs a u e ih = absurd (none≢some e)
  found_at i s ss (Some x) (Some ys) xs a u e ih =
      let z : xs ≡ x ∷ ys = cc in
      let w = last_with key i rows x u in
      let rest = ih ys refl in
      let there : Member x rows = rw w.2 (in_middle w.0 w.1 x) in
      rw z ((((λ j k. (x, there, w.3 ∙ (cc))), rest.0)), (w, rest.1))

  found_step : (o : Option ℕ) (s : Source) (ss : List Source) (r : Option (List A)) (xs : List A) → asked s ≡ o → adding key o rows r ≡ Some xs → ((ys : List A) → r ≡ Some ys → AllByRecursion Here ss × LastEach key rows (ids ss) ys) → AllByRecursion Here (s ∷ ss) × LastEach key rows (elim o [ None ↦ ids ss | Some i ↦ i ∷ ids ss ]) xs
  found_step None s ss r xs a e ih = let h = ih xs e in (((λ i k. absurd (none≢some (sym a ∙ k))), h.0), h.1)
  found_step (Some i) s ss r xs a e ih = found_at i s ss (last_under key i rows None) r xs a refl e ih

  pub found_here : (ss : List Source) (xs : List A) → found key asked ss rows ≡ Some xs → AllByRecursion Here ss × LastEach key rows (ids ss) xs
  found_here [] [] e = (tt, tt)
  found_here [] (x ∷ xs) e = let z : ◌≡◌ {A = ℕ} 0 1 = cc in absurd (omega arith)
  found_here (s ∷ ss) xs e = found_step (asked s) s ss (found key asked ss rows) xs refl e (found_here ss)

  missing_at : (i : ℕ) (s : Source) (ss : List Source) (l : Option A) (r : Option (List A)) → asked s ≡ Some i → last_under key i rows None ≡ l → both l r ≡ None → (r ≡ None → AllByRecursion Here ss → ⊥) → AllByRecursion Here (s ∷ ss) → ⊥
  missing_at i s ss None r a u e ih h = let x = h.0 i a in absent i rows x.0 (last_none key i rows None u).1 x.1 x.2
  missing_at i s ss (Some x) None a u e ih h = ih refl h.1
  missing_at i s ss (Some x) (Some ys) a u e ih h = none≢some (sym e)

  missing_step : (o : Option ℕ) (s : Source) (ss : List Source) (r : Option (List A)) → asked s ≡ o → adding key o rows r ≡ None → (r ≡ None → AllByRecursion Here ss → ⊥) → AllByRecursion Here (s ∷ ss) → ⊥
  missing_step None s ss r a e ih h = ih e h.1
  missing_step (Some i) s ss r a e ih h = missing_at i s ss (last_under key i rows None) r a refl e ih h

  pub found_missing : (ss : List Source) → found key asked ss rows ≡ None → AllByRecursion Here ss → ⊥
  found_missing [] e h = none≢some (sym e)
  found_missing (s ∷ ss) e h = missing_step (asked s) s ss (found key asked ss rows) refl e (found_missing ss) h

-- views and runs together

view_ids : (rows : List View) (ss : List Source) → ids (λ v. v.id) asked_view rows ss ≡ asked_views ss
view_ids rows [] = refl
view_ids rows (run i ∷ ss) = view_ids rows ss
view_ids rows (view i ∷ ss) = ap (λ is. i ∷ is) (view_ids rows ss)

run_ids : (rows : List Run) (ss : List Source) → ids (λ r. r.id) asked_run rows ss ≡ asked_runs ss
run_ids rows [] = refl
run_ids rows (run i ∷ ss) = ap (λ is. i ∷ is) (run_ids rows ss)
run_ids rows (view i ∷ ss) = run_ids rows ss

module _ (t : Option Tree) where
  abbrev ViewHere : Source → Type 0
  ViewHere = Here (λ v. v.id) asked_view (views_of t)

  abbrev RunHere : Source → Type 0
  RunHere = Here (λ r. r.id) asked_run (runs_of t)

  all_present : (ss : List Source) → AllByRecursion ViewHere ss → AllByRecursion RunHere ss → AllByRecursion (Present t) ss
  all_present [] v r = tt
  all_present (run i ∷ ss) v r = (r.0 i refl, all_present ss v.1 r.1)
  all_present (view i ∷ ss) v r = (v.0 i refl, all_present ss v.1 r.1)

  views_here : (ss : List Source) → AllByRecursion (Present t) ss → AllByRecursion ViewHere ss
  views_here [] h = tt
  views_here (run i ∷ ss) h = ((λ j k. absurd (none≢some k)), views_here ss h.1)
  views_here (view i ∷ ss) h = ((λ j k. let x = h.0 in (x.0, x.1, x.2 ∙ (cc))), views_here ss h.1)

  runs_here : (ss : List Source) → AllByRecursion (Present t) ss → AllByRecursion RunHere ss
  runs_here [] h = tt
  runs_here (run i ∷ ss) h = ((λ j k. let x = h.0 in (x.0, x.1, x.2 ∙ (cc))), runs_here ss h.1)
  runs_here (view i ∷ ss) h = ((λ j k. absurd (none≢some k)), runs_here ss h.1)

-- the mark

last_front : (d : ℕ) (rs : List Run) → last_is d rs ≡ true → (rs ≡ []) ⊎ ((front : List Run) × (r : Run) × (rs ≡ front ++ (r ∷ [])) × (r.id ≡ d))
last_front d [] e = inl refl
last_front d (r ∷ []) e = inr ([], r, refl, sym (eqb-true d r.id e))
last_front d (r ∷ (s ∷ rs)) e =
    ⊎_elim
    (λ n. let z : ◌≡◌ {A = ℕ} 0 1 = cc in absurd (omega arith))
    (λ h. inr (r ∷ h.0, h.1, ap (λ xs. r ∷ xs) h.2, h.3))
    (last_front d (s ∷ rs) e)

last_end : (d : ℕ) (front : List Run) (r : Run) → r.id ≡ d → last_is d (front ++ (r ∷ [])) ≡ true
last_end d [] r k = eq-eqb d r.id (sym k)
last_end d (x ∷ []) r k = eq-eqb d r.id (sym k)
last_end d (x ∷ (y ∷ front)) r k = last_end d (y ∷ front) r k

mark_decides : (d : ℕ) (t : Option Tree) → Decides (into_last d t) (IntoLast d t)
mark_decides d None = (false≢true, λ n. absurd n)
mark_decides d (Some t) = (last_front d t.runs, ⊎_elim (λ e. rw e) (λ h. rw h.2 (last_end d h.0 h.1 h.3)))

-- the whole check

module _ (e : Entry) (m : Manifest) (rise : rises [] (map (λ x. x.prefix) m.segments) ≡ true) where
  -- a startable entry finds all its views and all its runs
  refuses : (seg : List ℕ) (ss : List Source) (d : ℕ) → e.spec ≡ tiered seg ss d → (AllByRecursion (ViewHere (tree_for seg m)) ss → AllByRecursion (RunHere (tree_for seg m)) ss → ⊥) → (seg' : List ℕ) (ss' : List Source) (d' : ℕ) (t : Option Tree) → Startable e m seg' ss' d' t → ⊥
  refuses seg ss d s missing seg' ss' d' t h =
      let same-segment : seg' ≡ seg = cc (s, h.spec) in
      let same-sources : ss' ≡ ss = cc (s, h.spec) in
      let same-tree : t ≡ tree_for seg m = sym (tree_only m rise seg' t h.tree) ∙ ap (λ p. tree_for p m) same-segment in
      let there : AllByRecursion (Present (tree_for seg m)) ss = rw (same-tree, same-sources) at h.sources in
      missing (views_here (tree_for seg m) ss there) (runs_here (tree_for seg m) ss there)

  answers : (seg : List ℕ) (ss : List Source) (d : ℕ) → e.spec ≡ tiered seg ss d → (vs : Option (List View)) (rs : Option (List Run)) → found (λ v. v.id) asked_view ss (views_of (tree_for seg m)) ≡ vs → found (λ r. r.id) asked_run ss (runs_of (tree_for seg m)) ≡ rs → Passing e m (checked (args_with e d (tree_for seg m) m vs rs))
  answers seg ss d s None rs v r = (refl, refuses seg ss d s (λ vh rh. found_missing _ _ _ ss v vh))
  answers seg ss d s (Some vs) None v r = (refl, refuses seg ss d s (λ vh rh. found_missing _ _ _ ss r rh))
  answers seg ss d s (Some vs) (Some rs) v r =
      let t = tree_for seg m in
      let vh = found_here _ _ _ ss vs v in
      let rh = found_here _ _ _ ss rs r in (
        seg,
        ss,
        d,
        t,
        record { spec = s; tree = tree_there m rise seg t refl; sources = all_present t ss vh.0 rh.0 },
        record {
          id = refl;
          destination = refl;
          views = rw (view_ids (views_of t) ss) at vh.1;
          runs = rw (run_ids (runs_of t) ss) at rh.1;
          tick = refl;
          last_run = mark_decides d t;
          retention = refl;
          context = refl;
        },
      )

  by_spec : (s : Spec) → e.spec ≡ s → Passing e m (checked (args_by s e m))
  by_spec (tiered seg ss d) s = answers seg ss d s _ _ refl refl
  by_spec (drain seg ss) s = (refl, λ seg' ss' d t h. let z : ◌≡◌ {A = ℕ} 0 1 = cc (s, h.spec) in omega arith)

  pub check_passes : (a : Answer) → a ≡ checked (job_args e m) → Passing e m a
  check_passes a v = subst (Passing e m) (sym v) (by_spec e.spec refl)
