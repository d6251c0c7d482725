-- The argument check over values and over their meanings.
use Rattle.std.proofs.Common.{◌≡◌, ℕ, ◌-◌, Bool, true, false, cond, eqb, List, [], ◌∷◌, map, length, ℤ, Some, None, Option, Err, Result, Bor, refl, sym, ap, ◌∙◌, arith}
use Rattle.std.specs.List.{slice_get}
use Rattle.std.specs.Option.{option_map, option_copied, ok_or, MatchOption}
use Rattle.std.specs.Result.{result_err}
use Rattle.table.proofs.Last.{from_last}
use Rattle.compactions.specs.Entries.{Entry, Source, Spec, tiered, drain, spec_segment, spec_sources, spec_destination}
use Rattle.compactions.specs.Trees.{View, Run, Tree, Manifest, views_of, runs_of}
use Rattle.compactions.specs.Trees.{tree_for}
use Rattle.argument_check.specs.Check.{last_under, both, adding, found, asked_view, asked_run, last_is, into_last, args_with, args_by, job_args}
use Rattle.argument_check.specs.Answers.{answer_of, passes, refused, checked}
use Rattle.compactions.specs.Refusals.{number_of}
use Rattle.compactions.specs.declared.refusal.Refusal.{Refusal}
use Rattle.compactions.specs.declared.refusal.Refusal.TheVariants.{InvalidCompaction}
use Rattle.compactions.specs.declared.job_args.StartCompactionJobArgs.{StartCompactionJobArgs}

-- looking up by a key of the meaning is looking up among the meanings
module _ {A B : Type 0} (meaning : A → B) (key : B → ℕ) where
  seen_map : (t : Bool) (x : A) (seen : Option A) → option_map meaning (cond t (Some x) seen) ≡ cond t (Some (meaning x)) (option_map meaning seen)
  seen_map true x seen = refl
  seen_map false x seen = refl

  last_map : (k : ℕ) (rows : List A) (seen : Option A) → option_map meaning (last_under (λ x. key (meaning x)) k rows seen) ≡ last_under key k (map meaning rows) (option_map meaning seen)
  last_map k [] seen = refl
  last_map k (x ∷ rows) seen =
      last_map k rows (cond (eqb k (key (meaning x))) (Some x) seen)
      ∙ ap (last_under key k (map meaning rows)) (seen_map (eqb k (key (meaning x))) x seen)

  both_map : (o : Option A) (rest : Option (List A)) → option_map (map meaning) (both o rest) ≡ both (option_map meaning o) (option_map (map meaning) rest)
  both_map None rest = refl
  both_map (Some x) None = refl
  both_map (Some x) (Some xs) = refl

  adding_map : (o : Option ℕ) (rows : List A) (rest : Option (List A)) → option_map (map meaning) (adding (λ x. key (meaning x)) o rows rest) ≡ adding key o (map meaning rows) (option_map (map meaning) rest)
  adding_map None rows rest = refl
  adding_map (Some k) rows rest =
      both_map (last_under (λ x. key (meaning x)) k rows None) rest
      ∙ ap (λ o. both o (option_map (map meaning) rest)) (last_map k rows None)

  pub found_map : (asked : Source → Option ℕ) (ss : List Source) (rows : List A) → option_map (map meaning) (found (λ x. key (meaning x)) asked ss rows) ≡ found key asked ss (map meaning rows)
  found_map asked [] rows = refl
  found_map asked (s ∷ ss) rows =
      adding_map (asked s) rows (found (λ x. key (meaning x)) asked ss rows)
      ∙ ap (adding key (asked s) (map meaning rows)) (found_map asked ss rows)

-- whether the last run is the destination, read off the last row
pub last_is_from : {A : Type 0} (meaning : A → Run) (d : ℕ) (rows : List A) (o : Option (Bor A)) (r : Bool) (P : Bor A → Type 0) → option_copied o ≡ slice_get rows (length rows - 1) → MatchOption o (r ≡ true) P → ((x : Bor A) → P x → r ≡ eqb d (meaning x.now).id) → r ≡ last_is d (map meaning rows)
last_is_from meaning d rows o r P e m k = go o (from_last (λ xs. last_is d (map meaning xs)) (λ x. eqb d (meaning x).id) (λ x. refl) (λ x y ys. refl) rows o e) m
  where
    go : (o : Option (Bor _)) → MatchOption o (rows ≡ []) (λ x. last_is d (map meaning rows) ≡ eqb d (meaning x.now).id) → MatchOption o (r ≡ true) P → r ≡ last_is d (map meaning rows)
    go None n h = h ∙ sym (ap (λ xs. last_is d (map meaning xs)) n)
    go (Some x) n h = k x h ∙ sym n

-- a refusal that `ok_or` made of nothing, and `?` passed on
pub refused_invalid : {X : Type 0} (o : Option X) (r : Result StartCompactionJobArgs Refusal) (e f : Refusal) → Err f ≡ ok_or o InvalidCompaction → o ≡ None → r ≡ Err e → e ≡ f → answer_of r ≡ refused 10
refused_invalid o r e f h n p q =
    let z : ◌≡◌ {A = Option Refusal} (Some f) (Some InvalidCompaction) = ap result_err (h ∙ ap (λ x. ok_or x InvalidCompaction) n) in
    let y : f ≡ InvalidCompaction = cc in
    ap answer_of p ∙ ap (λ x. refused (number_of x)) (q ∙ y)

-- the check of a spec that has a destination
pub args_at : (s : Spec) (e : Entry) (m : Manifest) (d : ℕ) (t : Option Tree) (vs : Option (List View)) (rs : Option (List Run)) → Some d ≡ spec_destination s → t ≡ tree_for (spec_segment s) m → vs ≡ found (λ v. v.id) asked_view (spec_sources s) (views_of t) → rs ≡ found (λ r. r.id) asked_run (spec_sources s) (runs_of t) → args_with e d t m vs rs ≡ args_by s e m
args_at (tiered seg ss d') e m d t vs rs p q v r = let z : d ≡ d' = cc in rw (v, r, q, z)
args_at (drain seg ss) e m d t vs rs p q v r = let z : ◌≡◌ {A = ℕ} 0 1 = cc in absurd (omega arith)

-- a spec without destination does not pass
pub drained : (e : Entry) (m : Manifest) → None ≡ spec_destination e.spec → refused 10 ≡ checked (job_args e m)
drained e m to = by e.spec to
  where
    by : (s : Spec) → None ≡ spec_destination s → refused 10 ≡ checked (args_by s e m)
    by (tiered seg ss d) n = let z : ◌≡◌ {A = ℕ} 0 1 = cc in absurd (omega arith)
    by (drain seg ss) n = refl

-- the check over values: views vs and runs rs of the tree t, sources ss, destination d
module _ {V R : Type 0} (view_of : V → View) (run_of : R → Run) (e : Entry) (m : Manifest) (d : ℕ) (seg : List ℕ) (ss : List Source) (t : Option Tree) (vs : List V) (rs : List R) (to : Some d ≡ spec_destination e.spec) (tree : t ≡ tree_for seg m) (in-segment : seg ≡ spec_segment e.spec) (from : ss ≡ spec_sources e.spec) (has-views : map view_of vs ≡ views_of t) (has-runs : map run_of rs ≡ runs_of t) where
  views_found : option_map (map view_of) (found (λ x. (view_of x).id) asked_view ss vs) ≡ found (λ v. v.id) asked_view (spec_sources e.spec) (views_of t)
  views_found = found_map view_of (λ v. v.id) asked_view ss vs ∙ ap (found (λ v. v.id) asked_view ss) has-views ∙ ap (λ x. found (λ v. v.id) asked_view x (views_of t)) from

  runs_found : option_map (map run_of) (found (λ x. (run_of x).id) asked_run ss rs) ≡ found (λ r. r.id) asked_run (spec_sources e.spec) (runs_of t)
  runs_found = found_map run_of (λ r. r.id) asked_run ss rs ∙ ap (found (λ r. r.id) asked_run ss) has-runs ∙ ap (λ x. found (λ r. r.id) asked_run x (runs_of t)) from

  job_is : (o : Option (List V)) (p : Option (List R)) → o ≡ found (λ x. (view_of x).id) asked_view ss vs → p ≡ found (λ x. (run_of x).id) asked_run ss rs → args_with e d t m (option_map (map view_of) o) (option_map (map run_of) p) ≡ job_args e m
  job_is o p v r =
      args_at e.spec e m d t _ _ to (tree ∙ ap (λ x. tree_for x m) in-segment)
      (ap (option_map (map view_of)) v ∙ views_found) (ap (option_map (map run_of)) r ∙ runs_found)

  pub view_missing : None ≡ found (λ x. (view_of x).id) asked_view ss vs → refused 10 ≡ checked (job_args e m)
  view_missing v = ap checked (job_is None _ v refl)

  pub run_missing : (xs : List V) → Some xs ≡ found (λ x. (view_of x).id) asked_view ss vs → None ≡ found (λ x. (run_of x).id) asked_run ss rs → refused 10 ≡ checked (job_args e m)
  run_missing xs v r = ap checked (job_is (Some xs) None v r)

  pub all_found : (xs : List V) (ys : List R) (tick : ℤ) (mark : Bool) → Some xs ≡ found (λ x. (view_of x).id) asked_view ss vs → Some ys ≡ found (λ x. (run_of x).id) asked_run ss rs → tick ≡ m.tick → mark ≡ into_last d t → passes (record { id = e.id; destination = d; views = map view_of xs; runs = map run_of ys; tick = tick; last_run = mark; retention = m.snapshot; context = e.context }) ≡ checked (job_args e m)
  all_found xs ys tick mark v r k l = rw (k, l) (ap checked (job_is (Some xs) (Some ys) v r))
