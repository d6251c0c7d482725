-- The invariant of the owned jobs, as a test and as facts.
use Rattle.std.proofs.Common.{◌≡◌, ℕ, ◌+◌, ◌≤◌, Bool, true, false, cond, ◌&&◌, ◌⊎◌, List, [], ◌∷◌, map, length, sym, refl, ap, ◌∙◌, subst, inl, inr, arith}
use Rattle.std.proofs.lemmas.Bool.{cases_eq, leb-true, le-leb, false≢true}
use Rattle.std.proofs.lemmas.Bool.Decides.{nat_tests}
use Rattle.table.specs.Tables.{Ascending, holds, put, admits}
use Rattle.table.proofs.Order.{ascending_from}
use Rattle.table.specs.Tables.{ascends}
use Rattle.table.proofs.Mapped.{ascends-map, put_map, admits-map}
use Rattle.table.specs.Ids.{number, by}
use Rattle.table.specs.declared.ulid.Ulid.{Ulid}
use Rattle.worker_steps.specs.States.{JobRow, row_id, self_id}
use Rattle.worker_steps.specs.Tracking.{Tracked}
use Rattle.worker_steps.proofs.Rows.{length_put, length-put_held}
use Rattle.worker.specs.Meanings.{row_of}
use Rattle.worker.specs.Tracks.{apart, tracks}
use Rattle.worker.specs.declared.job_progress.Progress.{Progress}

and_parts : (a b : Bool) → (a && b) ≡ true → (a ≡ true) × (b ≡ true)
and_parts true b e = (refl, e)
and_parts false b e = absurd (false≢true e)

both_true : (a b : Bool) → a ≡ true → b ≡ true → (a && b) ≡ true
both_true a b p q = cc

apart_elim : (t : List JobRow) (l : List ℕ) → apart t l ≡ true → (i : ℕ) → holds row_id i t ≡ true → holds self_id i l ≡ false
apart_elim [] l e i h = absurd (false≢true h)
apart_elim (r ∷ rs) l e i h = by (cases_eq r.id i) (apart_elim rs l)
  where
    by : ((r.id ≡ i) ⊎ (r.id ≡ i → ⊥)) → (apart rs l ≡ true → (k : ℕ) → holds row_id k rs ≡ true → holds self_id k l ≡ false) → holds self_id i l ≡ false
    by (inl p) ih = subst (λ k. holds self_id k l ≡ false) p (grind arith)
    by (inr n) ih = ih (grind arith) i (grind (arith, nat_tests))

apart_intro : (t : List JobRow) (l : List ℕ) → ((i : ℕ) → holds row_id i t ≡ true → holds self_id i l ≡ false) → apart t l ≡ true
apart_intro [] l f = refl
apart_intro (r ∷ rs) l f =
    let here : holds self_id r.id l ≡ false = f r.id (grind (arith, nat_tests)) in
    let ih = apart_intro rs l (λ i h. f i (grind (arith, nat_tests))) in
    grind arith

pub tracks_intro : (max : ℕ) (t : List JobRow) (l : List ℕ) → max ≤ 8 → Tracked max [] t l → tracks max t l ≡ true
tracks_intro max t l small b =
    both_true _ _ (le-leb max 8 small)
    (both_true _ _ (le-leb (length t) max (omega (arith, b.room)))
    (both_true _ _ (le-leb (length l + length t) 40 (omega (arith, b.fits))) (apart_intro t l b.table_left)))

pub tracks_small : (max : ℕ) (t : List JobRow) (l : List ℕ) → tracks max t l ≡ true → max ≤ 8
tracks_small max t l e = leb-true max 8 (and_parts _ _ e).0

pub tracks_elim : (max : ℕ) (t : List JobRow) (l : List ℕ) → tracks max t l ≡ true → Ascending row_id t → Ascending self_id l → Tracked max [] t l
tracks_elim max t l e s u =
    let p = and_parts _ _ e in
    let q = and_parts _ _ p.1 in
    let r = and_parts _ _ q.1 in
    let room : length t ≤ max = leb-true (length t) max q.0 in
    let fits : length l + length t ≤ 40 = leb-true (length l + length t) 40 r.0 in
    record {
      table_ascending = s;
      left_ascending = u;
      pending_ascending = tt;
      table_left = apart_elim t l r.1;
      table_pending = λ i h. refl;
      left_pending = λ i h. refl;
      room = omega (arith, room);
      fits = omega (arith, fits);
    }

-- nothing is tracked in an empty table and an empty list
pub tracked_none : (max : ℕ) → Tracked max [] [] []
tracked_none max = record { table_ascending = tt; left_ascending = tt; pending_ascending = tt; table_left = λ i h. refl; table_pending = λ i h. refl; left_pending = λ i h. refl; room = omega arith; fits = omega arith }

-- ids that ascend by their meanings
pub list_ascends : (l : List Ulid) → ascends (by (λ u. u)) l ≡ true → Ascending self_id (map number l)
list_ascends l e = ascending_from self_id (map number l) (sym (ascends-map number self_id l) ∙ e)

-- rows and ids that ascend are tracked by their meanings, with nothing pending
pub tracked_rows : (max : ℕ) (t : List Progress) (l : List Ulid) → ascends (by (λ p. p.id)) t ≡ true → ascends (by (λ u. u)) l ≡ true → tracks max (map row_of t) (map number l) ≡ true → Tracked max [] (map row_of t) (map number l)
tracked_rows max t l ts ls e = tracks_elim max _ _ e (ascending_from row_id (map row_of t) (sym (ascends-map row_of row_id t) ∙ ts)) (list_ascends l ls)

-- a row put that finds a place
put_done : (t t' : List Progress) (row : Progress) (done : Bool) → length (put row_id (row_of row) (map row_of t)) ≤ 8 → done ≡ admits (λ p. (row_of p).id) 8 row t → t' ≡ cond done (put (λ p. (row_of p).id) row t) t → map row_of t' ≡ put row_id (row_of row) (map row_of t)
put_done t t' row done few said e =
    let yes' : done ≡ true = said ∙ admits-map row_of row_id 8 row t ∙ le-leb _ 8 few in
    ap (map row_of) (e ∙ ap (λ d. cond d (put (λ p. (row_of p).id) row t) t) yes') ∙ put_map row_of row_id row t

-- a row put: it finds its place where its id is pending
pub row_put : {max : ℕ} {l : List ℕ} (t t' : List Progress) (row : Progress) (done : Bool) → max ≤ 8 → Tracked max ((row_of row).id ∷ []) (map row_of t) l → done ≡ admits (λ p. (row_of p).id) 8 row t → t' ≡ cond done (put (λ p. (row_of p).id) row t) t → map row_of t' ≡ put row_id (row_of row) (map row_of t)
row_put t t' row done small b said e =
    let few : length (put row_id (row_of row) (map row_of t)) ≤ 8 = omega (arith, length_put row_id (row_of row) (map row_of t), b.room) in
    put_done t t' row done few said e

-- a row put in the place of another
pub row_replaced : {max : ℕ} {l : List ℕ} (t t' : List Progress) (row : Progress) (done : Bool) → max ≤ 8 → Tracked max [] (map row_of t) l → holds row_id (row_of row).id (map row_of t) ≡ true → done ≡ admits (λ p. (row_of p).id) 8 row t → t' ≡ cond done (put (λ p. (row_of p).id) row t) t → map row_of t' ≡ put row_id (row_of row) (map row_of t)
row_replaced t t' row done small b h said e =
    let few : length (put row_id (row_of row) (map row_of t)) ≤ 8 = omega (arith, length-put_held row_id (row_of row) (map row_of t) b.table_ascending h, b.room) in
    put_done t t' row done few said e

-- an id listed: it finds its place where it is pending
pub id_listed : {max : ℕ} {t : List JobRow} (l l' : List Ulid) (id : Ulid) (done : Bool) → Tracked max (number id ∷ []) t (map number l) → done ≡ admits (λ u. self_id (number u)) 40 id l → l' ≡ cond done (put (λ u. self_id (number u)) id l) l → map number l' ≡ put self_id (number id) (map number l)
id_listed l l' id done b said e =
    let few : length (put self_id (number id) (map number l)) ≤ 40 = omega (arith, length_put self_id (number id) (map number l), b.fits) in
    let yes' : done ≡ true = said ∙ admits-map number self_id 40 id l ∙ le-leb _ 40 few in
    ap (map number) (e ∙ ap (λ d. cond d (put (λ u. self_id (number u)) id l) l) yes') ∙ put_map number self_id id l
