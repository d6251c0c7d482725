-- The laws of stores.
use Rattle.std.proofs.Common.{◌≡◌, ℕ, Bool, true, false, cond, eqb, ltb, List, [], ◌∷◌, Some, None, Option, sym, refl, ap, ◌∙◌, inl, inr, ⊎_elim, arith}
use Rattle.std.proofs.lemmas.Bool.{eqb-true}
use Rattle.table.proofs.Absurd.{none≢some}
use Rattle.compactions.specs.Entries.{Entry}
use Rattle.table.specs.Tables.{holds, put, admits, strike}
use Rattle.stores.specs.Records.{Record, entry_id, last_version, most_entries, raised}
use Rattle.stores.specs.Stores.{Store, Edit, create, puts, removes, Outcome, clear, down, lost, Interference, edited, all_edited, settled, next_interference, later, updating, read, got, read_answer, Replacing, replacing, update, update_going, landed, conflict, unwritten, Write}
use Rattle.stores.specs.StoreLaws.{Grows, Reached, here, by_read, by_update, StoreLaws}

grows_same : (c : Option Record) → Grows c c
grows_same None = tt
grows_same (Some r) = inl (refl, refl)

grows_on : (a b c : Option Record) → Grows a b → Grows b c → Grows a c
grows_on None b c g h = tt
grows_on (Some r) None c g h = absurd g
grows_on (Some r) (Some s) None g h = absurd h
grows_on (Some r) (Some s) (Some t) g h =
    ⊎_elim
    (λ e. ⊎_elim (λ f. inl (e.0 ∙ f.0, e.1 ∙ f.1)) (λ f. inr (omega (arith, e.0))) h)
    (λ e. inr (⊎_elim (λ f. omega (arith, f.0)) (λ f. omega arith) h))
    g

-- one version on, if both tests hold
grows_raising : (b l : Bool) (r : Record) (es : List Entry) → Grows (Some r) (Some (cond b (cond l (raised r es) r) r))
grows_raising true true r es = inr (omega arith)
grows_raising true false r es = inl (refl, refl)
grows_raising false l r es = inl (refl, refl)

grows_edited : (d : Edit) (c : Option Record) → Grows c (edited d c)
grows_edited create None = tt
grows_edited create (Some r) = grows_same (Some r)
grows_edited (puts e) None = tt
grows_edited (puts e) (Some r) = grows_raising (ltb r.version last_version) (admits entry_id most_entries e r.entries) r (put entry_id e r.entries)
grows_edited (removes i) None = tt
grows_edited (removes i) (Some r) = grows_raising (ltb r.version last_version) (holds entry_id i r.entries) r (strike entry_id i r.entries)

grows_all : (ds : List Edit) (c : Option Record) → Grows c (all_edited ds c)
grows_all [] c = grows_same c
grows_all (d ∷ ds) c = grows_on c (edited d c) (all_edited ds (edited d c)) (grows_edited d c) (grows_all ds (edited d c))

grows_settled : (s : Store) → Grows s.current (settled s)
grows_settled s = grows_all (next_interference s.ahead).edits s.current

-- a clear update

-- by its two tests: whether the versions are equal, and whether there is a higher one
abbrev by : Record → Record → Bool → Bool → Replacing
by d r b l =
    cond b
    (cond l
    (record { answer = landed; now = Some (raised d d.entries); wrote = Some (record { before = r; after = d.entries }) })
    (record { answer = unwritten (record { step = updating; cause = 0 }); now = Some r; wrote = None }))
    (record { answer = conflict; now = Some r; wrote = None })

grows_by : (d r : Record) (b l : Bool) → (b ≡ true → d.version ≡ r.version) → Grows (Some r) (by d r b l).now
grows_by d r true true e = let v = e refl in inr (omega arith)
grows_by d r true false e = inl (refl, refl)
grows_by d r false l e = inl (refl, refl)

wrote_by : (d r : Record) (b l : Bool) (w : Write) → (b ≡ true → d.version ≡ r.version) → (by d r b l).wrote ≡ Some w → (w.before ≡ r) × (d.version ≡ r.version)
wrote_by d r true true w e h = let z : record { before = r; after = d.entries } ≡ w = cc in (ap (λ (x : Write). x.before) (sym z), e refl)
wrote_by d r true false w e h = absurd (none≢some h)
wrote_by d r false l w e h = absurd (none≢some h)

conflict_by : (d r : Record) (b l : Bool) → (by d r b l).answer ≡ conflict → (by d r b l).now ≡ Some r
conflict_by d r true true h = let z : ◌≡◌ {A = ℕ} 0 1 = cc in absurd (omega arith)
conflict_by d r true false h = refl
conflict_by d r false l h = refl

abbrev same_version : Record → Record → Bool
same_version d r = eqb d.version r.version

abbrev has_next : Record → Bool
has_next d = ltb d.version last_version

grows_replacing : (d : Record) (c : Option Record) → Grows c (replacing d c).now
grows_replacing d None = tt
grows_replacing d (Some r) = grows_by d r (same_version d r) (has_next d) (eqb-true _ _)

wrote_replacing : (d : Record) (c : Option Record) (w : Write) → (replacing d c).wrote ≡ Some w → (q : Record) × (c ≡ Some q) × (w.before ≡ q) × (d.version ≡ q.version)
wrote_replacing d None w h = absurd (none≢some h)
wrote_replacing d (Some r) w h = let x = wrote_by d r (same_version d r) (has_next d) w (eqb-true _ _) h in (r, refl, x.0, x.1)

conflict_replacing : (d : Record) (c : Option Record) → (replacing d c).answer ≡ conflict → (replacing d c).now ≡ c
conflict_replacing d None h = refl
conflict_replacing d (Some r) h = conflict_by d r (same_version d r) (has_next d) h

-- an update, by how the call goes

grows_going : (o : Outcome) (d : Record) (a c : Option Record) (xs : List Interference) → Grows a c → Grows a (update_going o (replacing d c) c xs).after.current
grows_going clear d a c xs g = grows_on a c (replacing d c).now g (grows_replacing d c)
grows_going (down k) d a c xs g = g
grows_going (lost k) d a c xs g = grows_on a c (replacing d c).now g (grows_replacing d c)

wrote_going : (o : Outcome) (d : Record) (c : Option Record) (xs : List Interference) (w : Write) → (update_going o (replacing d c) c xs).wrote ≡ Some w → (q : Record) × (c ≡ Some q) × (w.before ≡ q) × (d.version ≡ q.version)
wrote_going clear d c xs w h = wrote_replacing d c w h
wrote_going (down k) d c xs w h = absurd (none≢some h)
wrote_going (lost k) d c xs w h = wrote_replacing d c w h

conflict_going : (o : Outcome) (d : Record) (c : Option Record) (xs : List Interference) → (update_going o (replacing d c) c xs).answer ≡ conflict → (update_going o (replacing d c) c xs).after ≡ record { current = c; ahead = xs }
conflict_going clear d c xs h = ap (λ x. record { current = x; ahead = xs }) (conflict_replacing d c h)
conflict_going (down k) d c xs h = refl
conflict_going (lost k) d c xs h = let z : ◌≡◌ {A = ℕ} 0 1 = cc in absurd (omega arith)

-- any number of calls

grows_reached : (s t : Store) → Reached s t → Grows s.current t.current
grows_reached s t (here x) = grows_same x.current
grows_reached s t (by_read x y h) = grows_on x.current (settled x) y.current (grows_settled x) (grows_reached (read x).after y h)
grows_reached s t (by_update x y d h) =
    grows_on x.current (update d x).after.current y.current
    (grows_going (next_interference x.ahead).outcome d x.current (settled x) (later x.ahead) (grows_settled x))
    (grows_reached (update d x).after y h)

-- what a read that answers a record found
read_got : (o : Outcome) (c : Option Record) (r : Record) → read_answer o c ≡ got r → c ≡ Some r
read_got clear None r h = let z : ◌≡◌ {A = ℕ} 0 1 = cc in absurd (omega arith)
read_got clear (Some q) r h = let z : q ≡ r = cc in ap Some z
read_got (down k) c r h = let z : ◌≡◌ {A = ℕ} 0 1 = cc in absurd (omega arith)
read_got (lost k) c r h = let z : ◌≡◌ {A = ℕ} 0 1 = cc in absurd (omega arith)

-- equal versions mean equal records
same_record : (r q : Record) → Grows (Some r) (Some q) → r.version ≡ q.version → q ≡ r
same_record r q g e =
    ⊎_elim
    (λ h. ap (λ v. record { version = v; entries = q.entries }) (sym e) ∙ ap (λ es. record { version = r.version; entries = es }) (sym h.1))
    (λ h. absurd (omega arith))
    g

was_read : (s t : Store) (r d : Record) (w : Write) → (read s).answer ≡ got r → Reached (read s).after t → d.version ≡ r.version → (update d t).wrote ≡ Some w → w.before ≡ r
was_read s t r d w a h v x =
    let found = read_got (next_interference s.ahead).outcome (settled s) r a in
    let x' = wrote_going (next_interference t.ahead).outcome d (settled t) (later t.ahead) w x in
    let g = grows_on (settled s) t.current (settled t) (grows_reached (read s).after t h) (grows_settled t) in
    let g' : Grows (Some r) (Some x'.0) = rw (found, x'.1) at g in
    x'.2 ∙ same_record r x'.0 g' (sym v ∙ x'.3)

pub store_laws : StoreLaws
store_laws = record {
  grows = grows_reached;
  replaces_what_was_read = was_read;
  conflict_keeps = λ s d h. conflict_going (next_interference s.ahead).outcome d (settled s) (later s.ahead) h;
  down_keeps = λ s d k e. rw e;
  lost_acts = λ s d k e. rw e;
}
