-- A context extends exactly those that it keeps.
use Rattle.std.proofs.Common.{◌≡◌, ℕ, zero, suc, true, List, [], ◌∷◌, length, Some, None, Option, unwrap_or, sym, refl, ap, ◌∙◌, arith}
use Rattle.std.specs.List.{slice_get}
use Rattle.std.proofs.lemmas.Bool.{and_parts, and_from, eq-eqb, eqb-true, false≢true}
use Rattle.table.proofs.Absurd.{none≢some}
use Rattle.compactions.specs.Entries.{Sub}
use Rattle.worker_steps.specs.Extending.{starts_with, sub_extends, subs_extend, same_retention}
use Rattle.worker_steps.specs.ExtendingLaws.{SubKept, ExtendingLaws}

same_value : {A : Type 0} {x y : A} → Some x ≡ Some y → x ≡ y
same_value {A} {x} {y} e = ap (λ (o : Option A). unwrap_or o x) e

-- outputs

starts_itself : (xs : List ℕ) → starts_with xs xs ≡ true
starts_itself [] = refl
starts_itself (x ∷ xs) = and_from _ _ (eq-eqb x x refl) (starts_itself xs)

starts_on : (xs ys zs : List ℕ) → starts_with xs ys ≡ true → starts_with ys zs ≡ true → starts_with xs zs ≡ true
starts_on [] ys zs e f = refl
starts_on (x ∷ xs) [] zs e f = absurd (false≢true e)
starts_on (x ∷ xs) (y ∷ ys) [] e f = absurd (false≢true f)
starts_on (x ∷ xs) (y ∷ ys) (z ∷ zs) e f =
    let a = and_parts _ _ e in
    let b = and_parts _ _ f in
    and_from _ _ (eq-eqb x z (eqb-true x y a.0 ∙ eqb-true y z b.0)) (starts_on xs ys zs a.1 b.1)

starts_keeps : (xs ys : List ℕ) → starts_with xs ys ≡ true → (i o : ℕ) → slice_get xs i ≡ Some o → slice_get ys i ≡ Some o
starts_keeps [] ys e i o p = absurd (none≢some p)
starts_keeps (x ∷ xs) [] e i o p = absurd (false≢true e)
starts_keeps (x ∷ xs) (y ∷ ys) e zero o p = ap Some (sym (eqb-true x y (and_parts _ _ e).0)) ∙ p
starts_keeps (x ∷ xs) (y ∷ ys) e (suc i) o p = starts_keeps xs ys (and_parts _ _ e).1 i o p

kept_starts : (xs ys : List ℕ) → ((i o : ℕ) → slice_get xs i ≡ Some o → slice_get ys i ≡ Some o) → starts_with xs ys ≡ true
kept_starts [] ys h = refl
kept_starts (x ∷ xs) [] h = absurd (none≢some (h zero x refl))
kept_starts (x ∷ xs) (y ∷ ys) h = and_from _ _ (eq-eqb x y (sym (same_value (h zero x refl)))) (kept_starts xs ys (λ i o p. h (suc i) o p))

-- one subcompaction

sub_itself : (s : Sub) → sub_extends s s ≡ true
sub_itself s = and_from _ _ (eq-eqb s.range s.range refl) (starts_itself s.outputs)

sub_on : (s t u : Sub) → sub_extends s t ≡ true → sub_extends t u ≡ true → sub_extends s u ≡ true
sub_on s t u e f =
    let a = and_parts _ _ e in
    let b = and_parts _ _ f in
    and_from _ _ (eq-eqb s.range u.range (eqb-true _ _ a.0 ∙ eqb-true _ _ b.0)) (starts_on s.outputs t.outputs u.outputs a.1 b.1)

sub_keeps : (s t : Sub) → sub_extends s t ≡ true → SubKept s t
sub_keeps s t e =
    let a = and_parts _ _ e in
    record { range = sym (eqb-true _ _ a.0); outputs = starts_keeps s.outputs t.outputs a.1 }

kept_sub : (s t : Sub) → SubKept s t → sub_extends s t ≡ true
kept_sub s t k = and_from _ _ (eq-eqb s.range t.range (sym k.range)) (kept_starts s.outputs t.outputs k.outputs)

-- all of them

subs_itself : (xs : List Sub) → subs_extend xs xs ≡ true
subs_itself [] = refl
subs_itself (x ∷ xs) = and_from _ _ (sub_itself x) (subs_itself xs)

subs_on : (xs ys zs : List Sub) → subs_extend xs ys ≡ true → subs_extend ys zs ≡ true → subs_extend xs zs ≡ true
subs_on [] [] zs e f = f
subs_on [] (y ∷ ys) zs e f = absurd (false≢true e)
subs_on (x ∷ xs) [] zs e f = absurd (false≢true e)
subs_on (x ∷ xs) (y ∷ ys) [] e f = absurd (false≢true f)
subs_on (x ∷ xs) (y ∷ ys) (z ∷ zs) e f =
    let a = and_parts _ _ e in
    let b = and_parts _ _ f in
    and_from _ _ (sub_on x y z a.0 b.0) (subs_on xs ys zs a.1 b.1)

-- each at its place
abbrev EachKept : List Sub → List Sub → Type 0
EachKept xs ys = (k : ℕ) (s t : Sub) → slice_get xs k ≡ Some s → slice_get ys k ≡ Some t → SubKept s t

subs_count : (xs ys : List Sub) → subs_extend xs ys ≡ true → length ys ≡ length xs
subs_count [] [] e = refl
subs_count [] (y ∷ ys) e = absurd (false≢true e)
subs_count (x ∷ xs) [] e = absurd (false≢true e)
subs_count (x ∷ xs) (y ∷ ys) e = ap suc (subs_count xs ys (and_parts _ _ e).1)

subs_keep : (xs ys : List Sub) → subs_extend xs ys ≡ true → EachKept xs ys
subs_keep [] ys e k s t p q = absurd (none≢some p)
subs_keep (x ∷ xs) [] e k s t p q = absurd (none≢some q)
subs_keep (x ∷ xs) (y ∷ ys) e zero s t p q = sub_keeps s t (rw (sym (same_value p), sym (same_value q)) (and_parts _ _ e).0)
subs_keep (x ∷ xs) (y ∷ ys) e (suc k) s t p q = subs_keep xs ys (and_parts _ _ e).1 k s t p q

kept_subs : (xs ys : List Sub) → length ys ≡ length xs → EachKept xs ys → subs_extend xs ys ≡ true
kept_subs [] [] n h = refl
kept_subs [] (y ∷ ys) n h = absurd (omega arith)
kept_subs (x ∷ xs) [] n h = absurd (omega arith)
kept_subs (x ∷ xs) (y ∷ ys) n h = and_from _ _ (kept_sub x y (h zero x y refl refl)) (kept_subs xs ys (omega arith) (λ k s t p q. h (suc k) s t p q))

-- the retention

retention_is : (a b : Option ℕ) → same_retention a b ≡ true → b ≡ a
retention_is None None e = refl
retention_is None (Some b) e = absurd (false≢true e)
retention_is (Some a) None e = absurd (false≢true e)
retention_is (Some a) (Some b) e = ap Some (sym (eqb-true a b e))

same_itself : (a : Option ℕ) → same_retention a a ≡ true
same_itself None = refl
same_itself (Some a) = eq-eqb a a refl

is_retention : (a b : Option ℕ) → b ≡ a → same_retention a b ≡ true
is_retention a b e = rw e (same_itself a)

pub extending_laws : ExtendingLaws
extending_laws = record {
  exactly = λ old new. (
    λ e. let a = and_parts _ _ e in record { retention = retention_is old.retention new.retention a.0; count = subs_count old.subs new.subs a.1; subs = subs_keep old.subs new.subs a.1 },
    λ k. and_from _ _ (is_retention old.retention new.retention k.retention) (kept_subs old.subs new.subs k.count k.subs),
  );
  itself = λ c. and_from _ _ (same_itself c.retention) (subs_itself c.subs);
  transitive = λ a b c e f.
      let x = and_parts _ _ e in
      let y = and_parts _ _ f in
      and_from _ _ (is_retention a.retention c.retention (retention_is b.retention c.retention y.0 ∙ retention_is a.retention b.retention x.0)) (subs_on a.subs b.subs c.subs x.1 y.1);
}
