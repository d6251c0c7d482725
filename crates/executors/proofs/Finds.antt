-- The search for the first notice whose job runs.
use Rattle.std.proofs.Common.{◌≡◌, Bool, true, false, List, [], ◌∷◌, map, length, Some, None, Option, Bor, sym, refl, ap, ◌∙◌, arith}
use Rattle.std.specs.Fn.{Mut, CalledAt}
use Rattle.std.specs.Iterator.{Yields, FindsItem}
use Rattle.std.specs.List.{FoldsTo}
use Rattle.std.specs.Option.{option_map, option_copied, IfSome}
use Rattle.std.specs.Slice.Iter.{iter_rest, iter_steps}
use Rattle.std.specs.declared.slice.Iter.{Iter}
use Rattle.compactions.specs.Jobs.{Args}
use Rattle.executors.specs.Executors.{Notice, runs}
use Rattle.executors.specs.Lists.{first_running, behind_running}

-- a find of the first notice whose job runs: what it gives, and what it leaves of the notices
module _ {M F : Type 0} (meaning : M → Notice) (jobs : List Args) (g : Mut F (Bor (Bor M) × Unit {0}) Bool) (f : F) where
  abbrev Found : List M → Option M → List M → Type 0
  Found ns r ms = (option_map meaning r ≡ first_running jobs (map meaning ns)) × (map meaning ms ≡ behind_running jobs (map meaning ns))

  at_end : (ns ms : List M) → length ns ≡ 0 → ms ≡ ns → Found ns None ms
  at_end [] ms e q = (refl, ap (map meaning) q)
  at_end (n ∷ ns) ms e q = absurd (omega arith)

  at_hit : (n : M) (ns ms : List M) → true ≡ runs jobs (meaning n) → ns ≡ n ∷ ms → Found ns (Some n) ms
  at_hit n ns ms e q = rw (q, sym e) (refl, refl)

  at_miss : (n : M) (ns ls : List M) (r : Option M) (ms : List M) → false ≡ runs jobs (meaning n) → ns ≡ n ∷ ls → Found ls r ms → Found ns r ms
  at_miss n ns ls r ms e q h = rw (q, sym e) h

  module _ (says : (x : Bor M) (b : Bool) (q : F) → CalledAt g f x b q → (q ≡ f) × (b ≡ runs jobs (meaning x.now))) where
    found_from : (xs : List (Bor M)) (s t u : Iter M) (p f' : F) (r : Option (Bor M)) → p ≡ f → Yields iter_steps s xs t → iter_steps t r u → FoldsTo (λ a x b. CalledAt g a x false b) p xs f' → IfSome r (λ x. (h : F) × CalledAt g f' x true h) → Found (iter_rest s) (option_copied r) (iter_rest u)
    found_from [] s t u p f' None e y l c h = rw y (at_end (iter_rest t) (iter_rest u) l.0 (ap iter_rest l.1))
    found_from [] s t u p f' (Some x) e y l c h = rw y (at_hit x.now (iter_rest t) (iter_rest u) (says x true h.0 (rw (sym c ∙ e) at h.1)).1 l)
    found_from (x ∷ xs) s t u p f' r e y l c h =
        let k = says x false c.0 (rw e at c.1) in
        at_miss x.now (iter_rest s) (iter_rest y.0) _ _ k.1 y.1 (found_from xs y.0 t u c.0 f' r k.0 y.2 l c.2 h)

    pub found : (s u : Iter M) (r : Option (Bor M)) → FindsItem iter_steps g s f r u → Found (iter_rest s) (option_copied r) (iter_rest u)
    found s u r d = found_from d.0 s d.2.0 u f d.1 r refl d.2.1 d.2.2 d.3 d.4
