-- Attempts that are tried again: how one turn goes on.
use Rattle.std.proofs.Common.{◌≡◌, ℕ, suc, ◌+◌, sym, ap, ◌∙◌, arith}
use Rattle.worker_steps.specs.States.{State}
use Rattle.worker_steps.specs.Effects.{Effect, Turn, ends, again, turned, after_log, retry}

-- the same result and state, and as many stops after n of them
pub record Follows {X : Type 0} (n : ℕ) (x y : Effect X) : Type 0 where
  pub result : x.result ≡ y.result
  pub state : x.state ≡ y.state
  pub stopped : n + x.stopped ≡ y.stopped

module _ {X : Type 0} (f : ℕ → State → Effect (Turn X)) (over : X) (k a : ℕ) (w : State) where
  -- a turn that ends the work
  pub retry_ends : (r : X) → (f a w).result ≡ ends r → retry (suc k) a f over w ≡ record { result = r; state = (f a w).state; writes = (f a w).writes; stopped = (f a w).stopped }
  retry_ends r e = ap (λ t. turned t (f a w) (retry k (a + 1) f over)) e

  -- a turn that met a conflict
  pub retry_again : (f a w).result ≡ again → retry (suc k) a f over w ≡ after_log (f a w).writes (f a w).stopped (retry k (a + 1) f over (f a w).state)
  retry_again e = ap (λ t. turned t (f a w) (retry k (a + 1) f over)) e

  -- one turn on
  pub follows_on : (n m : ℕ) (y : Effect X) (v : State) → (f a w).result ≡ again → m ≡ n + (f a w).stopped → v ≡ (f a w).state → Follows n (retry (suc k) a f over w) y → Follows m (retry k (a + 1) f over v) y
  follows_on n m y v e p q z =
      let on = retry_again e in
      let vs = ap (λ (u : State). retry k (a + 1) f over u) q in
      record {
        result = ap (λ x. x.result) vs ∙ sym (ap (λ x. x.result) on) ∙ z.result;
        state = ap (λ x. x.state) vs ∙ sym (ap (λ x. x.state) on) ∙ z.state;
        stopped = let s = ap (λ x. x.stopped) vs in let t = ap (λ x. x.stopped) on in omega (arith, s, t, p, z.stopped);
      }

-- the same result and state
pub record ComesTo {X : Type 0} (x y : Effect X) : Type 0 where
  pub result : x.result ≡ y.result
  pub state : x.state ≡ y.state
