-- Attempts of a work, one after another, up to the limit.
use Rattle.std.proofs.Common.{◌≡◌, ℕ, suc, ◌+◌, ◌-◌, ◌≤◌, sym, ap, ◌∙◌, arith}
use Rattle.worker_steps.specs.States.{State}
use Rattle.worker_steps.specs.Effects.{Effect, Turn, ends, again, retry}
use Rattle.worker_steps.proofs.Retries.{ComesTo, retry_ends, retry_again}

-- before attempt `a` of a work that comes to `whole`, over whatever the work does not touch
pub record Trying {X P : Type 0} (f : ℕ → State → Effect (Turn X)) (over : X) (limit a : ℕ) (whole : P → Effect X) (w : P → State) : Type 0 where
  pub comes_to : (p : P) → ComesTo (retry (suc limit - a) a f over (w p)) (whole p)

module _ {X P : Type 0} {f : ℕ → State → Effect (Turn X)} {over : X} {limit a : ℕ} {whole : P → Effect X} {w : P → State} (t : Trying f over limit a whole w) where
  -- one is made
  module _ (within : a ≤ limit) (v : P → State) (left : (p : P) → v p ≡ (f a (w p)).state) where
    one_less : (p : P) → ComesTo (retry (suc (suc limit - (a + 1))) a f over (w p)) (whole p)
    one_less p =
        let k : suc limit - a ≡ suc (suc limit - (a + 1)) = omega arith in
        rw k at t.comes_to p

    -- it ends the work
    pub tried : (r : X) → ((p : P) → ends r ≡ (f a (w p)).result) → (p : P) → (r ≡ (whole p).result) × (v p ≡ (whole p).state)
    tried r e p =
        let z = retry_ends f over (suc limit - (a + 1)) a (w p) r (sym (e p)) in
        (sym (ap (λ x. x.result) z) ∙ (one_less p).result, left p ∙ sym (ap (λ x. x.state) z) ∙ (one_less p).state)

    -- it met a conflict
    pub tried_once : ((p : P) → again ≡ (f a (w p)).result) → Trying f over limit (a + 1) whole v
    tried_once met = record {
      comes_to = λ p.
          let k = suc limit - (a + 1) in
          let z = retry_again f over k a (w p) (sym (met p)) in
          let u = ap (λ (x : State). retry k (a + 1) f over x) (left p) in
          record { result = ap (λ x. x.result) u ∙ sym (ap (λ x. x.result) z) ∙ (one_less p).result; state = ap (λ x. x.state) u ∙ sym (ap (λ x. x.state) z) ∙ (one_less p).state };
    }
