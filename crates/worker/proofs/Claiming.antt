-- The loop of a claim: what each way out of an attempt comes to.
use Rattle.std.proofs.Common.{◌≡◌, ℕ, suc, ◌+◌, ◌-◌, ◌*◌, ◌<◌, ◌≤◌, List, [], None, Result, sym, refl, ap, ◌∙◌, arith}
use Rattle.compactions.specs.Trees.{Manifest}
use Rattle.stores.specs.Stores.{Store}
use Rattle.executors.specs.Clocks.{Readings}
use Rattle.worker_steps.specs.Faults.{claim, fault, not_landed}
use Rattle.worker_steps.specs.States.{Settings, Held, State, state}
use Rattle.worker_steps.specs.Effects.{Effect, Turn, ends, again, after_log, retry}
use Rattle.worker_steps.specs.Claims.{Claimed, none_chosen, landed_at, broken, broken_bare, claim_attempt, claiming}
use Rattle.worker_steps.proofs.Retries.{Follows, retry_ends, retry_again, follows_on}
use Rattle.worker.specs.Polls.{Counts, ClaimEnd, none, landed, faulted, conflict, claim_end, claim_count, left_count, turn_end, counted_turn, counted_claim}

-- what is left when no attempt is
abbrev pub given_up : Settings → Claimed
given_up s = broken_bare (fault not_landed claim None s.limit)

-- before attempt `a` of a claim that comes to `whole`
pub record Claiming (s : Settings) (room a : ℕ) (whole : List (Result Manifest ℕ) → Effect Claimed) (h : Held) (st : Store) (ck : Readings) (c₀ c : Counts) : Type 0 where
  pub follows : (ms : List (Result Manifest ℕ)) → Follows c.stopped (retry (suc (s.limit - a)) a (claim_attempt s room) (given_up s) (state h st ck ms)) (whole ms)
  pub claimed : c.claimed ≡ 0
  pub left : c.left ≡ 0
  pub started : c.started ≡ c₀.started
  pub let_go : c.let_go ≡ c₀.let_go
  pub few : c.stopped ≤ 32 * a
  pub begun : 1 ≤ a
  pub within : a ≤ s.limit

pub claiming_none : (s : Settings) (room : ℕ) (h : Held) (st : Store) (ck : Readings) (c : Counts) → 1 ≤ s.limit → c.claimed ≡ 0 → c.left ≡ 0 → c.stopped ≡ 0 → Claiming s room 1 (λ ms. claiming s room (state h st ck ms)) h st ck c c
claiming_none s room h st ck c one p q r = record {
  follows = λ ms. by (suc (s.limit - 1)) (omega arith) ms;
  claimed = p;
  left = q;
  started = refl;
  let_go = refl;
  few = omega arith;
  begun = omega arith;
  within = one;
}
  where
    by : (k : ℕ) → k ≡ s.limit → (ms : List (Result Manifest ℕ)) → Follows c.stopped (retry k 1 (claim_attempt s room) (given_up s) (state h st ck ms)) (claiming s room (state h st ck ms))
    by k e ms =
        let z = ap (λ n. retry n 1 (claim_attempt s room) (given_up s) (state h st ck ms)) e in
        record { result = ap (λ x. x.result) z; state = ap (λ x. x.state) z; stopped = let y = ap (λ x. x.stopped) z in omega (arith, r, y) }

-- a claim that comes to `whole` ended so
pub record Ended (whole : List (Result Manifest ℕ) → Effect Claimed) (e : ClaimEnd) (c₀ c : Counts) (v : List (Result Manifest ℕ) → State) : Type 0 where
  pub answer : (ms : List (Result Manifest ℕ)) → e ≡ claim_end (whole ms).result
  pub counts : (ms : List (Result Manifest ℕ)) → c ≡ counted_claim c₀ (whole ms).result (whole ms).stopped
  pub after : (ms : List (Result Manifest ℕ)) → v ms ≡ (whole ms).state

was_again : (t : Turn Claimed) → conflict ≡ turn_end t → t ≡ again
was_again (ends none_chosen) e = cc
was_again (ends (landed_at a cs)) e = cc
was_again (ends (broken f cs)) e = cc
was_again again e = refl

module _ {s : Settings} {room a : ℕ} {whole : List (Result Manifest ℕ) → Effect Claimed} {h : Held} {st : Store} {ck : Readings} {c₀ c : Counts} (inv : Claiming s room a whole h st ck c₀ c) (s' : Settings) (same : s' ≡ s) (e : ClaimEnd) (c' : Counts) (v : List (Result Manifest ℕ) → State) (answered : (ms : List (Result Manifest ℕ)) → e ≡ turn_end (claim_attempt s' room a (state h st ck ms)).result) (counted : (ms : List (Result Manifest ℕ)) → c' ≡ counted_turn c (claim_attempt s' room a (state h st ck ms)).result (claim_attempt s' room a (state h st ck ms)).stopped) (later : (ms : List (Result Manifest ℕ)) → v ms ≡ (claim_attempt s' room a (state h st ck ms)).state) where
  abbrev x : List (Result Manifest ℕ) → Effect (Turn Claimed)
  x ms = claim_attempt s room a (state h st ck ms)

  answered₁ : (ms : List (Result Manifest ℕ)) → e ≡ turn_end (x ms).result
  answered₁ ms = answered ms ∙ ap (λ y. turn_end (claim_attempt y room a (state h st ck ms)).result) same

  counted₁ : (ms : List (Result Manifest ℕ)) → c' ≡ counted_turn c (x ms).result (x ms).stopped
  counted₁ ms = counted ms ∙ ap (λ y. counted_turn c (claim_attempt y room a (state h st ck ms)).result (claim_attempt y room a (state h st ck ms)).stopped) same

  after₁ : (ms : List (Result Manifest ℕ)) → v ms ≡ (x ms).state
  after₁ ms = later ms ∙ ap (λ y. (claim_attempt y room a (state h st ck ms)).state) same

  ended_with : (ms : List (Result Manifest ℕ)) (y : Claimed) → (x ms).result ≡ ends y → (y ≡ (whole ms).result) × ((x ms).state ≡ (whole ms).state) × (c.stopped + (x ms).stopped ≡ (whole ms).stopped)
  ended_with ms y q =
      let z = retry_ends (claim_attempt s room) (given_up s) (s.limit - a) a (state h st ck ms) y q in
      let f = inv.follows ms in (
        sym (ap (λ u. u.result) z) ∙ f.result,
        sym (ap (λ u. u.state) z) ∙ f.state,
        (let n = ap (λ u. u.stopped) z in omega (arith, n, f.stopped)),
      )

  module _ (open' : e ≡ conflict → ⊥) where
    ended_turn : (ms : List (Result Manifest ℕ)) → (y : Claimed) × ((x ms).result ≡ ends y)
    ended_turn ms = by (x ms).result refl
      where
        by : (t : Turn Claimed) → (x ms).result ≡ t → (y : Claimed) × ((x ms).result ≡ ends y)
        by (ends y) q = (y, q)
        by again q = absurd (open' (answered₁ ms ∙ ap turn_end q))

    -- the attempt ended the claim
    pub ended : Ended whole e c₀ c' v
    ended = record {
      answer = λ ms. let y = ended_turn ms in let z = ended_with ms y.0 y.1 in answered₁ ms ∙ ap turn_end y.1 ∙ ap claim_end z.0;
      counts = λ ms.
          let y = ended_turn ms in
          let z = ended_with ms y.0 y.1 in
          let p = inv.started in
          let q = inv.let_go in
          let k = ap claim_count z.0 in
          let l = ap left_count z.0 in
          let n = z.2 in
          let r : counted_turn c (ends y.0) (x ms).stopped ≡ counted_claim c₀ (whole ms).result (whole ms).stopped = cc in
          counted₁ ms ∙ ap (λ t. counted_turn c t (x ms).stopped) y.1 ∙ r;
      after = λ ms. let y = ended_turn ms in after₁ ms ∙ (ended_with ms y.0 y.1).1;
    }

  module _ (met : e ≡ conflict) where
    again_at : (ms : List (Result Manifest ℕ)) → (x ms).result ≡ again
    again_at ms = was_again (x ms).result (sym met ∙ answered₁ ms)

    -- a conflict at the limit
    module _ (last : s.limit ≤ a) where
      at_limit : (ms : List (Result Manifest ℕ)) → (given_up s ≡ (whole ms).result) × ((x ms).state ≡ (whole ms).state) × (c.stopped + (x ms).stopped ≡ (whole ms).stopped)
      at_limit ms = by (s.limit - a) (omega arith) (inv.follows ms)
        where
          by : (k : ℕ) → k ≡ 0 → Follows c.stopped (retry (suc k) a (claim_attempt s room) (given_up s) (state h st ck ms)) (whole ms) → (given_up s ≡ (whole ms).result) × ((x ms).state ≡ (whole ms).state) × (c.stopped + (x ms).stopped ≡ (whole ms).stopped)
          by k n f =
              let z : retry (suc k) a (claim_attempt s room) (given_up s) (state h st ck ms) ≡ after_log (x ms).writes (x ms).stopped (retry 0 (a + 1) (claim_attempt s room) (given_up s) (x ms).state) = retry_again (claim_attempt s room) (given_up s) k a (state h st ck ms) (again_at ms) ∙ ap (λ m. after_log (x ms).writes (x ms).stopped (retry m (a + 1) (claim_attempt s room) (given_up s) (x ms).state)) n in
              (sym (ap (λ u. u.result) z) ∙ f.result, sym (ap (λ u. u.state) z) ∙ f.state, (let m = ap (λ u. u.stopped) z in omega (arith, m, f.stopped)))

      pub gave_up : Ended whole (faulted (fault not_landed claim None s.limit)) c₀ c' v
      gave_up = record {
        answer = λ ms. ap claim_end (at_limit ms).0;
        counts = λ ms.
            let p = inv.started in
            let q = inv.let_go in
            let k : claim_count (given_up s) ≡ claim_count (whole ms).result = ap claim_count (at_limit ms).0 in
            let l : left_count (given_up s) ≡ left_count (whole ms).result = ap left_count (at_limit ms).0 in
            let n = (at_limit ms).2 in
            let r : counted_turn c again (x ms).stopped ≡ counted_claim c₀ (whole ms).result (whole ms).stopped = cc in
            counted₁ ms ∙ ap (λ t. counted_turn c t (x ms).stopped) (again_at ms) ∙ r;
        after = λ ms. after₁ ms ∙ (at_limit ms).1;
      }

    -- a conflict before it
    pub one_more : (h' : Held) (st' : Store) (ck' : Readings) → ((ms : List (Result Manifest ℕ)) → v ms ≡ state h' st' ck' ms) → a < s.limit → c'.stopped ≤ 32 * (a + 1) → Claiming s room (a + 1) whole h' st' ck' c₀ c'
    one_more h' st' ck' is lt few =
        let k : s.limit - a ≡ suc (s.limit - (a + 1)) = omega arith in
        let counts : c' ≡ counted_turn c again (x []).stopped = counted₁ [] ∙ ap (λ t. counted_turn c t (x []).stopped) (again_at []) in
        record {
          follows = λ ms. follows_on (claim_attempt s room) (given_up s) (suc (s.limit - (a + 1))) a (state h st ck ms) c.stopped c'.stopped (whole ms) (state h' st' ck' ms) (again_at ms) (ap (λ u. u.stopped) (counted₁ ms)) (sym (is ms) ∙ after₁ ms) (rw k at (inv.follows ms));
          claimed = ap (λ u. u.claimed) counts;
          left = ap (λ u. u.left) counts;
          started = ap (λ u. u.started) counts ∙ inv.started;
          let_go = ap (λ u. u.let_go) counts ∙ inv.let_go;
          few = few;
          begun = omega arith;
          within = omega arith;
        }

-- no other way out is a conflict
pub not_none : none ≡ conflict → ⊥
not_none e = let z : ◌≡◌ {A = ℕ} 0 1 = cc in omega arith

pub not_landed_end : (a : ℕ) (cs : _) → landed a cs ≡ conflict → ⊥
not_landed_end a cs e = let z : ◌≡◌ {A = ℕ} 0 1 = cc in omega arith

pub not_faulted : (f : _) → faulted f ≡ conflict → ⊥
not_faulted f e = let z : ◌≡◌ {A = ℕ} 0 1 = cc in omega arith
