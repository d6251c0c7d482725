-- The first claim that does not hold, and the mark.
use Rattle.std.proofs.Common.{◌≡◌, Bool, true, false, cond, not, ◌&&◌, List, [], ◌∷◌, Some, None, vec_items, Option, refl}
use Rattle.std.specs.List.{find}
use Rattle.std.specs.Option.{option_map}
use Rattle.compactions.specs.Jobs.{Args}
use Rattle.marking.specs.declared.answer.Part.{Part}
use Rattle.marking.specs.declared.answer.Claim.{Claim}
use Rattle.marking.specs.declared.answer.Answer.{Answer}
use Rattle.marking.specs.declared.answer.Answer.TheVariants.{Passes, Refused}
use Rattle.marking.specs.Marking.{claim_holds, all_hold, part_of, first_wrong, mark_by, mark_of, is_right, agrees}

-- the first claim that does not hold, as `find` gives it
pub wrong_from_find : (a : Args) (cs : List Claim) → option_map part_of (find (λ c. not (claim_holds c a)) cs) ≡ first_wrong cs a
wrong_from_find a [] = refl
wrong_from_find a (c ∷ cs) = here (claim_holds c a) (wrong_from_find a cs)
  where
    here : (b : Bool) → option_map part_of (find (λ x. not (claim_holds x a)) cs) ≡ first_wrong cs a → option_map part_of (cond (not b) (Some c) (find (λ x. not (claim_holds x a)) cs)) ≡ cond b (first_wrong cs a) (Some (part_of c))
    here true e = e
    here false e = refl

-- a claim that is wrong, or none
one : (b : Bool) (o : Option Part) (p : Part) (rest : Bool) → is_right (mark_by o) ≡ rest → is_right (mark_by (cond b o (Some p))) ≡ (b && rest)
one true o p rest e = e
one false o p rest e = refl

all_right : (cs : List Claim) (a : Args) → is_right (mark_by (first_wrong cs a)) ≡ all_hold cs a
all_right [] a = refl
all_right (c ∷ cs) a = one (claim_holds c a) (first_wrong cs a) (part_of c) (all_hold cs a) (all_right cs a)

-- the mark is right just where the answer agrees
pub right_agrees : (x : Answer) (v : Option Args) → is_right (mark_of x v) ≡ agrees x v
right_agrees (Passes cs) (Some a) = all_right (vec_items cs) a
right_agrees (Passes cs) None = refl
right_agrees Refused (Some a) = refl
right_agrees Refused None = refl

pub same_option : {A : Type 0} (o : Option A) → o ≡ option_map (λ x. x) o
same_option None = refl
same_option (Some x) = refl
