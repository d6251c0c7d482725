use Rattle.std.proofs.Common.{◌≡◌, refl, length, sym, ap, ◌∙◌, arith, rules}
use Rattle.std.proofs.lemmas.Bool.{lt-ltb, le-ltb}
use Rattle.std.specs.List.{remove}
use Rattle.table.specs.Ids.{by, number}
use Rattle.table.specs.Meaning.{rows_of}
use Rattle.table.specs.Tables.{ascends, named_so}
use Rattle.table.proofs.Order.{strike_ascends}
use Rattle.table.proofs.Scans.{holds_at, strike_at, strike_past, first_with_within}
use Rattle.table.proofs.Lent.{same_lent}
use Rattle.table.proofs.table.Table.strike.Goals as goal

pub returns-then-spot-self : goal.returns-then-spot-self
returns-then-spot-self g c =
    let key = by g.R.Row.named in
    let k = number c.args.id in
    let xs = rows_of c.args.self.now in
    let n : length xs ≡ c.args.self.now.len = search rules in
    record {
      value = sym (holds_at key k xs ∙ le-ltb _ _ (omega arith));
      after = same_lent (sym (strike_past key k xs (omega arith))) refl;
      ordered = λ a. a;
      lender = search rules;
    }

pub remove_at-requires : goal.remove_at-requires
remove_at-requires g c =
    let xs = rows_of c.args.self.now in
    let n : length xs ≡ c.args.self.now.len = search rules in
    let w = first_with_within (named_so (by g.R.Row.named) (number c.args.id)) xs in
    omega arith

pub returns : goal.returns
returns g c =
    let key = by g.R.Row.named in
    let k = number c.args.id in
    let xs = rows_of c.args.self.now in
    let n : length xs ≡ c.args.self.now.len = search rules in
    let w = first_with_within (named_so key k) xs in
    let after = ap (λ t. t.rows) c.remove_at.ensures.after ∙ ap (remove xs) c.spot-spot.ensures ∙ sym (strike_at key k xs) in
    let room = ap (λ t. t.room) c.remove_at.ensures.after in
    record {
      value = sym (holds_at key k xs ∙ lt-ltb _ _ (omega arith));
      after = same_lent after room;
      ordered = λ a. ap (ascends key) after ∙ strike_ascends key k xs a;
      lender = c.remove_at.ensures.lender;
    }
