use Rattle.std.proofs.Common.{◌≡◌, length, sym, ap, ◌∙◌, arith, rules}
use Rattle.std.proofs.lemmas.Bool.{lt-ltb, le-ltb, eqb-true, eqb-false}
use Rattle.table.specs.Ids.{by, number}
use Rattle.table.specs.Meaning.{rows_of}
use Rattle.table.specs.Tables.{ascends, not_before}
use Rattle.table.proofs.Order.{put_ascends}
use Rattle.table.proofs.Scans.{hits_within, first_with_within, over_is_put, over_is_admitted, between_is_put, between_is_admitted}
use Rattle.table.proofs.Lent.{same_lent}
use Rattle.table.proofs.table.Table.put.Goals as goal

pub write_at-requires : goal.write_at-requires
write_at-requires g c =
    let xs = rows_of c.args.self.now in
    let n : length xs ≡ c.args.self.now.len = search rules in
    let w = hits_within (by g.R.Row.named) (number c.id-id.result) xs c.place-at.result (cc) in
    omega arith

pub returns-then-is_at : goal.returns-then-is_at
returns-then-is_at g c =
    let key = by g.R.Row.named in
    let xs = rows_of c.args.self.now in
    let e = ap number c.id-id.ensures in
    let h = sym c.is_at.ensures ∙ c.if-is_at.true in
    let after = ap (λ t. t.rows) c.write_at.ensures.after ∙ sym (over_is_put key c.args.row _ _ xs e c.place-at.ensures h) in
    let room = ap (λ t. t.room) c.write_at.ensures.after in
    record {
      value = sym (over_is_admitted key c.args.row _ _ xs e c.place-at.ensures _ (search rules) h);
      after = same_lent after room;
      ordered = λ a. ap (ascends key) after ∙ put_ascends key c.args.row xs a;
      lender = c.write_at.ensures.lender;
    }

pub returns-then-is_full : goal.returns-then-is_full
returns-then-is_full g c =
    let key = by g.R.Row.named in
    let xs = rows_of c.args.self.now in
    let e = ap number c.id-id.ensures in
    let h = sym c.is_at.ensures ∙ c.if-is_at.false in
    let f = eqb-true _ _ (sym c.is_full.ensures ∙ c.if-is_full.true) in
    record {
      value = sym (between_is_admitted key c.args.row _ _ xs e c.place-at.ensures _ h ∙ le-ltb _ _ (omega arith));
      after = search rules;
      ordered = λ a. a;
      lender = search rules;
    }

pub insert_at-requires : goal.insert_at-requires
insert_at-requires g c =
    let xs = rows_of c.args.self.now in
    let n : length xs ≡ c.args.self.now.len = search rules in
    let w = first_with_within (not_before (by g.R.Row.named) (number c.id-id.result)) xs in
    let f = eqb-false _ _ (sym c.is_full.ensures ∙ c.if-is_full.false) in
    record { room = omega arith; within = omega arith }

pub returns : goal.returns
returns g c =
    let key = by g.R.Row.named in
    let xs = rows_of c.args.self.now in
    let n : length xs ≡ c.args.self.now.len = search rules in
    let e = ap number c.id-id.ensures in
    let h = sym c.is_at.ensures ∙ c.if-is_at.false in
    let f = eqb-false _ _ (sym c.is_full.ensures ∙ c.if-is_full.false) in
    let after = ap (λ t. t.rows) c.insert_at.ensures.after ∙ sym (between_is_put key c.args.row _ _ xs e c.place-at.ensures h) in
    let room = ap (λ t. t.room) c.insert_at.ensures.after in
    record {
      value = sym (between_is_admitted key c.args.row _ _ xs e c.place-at.ensures _ h ∙ lt-ltb _ _ (omega arith));
      after = same_lent after room;
      ordered = λ a. ap (ascends key) after ∙ put_ascends key c.args.row xs a;
      lender = c.insert_at.ensures.lender;
    }
